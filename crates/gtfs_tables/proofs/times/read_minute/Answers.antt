use Rattle.std.proofs.Common.{◌≡◌, length, ap, sym, arith, ◌∙◌}
use Rattle.gtfs_tables.specs.Spaces.{without_spaces}
use Rattle.gtfs_tables.proofs.TimeLemmas.{long-minute, short-minute}
use Rattle.gtfs_tables.proofs.times.read_minute.Goals as goal

pub returns-in-len4-clause-value : goal.returns-in-len4-clause-value
returns-in-len4-clause-value c =
    let is = c.without_spaces.ensures ∙ ap without_spaces c.as_bytes.ensures.value in
    let count : length c.without_spaces.result.now ≡ 4 = omega (arith, c.in-len4.len_at_least, c.in-len4.len_below) in
    c.full_minute.ensures.value ∙ sym (short-minute c.args.text.now c.without_spaces.result.now is count)

pub returns-in-len5-clause-value : goal.returns-in-len5-clause-value
returns-in-len5-clause-value c =
    let is = c.without_spaces.ensures ∙ ap without_spaces c.as_bytes.ensures.value in
    let count : length c.without_spaces.result.now ≡ 5 = omega (arith, c.in-len5.len_at_least, c.in-len5.len_below) in
    c.full_minute-in-len5.ensures.value ∙ sym (long-minute c.args.text.now c.without_spaces.result.now is count)
