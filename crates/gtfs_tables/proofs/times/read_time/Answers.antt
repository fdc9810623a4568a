use Rattle.std.proofs.Common.{◌≡◌, length, ap, sym, arith, ◌∙◌}
use Rattle.gtfs_tables.specs.Spaces.{without_spaces}
use Rattle.gtfs_tables.proofs.TimeLemmas.{long-time, short-time}
use Rattle.gtfs_tables.proofs.times.read_time.Goals as goal

pub returns-in-len7-clause-value : goal.returns-in-len7-clause-value
returns-in-len7-clause-value c =
    let is = c.without_spaces.ensures ∙ ap without_spaces c.as_bytes.ensures.value in
    let count : length c.without_spaces.result.now ≡ 7 = omega (arith, c.in-len7.len_at_least, c.in-len7.len_below) in
    c.full_time.ensures.value ∙ sym (short-time c.args.text.now c.without_spaces.result.now is count)

pub returns-in-len8-clause-value : goal.returns-in-len8-clause-value
returns-in-len8-clause-value c =
    let is = c.without_spaces.ensures ∙ ap without_spaces c.as_bytes.ensures.value in
    let count : length c.without_spaces.result.now ≡ 8 = omega (arith, c.in-len8.len_at_least, c.in-len8.len_below) in
    c.full_time-in-len8.ensures.value ∙ sym (long-time c.args.text.now c.without_spaces.result.now is count)
