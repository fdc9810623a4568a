use Rattle.std.proofs.Common.{[], ap, take, drop, suc, ◌∙◌, ◌==◌}
use Rattle.gtfs_tables.specs.Parts.{parts}
use Rattle.gtfs_tables.proofs.PartLemmas.{found-at, from-behind, none-passes, parts-comma, parts-none}
use Rattle.gtfs_tables.proofs.parts.first_part.Goals as goal

pub returns-in-Some : goal.returns-in-Some
returns-in-Some c =
    let line = c.args.line.now in
    let comma = c.in-Some.comma in
    let found = found-at (λ b. b == 44) line comma c.in-Some.ensures in
    rw (from-behind comma line) (ap parts found.split
    ∙ parts-comma [] (take comma line) (drop (suc comma) line) found.byte found.passes found.before)

pub returns-in-None : goal.returns-in-None
returns-in-None c = parts-none [] c.args.line.now (none-passes (λ b. b == 44) c.args.line.now c.in-None.ensures)
