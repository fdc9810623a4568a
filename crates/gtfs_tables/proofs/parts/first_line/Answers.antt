use Rattle.std.proofs.Common.{refl, sym, ◌∙◌}
use Rattle.std.proofs.lemmas.Bool.{eqb-false, eqb-true}
use Rattle.gtfs_tables.specs.Parts.{ends_line}
use Rattle.gtfs_tables.proofs.PartLemmas.{found-at, from-behind, last-line, line-split, no-line, none-passes}
use Rattle.gtfs_tables.proofs.parts.first_line.Goals as goal

pub returns-then-is_empty : goal.returns-then-is_empty
returns-then-is_empty c =
    no-line c.args.bytes.now c.requires (rw c.from_line-first.ensures at (eqb-true _ _ (sym c.is_empty.ensures ∙ c.if-is_empty.true)))

pub returns-in-Some : goal.returns-in-Some
returns-in-Some c =
    let first = c.from_line-first.result.now in
    let found = rw c.from_line-first.ensures at (found-at ends_line first c.in-Some.end c.in-Some.ensures) in
    rw (from-behind c.in-Some.end first, c.from_line-first.ensures) (line-split c.args.bytes.now c.in-Some.end c.requires found)

pub returns-in-None : goal.returns-in-None
returns-in-None c =
    let first = c.from_line-first.result.now in
    let inside = rw c.from_line-first.ensures at (none-passes ends_line first c.in-None.ensures) in
    let some = rw c.from_line-first.ensures at (eqb-false _ _ (sym c.is_empty.ensures ∙ c.if-is_empty.false)) in
    (rw c.from_line-first.ensures (last-line c.args.bytes.now c.requires some inside), refl)
