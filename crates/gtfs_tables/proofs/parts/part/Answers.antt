use Rattle.std.proofs.Common.{◌∷◌, List, ℕ, drop, ap, sym, ◌∙◌}
use Rattle.std.proofs.lemmas.List.{drop-drop}
use Rattle.gtfs_tables.specs.Parts.{later_parts, parts}
use Rattle.gtfs_tables.proofs.PartLemmas.{past-end}
use Rattle.gtfs_tables.proofs.parts.part.Goals as goal

pub returns-in_default : goal.returns-in_default
returns-in_default c =
    sym (past-end c.loop-before.before c.args.place (parts c.args.line.now) c.loop-before.part.now
    (c.loop-before.invariant ∙ ap (λ behind. c.loop-before.part.now ∷ later_parts behind) c.in_default.is) c.loop-before-test.true)

pub loop-before-preserved : goal.loop-before-preserved
loop-before-preserved c =
    sym (drop-drop 1 c.loop-before.before (parts c.args.line.now))
    ∙ (ap (λ (left : List (List ℕ)). drop 1 left) c.loop-before.invariant
    ∙ (ap later_parts c.in-Some.is ∙ c.first_part-in-loop-before.ensures))
