use Rattle.std.proofs.Common.{◌≡◌, ◌∷◌, ◌++◌, [], All, sym, subst}
use Rattle.std.proofs.lemmas.List.{map_more}
use Rattle.std.proofs.lemmas.List.Elements.{All-push}
use Rattle.planner_desk.specs.Forms.{IsPlannerLine, planner_line_of}
use Rattle.planner_desk.proofs.reading.read_planner_script.Goals as goal

pub loop-row-preserved : goal.loop-row-preserved
loop-row-preserved c =
    let lines = c.loop-row.lines.items in
    let line = c.in_ok-planner_line.field-0 in
    let pushed : c.push.new.self.items ≡ lines ++ line ∷ [] = c.in_ok-push.ensures.items in
    let is : line ≡ planner_line_of c.row-item.result = c.in_ok-planner_line.ensures.gives in (
      rw (pushed, is, c.row-item.is, c.loop-row.invariant.0)
          (sym (map_more planner_line_of c.deref-row-items.result.now c.loop-row.row-index _ c.loop-row-test.true)),
      subst (All IsPlannerLine) (sym pushed)
          (All-push IsPlannerLine lines line c.loop-row.invariant.1 c.in_ok-planner_line.ensures.form),
    )
