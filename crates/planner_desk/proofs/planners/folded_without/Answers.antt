use Rattle.std.proofs.Common.{◌≡◌, ◌+◌, ◌-◌, All, length, suc, take, drop, sym, ap, subst, ◌∙◌}
use Rattle.std.proofs.lemmas.List.Elements.{All-drop, All-take}
use Rattle.std.proofs.lemmas.List.Sums.{fold-append}
use Rattle.edit_script.specs.Script.{ScriptView}
use Rattle.planner_desk.specs.Planners.{IsOfTrip}
use Rattle.planner_desk.specs.Standing.{Folds, after_standing, timetable_of}
use Rattle.planner_desk.proofs.Folding.{folds-back, folds-front}
use Rattle.planner_desk.proofs.Under.{all-of_rest}
use Rattle.planner_desk.proofs.planners.folded_without.Goals as goal

pub do_all-requires-clause-trips : goal.do_all-requires-clause-trips
do_all-requires-clause-trips c = All-take IsOfTrip c.args.place c.args.standing.now c.requires.trips

pub do_all-requires-2-clause-trips : goal.do_all-requires-2-clause-trips
do_all-requires-2-clause-trips c =
    let standing = c.args.standing.now in
    subst (All IsOfTrip) (sym (all-of_rest standing c.args.place)) (All-drop IsOfTrip (suc c.args.place) standing c.requires.trips)

pub do_all-requires-clause-folds : goal.do_all-requires-clause-folds
do_all-requires-clause-folds c =
    let standing = c.args.standing.now in
    let begins : c.in_ok-script.script.timetable ≡ c.args.base.now = ap (λ (s : ScriptView). s.timetable) c.in_ok-script.ensures
    ∙ c.in_ok-copy.ensures in
    subst (λ t. Folds t (take c.args.place standing)) (sym begins)
    (folds-front c.args.base.now (take c.args.place standing) (drop (suc c.args.place) standing) c.requires.folds)

pub do_all-requires-2-clause-folds : goal.do_all-requires-2-clause-folds
do_all-requires-2-clause-folds c =
    let standing = c.args.standing.now in
    let first = take c.args.place standing in
    let begins : c.in_ok-script.script.timetable ≡ c.args.base.now = ap (λ (s : ScriptView). s.timetable) c.in_ok-script.ensures
    ∙ c.in_ok-copy.ensures in
    let so_far : c.do_all.new.script.timetable ≡ timetable_of c.args.base.now first = c.in_ok-do_all.ensures
    ∙ ap (λ t. timetable_of t first) begins in
    subst (λ t. Folds t (take (length standing - (c.args.place + 1)) (drop (c.args.place + 1) standing))) (sym so_far)
    (subst (Folds (timetable_of c.args.base.now first)) (sym (all-of_rest standing c.args.place))
    (folds-back c.args.base.now first (drop (suc c.args.place) standing) c.requires.folds))

pub returns : goal.returns
returns c =
    let standing = c.args.standing.now in
    let first = take c.args.place standing in
    let begins : c.in_ok-script.script.timetable ≡ c.args.base.now = ap (λ (s : ScriptView). s.timetable) c.in_ok-script.ensures
    ∙ c.in_ok-copy.ensures in
    let so_far : c.do_all.new.script.timetable ≡ timetable_of c.args.base.now first = c.in_ok-do_all.ensures
    ∙ ap (λ t. timetable_of t first) begins in
    c.in_ok-do_all-2.ensures ∙ (λ i. timetable_of (so_far i) (all-of_rest standing c.args.place i))
    ∙ sym (fold-append after_standing c.args.base.now first (drop (suc c.args.place) standing))
