use Rattle.std.proofs.Common.{◌≤◌, ◌∷◌, ◌++◌, length, sym, ap, subst, ◌∙◌, arith}
use Rattle.std.proofs.lemmas.List.{length-append}
use Rattle.trip_model.specs.Plain.{IsMove}
use Rattle.deficit_steps.specs.Changes.{changes_of}
use Rattle.shift_moves.proofs.Holding.{HasRoomFor-few, Holds-placed, others-with_move, others-without_move}
use Rattle.shift_moves.proofs.trial.replace.Goals as goal

pub take-requires-clause-lowered : goal.take-requires-clause-lowered
take-requires-clause-lowered g c =
    let among = c.requires.held in
    (HasRoomFor-few c.args.deficits.now (among.front ++ c.args.taken.now ∷ among.back) c.args.taken.now c.requires.taken among.held
    among.few).from_lowered

pub take-requires-clause-raised : goal.take-requires-clause-raised
take-requires-clause-raised g c =
    let among = c.requires.held in
    (HasRoomFor-few c.args.deficits.now (among.front ++ c.args.taken.now ∷ among.back) c.args.taken.now c.requires.taken among.held
    among.few).to_raised

pub take-requires-clause-begins : goal.take-requires-clause-begins
take-requires-clause-begins g c =
    let among = c.requires.held in
    c.held_law.ensures.begins c.args.deficits.now among.front among.back c.args.taken.now among.held among.forward c.requires.taken.from

pub add-requires-clause-raised : goal.add-requires-clause-raised
add-requires-clause-raised g c =
    let among = c.requires.held in
    let few : length (among.front ++ among.back) ≤ 4096 =
    (let all = among.few in omega (
      arith,
      length-append among.front among.back,
      length-append among.front
          (c.args.taken.now ∷ among.back),
    )) in
    (HasRoomFor-few c.take.new.self (among.front ++ among.back) c.args.added.now
    (subst (λ n. IsMove n c.args.added.now) (sym c.take.ensures.places) c.requires.added)
    (c.take.ensures.held among.front among.back among.held) few).from_raised

pub add-requires-clause-lowered : goal.add-requires-clause-lowered
add-requires-clause-lowered g c =
    let among = c.requires.held in
    let few : length (among.front ++ among.back) ≤ 4096 =
    (let all = among.few in omega (
      arith,
      length-append among.front among.back,
      length-append among.front
          (c.args.taken.now ∷ among.back),
    )) in
    (HasRoomFor-few c.take.new.self (among.front ++ among.back) c.args.added.now
    (subst (λ n. IsMove n c.args.added.now) (sym c.take.ensures.places) c.requires.added)
    (c.take.ensures.held among.front among.back among.held) few).to_lowered

pub returns-clause-held : goal.returns-clause-held
returns-clause-held g c = λ front back held.
    Holds-placed c.add.new.self front back c.args.added.now (c.add.ensures.held (front ++ back) (c.take.ensures.held front back held))

pub returns-clause-others : goal.returns-clause-others
returns-clause-others g c = λ place from to.
    ap (λ d. changes_of d place) c.add.ensures.changed
    ∙ others-with_move c.take.new.self c.args.added.now place (λ e. from (e ∙ c.requires.from)) (λ e. to (e ∙ c.requires.to))
    ∙ ap (λ d. changes_of d place) c.take.ensures.changed
    ∙ others-without_move c.args.deficits.now c.args.taken.now place from to
