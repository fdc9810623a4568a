use Rattle.std.proofs.Common.{List, [], ◌∷◌, ◌++◌, sym, ap, subst, ◌∙◌}
use Rattle.deficit_steps.specs.Holds.{Holds}
use Rattle.trip_model.specs.declared.trip.Move.{Move}
use Rattle.desk_core.proofs.FollowLemmas.{HasRoomFor-read, Holds-placed, moves_of-live}
use Rattle.desk_core.proofs.follow.put_in.Goals as goal

pub add-requires-clause-raised : goal.add-requires-clause-raised
add-requires-clause-raised g c =
    (HasRoomFor-read c.args.deficits.now c.args.trip c.in-Some.trip c.as_move.result [] c.requires.valid c.in-Some.is c.as_move.ensures
    c.requires.held).from_raised

pub returns-clause-held : goal.returns-clause-held
returns-clause-held g c = λ front back held.
    let P : List Move → Type 0 = λ moves. Holds c.add.new.self (front ++ (moves ++ back)) in
    subst P (ap (λ (m : Move). m ∷ []) c.as_move.ensures ∙ sym (moves_of-live c.args.trip c.in-Some.trip c.in-Some.is c.if-not-trip.false))
    (Holds-placed c.add.new.self front (c.as_move.result ∷ []) back (c.add.ensures.held (front ++ back) held))
