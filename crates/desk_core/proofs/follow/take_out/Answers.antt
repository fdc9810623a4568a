use Rattle.desk_core.specs.Follow.{moves_of}
use Rattle.desk_core.proofs.FollowLemmas.{HasRoomFor-read}
use Rattle.desk_core.proofs.follow.take_out.Goals as goal

pub take-requires-clause-lowered : goal.take-requires-clause-lowered
take-requires-clause-lowered g c =
    (HasRoomFor-read c.args.deficits.now c.args.trip c.in-Some.trip c.as_move.result (moves_of c.args.trip) c.requires.valid c.in-Some.is
    c.as_move.ensures c.requires.held).from_lowered

pub take-requires-clause-raised : goal.take-requires-clause-raised
take-requires-clause-raised g c =
    (HasRoomFor-read c.args.deficits.now c.args.trip c.in-Some.trip c.as_move.result (moves_of c.args.trip) c.requires.valid c.in-Some.is
    c.as_move.ensures c.requires.held).to_raised
