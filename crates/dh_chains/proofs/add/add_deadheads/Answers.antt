use Rattle.std.proofs.Common.{length, sym, subst}
use Rattle.trip_model.specs.Plain.{IsMove}
use Rattle.dh_chains.specs.Chains.{move_of}
use Rattle.dh_chains.proofs.Adding.{second-is}
use Rattle.dh_chains.proofs.add.add_deadheads.Goals as goal

pub add_deadhead-requires-2-clause-valid : goal.add_deadhead-requires-2-clause-valid
add_deadhead-requires-2-clause-valid g c =
    subst (λ n. IsMove n (move_of c.in-Some.second)) (sym c.add_deadhead.ensures.places)
    (second-is (λ m. IsMove (length c.args.deficits.now) (move_of m)) c.args.chain.now c.in-Some.second c.in-Some.is c.requires.valid)
