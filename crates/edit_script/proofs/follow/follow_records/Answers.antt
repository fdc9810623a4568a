use Rattle.std.proofs.Common.{Result, Ok, Err, refl}
use Rattle.std.specs.Prelude.{OnErr}
use Rattle.std.proofs.lemmas.List.{get_or_read}
use Rattle.edit_script.specs.Follow.{IsLineAt}
use Rattle.edit_script.proofs.follow.follow_records.Goals as goal

stopped : {T E : Type 0} (result : Result T E) (S : Type 0) → S → OnErr result S
stopped (Ok x) S stops = tt
stopped (Err e) S stops = stops

pub returns-in_err-follow-clause-stops : goal.returns-in_err-follow-clause-stops
returns-in_err-follow-clause-stops g c =
    let lines = c.args.lines.now in
    let n = c.loop-n.n in
    let at : IsLineAt lines n c.index-lines-n.result =
    record { within = c.loop-n-test.true; is = get_or_read lines n c.index-lines-n.result c.loop-n-test.true c.index-lines-n.is } in
    stopped c.from_residual.result _
    (c.in_err-follow.ensures.stops c.args.follower.now c.args.lent.now lines n refl at c.loop-n.invariant.stands)

pub loop-n-preserved : goal.loop-n-preserved
loop-n-preserved g c =
    let lines = c.args.lines.now in
    let n = c.loop-n.n in
    let at : IsLineAt lines n c.index-lines-n.result =
    record { within = c.loop-n-test.true; is = get_or_read lines n c.index-lines-n.result c.loop-n-test.true c.index-lines-n.is } in
    record {
      ready = c.in_ok-follow.ensures.ready;
      stands = c.in_ok-follow.ensures.stands c.args.follower.now c.args.lent.now lines n refl at c.loop-n.invariant.stands;
    }
