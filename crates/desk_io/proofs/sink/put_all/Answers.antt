use Rattle.std.proofs.Common.{arith, length-take, length-drop, sym, subst}
use Rattle.std.proofs.lemmas.Result.{err_from_is_err_and}
use Rattle.desk_io.specs.Sink.{PutsCome}
use Rattle.desk_io.proofs.EachPut.{all_put, put_failed, put_so_far}
use Rattle.desk_io.proofs.PutsMore.{put_more}
use Rattle.desk_io.proofs.sink.put_all.Goals as goal

pub loop-done-preserved : goal.loop-done-preserved
loop-done-preserved g c = record {
  within = omega (arith, simp (length-take, length-drop) at c.in_ok-done.ensures.within, length-drop c.loop-done.done c.args.bytes.now);
  taken = put_more c.args.bytes.now c.loop-done.done c.in_ok-done.field-0 (g.O.Sink.state c.args.out.now) (g.O.Sink.state c.loop-done.out)
      (g.O.Sink.state c.put.new.self) c.loop-done.invariant.taken c.in_ok-done.ensures.taken;
  put = put_so_far c.args.bytes.now c.loop-done.done _ _ _ c.loop-done.invariant.put c.in_ok-done.ensures.noted c.in_ok-done.field-0
      c.in_ok-done.ensures.some;
}

pub returns-in_err-done-clause-come : goal.returns-in_err-done-clause-come
returns-in_err-done-clause-come g c =
    let fault = err_from_is_err_and c.from_residual.result c.from_residual.ensures.1 in
    subst (λ result. PutsCome c.args.bytes.now result (g.O.Sink.history c.args.out.now) (g.O.Sink.history c.put.new.self)) (sym fault.1)
    (put_failed c.args.bytes.now c.loop-done.done _ _ _ c.loop-done.invariant.put c.put.ensures.noted fault.0 c.loop-done-test.true)

pub returns-clause-come : goal.returns-clause-come
returns-clause-come g c = all_put c.args.bytes.now c.loop-done.done _ _ _ c.loop-done.invariant.put (omega (arith, c.loop-done-test.false))
