use Rattle.std.proofs.Common.{Ok, Err, sym, subst, ◌∙◌}
use Rattle.std.proofs.lemmas.Result.{err_from_is_err_and}
use Rattle.desk_run.specs.Becomes.{Becomes, WritesAll}
use Rattle.desk_run.specs.World.{world}
use Rattle.desk_run.proofs.Carried.{cut_at_file}
use Rattle.desk_run.specs.Order.{CallsToCarry}
use Rattle.desk_run.specs.Outcome.{OutcomeView}
use Rattle.desk_run.specs.Outside.{histories}
use Rattle.desk_run.specs.declared.fault.RunFault.TheVariants as run_fault
use Rattle.desk_run.proofs.InOrder.{ends_at_file, ends_at_lines, ends_at_text, ends_whole}
use Rattle.desk_run.proofs.carrying.carry_out.Goals as goal

pub returns-in_err-write_all-clause-calls : goal.returns-in_err-write_all-clause-calls
returns-in_err-write_all-clause-calls g c =
    let h = histories g.S.Shelf.history g.O.Sink.history g.K.Keeper.history c.args.shelf.now c.args.out.now c.args.keeper.now in
    let now = histories g.S.Shelf.history g.O.Sink.history g.K.Keeper.history c.write_all.new.shelf c.args.out.now c.args.keeper.now in
    let fault = err_from_is_err_and c.from_residual.result c.from_residual.ensures.1 in
    let outcome : OutcomeView = record {
      writes = c.deref.result.now;
      lines = c.outcome.inside.lines;
      text = c.outcome.inside.text;
      ending = c.outcome.inside.ending;
    } in
    subst (λ (outcome : OutcomeView). CallsToCarry outcome c.from_residual.result h now)
    ((λ i. record {
      writes = c.deref.ensures.value i;
      lines = c.outcome.inside.lines;
      text = c.outcome.inside.text;
      ending = c.outcome.inside.ending;
    }) ∙ c.outcome.view_is)
    (subst (λ result. CallsToCarry outcome result h now) (sym fault.1) (ends_at_file outcome h fault.0 _ c.in_err-write_all.ensures.come))

pub returns-in_err-append-clause-calls : goal.returns-in_err-append-clause-calls
returns-in_err-append-clause-calls g c =
    let h = histories g.S.Shelf.history g.O.Sink.history g.K.Keeper.history c.args.shelf.now c.args.out.now c.args.keeper.now in
    let now = histories g.S.Shelf.history g.O.Sink.history g.K.Keeper.history c.write_all.new.shelf c.args.out.now c.append.new.keeper in
    let fault = err_from_is_err_and c.from_residual-in_err-append.result c.from_residual-in_err-append.ensures.1 in
    let outcome : OutcomeView = record {
      writes = c.deref.result.now;
      lines = c.outcome.inside.lines;
      text = c.outcome.inside.text;
      ending = c.outcome.inside.ending;
    } in
    subst (λ (outcome : OutcomeView). CallsToCarry outcome c.from_residual-in_err-append.result h now)
    ((λ i. record {
      writes = c.deref.ensures.value i;
      lines = c.outcome.inside.lines;
      text = c.outcome.inside.text;
      ending = c.outcome.inside.ending;
    }) ∙ c.outcome.view_is)
    (subst (λ result. CallsToCarry outcome result h now) (sym fault.1)
    (ends_at_lines outcome h _ c.in_ok-write_all.ensures.come fault.0 _ c.in_err-append.ensures.come))

pub returns-in-Ok-clause-calls : goal.returns-in-Ok-clause-calls
returns-in-Ok-clause-calls g c =
    let h = histories g.S.Shelf.history g.O.Sink.history g.K.Keeper.history c.args.shelf.now c.args.out.now c.args.keeper.now in
    let now = histories g.S.Shelf.history g.O.Sink.history g.K.Keeper.history c.write_all.new.shelf c.put_all.new.out c.append.new.keeper in
    let outcome : OutcomeView = record {
      writes = c.deref.result.now;
      lines = c.outcome.inside.lines;
      text = c.as_bytes.result.now;
      ending = c.outcome.inside.ending;
    } in
    subst (λ (outcome : OutcomeView). CallsToCarry outcome (Ok c.status.result) h now)
    ((λ i. record {
      writes = c.deref.ensures.value i;
      lines = c.outcome.inside.lines;
      text = (c.as_bytes.ensures.value ∙ c.as_str.ensures) i;
      ending = c.outcome.inside.ending;
    }) ∙ c.outcome.view_is)
    (ends_whole outcome h _ c.in_ok-write_all.ensures.come _ _ c.in_ok-append.ensures.come c.status.result c.in-Ok.field-0
    c.in-Ok.ensures.come)

pub returns-in-Err-clause-calls : goal.returns-in-Err-clause-calls
returns-in-Err-clause-calls g c =
    let h = histories g.S.Shelf.history g.O.Sink.history g.K.Keeper.history c.args.shelf.now c.args.out.now c.args.keeper.now in
    let now = histories g.S.Shelf.history g.O.Sink.history g.K.Keeper.history c.write_all.new.shelf c.put_all.new.out c.append.new.keeper in
    let outcome : OutcomeView = record {
      writes = c.deref.result.now;
      lines = c.outcome.inside.lines;
      text = c.as_bytes.result.now;
      ending = c.outcome.inside.ending;
    } in
    subst (λ (outcome : OutcomeView). CallsToCarry outcome (Err run_fault.Write) h now)
    ((λ i. record {
      writes = c.deref.ensures.value i;
      lines = c.outcome.inside.lines;
      text = (c.as_bytes.ensures.value ∙ c.as_str.ensures) i;
      ending = c.outcome.inside.ending;
    }) ∙ c.outcome.view_is)
    (ends_at_text outcome h _ c.in_ok-write_all.ensures.come _ _ c.in_ok-append.ensures.come run_fault.Write c.in-Err.field-0
    c.in-Err.ensures.come)

pub returns-in_err-write_all-clause-becomes : goal.returns-in_err-write_all-clause-becomes
returns-in_err-write_all-clause-becomes g c =
    let w = world g.S.Shelf.state g.O.Sink.state g.K.Keeper.state c.args.shelf.now c.args.out.now c.args.keeper.now in
    let now = world g.S.Shelf.state g.O.Sink.state g.K.Keeper.state c.write_all.new.shelf c.args.out.now c.args.keeper.now in
    let fault = err_from_is_err_and c.from_residual.result c.from_residual.ensures.1 in
    let outcome : OutcomeView = record {
      writes = c.deref.result.now;
      lines = c.outcome.inside.lines;
      text = c.outcome.inside.text;
      ending = c.outcome.inside.ending;
    } in
    subst (λ (outcome : OutcomeView). Becomes outcome c.from_residual.result w now)
    ((λ i. record {
      writes = c.deref.ensures.value i;
      lines = c.outcome.inside.lines;
      text = c.outcome.inside.text;
      ending = c.outcome.inside.ending;
    }) ∙ c.outcome.view_is)
    (subst (λ result. Becomes outcome result w now) (sym fault.1) (cut_at_file outcome fault.0 w (g.S.Shelf.state c.write_all.new.shelf)
    (subst (λ f. WritesAll {T = Unit {0}} c.deref.result.now (Err f) (g.S.Shelf.state c.args.shelf.now) (g.S.Shelf.state c.write_all.new.shelf))
    (sym fault.2) c.in_err-write_all.ensures.writes)))
