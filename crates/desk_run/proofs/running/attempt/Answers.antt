use Rattle.std.proofs.Common.{inl, refl, None, Some, Err, sym, ap, subst, ◌∙◌}
use Rattle.std.proofs.lemmas.Result.{err_from_is_err_and}
use Rattle.desk_run.specs.Becomes.{Becomes}
use Rattle.desk_run.specs.Commands.{Chosen}
use Rattle.desk_run.specs.Order.{IsInOrder, status_by}
use Rattle.desk_run.specs.Outside.{outside}
use Rattle.desk_run.specs.Reading.{ReadView}
use Rattle.desk_run.specs.Runs.{Attempts}
use Rattle.desk_run.specs.World.{World}
use Rattle.desk_run.specs.declared.fault.RunFault.TheVariants as run_fault
use Rattle.desk_run.proofs.Carried.{carried, unloaded, unread}
use Rattle.desk_run.proofs.EachStatus.{read_in}
use Rattle.desk_run.proofs.InOrder.{all_read, carried_in_order, ends_at_load, ends_at_paper, fails_above}
use Rattle.desk_run.proofs.running.attempt.Goals as goal

-- a paper was not read
pub returns-in_err-pages : goal.returns-in_err-pages
returns-in_err-pages g c =
    let at = outside g.S.Shelf.state g.S.Shelf.history g.O.Sink.state g.O.Sink.history g.K.Keeper.state g.K.Keeper.history in
    let asked = g.C.Command.asked c.args.command.now in
    let before = at c.args.shelf.now c.args.out.now c.args.keeper.now in
    let after = at c.read_papers.new.shelf c.args.out.now c.args.keeper.now in
    let fault = err_from_is_err_and c.from_residual.result c.from_residual.ensures.1 in
    record {
      found = None;
      told = tt;
      does = subst (λ result. Attempts asked None result before.world after.world × IsInOrder asked None before after (status_by result))
          (sym (fault.1 ∙ ap Err fault.2)) (
            unread (Unit {0}) asked before.world after.world.shelf c.in_err-pages.field-0.0 c.in_err-pages.ensures.state,
            inl (
              fails_above c.in_err-pages.field-0.0,
              ends_at_paper asked before.calls _ _ c.papers.ensures c.in_err-pages.ensures.stops,
            ),
          );
      counted = refl;
    }

-- the journal was not loaded
pub returns-in_err-journal : goal.returns-in_err-journal
returns-in_err-journal g c =
    let at = outside g.S.Shelf.state g.S.Shelf.history g.O.Sink.state g.O.Sink.history g.K.Keeper.state g.K.Keeper.history in
    let asked = g.C.Command.asked c.args.command.now in
    let before = at c.args.shelf.now c.args.out.now c.args.keeper.now in
    let after = at c.read_papers.new.shelf c.args.out.now c.load.new.keeper in
    let fault = err_from_is_err_and c.from_residual-in_err-journal.result c.from_residual-in_err-journal.ensures.1 in
    record {
      found = None;
      told = tt;
      does = subst (λ result. Attempts asked None result before.world after.world × IsInOrder asked None before after (status_by result))
          (sym (fault.1 ∙ ap Err fault.2)) (
            unloaded (Unit {0}) asked before.world after.world.shelf after.world.keeper _ c.in_err-journal.field-0.0
                c.in_ok-pages.ensures.state c.keeps.ensures c.in_err-journal.ensures.state,
            inl (
              fails_above c.in_err-journal.field-0.0,
              ends_at_load asked before.calls c.in_ok-pages.pages.items _ _ _
                  (c.in_ok-pages.ensures.read.named ∙ c.papers.ensures) c.keeps.ensures c.in_ok-pages.ensures.come
                  c.in_err-journal.ensures.refused,
            ),
          );
      counted = refl;
    }

pub returns : goal.returns
returns g c =
    let at = outside g.S.Shelf.state g.S.Shelf.history g.O.Sink.state g.O.Sink.history g.K.Keeper.state g.K.Keeper.history in
    let asked = g.C.Command.asked c.args.command.now in
    let before = at c.args.shelf.now c.args.out.now c.args.keeper.now in
    let after = at c.carry_out.new.shelf c.carry_out.new.out c.carry_out.new.keeper in
    let read : ReadView = record { pages = c.in_ok-pages.pages.items; journal = c.in_ok-journal.journal } in
    let told = read_in asked before.world _ _ read c.papers.ensures c.keeps.ensures c.in_ok-pages.ensures.read
    c.in_ok-journal.ensures.loaded in
    let chosen : Chosen asked (Some read) before.world =
    record { read = read; is = refl; told = told; outcome = c.in_ok-outcome.outcome; given = c.in_ok-outcome.ensures.given } in
    let becomes =
    subst (λ (now : World). Becomes c.in_ok-outcome.outcome c.carry_out.result now after.world)
    (λ i. record { shelf = c.in_ok-pages.ensures.state i; sink = before.world.sink; keeper = c.in_ok-journal.ensures.state i })
    c.carry_out.ensures.becomes in
    record {
      found = Some read;
      told = told;
      does = (
        carried asked (Some read) before.world after.world chosen c.carry_out.result becomes,
        carried_in_order asked (Some read) before after c.carry_out.result chosen _
            (all_read before.calls read _ _ c.in_ok-pages.ensures.come c.in_ok-journal.ensures.come)
            c.carry_out.ensures.calls becomes,
      );
      counted = c.in_ok-outcome.ensures.counted;
    }

-- the command found no memory for an outcome of what was read
pub returns-in_err-outcome : goal.returns-in_err-outcome
returns-in_err-outcome g c =
    let memory = err_from_is_err_and c.from_residual-in_err-outcome.result c.from_residual-in_err-outcome.ensures.1 in
    let asked = g.C.Command.asked c.args.command.now in
    let at = outside g.S.Shelf.state g.S.Shelf.history g.O.Sink.state g.O.Sink.history g.K.Keeper.state g.K.Keeper.history in
    let before = at c.args.shelf.now c.args.out.now c.args.keeper.now in
    let after = at c.read_papers.new.shelf c.args.out.now c.load.new.keeper in
    let read : ReadView = record { pages = c.in_ok-pages.pages.items; journal = c.in_ok-journal.journal } in
    record {
      found = Some read;
      told = read_in asked before.world _ _ read c.papers.ensures c.keeps.ensures c.in_ok-pages.ensures.read c.in_ok-journal.ensures.loaded;
      does = subst (λ result. Attempts asked (Some read) result before.world after.world
          × IsInOrder asked (Some read) before after (status_by result))
          (sym (memory.1 ∙ ap Err memory.2)) (
            inl (λ i. record { shelf = c.in_ok-pages.ensures.state i; sink = before.world.sink; keeper = c.in_ok-journal.ensures.state i }),
            inl (
              fails_above run_fault.Memory,
              all_read before.calls read _ _ c.in_ok-pages.ensures.come c.in_ok-journal.ensures.come,
            ),
          );
      counted = c.outcome.ensures.counted;
    }
