use Rattle.std.proofs.Common.{◌++◌, ◌<◌, length, sym, ap, subst, ◌∙◌, Option, Some, ℕ, arith}
use Rattle.std.specs.Prelude.{All, IfSome}
use Rattle.std.proofs.lemmas.List.Elements.{All-push, All-nil}
use Rattle.trip_model.specs.Links.{along}
use Rattle.block_build.proofs.BlocksMade.{block_from-starts, along-more, next-within}
use Rattle.block_build.proofs.build.block_from.Goals as goal

pub loop-init : goal.loop-init
loop-init c = record {
  rest = ap (λ xs. xs ++ along c.args.links.now 8192 (Some c.args.first)) c.new-slots.ensures.items
      ∙ block_from-starts c.args.links.now c.args.first;
  at = c.requires.first;
  within = subst (All (λ s. s < length c.args.links.now)) (sym c.new-slots.ensures.items) (All-nil (λ s. s < length c.args.links.now));
}

pub loop-preserved : goal.loop-preserved
loop-preserved c =
    let within : c.in-Some.slot < length c.args.links.now =
    subst (λ (at : Option ℕ). IfSome at (λ s. s < length c.args.links.now)) c.in-Some.is c.loop.invariant.at in
    record {
      rest = along-more c.args.links.now c.args.first c.in-Some.slot c.loop.counter c.loop.at c.next-at.result c.loop.slots.items
          c.push.new.self.items
          (omega arith) c.in-Some.is c.next-at.ensures c.in_ok-push.ensures.items c.loop.invariant.rest;
      at = next-within c.args.links.now c.in-Some.slot c.next-at.result c.next-at.ensures c.requires.within;
      within = subst (All (λ s. s < length c.args.links.now)) (sym c.in_ok-push.ensures.items)
          (All-push (λ s. s < length c.args.links.now) c.loop.slots.items c.in-Some.slot c.loop.invariant.within within);
    }
