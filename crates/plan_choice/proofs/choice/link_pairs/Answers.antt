use Rattle.std.proofs.Common.{◌≡◌, ◌∙◌, ℕ, List, length, sym, ap, subst, arith}
use Rattle.list_search.specs.Lists.{listed}
use Rattle.pair_search.specs.Arranged.{bare, departing, slot_in}
use Rattle.pair_search.specs.Determined.{found_each}
use Rattle.pair_search.specs.Order.{IsRenaming}
use Rattle.pair_search.proofs.LentLemmas.{written}
use Rattle.plan_choice.proofs.ChosenLemmas.{AreWorthMost-found, AreWorthMost-matched, IsRenaming-slots}
use Rattle.plan_choice.proofs.choice.link_pairs.Goals as goal

pub link_all-requires-clause-renaming : goal.link_all-requires-clause-renaming
link_all-requires-clause-renaming c =
    let n = length c.args.pairs.now.moves in
    let rows = c.deref.result.now in
    let place = c.arrange.ensures.renaming.0 in (
      place,
      subst (λ m. IsRenaming m (slot_in rows) place) (sym c.requires.slots)
          (IsRenaming-slots n c.arrange.result.now rows place c.arrange.ensures.count (c.deref.ensures.value ∙ c.in_ok-rows.ensures)
          c.arrange.ensures.renaming.1),
    )

pub returns-clause-most : goal.returns-clause-most
returns-clause-most c =
    let w = listed c.args.lists.now in
    let linked = c.link_all.new in
    let rows : c.deref.result.now ≡ departing c.args.pairs.now =
    c.deref.ensures.value ∙ c.in_ok-rows.ensures ∙ c.arrange.ensures.slots in
    let same =
    written linked.next c.in_ok-next.next.items c.in_ok-next.next.len
    (omega (arith, c.link_all.auto.next, ap length c.deref_mut.ensures.value, c.in_ok-next.next.ok.0)) in
    AreWorthMost-found w linked.next _ linked.leave linked.enter _ same
    (c.link_all.ensures.plan
    ∙ ap (λ (slots : List ℕ). found_each w slots (bare c.args.lists.now.slots)) rows
    ∙ ap (λ m. found_each w (departing c.args.pairs.now) (bare m)) c.requires.slots)
    (AreWorthMost-matched w linked.next linked.leave linked.enter c.link_all.ensures.matched c.link_all.ensures.covers)
