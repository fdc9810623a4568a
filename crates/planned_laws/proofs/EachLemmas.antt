-- Searches from one row after the other find a plan that is matched and covered for all rows.
use Rattle.std.proofs.Common.{◌≡◌, ℕ, zero, suc, ◌+◌, ◌-◌, ◌≤◌, Bool, false, List, drop, length, Option, None, refl, sym, ap, subst}
use Rattle.std.proofs.Common.{◌∙◌, arith}
use Rattle.std.proofs.lemmas.List.{drop_all, length-replicate}
use Rattle.assignment_model.specs.Prices.{Plan}
use Rattle.trip_model.specs.declared.limits.TheConstants.{MOST_SLOTS}
use Rattle.pair_search.specs.Arranged.{bare, place_in, slot_in}
use Rattle.pair_search.specs.Assignment.{AreWeights, IsMatched, Covers}
use Rattle.pair_search.specs.Determined.{found, found_each}
use Rattle.pair_search.specs.Order.{IsRenaming, stands_before}
use Rattle.pair_search.proofs.AddLemmas.{IsMatched-none, IsMatched-all, MayBegin-added, covers-none, Covers-all}
use Rattle.pair_search.proofs.PlacedLemmas.{found_each-more}
use Rattle.planned_laws.specs.Laws.{HasSlots}
use Rattle.planned_laws.proofs.OrderLemmas.{AreAll, IsRenaming-order}
use Rattle.planned_laws.proofs.SearchLemmas.{found-is}

-- a plan whose links are matched, and whose prices cover, but for rows that are left out
pub record IsWhole (w : ℕ → ℕ → Option ℕ) (n : ℕ) (out : ℕ → Bool) (plan : Plan) : Type 0 where
  pub slots : HasSlots n plan
  pub matched : IsMatched w out None None plan.next plan.leave plan.enter
  pub covers : Covers w out None plan.leave plan.enter

module _ (w : ℕ → ℕ → Option ℕ) (n : ℕ) (rows : List ℕ) (few : n ≤ MOST_SLOTS) (weights : AreWeights w n) (all : AreAll n rows) where
  each-added : (added : ℕ) → added ≤ n
      → IsWhole w n (stands_before (place_in rows) (n - added)) (found_each w (drop (n - added) rows) (bare n))
  each-added zero le =
      let whole : n ≡ n - zero = omega arith in
      let renaming : IsRenaming n (slot_in rows) (place_in rows) = IsRenaming-order n rows all in
      subst (IsWhole w n (stands_before (place_in rows) (n - zero)))
      (sym (ap (λ (l : List ℕ). found_each w l (bare n)) (drop_all (n - zero) rows (omega (arith, all.long)))))
      (record {
        slots = record { next = length-replicate {A = Option ℕ} n None; leave = length-replicate n 0; enter = length-replicate n 0 };
        matched = IsMatched-none w n (stands_before (place_in rows) (n - zero)) (bare n).next (bare n).leave (bare n).enter refl refl refl;
        covers = subst (λ m. Covers w (stands_before (place_in rows) m) None (bare n).leave (bare n).enter) whole
            (covers-none w n (place_in rows) (bare n).leave (bare n).enter weights renaming.place_within);
      })
  each-added (suc added) le =
      let was = each-added added (omega (arith, le)) in
      let plan : Plan = found_each w (drop (n - added) rows) (bare n) in
      let last : ℕ = n - (added + 1) in
      let more : added + 1 ≡ suc added = omega arith in
      let begins = MayBegin-added w n (slot_in rows) (place_in rows) added last (slot_in rows last) plan.next plan.leave plan.enter refl
      (IsRenaming-order n rows all) (omega (arith, le)) was.matched was.covers in
      let now = found-is w n (stands_before (place_in rows) last) (slot_in rows last) None plan few weights was.slots begins in
      let same : found w (slot_in rows last) plan ≡ found_each w (drop last rows) (bare n) =
      ap (λ k. found w (slot_in rows last) (found_each w (drop k rows) (bare n))) (omega (arith, le))
      ∙ found_each-more w rows (bare n) last (slot_in rows last) (length rows) (omega (arith, le, all.long)) refl in
      subst (λ k. IsWhole w n (stands_before (place_in rows) (n - k)) (found_each w (drop (n - k) rows) (bare n))) more
      (subst (IsWhole w n (stands_before (place_in rows) last)) same
      (record { slots = now.slots; matched = now.matched; covers = now.covers }))

  -- where all rows are added none is left out
  pub each-found : IsWhole w n (λ _. false) (found_each w rows (bare n))
  each-found =
      let none : n - n ≡ 0 = omega arith in
      let whole = subst (λ k. IsWhole w n (stands_before (place_in rows) k) (found_each w (drop k rows) (bare n))) none
      (each-added n (omega arith)) in
      let plan : Plan = found_each w rows (bare n) in
      record {
        slots = whole.slots;
        matched = IsMatched-all w (place_in rows) plan.next plan.leave plan.enter whole.matched;
        covers = Covers-all w (place_in rows) plan.leave plan.enter whole.covers;
      }
