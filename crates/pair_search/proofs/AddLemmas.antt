-- Rows are added one after the other: from those before a number to all.
use Rattle.std.proofs.Common.{◌≡◌, ◌≢◌, ℕ, ◌+◌, ◌-◌, ◌<◌, ◌≤◌, nat_le, Bool, true, false, List, replicate, Option, None}
use Rattle.std.proofs.Common.{Some, refl, sym, ap, subst, ◌∙◌, ⊎_elim, arith}
use Rattle.std.proofs.lemmas.Bool.{both_ways, cases_lt, leb-true, le-leb, lt-leb}
use Rattle.std.proofs.lemmas.List.{get_or-replicate, get_or_past, length-replicate}
use Rattle.std.proofs.lemmas.Option.{none-some, same_Some}
use Rattle.trip_model.specs.Links.{next_of}
use Rattle.assignment_model.specs.Prices.{price}
use Rattle.pair_search.specs.Assignment.{AreWeights, IsMatched, Covers, MayBegin}
use Rattle.pair_search.specs.Order.{IsRenaming, stands_before}
use Rattle.pair_search.proofs.InverseLemmas.{unlinked}

false-lt : (a i : ℕ) → nat_le a i ≡ false → i < a
false-lt a i e = ⊎_elim (λ (lt : i < a). lt) (λ (le : a ≤ i). absurd (both_ways (nat_le a i) e (le-leb a i le))) (cases_lt i a)

-- before any row is added
pub IsMatched-none : (w : ℕ → ℕ → Option ℕ) (n : ℕ) (out : ℕ → Bool) (links : List (Option ℕ)) (leave enter : List ℕ)
    → links ≡ replicate n None → leave ≡ replicate n 0 → enter ≡ replicate n 0
    → IsMatched w out None None links leave enter
IsMatched-none w n out links leave enter links-is leave-is enter-is = record {
  once = λ h i j e f. absurd (none-some j (sym (none h) ∙ e));
  tight = λ i j e. absurd (none-some j (sym (none i) ∙ e));
  left = λ i _. none i;
  first = λ i e. none i;
  last = λ i j e. absurd (none-some j e);
  leave_zero = λ i _ _. zero-at leave leave-is i;
  enter_zero = λ j _ _. zero-at enter enter-is j;
}
  where
    none : (i : ℕ) → next_of links i ≡ None
    none i = ap (λ xs. next_of xs i) links-is ∙ unlinked n i

    zero-at : (xs : List ℕ) → xs ≡ replicate n 0 → (i : ℕ) → price xs i ≡ 0
    zero-at xs is i = ap (λ xs. price xs i) is ∙ ⊎_elim
        (λ (lt : i < n). get_or-replicate n i 0 0 lt)
        (λ (le : n ≤ i). get_or_past (replicate n 0) i 0 (omega (arith, le, length-replicate {A = ℕ} n 0)))
        (cases_lt i n)

-- the next row may be added: rows are added from the last place on
pub MayBegin-next : (w : ℕ → ℕ → Option ℕ) (n : ℕ) (place : ℕ → ℕ) (upto before a : ℕ) (links : List (Option ℕ)) (leave enter : List ℕ)
    → a < n → upto ≡ before + 1 → place a ≡ before
    → ((i : ℕ) → place i ≡ before → i ≡ a) → IsMatched w (λ i. nat_le (place i + 1) upto) None None links leave enter
    → Covers w (λ i. nat_le (place i + 1) upto) None leave enter
    → MayBegin w n (λ i. nat_le (place i + 1) before) a None links leave enter
MayBegin-next w n place upto before a links leave enter start next here alone matched covers = record {
  start = start;
  inside = lt-leb (place a + 1) before (omega (arith, here));
  matched = record {
    once = matched.once;
    tight = matched.tight;
    left = λ i e. let le = leb-true (place i + 1) before e in matched.left i (le-leb (place i + 1) upto (omega (arith, le, next)));
    first = λ i e. let same : place i ≡ place a = ap place (sym (same_Some a i e)) in
        matched.left i (le-leb (place i + 1) upto (omega (arith, same, here, next)));
    last = matched.last;
    leave_zero = λ i other none. matched.leave_zero i (λ e. none-some i e) none;
    enter_zero = matched.enter_zero;
  };
  covers = λ i j k inside other e.
      let apart : place i ≢ before = λ at-before. other (ap Some (sym (alone i at-before))) in
      covers i j k (lt-leb (place i + 1) upto (omega (arith, false-lt (place i + 1) before inside, apart, next))) (λ e. none-some i e) e;
}

pub covers-none : (w : ℕ → ℕ → Option ℕ) (n : ℕ) (place : ℕ → ℕ) (leave enter : List ℕ) → AreWeights w n → ((i : ℕ) → i < n → place i < n)
    → Covers w (λ i. nat_le (place i + 1) n) None leave enter
covers-none w n place leave enter weights within i j k inside _ e =
    absurd (both_ways (nat_le (place i + 1) n) inside (le-leb (place i + 1) n (omega (arith, within i (weights.within i j k e).0))))

-- the row that stands last in an order of those that are not added
pub MayBegin-added : (w : ℕ → ℕ → Option ℕ) (n : ℕ) (slot place : ℕ → ℕ) (added last a : ℕ) (links : List (Option ℕ))
    (leave enter : List ℕ) → a ≡ slot last → IsRenaming n slot place → last + (added + 1) ≡ n
    → IsMatched w (stands_before place (n - added)) None None links leave enter
    → Covers w (stands_before place (n - added)) None leave enter
    → MayBegin w n (stands_before place (n - (added + 1))) a None links leave enter
MayBegin-added w n slot place added last a links leave enter is renaming sum matched covers =
    subst (λ m. MayBegin w n (stands_before place m) a None links leave enter) (omega (arith, sum))
    (MayBegin-next w n place (n - added) last a links leave enter (omega (arith, is, renaming.slot_within last inside))
    (omega (arith, sum)) (ap place is ∙ renaming.back last inside) alone matched covers)
  where
    inside : last < n
    inside = omega (arith, sum)

    alone : (i : ℕ) → place i ≡ last → i ≡ a
    alone i e = ⊎_elim
        (λ (lt : i < n). sym (renaming.there i lt) ∙ ap slot e ∙ sym is)
        (λ (past : n ≤ i). absurd (omega (arith, renaming.no_place i past, e, inside)))
        (cases_lt i n)

-- no row stands before the first place: all are added
pub IsMatched-all : (w : ℕ → ℕ → Option ℕ) (place : ℕ → ℕ) (links : List (Option ℕ)) (leave enter : List ℕ)
    → IsMatched w (λ i. nat_le (place i + 1) 0) None None links leave enter
    → IsMatched w (λ _. false) None None links leave enter
IsMatched-all w place links leave enter matched = record {
  once = matched.once;
  tight = matched.tight;
  left = λ i e. absurd (both_ways true (sym e) refl);
  first = matched.first;
  last = matched.last;
  leave_zero = matched.leave_zero;
  enter_zero = matched.enter_zero;
}

pub Covers-all : (w : ℕ → ℕ → Option ℕ) (place : ℕ → ℕ) (leave enter : List ℕ) → Covers w (λ i. nat_le (place i + 1) 0) None leave enter
    → Covers w (λ _. false) None leave enter
Covers-all w place leave enter covers i j k _ other e = covers i j k (lt-leb (place i + 1) 0 (omega arith)) other e
