-- The stop time that a choice between two gives, one after the other, is before or after all others.
use Rattle.std.proofs.Common.{◌≡◌, suc, zero, ◌≤◌, Bool, true, false, cond, nat_lt, List, [], ◌∷◌, fold, Option, Some, None, refl, sym, ap}
use Rattle.std.proofs.Common.{subst, ◌∙◌, ◌⊎◌, inl, inr, ⊎_elim, arith}
use Rattle.std.specs.Prelude.{All, Contains, IfSome}
use Rattle.std.proofs.lemmas.Bool.{ltb-true, ltb-false}
use Rattle.std.proofs.lemmas.List.Elements.{All-nil, All-cons, Contains-append_right}
use Rattle.std.proofs.lemmas.Option.{none-some, same_Some}
use Rattle.feed_read.specs.FeedTrips.{sooner, later, first_stop_time, last_stop_time, IsFirst, IsLast}
use Rattle.feed_read.specs.StopTimes.{StopTimeView}

-- an element of a list with one put after its head
there_after : (a v : StopTimeView) (vs : List StopTimeView) (r : StopTimeView) → Contains (a ∷ vs) r → Contains (a ∷ v ∷ vs) r
there_after a v vs r (zero, lt, e) = (0, omega arith, e)
there_after a v vs r (suc k, lt, e) = (suc (suc k), omega (arith, lt), e)

head : (P : StopTimeView → Type 0) (a : StopTimeView) (vs : List StopTimeView) → All P (a ∷ vs) → P a
head P a vs all = all 0 a (omega arith)

rest : (P : StopTimeView → Type 0) (a : StopTimeView) (vs : List StopTimeView) → All P (a ∷ vs) → All P vs
rest P a vs all = λ k d lt. all (suc k) d (omega (arith, lt))

module _ (pick : Option StopTimeView → StopTimeView → Option StopTimeView) (R : StopTimeView → StopTimeView → Type 0)
    (trans : (x y z : StopTimeView) → R x y → R y z → R x z) (same : (x : StopTimeView) → R x x)
    (picks : (a v : StopTimeView) → ((pick (Some a) v ≡ Some v) × R v a) ⊎ ((pick (Some a) v ≡ Some a) × R a v)) where
  -- from a stop time on, one of all is picked that stands before all
  picked : (a : StopTimeView) (vs : List StopTimeView) (r : StopTimeView) → fold pick (Some a) vs ≡ Some r
      → Contains (a ∷ vs) r × All (R r) (a ∷ vs)
  picked a [] r is =
      let at = same_Some a r is in
      ((0, omega arith, at), All-cons (R r) a [] (subst (λ x. R r x) (sym at) (same r)) (All-nil (R r)))
  picked a (v ∷ vs) r is = ⊎_elim
      (λ (new : (pick (Some a) v ≡ Some v) × R v a).
      let on = picked v vs r (ap (λ p. fold pick p vs) (sym new.0) ∙ is) in
      (Contains-append_right (a ∷ []) (v ∷ vs) r on.0, All-cons (R r) a (v ∷ vs) (trans r v a (head (R r) v vs on.1) new.1) on.1))
      (λ (old : (pick (Some a) v ≡ Some a) × R a v).
      let on = picked a vs r (ap (λ p. fold pick p vs) (sym old.0) ∙ is) in (
        there_after a v vs r on.0,
        All-cons (R r) a (v ∷ vs) (head (R r) a vs on.1)
            (All-cons (R r) v vs (trans r a v (head (R r) a vs on.1) old.1) (rest (R r) a vs on.1)),
      ))
      (picks a v)

  -- what was picked stays something
  stays : (a : StopTimeView) (vs : List StopTimeView) → fold pick (Some a) vs ≡ None → ⊥
  stays a [] is = none-some a (sym is)
  stays a (v ∷ vs) is = ⊎_elim
      (λ (new : (pick (Some a) v ≡ Some v) × R v a). stays v vs (ap (λ p. fold pick p vs) (sym new.0) ∙ is))
      (λ (old : (pick (Some a) v ≡ Some a) × R a v). stays a vs (ap (λ p. fold pick p vs) (sym old.0) ∙ is))
      (picks a v)

picks_sooner : (a v : StopTimeView)
    → ((sooner (Some a) v ≡ Some v) × (v.sequence ≤ a.sequence)) ⊎ ((sooner (Some a) v ≡ Some a) × (a.sequence ≤ v.sequence))
picks_sooner a v = by (nat_lt v.sequence a.sequence) refl
  where
    by : (test : Bool) → nat_lt v.sequence a.sequence ≡ test
        → ((sooner (Some a) v ≡ Some v) × (v.sequence ≤ a.sequence)) ⊎ ((sooner (Some a) v ≡ Some a) × (a.sequence ≤ v.sequence))
    by true is = inl (ap (λ b. cond b (Some v) (Some a)) is, omega (arith, ltb-true v.sequence a.sequence is))
    by false is = inr (ap (λ b. cond b (Some v) (Some a)) is, omega (arith, ltb-false v.sequence a.sequence is))

picks_later : (a v : StopTimeView)
    → ((later (Some a) v ≡ Some v) × (a.sequence ≤ v.sequence)) ⊎ ((later (Some a) v ≡ Some a) × (v.sequence ≤ a.sequence))
picks_later a v = by (nat_lt a.sequence v.sequence) refl
  where
    by : (test : Bool) → nat_lt a.sequence v.sequence ≡ test
        → ((later (Some a) v ≡ Some v) × (a.sequence ≤ v.sequence)) ⊎ ((later (Some a) v ≡ Some a) × (v.sequence ≤ a.sequence))
    by true is = inl (ap (λ b. cond b (Some v) (Some a)) is, omega (arith, ltb-true a.sequence v.sequence is))
    by false is = inr (ap (λ b. cond b (Some v) (Some a)) is, omega (arith, ltb-false a.sequence v.sequence is))

-- what holds of what an option tells
if_some : (o : Option StopTimeView) (P : StopTimeView → Type 0) → ((stop_time : StopTimeView) → o ≡ Some stop_time → P stop_time)
    → IfSome o P
if_some None P each = tt
if_some (Some stop_time) P each = each stop_time refl

pub first-IsFirst : (stop_times : List StopTimeView) → IfSome (first_stop_time stop_times) (IsFirst stop_times)
first-IsFirst [] = tt
first-IsFirst (a ∷ vs) = if_some (first_stop_time (a ∷ vs)) (IsFirst (a ∷ vs)) (λ r is.
    let p = picked sooner (λ x y. x.sequence ≤ y.sequence) (λ x y z xy yz. omega (arith, xy, yz)) (λ x. omega arith) picks_sooner a vs r
    is in
    record { one = p.0; least = p.1 })

pub last-IsLast : (stop_times : List StopTimeView) → IfSome (last_stop_time stop_times) (IsLast stop_times)
last-IsLast [] = tt
last-IsLast (a ∷ vs) = if_some (last_stop_time (a ∷ vs)) (IsLast (a ∷ vs)) (λ r is.
    let p = picked later (λ x y. y.sequence ≤ x.sequence) (λ x y z xy yz. omega (arith, xy, yz)) (λ x. omega arith) picks_later a vs r is in
    record { one = p.0; greatest = p.1 })

pub first-none : (stop_times : List StopTimeView) → first_stop_time stop_times ≡ None → stop_times ≡ []
first-none [] is = refl
first-none (a ∷ vs) is = absurd
    (stays sooner (λ x y. x.sequence ≤ y.sequence) (λ x y z xy yz. omega (arith, xy, yz)) (λ x. omega arith) picks_sooner a vs is)

pub last-none : (stop_times : List StopTimeView) → last_stop_time stop_times ≡ None → stop_times ≡ []
last-none [] is = refl
last-none (a ∷ vs) is = absurd
    (stays later (λ x y. y.sequence ≤ x.sequence) (λ x y z xy yz. omega (arith, xy, yz)) (λ x. omega arith) picks_later a vs is)
