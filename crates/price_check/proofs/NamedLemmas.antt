-- The records of a file name each live slot once and nothing else exactly where none names no slot, none names that of an
-- earlier one, and no live slot is missing.
use Rattle.std.proofs.Common.{◌≡◌, ℕ, zero, suc, ◌+◌, ◌<◌, ◌≤◌, ◌||◌, nat_eq, nat_lt, cond, Bool, true, false, List, [], ◌∷◌, length, take}
use Rattle.std.proofs.Common.{Option, None, Some, refl, sym, ap, ◌∙◌, ⊎_elim, arith}
use Rattle.std.specs.Option.{option_eq}
use Rattle.std.proofs.lemmas.Bool.{cases_Bool, eqb-true, false≢true, lt-ltb, ltb-false, ltb-true, eq-eqb}
use Rattle.std.proofs.lemmas.List.{take_all}
use Rattle.trip_model.specs.Blocking.{times}
use Rattle.trip_model.proofs.Counting.{times-cons}
use Rattle.price_check.specs.Claim.{named, AreKnown}
use Rattle.price_check.specs.Certificate.{slots_named, NameOnce}
use Rattle.price_check.specs.Reasons.{stands, repeats}
use Rattle.price_check.proofs.RowLemmas.{repeats-some, repeats-none}

-- how often a slot stands in one record
abbrev pub hit : ℕ → Option ℕ → ℕ
hit s slot = cond (option_eq nat_eq slot (Some s)) 1 0

hit-is : (s : ℕ) (slot : Option ℕ) (b : Bool) → option_eq nat_eq slot (Some s) ≡ b → ◌≡◌ {A = ℕ} (hit s slot) (cond b 1 0)
hit-is s slot b e = ap (λ b. cond b 1 0) e

-- a record that names s names s
pub is-slot : (s : ℕ) (slot : Option ℕ) → option_eq nat_eq slot (Some s) ≡ true → slot ≡ Some s
is-slot s None e = absurd (false≢true e)
is-slot s (Some t) e = ap Some (eqb-true t s e)

pub slot-is : (s : ℕ) (slot : Option ℕ) → slot ≡ Some s → option_eq nat_eq slot (Some s) ≡ true
slot-is s slot e = ap (λ slot. option_eq nat_eq slot (Some s)) e ∙ eq-eqb s s refl

pub times-named : (s : ℕ) (slot : Option ℕ) (slots : List (Option ℕ))
    → times s (slots_named (slot ∷ slots)) ≡ hit s slot + times s (slots_named slots)
times-named s None slots = omega arith
times-named s (Some t) slots = times-cons s t (slots_named slots)

-- some record names a slot exactly where it stands in the slots that are named
pub stands-times : (slots : List (Option ℕ)) (s : ℕ) → stands slots s ≡ nat_lt 0 (times s (slots_named slots))
stands-times [] s = refl
stands-times (slot ∷ slots) s = by (option_eq nat_eq slot (Some s)) refl (stands-times slots s)
  where
    by : (b : Bool) → option_eq nat_eq slot (Some s) ≡ b → stands slots s ≡ nat_lt 0 (times s (slots_named slots))
        → stands (slot ∷ slots) s ≡ nat_lt 0 (times s (slots_named (slot ∷ slots)))
    by true e rest = ap (λ b. b || stands slots s) e ∙ sym (lt-ltb 0 _ (omega (arith, times-named s slot slots, hit-is s slot true e)))
    by false e rest =
        ap (λ b. b || stands slots s) e ∙ rest
        ∙ ap (nat_lt 0) (let same : times s (slots_named slots) ≡ times s (slots_named (slot ∷ slots)) = omega
        (arith, times-named s slot slots, hit-is s slot false e) in same)

-- in the front of a list, record by record
times-front : (slots : List (Option ℕ)) (s n : ℕ) → n < length slots
    → times s (slots_named (take (suc n) slots)) ≡ times s (slots_named (take n slots)) + hit s (named slots n)
times-front [] s n lt = absurd (omega arith)
times-front (slot ∷ slots) s zero lt = let one = times-named s slot [] in omega (arith, one)
times-front (slot ∷ slots) s (suc n) lt =
    omega (arith, times-named s slot (take (suc n) slots), times-named s slot (take n slots), times-front slots s n (omega (arith, lt)))

times-front-le : (slots : List (Option ℕ)) (s n : ℕ) → times s (slots_named (take n slots)) ≤ times s (slots_named slots)
times-front-le slots s zero = omega arith
times-front-le [] s (suc n) = omega arith
times-front-le (slot ∷ slots) s (suc n) =
    omega (arith, times-named s slot (take n slots), times-named s slot slots, times-front-le slots s n)

-- a slot that a record names stands in the slots that are named
pub named-stands : (slots : List (Option ℕ)) (at s : ℕ) → at < length slots → named slots at ≡ Some s → 0 < times s (slots_named slots)
named-stands slots at s lt is =
    omega (
      arith,
      times-front slots s at lt,
      hit-is s (named slots at) true (slot-is s (named slots at) is),
      times-front-le slots s
          (suc at),
    )

-- a slot that stands is named by some record
pub standing-record : (slots : List (Option ℕ)) (s : ℕ) → stands slots s ≡ true → (at : ℕ) × (at < length slots) × (named slots at ≡ Some s)
standing-record [] s e = absurd (false≢true e)
standing-record (slot ∷ slots) s e = by (option_eq nat_eq slot (Some s)) refl (standing-record slots s)
  where
    by : (b : Bool) → option_eq nat_eq slot (Some s) ≡ b
        → (stands slots s ≡ true → (at : ℕ) × (at < length slots) × (named slots at ≡ Some s))
        → (at : ℕ) × (at < length (slot ∷ slots)) × (named (slot ∷ slots) at ≡ Some s)
    by true here rest = (0, omega arith, is-slot s slot here)
    by false here rest =
        let found = rest (sym (ap (λ b. b || stands slots s) here) ∙ e) in
        (suc found.0, omega (arith, found.1), found.2)

-- where no record names the slot of an earlier one, none stands twice
at-most-once : (slots : List (Option ℕ)) → ((at : ℕ) → at < length slots → repeats slots at ≡ false) → (s n : ℕ) → n ≤ length slots
    → times s (slots_named (take n slots)) ≤ 1
at-most-once slots apart s zero le = omega arith
at-most-once slots apart s (suc n) le = by (option_eq nat_eq (named slots n) (Some s)) refl (at-most-once slots apart s n (omega arith))
  where
    by : (b : Bool) → option_eq nat_eq (named slots n) (Some s) ≡ b → times s (slots_named (take n slots)) ≤ 1
        → times s (slots_named (take (suc n) slots)) ≤ 1
    by true e before =
        let none = ltb-false 0 (times s (slots_named (take n slots)))
        (sym (stands-times (take n slots) s) ∙ sym (repeats-some slots n s (is-slot s (named slots n) e)) ∙ apart n (omega arith)) in
        omega (arith, times-front slots s n (omega arith), hit-is s (named slots n) true e, none)
    by false e before = omega (arith, times-front slots s n (omega arith), hit-is s (named slots n) false e, before)

-- the three facts give that each live slot is named once
pub NameOnce-from : (live : ℕ → Bool) (slots : List (Option ℕ)) → AreKnown slots → ((at : ℕ) → at < length slots → repeats slots at ≡ false)
    → ((s : ℕ) → live s ≡ true → stands slots s ≡ true) → ((at s : ℕ) → named slots at ≡ Some s → live s ≡ true) → NameOnce live slots
NameOnce-from live slots known apart there lives = record { known = known; once = record { once = λ s. by s (live s) refl } }
  where
    by : (s : ℕ) (b : Bool) → live s ≡ b → times s (slots_named slots) ≡ cond (live s) 1 0
    by s true e =
        let most = at-most-once slots apart s (length slots) (omega arith) in
        let all : times s (slots_named (take (length slots) slots)) ≡ times s (slots_named slots) =
        ap (λ xs. times s (slots_named xs)) (take_all (length slots) slots (omega arith)) in
        let some = ltb-true 0 (times s (slots_named slots)) (sym (stands-times slots s) ∙ there s e) in
        let one : ◌≡◌ {A = ℕ} (cond (live s) 1 0) 1 = ap (λ b. cond b 1 0) e in
        omega (arith, most, all, some, one)
    by s false e =
        let none : ◌≡◌ {A = ℕ} (cond (live s) 1 0) 0 = ap (λ b. cond b 1 0) e in
        ⊎_elim
        (λ (stand : stands slots s ≡ true). let record_of = standing-record slots s stand in
        absurd (false≢true (sym e ∙ lives record_of.0 s record_of.2)))
        (λ (not_there : stands slots s ≡ false). let zero_times = ltb-false 0 (times s (slots_named slots))
        (sym (stands-times slots s) ∙ not_there) in omega (arith, zero_times, none))
        (cases_Bool (stands slots s))

pub one-most : (b : Bool) → cond b 1 0 ≤ 1
one-most true = omega arith
one-most false = omega arith

-- no slot stands twice, and one that is not live is named by none
pub named-once : (live : ℕ → Bool) (slots : List (Option ℕ)) → NameOnce live slots → (s : ℕ) → times s (slots_named slots) ≤ 1
named-once live slots names s = omega (arith, names.once.once s, one-most (live s))

pub dead-stands : (live : ℕ → Bool) (slots : List (Option ℕ)) → NameOnce live slots → (s : ℕ) → live s ≡ false → stands slots s ≡ false
dead-stands live slots names s e = stands-times slots s ∙ ap (nat_lt 0) (names.once.once s ∙ ap (λ b. cond b 1 0) e)

-- a slot that is named is live
pub standing-live : (live : ℕ → Bool) (slots : List (Option ℕ)) → NameOnce live slots → (s : ℕ) → 0 < times s (slots_named slots)
    → live s ≡ true
standing-live live slots names s there = ⊎_elim
    (λ (lives : live s ≡ true). lives)
    (λ (dead : live s ≡ false). let none : ◌≡◌ {A = ℕ} (cond (live s) 1 0) 0 = ap (λ b. cond b 1 0) dead in
    absurd (omega (arith, there, names.once.once s, none)))
    (cases_Bool (live s))

-- and the three facts are given by it
pub repeats-once : (live : ℕ → Bool) (slots : List (Option ℕ)) → NameOnce live slots → (at : ℕ) → at < length slots
    → repeats slots at ≡ false
repeats-once live slots names at lt = by (named slots at) refl
  where
    by : (slot : Option ℕ) → named slots at ≡ slot → repeats slots at ≡ false
    by None e = repeats-none slots at e
    by (Some s) e =
        repeats-some slots at s e ∙ stands-times (take at slots) s
        ∙ ap (nat_lt 0) (let none : times s (slots_named (take at slots)) ≡ 0 = (let all = names.once.once s in
        let most : cond (live s) 1 0 ≤ 1 = one-most (live s) in
        omega (
          arith,
          times-front slots s at lt,
          hit-is s (named slots at) true (slot-is s (named slots at) e),
          times-front-le slots s
              (suc at),
          all,
          most,
        )) in none)

pub stands-once : (live : ℕ → Bool) (slots : List (Option ℕ)) → NameOnce live slots → (s : ℕ) → live s ≡ true → stands slots s ≡ true
stands-once live slots names s e =
    stands-times slots s ∙ lt-ltb 0 _
    (let one : ◌≡◌ {A = ℕ} (cond (live s) 1 0) 1 = ap (λ b. cond b 1 0) e in omega (arith, names.once.once s, one))
