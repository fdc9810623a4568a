-- Stands that are written over a plan, and changes that are noted.
use Rattle.std.proofs.Common.{◌≡◌, ◌≢◌, ℕ, ◌+◌, ◌-◌, ◌<◌, ◌≤◌, ◌==◌, ◌&&◌, nat_eq, Bool, true, false, List, [], ◌∷◌, ◌++◌, length, get_or}
use Rattle.std.proofs.Common.{take, replicate, map, Option, None, Some, refl, sym, ap, ◌∙◌, ⊎_elim, arith, length-append, length-set}
use Rattle.std.specs.Prelude.{flat_map, slice_get}
use Rattle.std.specs.List.{range_with_len}
use Rattle.std.specs.Option.{option_eq}
use Rattle.std.proofs.lemmas.Bool.{cases_lt, eqb-true}
use Rattle.std.proofs.lemmas.Grind.{flat_map-append}
use Rattle.std.proofs.lemmas.List.{append-nil, ext_get_or, get_or_append_left, get_or-append_right, get_or-replicate, get_or_past}
use Rattle.std.proofs.lemmas.List.{get_or-set_same, get_or-set_other, get_or-take, length-replicate, length-take, take_more}
use Rattle.std.proofs.lemmas.List.FromFn.{map-range_with_len_more, get_or-map-range_with_len, length-map-range_with_len}
use Rattle.std.proofs.lemmas.Option.{slice_get_past, slice_get-get_or}
use Rattle.assignment_model.specs.Prices.{Plan}
use Rattle.price_assign.specs.Plans.{resized, with_slots}
use Rattle.plan_history.specs.Items.{with_stand, written}
use Rattle.plan_history.specs.Stands.{stand_at, stands, same_stand, changed_at, changes_upto}
use Rattle.plan_history.specs.declared.stand.Stand.{Stand}
use Rattle.plan_history.specs.declared.stand.Changed.{Changed}

-- one more number at the end of a range
pub range_more : (a n : ℕ) → range_with_len a (n + 1) ≡ range_with_len a n ++ (a + n) ∷ []
range_more a n = same_map (range_with_len a (n + 1))
    ∙ (map-range_with_len_more (λ (x : ℕ). x) a n (a + n) refl
    ∙ ap (λ (xs : List ℕ). xs ++ (a + n) ∷ []) (sym (same_map (range_with_len a n))))
  where
    same_map : (xs : List ℕ) → xs ≡ map (λ (x : ℕ). x) xs
    same_map [] = refl
    same_map (x ∷ xs) = ap (λ (ys : List ℕ). x ∷ ys) (same_map xs)

-- the stands of one slot more
pub stands_more : (plan : Plan) (n : ℕ)
    → map (stand_at plan) (range_with_len 0 (n + 1)) ≡ map (stand_at plan) (range_with_len 0 n) ++ stand_at plan n ∷ []
stands_more plan n = map-range_with_len_more (stand_at plan) 0 n n (omega arith)

-- the changes of one slot more
pub changes_more : (was : List Stand) (plan : Plan) (n : ℕ)
    → changes_upto was plan (n + 1) ≡ changes_upto was plan n ++ changed_at was plan n
changes_more was plan n =
    ap (flat_map (changed_at was plan)) (range_more 0 n)
    ∙ (flat_map-append (changed_at was plan) (range_with_len 0 n) ((0 + n) ∷ [])
    ∙ ap (λ (xs : List Changed). changes_upto was plan n ++ xs) (one (0 + n) ∙ ap (changed_at was plan) zeroed))
  where
    zeroed : 0 + n ≡ n
    zeroed = omega arith

    one : (k : ℕ) → flat_map (changed_at was plan) (k ∷ []) ≡ changed_at was plan k
    one k = append-nil (changed_at was plan k)

-- stands of the same three parts are one
stand-three : (a b : Stand) → a.next ≡ b.next → a.leave ≡ b.leave → a.enter ≡ b.enter → a ≡ b
stand-three a b n l e =
    let byn : a ≡ record a { next = b.next } = ap (λ (x : Option ℕ). record a { next = x }) n in
    let byl : record a { next = b.next } ≡ record b { enter = a.enter } = ap (λ (x : ℕ). record b { leave = x; enter = a.enter }) l in
    byn ∙ (byl ∙ ap (λ (x : ℕ). record b { enter = x }) e)

-- a slot has what it had exactly where both are the same
pub same-stand : (before : Option Stand) (after : Stand) → same_stand before after ≡ true → before ≡ Some after
same-stand None after e = cc
same-stand (Some before) after e =
    let e1 = both-left (option_eq nat_eq before.next after.next && before.leave == after.leave) (before.enter == after.enter) e in
    let nexts : before.next ≡ after.next =
    same-next before.next after.next (both-left (option_eq nat_eq before.next after.next) (before.leave == after.leave) e1) in
    let leaves : before.leave ≡ after.leave =
    eqb-true before.leave after.leave (both-right (option_eq nat_eq before.next after.next) (before.leave == after.leave) e1) in
    let enters : before.enter ≡ after.enter =
    eqb-true before.enter after.enter
    (both-right (option_eq nat_eq before.next after.next && before.leave == after.leave) (before.enter == after.enter) e) in
    ap Some (stand-three before after nexts leaves enters)
  where
    both-left : (a b : Bool) → (a && b) ≡ true → a ≡ true
    both-left true b e = refl
    both-left false b e = e

    both-right : (a b : Bool) → (a && b) ≡ true → b ≡ true
    both-right true b e = e
    both-right false b e = cc

    same-next : (a b : Option ℕ) → option_eq nat_eq a b ≡ true → a ≡ b
    same-next None None e = refl
    same-next None (Some j) e = cc
    same-next (Some i) None e = cc
    same-next (Some i) (Some j) e = ap Some (eqb-true i j e)

-- what stands in a list of stands of a plan
pub stands-within : (plan : Plan) (s : ℕ) → s < length plan.next → slice_get (stands plan) s ≡ Some (stand_at plan s)
stands-within plan s h =
    slice_get-get_or (stands plan) s (stand_at plan s) (omega (arith, h, length-map-range_with_len (stand_at plan) 0 (length plan.next)))
    ∙ ap Some (get_or-map-range_with_len (stand_at plan) 0 (length plan.next) s s (stand_at plan s) h (omega arith))

pub stands-past : (plan : Plan) (s : ℕ) → length plan.next ≤ s → slice_get (stands plan) s ≡ None
stands-past plan s h = slice_get_past (stands plan) s (omega (arith, h, length-map-range_with_len (stand_at plan) 0 (length plan.next)))

pub length-stands : (plan : Plan) → length (stands plan) ≡ length plan.next
length-stands plan = length-map-range_with_len (stand_at plan) 0 (length plan.next)

-- each list of a plan has so many entries
pub record IsOf (n : ℕ) (plan : Plan) : Type 0 where
  pub nexts : length plan.next ≡ n
  pub leaves : length plan.leave ≡ n
  pub enters : length plan.enter ≡ n

-- plans of as many slots that have the same for each are one
pub plan_same : (n : ℕ) (a b : Plan) → IsOf n a → IsOf n b → ((s : ℕ) → s < n → stand_at a s ≡ stand_at b s) → a ≡ b
plan_same n a b of_a of_b same =
    let nexts : a.next ≡ b.next = ext_get_or None a.next b.next (of_a.nexts ∙ sym of_b.nexts)
    (λ i h. ap (λ (st : Stand). st.next) (same i (omega (arith, h, of_a.nexts)))) in
    let leaves : a.leave ≡ b.leave =
    ext_get_or 0 a.leave b.leave (of_a.leaves ∙ sym of_b.leaves)
    (λ i h. ap (λ (st : Stand). st.leave) (same i (omega (arith, h, of_a.leaves)))) in
    let enters : a.enter ≡ b.enter =
    ext_get_or 0 a.enter b.enter (of_a.enters ∙ sym of_b.enters)
    (λ i h. ap (λ (st : Stand). st.enter) (same i (omega (arith, h, of_a.enters)))) in
    let byn : a ≡ record a { next = b.next } = ap (λ (x : List (Option ℕ)). record a { next = x }) nexts in
    let byl : record a { next = b.next } ≡ record b { enter = a.enter } =
    ap (λ (x : List ℕ). record b { leave = x; enter = a.enter }) leaves in
    byn ∙ (byl ∙ ap (λ (x : List ℕ). record b { enter = x }) enters)

-- a list that is cut or extended
pub get_or-resized : {X : Type 0} → (xs : List X) (n i : ℕ) (x : X) → i < n → get_or (resized xs n x) i x ≡ get_or xs i x
get_or-resized xs n i x h =
    ⊎_elim
    (λ (l : i < length xs). get_or_append_left (take n xs) (replicate (n - length xs) x) x i (omega (arith, l, h, length-take n xs))
    ∙ get_or-take n xs i x h)
    (λ (l : length xs ≤ i). get_or-append_right (take n xs) (replicate (n - length xs) x) (length xs) i x
    (omega (arith, l, h, length-take n xs)) l ∙ (filled (n - length xs) (i - length xs) ∙ sym (get_or_past xs i x l)))
    (cases_lt i (length xs))
  where
    filled : (k m : ℕ) → get_or (replicate k x) m x ≡ x
    filled k m = ⊎_elim
        (λ (l : m < k). get_or-replicate k m x x l)
        (λ (l : k ≤ m). get_or_past (replicate k x) m x (omega (arith, l, length-replicate k x)))
        (cases_lt m k)

pub length-resized : {X : Type 0} → (xs : List X) (n : ℕ) (x : X) → length (resized xs n x) ≡ n
length-resized xs n x =
    omega (arith, length-append (take n xs) (replicate (n - length xs) x), length-take n xs, length-replicate (n - length xs) x)

pub IsOf-with_slots : (plan : Plan) (n : ℕ) → IsOf n (with_slots plan n)
IsOf-with_slots plan n = record {
  nexts = length-resized plan.next n None;
  leaves = length-resized plan.leave n 0;
  enters = length-resized plan.enter n 0;
}

pub stand-with_slots : (plan : Plan) (n s : ℕ) → s < n → stand_at (with_slots plan n) s ≡ stand_at plan s
stand-with_slots plan n s h =
    stand-three (stand_at (with_slots plan n) s) (stand_at plan s) (get_or-resized plan.next n s None h)
    (get_or-resized plan.leave n s 0 h) (get_or-resized plan.enter n s 0 h)

-- a slot in which a stand is written
pub IsOf-with_stand : (n : ℕ) (plan : Plan) (s : ℕ) (stand : Option Stand) → IsOf n plan → IsOf n (with_stand plan s stand)
IsOf-with_stand n plan s None of = of
IsOf-with_stand n plan s (Some stand) of = record {
  nexts = length-set plan.next s stand.next ∙ of.nexts;
  leaves = length-set plan.leave s stand.leave ∙ of.leaves;
  enters = length-set plan.enter s stand.enter ∙ of.enters;
}

pub stand-written : (n : ℕ) (plan : Plan) (s : ℕ) (stand : Stand) → IsOf n plan → s < n
    → stand_at (with_stand plan s (Some stand)) s ≡ stand
stand-written n plan s stand of h =
    stand-three (stand_at (with_stand plan s (Some stand)) s) stand
    (get_or-set_same plan.next s stand.next None (omega (arith, h, of.nexts)))
    (get_or-set_same plan.leave s stand.leave 0 (omega (arith, h, of.leaves)))
    (get_or-set_same plan.enter s stand.enter 0 (omega (arith, h, of.enters)))

pub stand-other : (plan : Plan) (s : ℕ) (stand : Option Stand) (i : ℕ) → i ≢ s → stand_at (with_stand plan s stand) i ≡ stand_at plan i
stand-other plan s None i h = refl
stand-other plan s (Some stand) i h =
    stand-three (stand_at (with_stand plan s (Some stand)) i) (stand_at plan i)
    (get_or-set_other plan.next s i stand.next None h)
    (get_or-set_other plan.leave s i stand.leave 0 h)
    (get_or-set_other plan.enter s i stand.enter 0 h)

-- changes are written one after the other
pub written-append : (part : Changed → Option Stand) (plan : Plan) (xs ys : List Changed)
    → written part plan (xs ++ ys) ≡ written part (written part plan xs) ys
written-append part plan [] ys = refl
written-append part plan (x ∷ xs) ys = written-append part (with_stand plan x.slot (part x)) xs ys

pub length-written : (part : Changed → Option Stand) (plan : Plan) (xs : List Changed)
    → length (written part plan xs).next ≡ length plan.next
length-written part plan [] = refl
length-written part plan (x ∷ xs) = length-written part (with_stand plan x.slot (part x)) xs ∙ one (part x)
  where
    one : (stand : Option Stand) → length (with_stand plan x.slot stand).next ≡ length plan.next
    one None = refl
    one (Some stand) = length-set plan.next x.slot stand.next

pub written_next : (part : Changed → Option Stand) (plan q r : Plan) (xs : List Changed) (i : ℕ) (d : Changed) → i < length xs
    → q ≡ written part plan (take i xs)
    → r ≡ with_stand q (get_or xs i d).slot (part (get_or xs i d)) → r ≡ written part plan (take (i + 1) xs)
written_next part plan q r xs i d h was is =
    is
    ∙ (ap (λ (p : Plan). with_stand p (get_or xs i d).slot (part (get_or xs i d))) was
    ∙ (sym (written-append part plan (take i xs) (get_or xs i d ∷ []))
    ∙ ap (written part plan) (sym (take_more xs i d h))))
