-- What counts most so far, as it is kept.
use Rattle.std.proofs.Common.{◌≡◌, ℕ, suc, ◌+◌, ◌<◌, ◌≤◌, ◌==◌, nat_lt, Bool, true, false, cond, List, [], ◌∷◌, ◌++◌, fold, get_or}
use Rattle.std.proofs.Common.{take, length, Option, Some, None, refl, sym, ap, subst, ◌∙◌, arith}
use Rattle.std.specs.List.{range_with_len}
use Rattle.std.proofs.lemmas.Bool.{eqb-true, ltb-true, ltb-false}
use Rattle.std.proofs.lemmas.List.{take_more}
use Rattle.std.proofs.lemmas.List.Sums.{fold_push}
use Rattle.trip_model.proofs.StepsLemmas.{range_with_len-more}
use Rattle.block_names.specs.Names.{with_more}
use Rattle.block_names.specs.declared.most.Most.{Most}
use Rattle.block_names.proofs.TakenLemmas.{positive}

-- how much it counts, and nothing where there is none
abbrev pub counted : (ℕ → ℕ) → Option ℕ → ℕ
counted count None = 0
counted count (Some x) = count x

pub record IsMost (count : ℕ → ℕ) (found : Option ℕ) (most : Most) : Type 0 where
  pub number : most.found ≡ found
  pub counts : most.count ≡ counted count found

-- one more is seen
pub most-more : (count : ℕ → ℕ) (o : Option ℕ) (old new : Most) (x c : ℕ) → c ≡ count x → IsMost count o old
    → (old.count < c → new.found ≡ Some x) → (old.count < c → new.count ≡ c) → (c ≤ old.count → new ≡ old)
    → IsMost count (with_more count o x) new
most-more count None old new x c is most found counts same = by (count x == 0) refl
  where
    by : (b : Bool) → (count x == 0) ≡ b → IsMost count (cond b None (Some x)) new
    by true e =
        let none = eqb-true (count x) 0 e in
        subst (IsMost count None) (sym (same (omega (arith, none, is)))) most
    by false e =
        let more = positive (count x) e in
        let less : old.count < c = omega (arith, more, is, most.counts) in
        record { number = found less; counts = counts less ∙ is }
most-more count (Some y) old new x c is most found counts same = by (nat_lt (count y) (count x)) refl
  where
    by : (b : Bool) → nat_lt (count y) (count x) ≡ b → IsMost count (cond b (Some x) (Some y)) new
    by true e =
        let more = ltb-true (count y) (count x) e in
        let less : old.count < c = omega (arith, more, is, most.counts) in
        record { number = found less; counts = counts less ∙ is }
    by false e =
        let few = ltb-false (count y) (count x) e in
        subst (IsMost count (Some y)) (sym (same (omega (arith, few, is, most.counts)))) most

-- of the numbers below one, and of the first of a list
pub most-below : (count : ℕ → ℕ) (n : ℕ)
    → fold (with_more count) None (range_with_len 0 (n + 1)) ≡ with_more count (fold (with_more count) None (range_with_len 0 n)) n
most-below count n =
    ap (λ m. fold (with_more count) None (range_with_len 0 m)) (let e : n + 1 ≡ suc n = omega arith in e)
    ∙ ap (fold (with_more count) None) (range_with_len-more 0 n)
    ∙ ap (λ x. fold (with_more count) None (range_with_len 0 n ++ x ∷ [])) (let e : 0 + n ≡ n = omega arith in e)
    ∙ fold_push (with_more count) None (range_with_len 0 n) n

pub most-front : (count : ℕ → ℕ) (xs : List ℕ) (i : ℕ) → i < length xs
    → fold (with_more count) None (take (i + 1) xs) ≡ with_more count (fold (with_more count) None (take i xs)) (get_or xs i 0)
most-front count xs i lt =
    ap (fold (with_more count) None) (take_more xs i 0 lt) ∙ fold_push (with_more count) None (take i xs) (get_or xs i 0)
