-- Where a slot stands once in the blocks, its block is named as that in which it stands.
use Rattle.std.proofs.Common.{◌≡◌, ℕ, zero, suc, ◌+◌, ◌<◌, ◌≤◌, ◌==◌, inl, inr, true, false, cond, List, [], ◌∷◌, ◌++◌, length, get_or}
use Rattle.std.proofs.Common.{Some, refl, sym, ap, ◌∙◌, arith}
use Rattle.std.specs.List.{position_from}
use Rattle.std.proofs.lemmas.Bool.{cases_Bool}
use Rattle.std.proofs.lemmas.List.Sums.{sum_by-append}
use Rattle.trip_model.proofs.Counting.{times-cons}
use Rattle.trip_model.specs.Blocking.{times, slots_in}
use Rattle.block_writer.specs.Laws as spec
use Rattle.block_writer.specs.Laws.{IsBlockOf}
use Rattle.block_writer.specs.Trips.{is_in, name_of}

times-append : (s : ℕ) (xs ys : List ℕ) → times s (xs ++ ys) ≡ times s xs + times s ys
times-append s xs ys = sum_by-append (λ x. cond (x == s) 1 0) xs ys

-- a slot that stands in a block is counted there, and one that does not is not
counted : (s : ℕ) (block : List ℕ) → is_in s block ≡ true → 1 ≤ times s block
counted s [] in' = absurd (cc)
counted s (x ∷ block) in' = elim (cases_Bool (x == s)) [
  | inl same ↦ let one : ◌≡◌ {A = ℕ} (cond (x == s) 1 0) 1 = ap (λ b. cond b 1 0) same in omega (arith, times-cons s x block)
  | inr other ↦ omega (arith, times-cons s x block, counted s block (rw other at in'))
]

uncounted : (s : ℕ) (block : List ℕ) → is_in s block ≡ false → times s block ≡ 0
uncounted s [] out = refl
uncounted s (x ∷ block) out = elim (cases_Bool (x == s)) [
  | inl same ↦ absurd (let wrong = rw same at out in cc)
  | inr other ↦
      let none : ◌≡◌ {A = ℕ} (cond (x == s) 1 0) 0 = ap (λ b. cond b 1 0) other in
      omega (arith, times-cons s x block, uncounted s block (rw other at out))
]

-- a slot of a block is counted in all blocks
counted-in : (s : ℕ) (blocks : List (List ℕ)) (k : ℕ) → k < length blocks → is_in s (get_or blocks k []) ≡ true
    → 1 ≤ times s (slots_in blocks)
counted-in s [] k within in' = absurd (omega arith)
counted-in s (block ∷ blocks) zero within in' = omega (arith, times-append s block (slots_in blocks), counted s block in')
counted-in s (block ∷ blocks) (suc k) within in' =
    omega (arith, times-append s block (slots_in blocks), counted-in s blocks k (omega arith) in')

found : (s i : ℕ) (blocks : List (List ℕ)) → times s (slots_in blocks) ≡ 1
    → (b : ℕ) × (position_from (is_in s) i blocks ≡ Some (i + b)) × IsBlockOf blocks s b
found s i [] once = absurd (omega arith)
found s i (block ∷ blocks) once = elim (cases_Bool (is_in s block)) [
  | inl in' ↦ (
    zero,
    rw in' (ap Some (omega arith)),
    record {
      within = omega arith;
      stands = in';
      alone = here in';
    },
  )
  | inr out ↦
      let rest = found s (i + 1) blocks (omega (arith, times-append s block (slots_in blocks), uncounted s block out)) in (
        suc rest.0,
        rw out (rest.1 ∙ ap Some (omega arith)),
        record {
          within = omega (arith, rest.2.within);
          stands = rest.2.stands;
          alone = there out rest.0 rest.2.alone;
        },
      )
]
  where
    here : is_in s block ≡ true → (k : ℕ) → k < length (block ∷ blocks) → is_in s (get_or (block ∷ blocks) k []) ≡ true → k ≡ zero
    here in' zero within stands = refl
    here in' (suc k) within stands =
        absurd (omega (arith, times-append s block (slots_in blocks), counted s block in', counted-in s blocks k (omega arith) stands))

    there : is_in s block ≡ false → (b : ℕ) → ((k : ℕ) → k < length blocks → is_in s (get_or blocks k []) ≡ true → k ≡ b)
        → (k : ℕ) → k < length (block ∷ blocks) → is_in s (get_or (block ∷ blocks) k []) ≡ true → k ≡ suc b
    there out b alone zero within stands = absurd (let wrong : true ≡ false = sym stands ∙ out in cc)
    there out b alone (suc k) within stands = ap suc (alone k (omega arith) stands)

pub block-named : spec.BlockIsNamed
block-named blocks s names once =
    let at = found s 0 blocks once in
    (at.0, at.2, ap (name_of names) (at.1 ∙ ap Some (omega arith)))
