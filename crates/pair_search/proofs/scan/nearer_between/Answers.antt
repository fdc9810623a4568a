use Rattle.std.proofs.Common.{◌≡◌, ℕ, ◌<◌, ◌≤◌, false, Bool, List, length, Option, None, Some, refl, sym, arith}
use Rattle.std.specs.Prelude.{IfSome, IfNone}
use Rattle.pair_search.specs.Groups.{IsNearer}
use Rattle.pair_search.specs.Search.{at, is_done}
use Rattle.pair_search.specs.declared.limits.TheConstants.{FAR}
use Rattle.pair_search.specs.declared.scan.Nearby.{Nearby}

-- no column between two places is nearer than the one that was found there
none-nearer : (column : Option ℕ) (near first upto : ℕ) (done : List Bool) (dist : List ℕ)
    → IfSome column (λ j. near ≡ at dist j) → IfNone column (near ≡ FAR)
    → IfSome column (λ j. (h : ℕ) → first ≤ h → h < upto → is_done done h ≡ false → at dist j ≤ at dist h)
    → IfNone column ((h : ℕ) → first ≤ h → h < upto → is_done done h ≡ false → FAR ≤ at dist h)
    → (h : ℕ) → first ≤ h → h < upto → is_done done h ≡ false → near ≤ at dist h
none-nearer None near first upto done dist far past least none h from to undone = omega (arith, past, none h from to undone)
none-nearer (Some j) near first upto done dist far past least none h from to undone = omega (arith, far, least h from to undone)

-- one that is nearer than another, which is not far, is a column
is-nearer : (column : Option ℕ) (near from : ℕ) (done : List Bool) (dist : List ℕ) (best : Nearby)
    → IfSome column (λ j. near ≡ at dist j) → IfNone column (near ≡ FAR)
    → IfSome column (λ j. (j < length dist) × (is_done done j ≡ false) × (at dist j < FAR))
    → IfSome column (λ j. (h : ℕ) → from ≤ h → h < j → is_done done h ≡ false → at dist j < at dist h)
    → near < best.distance → best.distance ≤ FAR
    → IsNearer from done dist best (record { column = column; distance = near })
is-nearer None near from done dist best far past some first less low = absurd (omega (arith, past, less, low))
is-nearer (Some j) near from done dist best far past some first less low = record {
  column = j;
  is = refl;
  within = some.0;
  undone = some.1;
  far = sym far;
  nearer = less;
  first = λ h after before undone. omega (arith, far, first h after before undone);
}
