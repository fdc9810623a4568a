-- A file put under one name leaves the files under the others.
use Rattle.std.proofs.Common.{◌≡◌, ◌≢◌, ℕ, List, Some, cond, false, ap, ◌∙◌}
use Rattle.std.proofs.lemmas.Bool.{false_from_ne_true}
use Rattle.std.specs.FinMap.{get, insert, get-insert}
use Rattle.std.specs.Cmp.Lexicographic.{slice_cmp, nat_list_cmp_total}
use Rattle.std.specs.Ordering.{nat_cmp, eq_by_cmp}
use Rattle.std.specs.Option.{unwrap_or}
use Rattle.std.proofs.lemmas.Map.Text.{is_eq-slice_cmp}
use Rattle.std.proofs.lemmas.Slice.Eq.{bytes_eq-Decides}
use Rattle.desk_io.specs.Shelf.{Files, OthersStay}

-- two names that differ do not tie
names-apart : (name other : List ℕ) → other ≢ name → eq_by_cmp (slice_cmp nat_cmp) other name ≡ false
names-apart name other apart = is_eq-slice_cmp other name ∙ false_from_ne_true _ (λ same. apart ((bytes_eq-Decides other name).0 same))

pub others_stay : (name bytes : List ℕ) (files now : Files) → Some now ≡ Some (insert files name bytes)
    → OthersStay name (Some files) (Some now)
others_stay name bytes files now is = λ other apart.
    ap (λ found. get (unwrap_or found files) other) is ∙ get-insert nat_list_cmp_total files name bytes other
    ∙ ap (λ b. cond b (Some bytes) (get files other)) (names-apart name other apart)
