-- What a matrix of entries and rows of minutes is seen as.
use Rattle.std.proofs.Common.{◌≡◌, ℕ, ◌<◌, List, [], ◌∷◌, length, map, get_or, Option, None, Some}
use Rattle.std.proofs.Common.{if◌then◌else◌, refl, sym, ap, subst, ◌∙◌, arith}
use Rattle.std.specs.List.{range_with_len}
use Rattle.std.specs.Prelude.{replicate}
use Rattle.std.proofs.lemmas.Bool.{eq-eqb, ne_eqb}
use Rattle.std.proofs.lemmas.List.{get_or-map, length-map, ext_get_or}
use Rattle.std.proofs.lemmas.List.Elements.{All-map}
use Rattle.std.proofs.lemmas.List.FromFn.{get_or-map-range_with_len, length-map-range_with_len}
use Rattle.pair_rules.specs.Rules.{PairRule}
use Rattle.deadhead_matrix.specs.declared.entry.Entry.{Entry}
use Rattle.deadhead_matrix.specs.declared.pulls.Pull.{Pull}
use Rattle.deadhead_matrix.specs.declared.pulls.TheConstants.{NO_PULL}
use Rattle.deadhead_matrix.specs.Walks.{IsWalk, walk_minutes, IsLeastWalk}
use Rattle.deadhead_matrix.specs.Rows.{far, found_at, walks_in, AreLeastRows}
use Rattle.deadhead_matrix.specs.Matrix.{MatrixView, walk, standing, empty_matrix, matrix_from, AreLeastWalks, IsSquare}

-- as many walks as rows
pub length-walks : (entries : List Entry) (rows : List (List ℕ)) (pulls : List Pull) (rules : List PairRule)
    → length (matrix_from entries rows pulls rules).walks ≡ length rows
length-walks entries rows pulls rules = length-map rows _

pub walk-from : (entries : List Entry) (rows : List (List ℕ)) (pulls : List Pull) (rules : List PairRule) (a b : ℕ) → a < length rows
    → b < length rows → walk (matrix_from entries rows pulls rules) a b ≡ found_at (get_or rows a []) b
walk-from entries rows pulls rules a b a_in b_in =
    ap (λ row. get_or row b None) (get_or-map (λ row. walks_in row (length rows)) rows a [] [] a_in)
    ∙ get_or-map-range_with_len (found_at (get_or rows a [])) 0 (length rows) b b None b_in (omega arith)

pub AreLeastWalks-from : (entries : List Entry) (rows : List (List ℕ)) (pulls : List Pull) (rules : List PairRule)
    → AreLeastRows entries rows → AreLeastWalks (matrix_from entries rows pulls rules)
AreLeastWalks-from entries rows pulls rules are = λ a b a_in b_in.
    let a_row : a < length rows = omega (arith, a_in, length-walks entries rows pulls rules) in
    let b_row : b < length rows = omega (arith, b_in, length-walks entries rows pulls rules) in
    subst (λ m. IsLeastWalk entries a b m) (sym (walk-from entries rows pulls rules a b a_row b_row)) (are.least a b a_row)

-- a walk of no entries goes nowhere
nowhere : (es : List Entry) (a b : ℕ) → IsWalk [] a es b → (a ≡ b) × (walk_minutes es ≡ 0)
nowhere [] a b is = (is, refl)
nowhere (e ∷ es) a b is = absurd (let within = is.0.1 in omega (arith, within))

-- without entries a least walk stands still
least-standing : (a b : ℕ) (found : Option ℕ) → IsLeastWalk [] a b found → found ≡ standing a b
least-standing a b None none = sym (ap (λ t. if t then Some 0 else None) (ne_eqb a b (λ same. none [] same)))
least-standing a b (Some m) is =
    let walk = nowhere is.reached.0 a b is.reached.1 in
    ap Some (sym is.reached.2 ∙ walk.1) ∙ sym (ap (λ t. if t then Some 0 else None) (eq-eqb a b walk.0))

row-standing : (rows : List (List ℕ)) → AreLeastRows [] rows → (a : ℕ) → a < length rows
    → map (found_at (get_or rows a [])) (range_with_len 0 (length rows)) ≡ map (standing a) (range_with_len 0 (length rows))
row-standing rows are a a_in =
    let n = length rows in
    let far = found_at (get_or rows a []) in
    let len = length-map-range_with_len far 0 n in
    ext_get_or None (map far (range_with_len 0 n)) (map (standing a) (range_with_len 0 n))
    (len ∙ sym (length-map-range_with_len (standing a) 0 n))
    (λ b b_in. let within : b < n = omega (arith, b_in, len) in
    get_or-map-range_with_len far 0 n b b None within (omega arith)
    ∙ least-standing a b (far b) (are.least a b a_in)
    ∙ sym (get_or-map-range_with_len (standing a) 0 n b b None within (omega arith)))

walks-standing : (rows : List (List ℕ)) (pulls : List Pull) (rules : List PairRule) → AreLeastRows [] rows
    → (matrix_from [] rows pulls rules).walks ≡ (empty_matrix (length rows)).walks
walks-standing rows pulls rules are =
    let n = length rows in
    let len = length-walks [] rows pulls rules in
    ext_get_or [] (matrix_from [] rows pulls rules).walks (empty_matrix n).walks
    (len ∙ sym (length-map-range_with_len (λ a. map (standing a) (range_with_len 0 n)) 0 n))
    (λ a a_in. let within : a < n = omega (arith, a_in, len) in
    get_or-map (λ row. walks_in row n) rows a [] [] within
    ∙ row-standing rows are a within
    ∙ sym (get_or-map-range_with_len (λ a. map (standing a) (range_with_len 0 n)) 0 n a a [] within (omega arith)))

-- without entries and pulls the matrix is the empty one
pub matrix-standing : (entries : List Entry) (rows : List (List ℕ)) (pulls : List Pull) (rules : List PairRule)
    → AreLeastRows entries rows → entries ≡ []
    → pulls ≡ replicate (length rows) NO_PULL → rules ≡ []
    → matrix_from entries rows pulls rules ≡ empty_matrix (length rows)
matrix-standing entries rows pulls rules are none zero free =
    let walks = walks-standing rows pulls rules (subst (λ (es : List Entry). AreLeastRows es rows) none are) in
    (λ i. record { entries = none i; walks = walks i; pulls = zero i; rules = free i })

-- each row of walks has as many places as there are rows
pub IsSquare-from : (entries : List Entry) (rows : List (List ℕ)) (pulls : List Pull) (rules : List PairRule)
    → IsSquare (matrix_from entries rows pulls rules)
IsSquare-from entries rows pulls rules =
    All-map (λ walks. length walks ≡ length (matrix_from entries rows pulls rules).walks) (λ row. walks_in row (length rows)) rows
    (λ a row a_in. length-map-range_with_len (found_at (get_or rows a row)) 0 (length rows) ∙ sym (length-walks entries rows pulls rules))

-- a least walk takes one number of minutes
one-walk : (entries : List Entry) (a b : ℕ) (one other : Option ℕ) → IsLeastWalk entries a b one → IsLeastWalk entries a b other
    → one ≡ other
one-walk entries a b None None none none' = refl
one-walk entries a b None (Some m) none least = absurd (none least.reached.0 least.reached.1)
one-walk entries a b (Some m) None least none = absurd (none least.reached.0 least.reached.1)
one-walk entries a b (Some m) (Some n) least least' =
    let below = least.least least'.reached.0 least'.reached.1 in
    let above = least'.least least.reached.0 least.reached.1 in
    ap Some (omega (arith, below, above, least.reached.2, least'.reached.2))

-- so matrices of the same entries, the same pulls and as many places are equal
pub one-matrix : (one other : MatrixView) → one.entries ≡ other.entries → one.pulls ≡ other.pulls → one.rules ≡ other.rules
    → length one.walks ≡ length other.walks → IsSquare one → IsSquare other → AreLeastWalks one → AreLeastWalks other → one ≡ other
one-matrix one other entries pulls rules count square square' least least' =
    let width : (a : ℕ) → a < length one.walks → length (get_or one.walks a []) ≡ length one.walks = λ a h. square a [] h in
    let width' : (a : ℕ) → a < length one.walks
    → length (get_or other.walks a []) ≡ length one.walks = λ a h. square' a [] (omega (arith, h, count)) ∙ sym count in
    let rows : one.walks ≡ other.walks =
    ext_get_or [] one.walks other.walks count
    (λ a a_in. ext_get_or None (get_or one.walks a []) (get_or other.walks a []) (width a a_in ∙ sym (width' a a_in))
    (λ b b_in. let b_one : b < length one.walks = omega (arith, b_in, width a a_in) in
    one-walk one.entries a b (walk one a b) (walk other a b) (least a b a_in b_one)
    (subst (λ (es : List Entry). IsLeastWalk es a b (walk other a b)) (sym entries)
    (least' a b (omega (arith, a_in, count)) (omega (arith, b_one, count)))))) in
    λ i. record { entries = entries i; walks = rows i; pulls = pulls i; rules = rules i }
