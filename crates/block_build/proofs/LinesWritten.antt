-- Printed blocks, as they are written piece by piece.
use Rattle.std.proofs.Common.{◌≡◌, ℕ, zero, suc, ◌+◌, ◌-◌, ◌<◌, ◌≤◌, List, [], ◌∷◌, ◌++◌, length, get_or, Option, true, false, refl, sym}
use Rattle.std.proofs.Common.{ap, ◌∙◌, codes, append_assoc, arith}
use Rattle.std.specs.Fmt.{decimal}
use Rattle.std.specs.List.{flat_map, range_with_len}
use Rattle.std.proofs.lemmas.Grind.{flat_map-append}
use Rattle.std.proofs.lemmas.List.{append-nil, map-id}
use Rattle.std.proofs.lemmas.List.FromFn.{map-range_with_len_more}
use Rattle.trip_model.specs.Timetable.{TimetableView, slot_at}
use Rattle.deadhead_matrix.specs.Matrix.{MatrixView, walk}
use Rattle.block_build.specs.Lines.{walk_between, deadhead_text, joint, trip_text, trips_text, pull_out, pull_in, pull_out_text}
use Rattle.block_build.specs.Lines.{pull_in_text, block_line, block_text, price_line, price_text}
use Rattle.block_build.specs.Names.{block_name}

-- what is made of the numbers below one more
pub flat_map-range_more : {A : Type 0} (f : ℕ → List A) (n : ℕ)
    → flat_map f (range_with_len 0 (n + 1)) ≡ flat_map f (range_with_len 0 n) ++ f n
flat_map-range_more f n =
    ap (flat_map f) (sym (map-id (range_with_len 0 (n + 1))) ∙ map-range_with_len_more (λ x. x) 0 n n (omega arith)
    ∙ ap (λ xs. xs ++ n ∷ []) (map-id (range_with_len 0 n)))
    ∙ flat_map-append f (range_with_len 0 n) (n ∷ [])
    ∙ ap (λ xs. flat_map f (range_with_len 0 n) ++ xs) (append-nil (f n))

-- what stands before a trip that is not the first
pub joint-after : (t : TimetableView) (walk : ℕ → ℕ → Option ℕ) (block : List ℕ) (n : ℕ) → 0 < n
    → joint t walk block n ≡ codes "; " ++ deadhead_text (walk_between t walk (get_or block (n - 1) 0) (get_or block n 0))
joint-after t walk block zero h = absurd (omega arith)
joint-after t walk block (suc n) h =
    let before : n ≡ suc n - 1 = omega arith in
    ap (λ m. codes "; " ++ deadhead_text (walk_between t walk (get_or block m 0) (get_or block (suc n) 0))) before

pub joint-first : (t : TimetableView) (walk : ℕ → ℕ → Option ℕ) (block : List ℕ) (n : ℕ) → n ≤ 0 → joint t walk block n ≡ []
joint-first t walk block zero h = refl
joint-first t walk block (suc n) h = absurd (omega arith)

-- the text after one trip more
pub trips-more : (t : TimetableView) (walk : ℕ → ℕ → Option ℕ) (block : List ℕ) (before now next : List ℕ) (n : ℕ)
    → now ≡ before ++ flat_map (λ n. joint t walk block n ++ trip_text (slot_at t (get_or block n 0))) (range_with_len 0 n)
    → next ≡ now ++ (joint t walk block n ++ trip_text (slot_at t (get_or block n 0)))
    → next ≡ before ++ flat_map (λ n. joint t walk block n ++ trip_text (slot_at t (get_or block n 0))) (range_with_len 0 (n + 1))
trips-more t walk block before now next n so_far written =
    let piece : ℕ → List ℕ = λ n. joint t walk block n ++ trip_text (slot_at t (get_or block n 0)) in
    written ∙ ap (λ xs. xs ++ piece n) so_far ∙ append_assoc before (flat_map piece (range_with_len 0 n)) (piece n)
    ∙ ap (λ xs. before ++ xs) (sym (flat_map-range_more piece n))

pub trips-written : (t : TimetableView) (walk : ℕ → ℕ → Option ℕ) (block before now : List ℕ) (n : ℕ) → length block ≡ n
    → now ≡ before ++ flat_map (λ n. joint t walk block n ++ trip_text (slot_at t (get_or block n 0))) (range_with_len 0 n)
    → now ≡ before ++ trips_text t walk block
unfolding trips_text
trips-written t walk block before now n all so_far =
    so_far ∙ ap (λ m. before ++ flat_map (λ n. joint t walk block n ++ trip_text (slot_at t (get_or block n 0))) (range_with_len 0 m))
    (sym all)

-- the line of a block, written piece by piece
pub line-written : (t : TimetableView) (matrix : MatrixView) (margin name block before named out trips home next : List ℕ)
    → named ≡ before ++ (margin ++ (name ++ 58 ∷ 32 ∷ []))
    → out ≡ named ++ pull_out_text (pull_out t matrix.pulls block)
    → trips ≡ out ++ trips_text t (walk matrix) block
    → home ≡ trips ++ pull_in_text (pull_in t matrix.pulls block)
    → next ≡ home ++ 10 ∷ []
    → next ≡ before ++ block_line t matrix margin name block
unfolding block_line
line-written t matrix margin name block before named out trips home next begun out_of all home_from line =
    rw (line, home_from, all, out_of, begun) (simp append_assoc)

-- the text after the line of one block more
pub lines-more : (line_of : ℕ → List ℕ) (now next : List ℕ) (n : ℕ)
    → now ≡ flat_map line_of (range_with_len 0 n)
    → next ≡ now ++ line_of n
    → next ≡ flat_map line_of (range_with_len 0 (n + 1))
lines-more line_of now next n so_far line = line ∙ ap (λ xs. xs ++ line_of n) so_far ∙ sym (flat_map-range_more line_of n)

-- the line of the block of a number
abbrev pub line_numbered : TimetableView → MatrixView → List ℕ → List (List ℕ) → List (List ℕ) → ℕ → List ℕ
line_numbered t matrix margin names blocks n = block_line t matrix margin (block_name names n) (get_or blocks n [])

pub lines-written : (t : TimetableView) (matrix : MatrixView) (margin : List ℕ) (names blocks : List (List ℕ)) (now : List ℕ) (n : ℕ)
    → length blocks ≡ n
    → now ≡ flat_map (line_numbered t matrix margin names blocks) (range_with_len 0 n) → now ≡ block_text t matrix margin names blocks
unfolding block_text
lines-written t matrix margin names blocks now n all so_far =
    so_far ∙ ap (λ m. flat_map (line_numbered t matrix margin names blocks) (range_with_len 0 m)) (sym all)

pub prices-written : (t : TimetableView) (leave enter now : List ℕ) (n : ℕ) → length t.slots ≡ n
    → now ≡ flat_map (price_line t leave enter) (range_with_len 0 n) → now ≡ price_text t leave enter
unfolding price_text
prices-written t leave enter now n all so_far = so_far ∙ ap (λ m. flat_map (price_line t leave enter) (range_with_len 0 m)) (sym all)

pub price-none : (t : TimetableView) (leave enter : List ℕ) (s : ℕ) → (slot_at t s).trip.live ≡ false → price_line t leave enter s ≡ []
unfolding price_line
price-none t leave enter s dead = rw dead refl

pub price-one : (t : TimetableView) (leave enter : List ℕ) (s : ℕ) → (slot_at t s).trip.live ≡ true
    → price_line t leave enter s ≡ codes " price "
    ++ ((slot_at t s).name ++ (codes " " ++ (decimal (get_or leave s 0) ++ (codes " " ++ (decimal (get_or enter s 0) ++ 10 ∷ [])))))
unfolding price_line
price-one t leave enter s live = rw live (simp append_assoc)
