-- Records of legs, as they are written one after the other.
use Rattle.std.proofs.Common.{◌≡◌, ℕ, List, [], ◌∷◌, ◌++◌, length, get_or, Result, Ok, Err, sym, ap, subst, ◌∙◌}
use Rattle.std.specs.Prelude.{All, IsUtf8, OnOk}
use Rattle.std.specs.List.{flat_map, range_with_len}
use Rattle.std.proofs.lemmas.List.Elements.{All-cons, All-nil}
use Rattle.std.proofs.lemmas.Str.{IsUtf8-append}
use Rattle.gtfs_tables.specs.Laws.{StaysText}
use Rattle.gtfs_tables.specs.Writing.{record_text, records_text}
use Rattle.trip_model.specs.Timetable.{TimetableView}
use Rattle.deadhead_matrix.specs.Matrix.{MatrixView}
use Rattle.block_build.specs.Names.{block_name}
use Rattle.joined_deficits.specs.Boards.{board_header, board_of_block, board_records, boards_text}

-- what is text stays so with a record of texts
pub stays-text : {E : Type 0} (result : Result (Unit {0}) E) (before after : List ℕ) (fields : List (List ℕ)) → StaysText
    → All IsUtf8 fields
    → OnOk result (after ≡ before ++ record_text fields) → OnOk result (IsUtf8 before → IsUtf8 after)
stays-text (Ok x) before after fields law texts written =
    λ text. subst IsUtf8 (sym written) (IsUtf8-append before (record_text fields) text (law fields texts))
stays-text (Err e) before after fields law texts written = tt

-- seven texts
pub seven-texts : (a b c d e f g : List ℕ) → IsUtf8 a → IsUtf8 b → IsUtf8 c → IsUtf8 d → IsUtf8 e → IsUtf8 f → IsUtf8 g
    → All IsUtf8 (a ∷ b ∷ c ∷ d ∷ e ∷ f ∷ g ∷ [])
seven-texts a b c d e f g at bt ct dt et ft gt =
    All-cons IsUtf8 a (b ∷ c ∷ d ∷ e ∷ f ∷ g ∷ []) at
    (All-cons IsUtf8 b (c ∷ d ∷ e ∷ f ∷ g ∷ []) bt
    (All-cons IsUtf8 c (d ∷ e ∷ f ∷ g ∷ []) ct
    (All-cons IsUtf8 d (e ∷ f ∷ g ∷ []) dt
    (All-cons IsUtf8 e (f ∷ g ∷ []) et
    (All-cons IsUtf8 f (g ∷ []) ft
    (All-cons IsUtf8 g [] gt (All-nil IsUtf8)))))))

-- the records of the block of a number, and the text of all blocks
abbrev pub board_numbered : TimetableView → MatrixView → List (List ℕ) → List (List ℕ) → ℕ → List (List (List ℕ))
board_numbered t matrix names blocks n = board_of_block t matrix (block_name names n) (get_or blocks n [])

pub boards-written : (t : TimetableView) (matrix : MatrixView) (names blocks : List (List ℕ)) (now : List ℕ) (n : ℕ)
    → length blocks ≡ n
    → now ≡ record_text board_header ++ records_text (flat_map (board_numbered t matrix names blocks) (range_with_len 0 n))
    → now ≡ boards_text t matrix names blocks
unfolding boards_text board_records
boards-written t matrix names blocks now n all so_far =
    so_far ∙ ap (λ m. record_text board_header
    ++ records_text (flat_map (board_numbered t matrix names blocks) (range_with_len 0 m))) (sym all)
