-- Records of blocks and of prices, as they are written one after the other.
use Rattle.std.proofs.Common.{◌≡◌, ℕ, ◌+◌, List, [], ◌∷◌, ◌++◌, length, get_or, map, Result, Ok, Err, sym, ap, subst, ◌∙◌, append_assoc}
use Rattle.std.proofs.Common.{arith}
use Rattle.std.specs.Prelude.{IsUtf8, IfOk, OnOk}
use Rattle.std.specs.List.{flat_map, range_with_len}
use Rattle.std.proofs.lemmas.Grind.{flat_map-append}
use Rattle.std.proofs.lemmas.List.{append-nil}
use Rattle.std.proofs.lemmas.List.Elements.{All-cons, All-nil}
use Rattle.std.proofs.lemmas.List.FromFn.{map-range_with_len_more}
use Rattle.std.proofs.lemmas.Str.{IsUtf8-append}
use Rattle.gtfs_tables.specs.Laws.{StaysText}
use Rattle.gtfs_tables.specs.Writing.{record_text, records_text}
use Rattle.deadhead_matrix.specs.Matrix.{MatrixView}
use Rattle.trip_model.specs.Timetable.{TimetableView}
use Rattle.block_build.specs.Files.{block_header, records_of_block, block_records, blocks_text, price_header, price_record, price_records}
use Rattle.block_build.specs.Files.{prices_text}
use Rattle.block_build.specs.Names.{block_name}
use Rattle.block_build.proofs.LinesWritten.{flat_map-range_more}

-- a record of three texts is text
three-text : (first second third : List ℕ) → StaysText → IsUtf8 first → IsUtf8 second → IsUtf8 third
    → IsUtf8 (record_text (first ∷ second ∷ third ∷ []))
three-text first second third law a b c =
    law (first ∷ second ∷ third ∷ [])
    (All-cons IsUtf8 first (second ∷ third ∷ []) a (All-cons IsUtf8 second (third ∷ []) b (All-cons IsUtf8 third [] c (All-nil IsUtf8))))

-- what is text stays so with a record of three texts
pub stays-text : {E : Type 0} (result : Result (Unit {0}) E) (before after first second third : List ℕ) → StaysText → IsUtf8 first
    → IsUtf8 second → IsUtf8 third
    → OnOk result (after ≡ before ++ record_text (first ∷ second ∷ third ∷ [])) → OnOk result (IsUtf8 before → IsUtf8 after)
stays-text (Ok x) before after first second third law a b c written =
    λ text. subst IsUtf8 (sym written)
    (IsUtf8-append before (record_text (first ∷ second ∷ third ∷ [])) text (three-text first second third law a b c))
stays-text (Err e) before after first second third law a b c written = tt

-- the text after the record of one more number
pub record-more : (f : ℕ → List (List ℕ)) (before now next : List ℕ) (n : ℕ)
    → now ≡ before ++ records_text (map f (range_with_len 0 n))
    → next ≡ now ++ record_text (f n)
    → next ≡ before ++ records_text (map f (range_with_len 0 (n + 1)))
record-more f before now next n so_far written =
    written ∙ ap (λ xs. xs ++ record_text (f n)) so_far
    ∙ append_assoc before (records_text (map f (range_with_len 0 n))) (record_text (f n))
    ∙ ap (λ xs. before ++ xs) (sym (ap records_text (map-range_with_len_more f 0 n n (omega arith))
    ∙ flat_map-append record_text (map f (range_with_len 0 n)) (f n ∷ [])
    ∙ ap (λ xs. records_text (map f (range_with_len 0 n)) ++ xs) (append-nil (record_text (f n)))))

-- the text after the records of one more number
pub records-more : (f : ℕ → List (List (List ℕ))) (before now next : List ℕ) (n : ℕ)
    → now ≡ before ++ records_text (flat_map f (range_with_len 0 n))
    → next ≡ now ++ records_text (f n)
    → next ≡ before ++ records_text (flat_map f (range_with_len 0 (n + 1)))
records-more f before now next n so_far written =
    written ∙ ap (λ xs. xs ++ records_text (f n)) so_far
    ∙ append_assoc before (records_text (flat_map f (range_with_len 0 n))) (records_text (f n))
    ∙ ap (λ xs. before ++ xs) (sym (ap records_text (flat_map-range_more f n)
    ∙ flat_map-append record_text (flat_map f (range_with_len 0 n)) (f n)))

-- the records of the block of a number, and the text of all blocks
abbrev pub records_numbered : TimetableView → MatrixView → List (List ℕ) → List (List ℕ) → ℕ → List (List (List ℕ))
records_numbered t matrix names blocks n = records_of_block t matrix (block_name names n) (get_or blocks n [])

pub blocks-written : (t : TimetableView) (matrix : MatrixView) (names blocks : List (List ℕ)) (now : List ℕ) (n : ℕ)
    → length blocks ≡ n
    → now ≡ record_text block_header ++ records_text (flat_map (records_numbered t matrix names blocks) (range_with_len 0 n))
    → now ≡ blocks_text t matrix names blocks
unfolding blocks_text block_records
blocks-written t matrix names blocks now n all so_far =
    so_far ∙ ap (λ m. record_text block_header
    ++ records_text (flat_map (records_numbered t matrix names blocks) (range_with_len 0 m))) (sym all)

-- the text of all prices
pub prices-written : (t : TimetableView) (leave enter now : List ℕ) (n : ℕ) → length t.slots ≡ n
    → now ≡ record_text price_header ++ records_text (flat_map (price_record t leave enter) (range_with_len 0 n))
    → now ≡ prices_text t leave enter
unfolding prices_text price_records
prices-written t leave enter now n all so_far =
    so_far ∙ ap (λ m. record_text price_header ++ records_text (flat_map (price_record t leave enter) (range_with_len 0 m))) (sym all)

-- what holds of a text holds of what is answered for it
pub if-text : {E : Type 0} (result : Result (List ℕ) E) (now wanted : List ℕ) → IfOk result (λ text. text ≡ now) → now ≡ wanted
    → IfOk result (λ text. text ≡ wanted)
if-text (Ok text) now wanted is same = is ∙ same
if-text (Err e) now wanted is same = tt
