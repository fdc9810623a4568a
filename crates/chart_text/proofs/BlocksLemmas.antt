-- The marks of blocks: when a span of minutes meets a column, and the links of a block.
use Rattle.std.proofs.Common.{◌≡◌, ℕ, ◌+◌, ◌-◌, ◌*◌, ◌<◌, ◌≤◌, min, max, Bool, true, false, ◌&&◌, ◌||◌, nat_le, nat_lt, List, [], ◌∷◌}
use Rattle.std.proofs.Common.{◌++◌, map, Option, append_assoc, length, get_or, take, drop, sym, ap, ◌∙◌, ⊎_elim, arith}
use Rattle.std.specs.List.{range_with_len, list_any, flat_map, enumerate_from}
use Rattle.std.proofs.lemmas.Bool.{cases_lt, le-leb, lt-leb, lt-ltb, le-ltb, and_left, and_right}
use Rattle.std.proofs.lemmas.Grind.{get_or_after_one}
use Rattle.std.proofs.lemmas.List.{length-drop, take_all}
use Rattle.std.proofs.lemmas.List.Folds.{list_any_none, list_any_at, list_any_more}
use Rattle.std.proofs.lemmas.List.FromFn.{length-range_with_len, get_or-range_with_len}
use Rattle.std.proofs.lemmas.Slice.Zip.{length-zip, get_or-zip}
use Rattle.trip_model.specs.Deficit.{live_moves}
use Rattle.trip_model.specs.Timetable.{TimetableView}
use Rattle.block_build.specs.Names.{block_name}
use Rattle.chart_text.specs.Columns.{columns_of, minutes_of}
use Rattle.chart_text.specs.Blocks.{has_minute, links, block_mark, block_line, block_chart_text}
use Rattle.chart_text.proofs.ColumnsLemmas.{text-more}

-- the minute t is at or after `from` and before `to`
abbrev is_within : ℕ → ℕ → ℕ → Bool
is_within from to t = nat_le from t && nat_lt t to

is_within-yes : (from to t : ℕ) → from ≤ t → t < to → is_within from to t ≡ true
is_within-yes from to t a b = λ i. le-leb from t a i && lt-ltb t to b i

-- a span and a range have a minute in common where the later begin is before the earlier end
list_any-range : (from to first n : ℕ)
    → list_any (is_within from to) (range_with_len first n) ≡ nat_lt (max from first) (min to (first + n))
list_any-range from to first n =
    ⊎_elim
    (λ (some : max from first < min to (first + n)).
    let k = max from first - first in
    let there : k < n = omega arith in
    let len = length-range_with_len first n in
    let minute = get_or-range_with_len first n k 0 there in
    list_any_at (is_within from to) (range_with_len first n) k 0 (omega arith) (is_within-yes from to _ (omega arith) (omega arith))
    ∙ sym (lt-ltb _ _ some))
    (λ (none : min to (first + n) ≤ max from first).
    list_any_none (is_within from to) (range_with_len first n) (λ k d h.
    let len = length-range_with_len first n in
    let minute = get_or-range_with_len first n k d (omega arith) in
    let t = get_or (range_with_len first n) k d in
    ⊎_elim (λ (early : t < from). and_left (nat_le from t) (nat_lt t to) (lt-leb from t early))
    (λ (late : from ≤ t). and_right (nat_le from t) (nat_lt t to) (le-ltb t to (omega arith)))
    (cases_lt t from)) ∙ sym (le-ltb _ _ none))
    (cases_lt (max from first) (min to (first + n)))

-- and so with the minutes of a column
pub has_minute-is : (column from to n : ℕ) → n ≡ 10 → has_minute column from to ≡ nat_lt (max from (10 * column)) (min to (10 * column + n))
unfolding has_minute minutes_of
has_minute-is column from to n ten = ap (λ m. list_any (is_within from to) (range_with_len (10 * column) m)) (sym ten)
    ∙ list_any-range from to (10 * column) n

length-links : (block : List ℕ) → length (links block) ≡ length block - 1
length-links block = let zipped = length-zip block (drop 1 block) in let dropped = length-drop 1 block in omega arith

-- the link that ends at an index of the block
link_at : (block : List ℕ) (k next : ℕ) → k + 1 ≡ next → next < length block
    → get_or (links block) k (0, 0) ≡ (get_or block k 0, get_or block next 0)
link_at block k next at h =
    let dropped = length-drop 1 block in
    let e : 1 + k ≡ next = omega arith in
    get_or-zip block (drop 1 block) k (0, 0) (omega arith) (omega arith)
    ∙ (λ i. (get_or block k 0, (get_or_after_one block k 0 ∙ ap (λ n. get_or block n 0) e) i))

-- a test of the links of a block: it passes where that of one link passes
pub links-pass : (p : ℕ × ℕ → Bool) (block : List ℕ) (k next : ℕ) → k + 1 ≡ next → next < length block
    → p (get_or block k 0, get_or block next 0) ≡ true → list_any p (links block) ≡ true
links-pass p block k next at h passes =
    list_any_at p (links block) k (0, 0) (omega (arith, length-links block)) (ap p (link_at block k next at h) ∙ passes)

-- it fails up to one link more where that link fails
pub links-fail_more : (p : ℕ × ℕ → Bool) (block : List ℕ) (k next : ℕ) → k + 1 ≡ next → next < length block
    → list_any p (take k (links block)) ≡ false
    → p (get_or block k 0, get_or block next 0) ≡ false → list_any p (take (k + 1) (links block)) ≡ false
links-fail_more p block k next at h before fails =
    list_any_more p (links block) k (0, 0) (omega (arith, length-links block))
    ∙ (λ i. before i || (ap p (link_at block k next at h) ∙ fails) i)

-- and altogether where it fails up to the last link
pub links-fail : (p : ℕ × ℕ → Bool) (block : List ℕ) (k : ℕ) → length block ≤ k + 1 → list_any p (take k (links block)) ≡ false
    → list_any p (links block) ≡ false
links-fail p block k all before = sym (ap (list_any p) (take_all k (links block) (omega (arith, length-links block)))) ∙ before

-- the text after the line of one block
pub block-written : (timetable : TimetableView) (walk : ℕ → ℕ → Option ℕ) (columns name block before marks next : List ℕ)
    → marks ≡ before ++ map (block_mark timetable walk block) columns
    → next ≡ marks ++ 32 ∷ (name ++ 10 ∷ [])
    → next ≡ before ++ block_line timetable walk columns name block
unfolding block_line
block-written timetable walk columns name block before marks next drawn written =
    written ∙ (λ i. drawn i ++ 32 ∷ (name ++ 10 ∷ [])) ∙ simp append_assoc

-- the line of a block with its number
abbrev pub line_numbered : TimetableView → (ℕ → ℕ → Option ℕ) → List ℕ → List (List ℕ) → ℕ × List ℕ → List ℕ
line_numbered timetable walk columns names block = block_line timetable walk columns (block_name names block.0) block.1

-- the text after the line of one block more, where `read` are the columns and `block` the slots that are drawn
pub block-more : (timetable : TimetableView) (walk : ℕ → ℕ → Option ℕ) (columns read : List ℕ) (names blocks : List (List ℕ)) (number : ℕ)
    (block start text next : List ℕ)
    → number < length blocks → read ≡ columns → block ≡ get_or blocks number []
    → text ≡ start ++ flat_map (line_numbered timetable walk columns names) (enumerate_from 0 (take number blocks))
    → next ≡ text ++ block_line timetable walk read (block_name names number) block
    → next ≡ start ++ flat_map (line_numbered timetable walk columns names) (enumerate_from 0 (take (number + 1) blocks))
block-more timetable walk columns read names blocks number block start text next there same is so_far drawn =
    text-more (line_numbered timetable walk columns names) 0 blocks number number [] start text next there
    (omega arith) so_far
    (drawn ∙ (λ i. text ++ block_line timetable walk (same i) (block_name names number) (is i)))

-- the whole chart, once the lines of all blocks are written
pub blocks-written : (timetable : TimetableView) (walk : ℕ → ℕ → Option ℕ) (columns : List ℕ) (names blocks : List (List ℕ)) (k : ℕ)
    (start text : List ℕ) → columns ≡ columns_of (live_moves timetable.slots)
    → length blocks ≤ k → start ≡ []
    → text ≡ start ++ flat_map (line_numbered timetable walk columns names) (enumerate_from 0 (take k blocks))
    → text ≡ block_chart_text timetable walk names blocks
unfolding block_chart_text
blocks-written timetable walk columns names blocks k start text list all none so_far =
    so_far ∙ (λ i. none i ++ flat_map (line_numbered timetable walk (list i) names)
    (enumerate_from 0 (take_all k blocks all i)))
