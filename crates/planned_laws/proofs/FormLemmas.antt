-- Each line that a script reads is in form.
use Rattle.std.proofs.Common.{◌≡◌, ℕ, ◌+◌, ◌*◌, ◌<◌, ◌≤◌, ◌==◌, ◌&&◌, true, List, [], ◌∷◌, length, Option, Some, None}
use Rattle.std.proofs.Common.{get_or, option_map, ℤ, pos, neg_ℤ, arith}
use Rattle.std.specs.Prelude.{IfOk, IfSome, codes, nat_le, nat_lt, unsigned_abs}
use Rattle.std.specs.Str.{bytes_eq, is_utf8}
use Rattle.std.proofs.lemmas.Bool.{and_parts, eqb-false, leb-true, ltb-true}
use Rattle.std.proofs.lemmas.Int.{ints}
use Rattle.std.proofs.lemmas.List.{length-map}
use Rattle.std.proofs.lemmas.List.Elements.{All-map}
use Rattle.desk_io.specs.declared.shelf.Found.{Found}
use Rattle.gtfs_tables.specs.Numbers.{digits_number}
use Rattle.gtfs_tables.specs.Reading.{field_at}
use Rattle.gtfs_tables.specs.Records.{records}
use Rattle.gtfs_tables.specs.Spaces.{without_spaces}
use Rattle.gtfs_tables.specs.Times.{full_minute, full_time, is_pair, minute_of, pair_value, seconds_of}
use Rattle.gtfs_tables.specs.declared.fault.FeedFault.TheVariants.{TooManyRecords}
use Rattle.gtfs_tables.specs.declared.paper.Paper.TheVariants as paper
use Rattle.gtfs_tables.specs.declared.paper.TheConstants.{MOST_RECORDS}
use Rattle.desk_feed.specs.Feed.{lines_by}
use Rattle.desk_feed.specs.Script.{IsScript}
use Rattle.edit_script.specs.Edits.{InForm, IsLineInForm}
use Rattle.edit_script.specs.Forms.{bare_edit, edit_by, edit_of, extra_edit, filled, line_by, line_of, minute_in, minutes, name_in}
use Rattle.edit_script.specs.Forms.{named_edit, script_of, shift_edit, shift_in, shiftable, signed, text_in, trip_edit}
use Rattle.edit_script.specs.declared.edit.Edit.{Edit}
use Rattle.edit_script.specs.declared.edit.Edit.TheVariants.{Shift, Cancel, Restore, Extra, Undo, Redo, Show}
use Rattle.edit_script.specs.declared.edit.TheConstants.{MOST_SHIFT}
use Rattle.planned_laws.proofs.ReadLemmas.{optional-is, read-provided, some-by, some-made, some-next, some-then}

-- the value of two digits
pair-few : (most tens ones : ℕ) → is_pair most tens ones ≡ true → (tens ≤ most) × (ones ≤ 57)
pair-few most tens ones is =
    let last = and_parts (nat_le 48 tens && nat_le tens most && nat_le 48 ones) (nat_le ones 57) is in
    let more = and_parts (nat_le 48 tens && nat_le tens most) (nat_le 48 ones) last.0 in
    let first = and_parts (nat_le 48 tens) (nat_le tens most) more.0 in
    (leb-true tens most first.1, leb-true ones 57 last.1)

pair-hours : (tens ones : ℕ) → is_pair 57 tens ones ≡ true → pair_value tens ones ≤ 99
pair-hours tens ones is = let few = pair-few 57 tens ones is in omega (arith, few.0, few.1)

pair-minutes : (tens ones : ℕ) → is_pair 53 tens ones ≡ true → pair_value tens ones ≤ 59
pair-minutes tens ones is = let few = pair-few 53 tens ones is in omega (arith, few.0, few.1)

-- a minute is at most 99:59
full_minute-few : (text : List ℕ) → IfSome (full_minute text) (λ m. m ≤ 5999)
full_minute-few (h ∷ i ∷ colon ∷ m ∷ n ∷ []) =
    some-by (λ m. m ≤ 5999) (is_pair 57 h i && (colon == 58) && is_pair 53 m n) (Some (60 * pair_value h i + pair_value m n)) None
    (λ is.
    let last = and_parts (is_pair 57 h i && (colon == 58)) (is_pair 53 m n) is in
    let first = and_parts (is_pair 57 h i) (colon == 58) last.0 in
    let hours = pair-hours h i first.0 in
    let rest = pair-minutes m n last.1 in
    omega (arith, hours, rest)) (λ _. tt)
full_minute-few [] = tt
full_minute-few (a ∷ []) = tt
full_minute-few (a ∷ b ∷ []) = tt
full_minute-few (a ∷ b ∷ c ∷ []) = tt
full_minute-few (a ∷ b ∷ c ∷ d ∷ []) = tt
full_minute-few (a ∷ b ∷ c ∷ d ∷ e ∷ f ∷ rest) = tt

pub minute_of-few : (text : List ℕ) → IfSome (minute_of text) (λ m. m ≤ 5999)
minute_of-few text =
    let form = without_spaces text in
    some-by (λ m. m ≤ 5999) (length form == 4) (full_minute (48 ∷ form)) (full_minute form) (λ _. full_minute-few (48 ∷ form))
    (λ _. full_minute-few form)

-- a time is at most 99:59:59
full_time-few : (text : List ℕ) → IfSome (full_time text) (λ s. s ≤ 359999)
full_time-few (h ∷ i ∷ colon ∷ m ∷ n ∷ other ∷ s ∷ t ∷ []) =
    some-by (λ s. s ≤ 359999) (is_pair 57 h i && (colon == 58) && is_pair 53 m n && (other == 58) && is_pair 53 s t)
    (Some (3600 * pair_value h i + 60 * pair_value m n + pair_value s t)) None
    (λ is.
    let last = and_parts (is_pair 57 h i && (colon == 58) && is_pair 53 m n && (other == 58)) (is_pair 53 s t) is in
    let most = and_parts (is_pair 57 h i && (colon == 58) && is_pair 53 m n) (other == 58) last.0 in
    let more = and_parts (is_pair 57 h i && (colon == 58)) (is_pair 53 m n) most.0 in
    let first = and_parts (is_pair 57 h i) (colon == 58) more.0 in
    let hours = pair-hours h i first.0 in
    let between = pair-minutes m n more.1 in
    let rest = pair-minutes s t last.1 in
    omega (arith, hours, between, rest)) (λ _. tt)
full_time-few [] = tt
full_time-few (a ∷ []) = tt
full_time-few (a ∷ b ∷ []) = tt
full_time-few (a ∷ b ∷ c ∷ []) = tt
full_time-few (a ∷ b ∷ c ∷ d ∷ []) = tt
full_time-few (a ∷ b ∷ c ∷ d ∷ e ∷ []) = tt
full_time-few (a ∷ b ∷ c ∷ d ∷ e ∷ f ∷ []) = tt
full_time-few (a ∷ b ∷ c ∷ d ∷ e ∷ f ∷ g ∷ []) = tt
full_time-few (a ∷ b ∷ c ∷ d ∷ e ∷ f ∷ g ∷ h ∷ i ∷ rest) = tt

pub seconds_of-few : (text : List ℕ) → IfSome (seconds_of text) (λ s. s ≤ 359999)
seconds_of-few text =
    let form = without_spaces text in
    some-by (λ s. s ≤ 359999) (length form == 7) (full_time (48 ∷ form)) (full_time form) (λ _. full_time-few (48 ∷ form))
    (λ _. full_time-few form)

-- a name that is read is not empty
name-filled : (field : List ℕ) → IfSome (name_in field) (λ name. 0 < length name)
name-filled field =
    some-by (λ name. 0 < length name) (length field == 0) None (text_in field) (λ _. tt)
    (λ filled. some-by (λ name. 0 < length name) (is_utf8 field) (Some field) None
    (λ _. positive (length field) (eqb-false (length field) 0 filled)) (λ _. tt))
  where
    positive : (n : ℕ) → (n ≡ 0 → ⊥) → 0 < n
    positive n some = omega (arith, some)

-- by so many minutes a trip may be shifted
shiftable-is : (value : Option ℕ) → IfSome (shiftable value) (λ n. (0 < n) × (n ≤ MOST_SHIFT))
shiftable-is None = tt
shiftable-is (Some n) =
    some-by (λ n. (0 < n) × (n ≤ MOST_SHIFT)) (nat_lt 0 n && nat_le n MOST_SHIFT) (Some n) None
    (λ is. let parts = and_parts (nat_lt 0 n) (nat_le n MOST_SHIFT) is in (ltb-true 0 n parts.0, leb-true n MOST_SHIFT parts.1))
    (λ _. tt)

signed-is : (text : List ℕ) → IfSome (signed text) (λ by. (0 < unsigned_abs by) × (unsigned_abs by ≤ MOST_SHIFT))
signed-is [] = tt
signed-is (byte ∷ digits) =
    let P : ℤ → Type 0 = λ by. (0 < unsigned_abs by) × (unsigned_abs by ≤ MOST_SHIFT) in
    let Q : ℕ → Type 0 = λ n. (0 < n) × (n ≤ MOST_SHIFT) in
    some-by P (byte == 45) (option_map (λ n. neg_ℤ (pos n)) (minutes digits)) _
    (λ _. some-made Q P (λ n. neg_ℤ (pos n)) (minutes digits) (shiftable-is (digits_number 3 digits))
    (λ n is. (omega (arith, ints, is.0), omega (arith, ints, is.1))))
    (λ _. some-by P (byte == 43) (option_map pos (minutes digits)) (option_map pos (minutes (byte ∷ digits)))
    (λ _. some-made Q P pos (minutes digits) (shiftable-is (digits_number 3 digits)) (λ n is. is))
    (λ _. some-made Q P pos (minutes (byte ∷ digits)) (shiftable-is (digits_number 3 (byte ∷ digits))) (λ n is. is)))

bare-form : (word : List ℕ) → IfSome (bare_edit word) InForm
bare-form word =
    some-by InForm (bytes_eq word (codes "undo")) (Some Undo) _ (λ _. tt)
    (λ _. some-by InForm (bytes_eq word (codes "redo")) (Some Redo) _ (λ _. tt)
    (λ _. some-by InForm (bytes_eq word (codes "show")) (Some Show) None (λ _. tt) (λ _. tt)))

named-form : (word trip : List ℕ) → 0 < length trip → IfSome (named_edit word trip) InForm
named-form word trip filled =
    some-by InForm (bytes_eq word (codes "cancel")) (Some (Cancel trip)) _ (λ _. filled)
    (λ _. some-by InForm (bytes_eq word (codes "restore")) (Some (Restore trip)) None (λ _. filled) (λ _. tt))

shift-form : (trip by : List ℕ) → IfSome (shift_edit trip by) InForm
shift-form trip by =
    some-next (λ name. 0 < length name) InForm (λ trip. option_map (Shift trip) (shift_in by)) (name_in trip) (name-filled trip)
    (λ name filled. some-made (λ by. (0 < unsigned_abs by) × (unsigned_abs by ≤ MOST_SHIFT)) InForm (Shift name) (shift_in by)
    (signed-is (without_spaces by)) (λ by is. (filled, is.0, is.1)))

minute-few : (field : List ℕ) → IfSome (minute_in field) (λ m. m ≤ 5999)
minute-few field = some-then (λ m. m ≤ 5999) minute_of (text_in field) minute_of-few

extra-form : (row : List (List ℕ)) → IfSome (extra_edit row) InForm
extra-form row =
    some-next (λ name. 0 < length name) InForm _ (name_in (field_at row 1)) (name-filled (field_at row 1))
    (λ trip filled. some-then InForm _ (text_in (field_at row 2))
    (λ from. some-then InForm _ (text_in (field_at row 3))
    (λ to. some-next (λ m. m ≤ 5999) InForm _ (minute_in (field_at row 4)) (minute-few (field_at row 4))
    (λ departs few. some-made (λ m. m ≤ 5999) InForm (Extra trip from to departs) (minute_in (field_at row 5))
    (minute-few (field_at row 5)) (λ arrives late. (filled, few, late))))))

edit-form : (fields : ℕ) (word : List ℕ) (row : List (List ℕ)) → IfSome (edit_by fields word row) InForm
edit-form fields word row =
    some-by InForm (fields == 1) (bare_edit word) _ (λ _. bare-form word)
    (λ _. some-by InForm (fields == 2) (trip_edit word (field_at row 1)) _
    (λ _. some-next (λ name. 0 < length name) InForm (named_edit word) (name_in (field_at row 1)) (name-filled (field_at row 1))
    (named-form word))
    (λ _. some-by InForm ((fields == 3) && bytes_eq word (codes "shift")) (shift_edit (field_at row 1) (field_at row 2)) _
    (λ _. shift-form (field_at row 1) (field_at row 2))
    (λ _. some-by InForm ((fields == 6) && bytes_eq word (codes "extra")) (extra_edit row) None (λ _. extra-form row) (λ _. tt))))

line-form : (row : List (List ℕ)) → IsLineInForm (line_of row)
line-form row = by (edit_of row) (edit-form (filled row) (without_spaces (field_at row 0)) row)
  where
    by : (edit : Option Edit) → IfSome edit InForm → IsLineInForm (line_by edit)
    by (Some edit) is = is
    by None is = tt

-- the lines of a script are in form, and no more than there may be
pub script-read : (found : Found) → IfOk (lines_by found) IsScript
script-read found =
    optional-is IsScript paper.Edits [] (script_of paper.Edits) (record { forms = λ i d lt. absurd (omega (arith, lt)); few = omega arith })
    (λ bytes. read-provided IsScript (nat_le (length (records bytes)) MOST_RECORDS) (TooManyRecords paper.Edits) _
    (λ few. record {
      forms = All-map IsLineInForm line_of (records bytes) (λ i d lt. line-form (get_or (records bytes) i d));
      few = omega (arith, length-map (records bytes) line_of, leb-true (length (records bytes)) MOST_RECORDS few);
    })) found
