-- How commas part a line, and that `csv` reads bytes without a double quote in the same way.
use Rattle.std.proofs.Common.{◌≡◌, ◌≢◌, ℕ, zero, suc, ◌+◌, ◌-◌, ◌<◌, ◌==◌, List, [], ◌∷◌, ◌++◌, length, drop, take, get_or}
use Rattle.std.proofs.Common.{get_or-drop, Bool, true, false, true≢false, ◌&&◌, cond, Option, Some, None, refl, sym, ap, subst, arith, ◌∙◌, add-one, append_assoc, All}
use Rattle.std.specs.Cmp.Lexicographic.{pointwise}
use Rattle.std.specs.List.{list_any}
use Rattle.std.specs.Str.{IsAscii, IsUtf8}
use Rattle.std.proofs.lemmas.Bool.{eqb-true, or_parts}
use Rattle.std.proofs.lemmas.List.{append-nil, length-drop, take_all}
use Rattle.std.proofs.lemmas.List.Elements.{All-cons, All-nil}
use Rattle.std.proofs.lemmas.List.Folds.{list_any-append}
use Rattle.std.proofs.lemmas.Str.{IsAscii-append, IsUtf8-from_ascii}
use Rattle.std.proofs.lemmas.Str.Ascii.{IsAscii-cons, IsAscii-nil}
use Rattle.csv.specs.Machine.{Read, ends_at_end, next_record}
use Rattle.csv.specs.Reading.{default_config, is_bom, records_from, strip_bom}
use Rattle.csv.specs.declared.parser.State.{State}
use Rattle.csv.specs.declared.parser.State.TheVariants as st
use Rattle.csv.proofs.RoundTrip.{record-same, start-same}
use Rattle.memchr.specs.Find.{IsFirstByte}
use Rattle.gtfs_tables.specs.Parts.{ends_line, from_line, parts, parts_after, IsUnquoted}
use Rattle.gtfs_tables.specs.Records.{records_in}
use Rattle.gtfs_tables.proofs.CsvRecords.{after, after-none, after-some}

not-true : (b : Bool) → (b ≡ true → ⊥) → b ≡ false
not-true true n = absurd (n refl)
not-true false n = refl

-- where a search finds no byte, none passes the test
pub none-passes : (test : ℕ → Bool) (bytes : List ℕ) → IsFirstByte test bytes None → list_any test bytes ≡ false
none-passes test [] none = refl
none-passes test (b ∷ rest) none =
    let first : test b ≡ false = not-true (test b) (none 0 (omega arith) (omega arith)) in
    rw (first, none-passes test rest (λ k low within. none (suc k) (omega arith) (omega arith))) refl

-- the byte that a search finds, with what is before and behind it
pub record IsFoundAt (test : ℕ → Bool) (bytes : List ℕ) (k : ℕ) : Type 0 where
  pub byte : ℕ
  pub split : bytes ≡ take k bytes ++ byte ∷ drop (suc k) bytes
  pub before : list_any test (take k bytes) ≡ false
  pub passes : test byte ≡ true

pub found-at : (test : ℕ → Bool) (bytes : List ℕ) (k : ℕ) → IsFirstByte test bytes (Some k) → IsFoundAt test bytes k
found-at test [] k first = absurd (omega (arith, first.0.high))
found-at test (b ∷ rest) zero first = record { byte = b; split = refl; before = refl; passes = first.1 }
found-at test (b ∷ rest) (suc k) first =
    let later = found-at test rest k (
      record {
        low = omega arith;
        high = omega (arith, first.0.high);
        before = λ j low within. first.0.before (suc j) (omega arith) (omega arith);
      },
      first.1,
    ) in
    record {
      byte = later.byte;
      split = ap (λ (bytes : List ℕ). b ∷ bytes) later.split;
      before = rw (not-true (test b) (first.0.before 0 (omega arith) (omega arith)), later.before) refl;
      passes = later.passes;
    }

-- a line without a comma is one part
pub parts-none : (part line : List ℕ) → list_any (λ b. b == 44) line ≡ false → parts_after part line ≡ (part ++ line) ∷ []
unfolding parts_after
parts-none part [] none = rw (append-nil part) refl
parts-none part (b ∷ rest) none =
    let split = or_parts (b == 44) (list_any (λ b. b == 44) rest) none in
    rw split.0 (parts-none (part ++ b ∷ []) rest split.1 ∙ ap (λ (whole : List ℕ). whole ∷ []) (append_assoc part (b ∷ []) rest))

-- the first comma ends the first part
pub parts-comma : (part front behind : List ℕ) (comma : ℕ) → (comma == 44) ≡ true → list_any (λ b. b == 44) front ≡ false
    → parts_after part (front ++ comma ∷ behind) ≡ (part ++ front) ∷ parts behind
unfolding parts_after
parts-comma part [] behind comma is none = rw (is, append-nil part) refl
parts-comma part (b ∷ rest) behind comma is none =
    let split = or_parts (b == 44) (list_any (λ b. b == 44) rest) none in
    rw split.0 (parts-comma (part ++ b ∷ []) rest behind comma is split.1
    ∙ ap (λ (whole : List ℕ). whole ∷ parts behind) (append_assoc part (b ∷ []) rest))

-- no part is behind the last
pub past-end : (n place : ℕ) (all : List (List ℕ)) (last : List ℕ) → drop n all ≡ last ∷ [] → n < place → get_or all place [] ≡ []
past-end n place all last end later = beyond (place - suc n) (omega arith)
  where
    beyond : (k : ℕ) → n + suc k ≡ place → get_or all place [] ≡ []
    beyond k at = rw (← at) (sym (get_or-drop n all (suc k) []) ∙ ap (λ (left : List (List ℕ)). get_or left (suc k) []) end)

-- one byte more at the end of a line is one part more if it is a comma
pub parts-more : (part line : List ℕ) (b : ℕ)
    → length (parts_after part (line ++ b ∷ [])) ≡ length (parts_after part line) + cond (b == 44) 1 0
unfolding parts_after
parts-more part [] b = by (b == 44)
  where
    by : (comma : Bool) → length (cond comma (part ∷ ([] ∷ [])) ((part ++ b ∷ []) ∷ [])) ≡ 1 + cond comma 1 0
    by true = refl
    by false = refl
parts-more part (c ∷ line) b = by (c == 44) (omega (arith, parts-more [] line b)) (parts-more (part ++ c ∷ []) line b)
  where
    by : (comma : Bool) → suc (length (parts_after [] (line ++ b ∷ []))) ≡ suc (length (parts_after [] line)) + cond (b == 44) 1 0
        → length (parts_after (part ++ c ∷ []) (line ++ b ∷ [])) ≡ length (parts_after (part ++ c ∷ []) line) + cond (b == 44) 1 0
        → length (cond comma (part ∷ parts_after [] (line ++ b ∷ [])) (parts_after (part ++ c ∷ []) (line ++ b ∷ [])))
        ≡ length (cond comma (part ∷ parts_after [] line) (parts_after (part ++ c ∷ []) line)) + cond (b == 44) 1 0
    by true ends goes_on = ends
    by false ends goes_on = goes_on

-- the parts of a line of ASCII are UTF-8
pub parts-texts : (part line : List ℕ) → IsAscii part → IsAscii line → All IsUtf8 (parts_after part line)
unfolding parts_after
parts-texts part [] first ascii = All-cons IsUtf8 part [] (IsUtf8-from_ascii part first) (All-nil IsUtf8)
parts-texts part (b ∷ rest) first ascii =
    let later : IsAscii rest = λ k. ascii (suc k) in
    let more : IsAscii (part ++ b ∷ []) = IsAscii-append part (b ∷ []) first (IsAscii-cons b [] (ascii 0) IsAscii-nil) in
    by (b == 44) (All-cons IsUtf8 part (parts rest) (IsUtf8-from_ascii part first) (parts-texts [] rest IsAscii-nil later))
    (parts-texts (part ++ b ∷ []) rest more later)
  where
    by : (comma : Bool) → All IsUtf8 (part ∷ parts_after [] rest) → All IsUtf8 (parts_after (part ++ b ∷ []) rest)
        → All IsUtf8 (cond comma (part ∷ parts_after [] rest) (parts_after (part ++ b ∷ []) rest))
    by true x y = x
    by false x y = y

-- what ends a line: the record at hand ends with the field at hand, and these bytes are behind it
record EndsRecord (tail : List ℕ) (s : State) (behind : List ℕ) : Type 0 where
  in_field : (fields : List (List ℕ)) (field : List ℕ)
      → next_record default_config st.InField fields field tail ≡ Some (fields ++ field ∷ [], s, behind)
  at_start : (fields : List (List ℕ)) → next_record default_config st.StartField fields [] tail ≡ Some (fields ++ [] ∷ [], s, behind)
  between : ends_at_end s ≡ false

text-ends : EndsRecord [] st.StartRecord []
unfolding next_record
text-ends = record { in_field = λ fields field. refl; at_start = λ fields. refl; between = refl }

return-ends : (behind : List ℕ) → EndsRecord (13 ∷ behind) st.AfterCr behind
unfolding next_record
return-ends behind = record { in_field = λ fields field. refl; at_start = λ fields. refl; between = refl }

feed-ends : (behind : List ℕ) → EndsRecord (10 ∷ behind) st.StartRecord behind
unfolding next_record
feed-ends behind = record { in_field = λ fields field. refl; at_start = λ fields. refl; between = refl }

module _ (tail : List ℕ) (s : State) (behind : List ℕ) (ends : EndsRecord tail s behind) where
  -- a field without a quote is read at its start as behind it
  start-line : (fields : List (List ℕ)) (line : List ℕ) → IsUnquoted line
      → next_record default_config st.StartField fields [] (line ++ tail) ≡ next_record default_config st.InField fields [] (line ++ tail)
  start-line fields [] bare = ends.at_start fields ∙ sym (ends.in_field fields [])
  start-line fields (b ∷ line) bare = start-same fields [] b (line ++ tail) (or_parts (b == 34) (list_any (λ b. b == 34) line) bare).0

  -- the rest of a line gives its parts
  rest-read : (fields : List (List ℕ)) (field line : List ℕ) → IsUnquoted line → list_any ends_line line ≡ false
      → next_record default_config st.InField fields field (line ++ tail) ≡ Some (fields ++ parts_after field line, s, behind)
  unfolding next_record parts_after
  rest-read fields field [] bare inside = ends.in_field fields field
  rest-read fields field (b ∷ line) bare inside =
      let unquoted = (or_parts (b == 34) (list_any (λ b. b == 34) line) bare).1 in
      let ended = or_parts (ends_line b) (list_any ends_line line) inside in
      let other = or_parts (b == 13) (b == 10) ended.0 in
      by (b == 44) other.0 other.1 (start-line (fields ++ field ∷ []) line unquoted
      ∙ (rest-read (fields ++ field ∷ []) [] line unquoted ended.1
      ∙ ap (λ (all : List (List ℕ)). Some (all, s, behind)) (append_assoc fields (field ∷ []) (parts line))))
      (rest-read fields (field ++ b ∷ []) line unquoted ended.1) refl
    where
      by : (comma : Bool) → (b == 13) ≡ false → (b == 10) ≡ false
          → next_record default_config st.StartField (fields ++ field ∷ []) [] (line ++ tail)
          ≡ Some (fields ++ field ∷ parts_after [] line, s, behind)
          → next_record default_config st.InField fields (field ++ b ∷ []) (line ++ tail)
          ≡ Some (fields ++ parts_after (field ++ b ∷ []) line, s, behind)
          → (b == 44) ≡ comma
          → next_record default_config st.InField fields field (b ∷ (line ++ tail))
          ≡ Some (fields ++ parts_after field (b ∷ line), s, behind)
      by true r n at within is = rw is at
      by false r n at within is = rw (is, r, n) within

  -- a line that has a byte is a record
  line-read : (b : ℕ) (line : List ℕ) → IsUnquoted (b ∷ line) → list_any ends_line (b ∷ line) ≡ false
      → next_record default_config st.StartRecord [] [] (b ∷ (line ++ tail)) ≡ Some (parts (b ∷ line), s, behind)
  line-read b line bare inside =
      let ended = or_parts (ends_line b) (list_any ends_line line) inside in
      let other = or_parts (b == 13) (b == 10) ended.0 in
      record-same [] [] b (line ++ tail) other.0 other.1 ∙ (start-line [] (b ∷ line) bare ∙ rest-read [] [] (b ∷ line) bare inside)

-- behind a carriage return a record is read as elsewhere
return-same : (bytes : List ℕ) → next_record default_config st.AfterCr [] [] bytes ≡ next_record default_config st.StartRecord [] [] bytes
unfolding next_record
return-same [] = refl
return-same (b ∷ rest) = by (b == 10) refl
  where
    by : (feed : Bool) → (b == 10) ≡ feed
        → next_record default_config st.AfterCr [] [] (b ∷ rest) ≡ next_record default_config st.StartRecord [] [] (b ∷ rest)
    by true is = by-return (b == 13) refl
      where
        by-return : (return : Bool) → (b == 13) ≡ return
            → next_record default_config st.AfterCr [] [] (b ∷ rest) ≡ next_record default_config st.StartRecord [] [] (b ∷ rest)
        by-return true r = rw (is, r) refl
        by-return false r = rw (is, r) refl
    by false is = rw is refl

between-same : (s : State) (bytes : List ℕ) → ends_at_end s ≡ false → after s bytes ≡ records_in bytes
unfolding records_from
between-same st.StartRecord bytes between = refl
between-same st.AfterCr bytes between = rw (add-one (length bytes), return-same bytes) refl
between-same st.StartField bytes between = cc between
between-same st.InField bytes between = cc between
between-same st.InQuoted bytes between = cc between
between-same st.AfterQuote bytes between = cc between
between-same st.InEscape bytes between = cc between
between-same st.InComment bytes between = cc between

-- a line end that begins no record is passed over
line-end-passed : (b : ℕ) (rest : List ℕ) → ends_line b ≡ true → records_in (b ∷ rest) ≡ records_in rest
unfolding next_record
line-end-passed b rest is = by (next_record default_config st.StartRecord [] [] rest) refl
  where
    same : next_record default_config st.StartRecord [] [] (b ∷ rest) ≡ next_record default_config st.StartRecord [] [] rest
    same = rw is refl

    by : (o : Option Read) → next_record default_config st.StartRecord [] [] rest ≡ o → records_in (b ∷ rest) ≡ records_in rest
    by None none = after-none st.StartRecord (b ∷ rest) (same ∙ none) ∙ sym (after-none st.StartRecord rest none)
    by (Some read) some =
        (after-some st.StartRecord (b ∷ rest) read refl (same ∙ some)).0 ∙ sym (after-some st.StartRecord rest read refl some).0

-- nothing, or a line that has a byte comes first
abbrev BeginsLine : List ℕ → Type 0
BeginsLine [] = Unit {0}
BeginsLine (b ∷ rest) = ends_line b ≡ false

-- the line ends that are passed over change nothing
record IsFrom (bytes left : List ℕ) : Type 0 where
  same : records_in left ≡ records_in bytes
  bare : IsUnquoted left
  begins : BeginsLine left

is-from : (bytes : List ℕ) → IsUnquoted bytes → IsFrom bytes (from_line bytes)
is-from [] bare = record { same = refl; bare = refl; begins = tt }
is-from (b ∷ rest) bare = by (ends_line b) refl (is-from rest (or_parts (b == 34) (list_any (λ b. b == 34) rest) bare).1)
  where
    by : (ended : Bool) → ends_line b ≡ ended → IsFrom rest (from_line rest)
        → IsFrom (b ∷ rest) (cond ended (from_line rest) (b ∷ rest))
    by true is later = record { same = later.same ∙ sym (line-end-passed b rest is); bare = later.bare; begins = later.begins }
    by false is later = record { same = refl; bare = bare; begins = is }

-- a line that ends so gives the first record
line-first : (tail : List ℕ) (s : State) (behind line : List ℕ) → EndsRecord tail s behind → IsUnquoted line
    → list_any ends_line line ≡ false → 0 < length line → records_in (line ++ tail) ≡ parts line ∷ records_in behind
line-first tail s behind [] ends bare inside some = absurd (omega arith)
line-first tail s behind (b ∷ line) ends bare inside some =
    let read = line-read tail s behind ends b line bare inside in
    (after-some st.StartRecord (b ∷ (line ++ tail)) (parts (b ∷ line), s, behind) refl read).0
    ∙ ap (λ (later : List (List (List ℕ))). parts (b ∷ line) ∷ later) (between-same s behind ends.between)

no-records : records_in [] ≡ []
unfolding next_record
no-records = after-none st.StartRecord [] refl

-- where no line has a byte, there are no records
pub no-line : (bytes : List ℕ) → IsUnquoted bytes → length (from_line bytes) ≡ 0 → records_in bytes ≡ []
no-line bytes bare none = sym (is-from bytes bare).same ∙ by (from_line bytes) none
  where
    by : (left : List ℕ) → length left ≡ 0 → records_in left ≡ []
    by [] none = no-records
    by (b ∷ left) none = absurd (omega (arith, none))

-- the last line, which no line end follows
pub last-line : (bytes : List ℕ) → IsUnquoted bytes → length (from_line bytes) ≢ 0 → list_any ends_line (from_line bytes) ≡ false
    → records_in bytes ≡ parts (from_line bytes) ∷ records_in []
last-line bytes bare some inside =
    let from = is-from bytes bare in
    let line = from_line bytes in
    sym from.same ∙ (ap records_in (sym (append-nil line))
    ∙ line-first [] st.StartRecord [] line text-ends from.bare inside (omega (arith, some)))

-- a line, and what is behind its end
pub line-split : (bytes : List ℕ) (end : ℕ) → IsUnquoted bytes → IsFoundAt ends_line (from_line bytes) end
    → (records_in bytes ≡ parts (take end (from_line bytes)) ∷ records_in (drop (suc end) (from_line bytes)))
    × IsUnquoted (drop (suc end) (from_line bytes))
line-split bytes end bare found =
    let from = is-from bytes bare in
    let line = take end (from_line bytes) in
    let behind = drop (suc end) (from_line bytes) in
    let both = or_parts (list_any (λ b. b == 34) line) (list_any (λ b. b == 34) (found.byte ∷ behind))
    (sym (list_any-append (λ b. b == 34) line (found.byte ∷ behind)) ∙ subst IsUnquoted found.split from.bare) in
    let some = has-byte line found.byte behind found.passes (subst BeginsLine found.split from.begins) in (
      sym from.same ∙ (ap records_in found.split
          ∙ by line found.byte behind (found.byte == 13) (found.byte == 10) refl refl found.passes both.0 found.before some),
      (or_parts (found.byte == 34) (list_any (λ b. b == 34) behind) both.1).1,
    )
  where
    has-byte : (line : List ℕ) (b : ℕ) (behind : List ℕ) → ends_line b ≡ true → BeginsLine (line ++ b ∷ behind) → 0 < length line
    has-byte [] b behind is begins = cc (is, begins)
    has-byte (c ∷ line) b behind is begins = omega arith

    by : (line : List ℕ) (b : ℕ) (behind : List ℕ) (return feed : Bool) → (b == 13) ≡ return → (b == 10) ≡ feed → ends_line b ≡ true
        → IsUnquoted line → list_any ends_line line ≡ false → 0 < length line
        → records_in (line ++ b ∷ behind) ≡ parts line ∷ records_in behind
    by line b behind true feed r n is bare inside some =
        subst (λ (z : ℕ). records_in (line ++ z ∷ behind) ≡ parts line ∷ records_in behind) (sym (eqb-true b 13 r))
        (line-first (13 ∷ behind) st.AfterCr behind line (return-ends behind) bare inside some)
    by line b behind false true r n is bare inside some =
        subst (λ (z : ℕ). records_in (line ++ z ∷ behind) ≡ parts line ∷ records_in behind) (sym (eqb-true b 10 n))
        (line-first (10 ∷ behind) st.StartRecord behind line (feed-ends behind) bare inside some)
    by line b behind false false r n is bare inside some = absurd (cc (rw (r, n) at is))

-- a slice from a place on has all that is there
pub from-place : {A : Type 0} (n : ℕ) (xs : List A) → take (length xs - n) (drop n xs) ≡ drop n xs
from-place n xs = take_all (length xs - n) (drop n xs) (omega (arith, length-drop n xs))

-- the same from behind a place on
pub from-behind : {A : Type 0} (n : ℕ) (xs : List A) → take (length xs - (n + 1)) (drop (n + 1) xs) ≡ drop (suc n) xs
from-behind n xs = rw (← add-one n) (from-place (n + 1) xs)

no-and : (x : Bool) → (x && false) ≡ false
no-and true = refl
no-and false = refl

-- three answers in a row
three : (x y z : Bool) → (x && y && z) ≡ (x && (y && (z && true)))
three true true true = refl
three true true false = refl
three true false z = refl
three false y z = refl

-- where the bytes begin with a byte-order mark
pub mark-off : (bytes : List ℕ) → pointwise ◌==◌ (take 3 bytes) (239 ∷ 187 ∷ 191 ∷ []) ≡ true → drop 3 bytes ≡ strip_bom bytes
unfolding strip_bom
mark-off [] mark = absurd (true≢false (sym mark))
mark-off (a ∷ []) mark = absurd (true≢false (sym mark ∙ no-and (a == 239)))
mark-off (a ∷ b ∷ []) mark = absurd (true≢false (sym mark ∙ (ap (λ x. (a == 239) && x) (no-and (b == 187)) ∙ no-and (a == 239))))
mark-off (a ∷ b ∷ c ∷ rest) mark = rw (three (a == 239) (b == 187) (c == 191), mark) refl

-- where they do not
pub no-mark : (bytes : List ℕ) → pointwise ◌==◌ (take 3 bytes) (239 ∷ 187 ∷ 191 ∷ []) ≡ false → bytes ≡ strip_bom bytes
unfolding strip_bom
no-mark [] mark = refl
no-mark (a ∷ []) mark = refl
no-mark (a ∷ b ∷ []) mark = refl
no-mark (a ∷ b ∷ c ∷ rest) mark = rw (three (a == 239) (b == 187) (c == 191), mark) refl

pub bare-without-mark : (bytes : List ℕ) → IsUnquoted bytes → IsUnquoted (strip_bom bytes)
unfolding strip_bom
bare-without-mark [] bare = bare
bare-without-mark (a ∷ []) bare = bare
bare-without-mark (a ∷ b ∷ []) bare = bare
bare-without-mark (a ∷ b ∷ c ∷ rest) bare = by (is_bom a b c)
  where
    rest-bare : (a b c : ℕ) → IsUnquoted (a ∷ b ∷ c ∷ rest) → IsUnquoted rest
    rest-bare a b c bare = (or_parts (c == 34) _ (or_parts (b == 34) _ (or_parts (a == 34) _ bare).1).1).1

    by : (mark : Bool) → IsUnquoted (cond mark rest (a ∷ b ∷ c ∷ rest))
    by true = rest-bare a b c bare
    by false = bare
