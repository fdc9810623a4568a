-- How a text is judged byte by byte, and what a byte tells.
use Rattle.std.proofs.Common.{◌≡◌, ◌≢◌, ℕ, suc, ◌+◌, ◌<◌, ◌≤◌, ◌==◌, ◌⊎◌, inl, inr, ◌||◌, ◌&&◌, List, length, get_or, drop}
use Rattle.std.proofs.Common.{Bool, true, false, Option, Some, None, refl, sym, ap, ◌∙◌, add-one, drop-cons, drop_of_length-le, arith}
use Rattle.std.specs.Prelude.{not, nat_lt, if◌then◌else◌}
use Rattle.std.proofs.lemmas.Bool.{eqb-false, eqb-true, lt-ltb, ltb-true}
use Rattle.csv.specs.Writing.{needs_byte}
use Rattle.gtfs_tables.specs.Writing.{record_writer}
use Rattle.block_writer.specs.Plain.{are_lines, fields_after, is_bare, is_plain}

-- a byte that a field may have that is written without quotes
pub record IsFieldByte (b : ℕ) : Type 0 where
  pub ascii : b < 128
  pub no_feed : b ≢ 10
  pub unquoted : needs_byte record_writer b ≡ false

field-byte : (b : ℕ) → (b == 10) ≡ false → (b == 44) ≡ false → is_bare b ≡ true → IsFieldByte b
field-byte b feed comma bare = by (nat_lt b 128) (b == 34) (b == 13) refl refl refl bare
  where
    by : (low quote return : Bool) → nat_lt b 128 ≡ low → (b == 34) ≡ quote → (b == 13) ≡ return → (low && not (quote || return)) ≡ true
        → IsFieldByte b
    by false quote return l q r is = absurd (cc)
    by true true return l q r is = absurd (cc)
    by true false true l q r is = absurd (cc)
    by true false false l q r is = record {
      ascii = ltb-true b 128 l;
      no_feed = eqb-false b 10 feed;
      unquoted = rw (comma, q, r, feed) refl;
    }

-- what a byte is after which a line has so many fields
abbrev pub After : ℕ → ℕ → ℕ → ℕ → Type 0
After columns fields b now =
    ((b ≡ 10) × (fields ≡ columns) × (now ≡ 1)) ⊎ ((b ≡ 44) × (now ≡ fields + 1)) ⊎ (IsFieldByte b × (now ≡ fields))

pub after : (columns fields b now : ℕ) → fields_after columns fields b ≡ Some now → After columns fields b now
after columns fields b now is = by (b == 10) (fields == columns) (b == 44) (is_bare b) refl refl refl refl is
  where
    by : (feed full comma bare : Bool) → (b == 10) ≡ feed → (fields == columns) ≡ full → (b == 44) ≡ comma → is_bare b ≡ bare
        → (if feed then (if full then Some 1 else None) else if comma then Some (fields + 1) else if bare then Some fields else None)
        ≡ Some now
        → After columns fields b now
    by true true comma bare e f c p is = inl (eqb-true b 10 e, eqb-true fields columns f, cc)
    by true false comma bare e f c p is = absurd (cc)
    by false full true bare e f c p is = inr (inl (eqb-true b 44 c, cc))
    by false full false true e f c p is = inr (inr (field-byte b e c p, cc))
    by false full false false e f c p is = absurd (cc)

few-more : (columns fields b now : ℕ) → After columns fields b now → now ≤ fields + 1
few-more columns fields b now (inl (end, full, one)) = omega (arith, one)
few-more columns fields b now (inr (inl (comma, next))) = omega (arith, next)
few-more columns fields b now (inr (inr (byte, same))) = omega (arith, same)

pub few-after : (columns fields b now i : ℕ) (found : Option ℕ) → found ≡ Some now → found ≡ fields_after columns fields b
    → fields ≤ i + 1 → now ≤ i + 1 + 1
few-after columns fields b now i found some is few =
    omega (arith, few, few-more columns fields b now (after columns fields b now (sym is ∙ some)))

module _ (columns : ℕ) (text : List ℕ) (fields last i : ℕ) where
  -- the bytes left, where there are some, after one more
  one-more : (found : Option ℕ) → i < length text → found ≡ fields_after columns fields (get_or text i 0)
      → are_lines columns (Some fields) last (drop i text) ≡ are_lines columns found (get_or text i 0) (drop (i + 1) text)
  unfolding are_lines
  one-more found within is =
      ap (are_lines columns (Some fields) last) (drop-cons text i 0 within)
      ∙ ap (λ found. are_lines columns found (get_or text i 0) (drop (suc i) text)) (sym is)
      ∙ ap (λ j. are_lines columns found (get_or text i 0) (drop j text)) (sym (add-one i))

  pub lines-on : (found : Option ℕ) (now : ℕ) → i < length text
      → are_lines columns (Some 1) 0 text ≡ are_lines columns (Some fields) last (drop i text)
      → found ≡ Some now → found ≡ fields_after columns fields (get_or text i 0)
      → are_lines columns (Some 1) 0 text ≡ are_lines columns (Some now) (get_or text i 0) (drop (i + 1) text)
  lines-on found now within so_far some is =
      so_far ∙ one-more found within is ∙ ap (λ found. are_lines columns found (get_or text i 0) (drop (i + 1) text)) some

  -- where the first line has two fields or more, a text is judged by its lines
  by-lines : 2 ≤ columns → (judged : Bool) → are_lines columns (Some 1) 0 text ≡ judged → judged ≡ is_plain columns text
  by-lines some judged is = rw (lt-ltb 1 columns (omega (arith, some))) (sym is)

  pub lines-refused : (found : Option ℕ) → 2 ≤ columns → i < length text
      → are_lines columns (Some 1) 0 text ≡ are_lines columns (Some fields) last (drop i text)
      → found ≡ None → found ≡ fields_after columns fields (get_or text i 0) → false ≡ is_plain columns text
  unfolding are_lines
  lines-refused found some within so_far none is =
      by-lines some false
      (so_far ∙ one-more found within is ∙ ap (λ found. are_lines columns found (get_or text i 0) (drop (i + 1) text)) none)

  pub lines-over : 2 ≤ columns → length text ≤ i
      → are_lines columns (Some 1) 0 text ≡ are_lines columns (Some fields) last (drop i text) → (last == 10) ≡ is_plain columns text
  unfolding are_lines
  lines-over some over so_far =
      by-lines some (last == 10) (so_far ∙ ap (are_lines columns (Some fields) last) (drop_of_length-le text over))
