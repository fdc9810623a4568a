-- A moved time that is written reads as the moved time, and how moved seconds round to minutes.
use Rattle.std.proofs.Common.{◌≡◌, ℕ, ◌+◌, ◌-◌, ◌*◌, ◌/◌, ◌%◌, ◌<◌, ◌≤◌, ◌==◌, ◌^◌, Bool, true, false, cond, List, [], ◌∷◌, length, Option}
use Rattle.std.proofs.Common.{Some, None, Ok, ℤ, pos, negsuc, ◌+ℤ◌, ◌≤ℤ◌, refl, sym, ap, ◌∙◌, arith, inl, inr}
use Rattle.std.specs.Prelude.{unsigned_abs}
use Rattle.std.specs.Option.{IfSome, ok_or, option_map}
use Rattle.std.specs.Str.{IsAscii, is_utf8}
use Rattle.std.proofs.lemmas.Bool.{cases_lt, eqb-true, lt-ltb, le-ltb, le-leb, ne_eqb}
use Rattle.std.proofs.lemmas.Fmt.{decimal_digit, decimal_step}
use Rattle.std.proofs.lemmas.Int.{ints}
use Rattle.std.proofs.lemmas.List.{nil_from_length}
use Rattle.std.proofs.lemmas.Str.{IsUtf8-from_ascii, is_utf8-from_IsUtf8}
use Rattle.std.proofs.lemmas.Str.Ascii.{IsAscii-cons}
use Rattle.gtfs_tables.specs.declared.fault.FeedFault.TheVariants as fault
use Rattle.gtfs_tables.specs.declared.paper.Column.{Column}
use Rattle.gtfs_tables.specs.declared.paper.Paper.{Paper}
use Rattle.gtfs_tables.specs.Reading.{time_in}
use Rattle.gtfs_tables.specs.Spaces.{without_spaces}
use Rattle.gtfs_tables.specs.Times.{full_time, is_pair, rounded_down, rounded_up, seconds_of, two_digits}
use Rattle.block_writer.specs.StopTimes.{moved, moved_field, moved_time, time_digits}
use Rattle.written_laws.specs.Written.{StaysWritable}
use Rattle.claim_files.proofs.EachRecord.{same_Ok}

-- a number below 100 in two digits
two-digits : (n : ℕ) → n < 100 → two_digits n ≡ (48 + n / 10) ∷ (48 + n % 10) ∷ []
two-digits n small = elim (cases_lt n 10) [
  | inl low ↦
      let tens : n / 10 ≡ 0 = omega arith in
      let ones : n % 10 ≡ n = omega arith in
      rw (lt-ltb n 10 low, decimal_digit n low, tens, ones) refl
  | inr high ↦
      let front : n / 10 < 10 = omega arith in
      let wide : n < 2 ^ 64 = omega arith in
      rw (le-ltb n 10 high, decimal_step) (rw (decimal_digit (n / 10) front) refl)
]

pair-true : (most a b : ℕ) → a ≤ most → b ≤ 9 → is_pair (48 + most) (48 + a) (48 + b) ≡ true
pair-true most a b few small =
    rw (
      le-leb 48 (48 + a) (omega arith),
      le-leb (48 + a) (48 + most) (omega arith),
      le-leb 48 (48 + b) (omega arith),
      le-leb (48 + b) 57
          (omega arith),
    ) refl

-- the bytes of a time by its hour, minute and second
abbrev bytes_of : ℕ → ℕ → ℕ → List ℕ
bytes_of h m s = (48 + h / 10) ∷ (48 + h % 10) ∷ 58 ∷ (48 + m / 10) ∷ (48 + m % 10) ∷ 58 ∷ (48 + s / 10) ∷ (48 + s % 10) ∷ []

module _ (h m s : ℕ) (hours : h < 100) (minutes : m < 60) (seconds : s < 60) where
  bare : without_spaces (bytes_of h m s) ≡ bytes_of h m s
  bare =
      let first : ((48 + h / 10) == 32) ≡ false = ne_eqb _ _ (λ e. absurd (omega (arith, e))) in
      let last : ((48 + s % 10) == 32) ≡ false = ne_eqb _ _ (λ e. absurd (omega (arith, e))) in
      rw (first, last) refl

  full : full_time (bytes_of h m s) ≡ Some (3600 * h + 60 * m + s)
  full =
      let value : 3600 * (10 * (48 + h / 10 - 48) + (48 + h % 10 - 48)) + 60 * (10 * (48 + m / 10 - 48) + (48 + m %
      10 - 48)) + (10 * (48 + s / 10 - 48) + (48 + s % 10 - 48)) ≡ 3600 * h + 60 * m + s = omega arith in
      rw (
        pair-true 9 (h / 10) (h % 10) (omega arith) (omega arith),
        pair-true 5 (m / 10) (m % 10) (omega arith) (omega arith),
        pair-true 5
            (s / 10) (s % 10) (omega arith) (omega arith),
      )
      (ap Some value)

  read : seconds_of (bytes_of h m s) ≡ Some (3600 * h + 60 * m + s)
  read = ap (λ form. cond (length form == 7) (full_time (48 ∷ form)) (full_time form)) bare ∙ full

  ascii : IsAscii (bytes_of h m s)
  ascii =
      let last : List ℕ = (48 + s % 10) ∷ [] in
      let second : List ℕ = (48 + s / 10) ∷ last in
      let low : List ℕ = (48 + m % 10) ∷ 58 ∷ second in
      let minute : List ℕ = (48 + m / 10) ∷ low in
      let ones : List ℕ = (48 + h % 10) ∷ 58 ∷ minute in
      IsAscii-cons (48 + h / 10) ones (omega arith)
      (IsAscii-cons (48 + h % 10) (58 ∷ minute) (omega arith) (IsAscii-cons 58 minute (omega arith)
      (IsAscii-cons (48 + m / 10) low (omega arith)
      (IsAscii-cons (48 + m % 10) (58 ∷ second) (omega arith) (IsAscii-cons 58 second (omega arith)
      (IsAscii-cons (48 + s / 10) last (omega arith) (IsAscii-cons (48 + s % 10) [] (omega arith) (λ i. omega arith))))))))

-- a second before 100:00:00 that is written
digits-are : (n : ℕ) → n ≤ 359999 → time_digits n ≡ bytes_of (n / 3600) (n / 60 % 60) (n % 60)
digits-are n small =
    rw (two-digits (n / 3600) (omega arith), two-digits (n / 60 % 60) (omega arith), two-digits (n % 60) (omega arith)) refl

seconds-back : (n : ℕ) → n ≤ 359999 → seconds_of (time_digits n) ≡ Some n
seconds-back n small =
    let hour : n / 3600 ≡ n / 60 / 60 = omega arith in
    let value : 3600 * (n / 3600) + 60 * (n / 60 % 60) + n % 60 ≡ n = omega (arith, hour) in
    ap seconds_of (digits-are n small) ∙ read (n / 3600) (n / 60 % 60) (n % 60) (omega arith) (omega arith) (omega arith) ∙ ap Some value

digits-text : (n : ℕ) → n ≤ 359999 → is_utf8 (time_digits n) ≡ true
digits-text n small =
    ap is_utf8 (digits-are n small)
    ∙ is_utf8-from_IsUtf8 _ (IsUtf8-from_ascii _ (ascii (n / 3600) (n / 60 % 60) (n % 60) (omega arith) (omega arith) (omega arith)))

-- a field of spaces alone has no seconds
seconds-none : (field : List ℕ) → (length (without_spaces field) == 0) ≡ true → seconds_of field ≡ None
seconds-none field empty =
    ap (λ form. cond (length form == 7) (full_time (48 ∷ form)) (full_time form))
    (nil_from_length (without_spaces field) (eqb-true (length (without_spaces field)) 0 empty))

-- what the time of a field is by its seconds
module _ (paper : Paper) (number : ℕ) (asked : Column) (field : List ℕ) where
  time-empty : (time : Option ℕ) → seconds_of field ≡ None → time_in paper number asked field ≡ Ok time → time ≡ None
  time-empty time none e = by (length (without_spaces field) == 0) (seconds_of field) none e
    where
      by : (empty : Bool) (found : Option ℕ) → found ≡ None
          → cond empty (Ok None) (ok_or (option_map Some found) (fault.BadTime paper number asked)) ≡ Ok time → time ≡ None
      by true found none e = sym (same_Ok None time e)
      by false None none e = absurd (cc)
      by false (Some n) none e = absurd (cc)

  time-some : (n : ℕ) → seconds_of field ≡ Some n → time_in paper number asked field ≡ Ok (Some n)
  time-some n some = by (length (without_spaces field) == 0) refl
    where
      by : (empty : Bool) → (length (without_spaces field) == 0) ≡ empty
          → cond empty (Ok None) (ok_or (option_map Some (seconds_of field)) (fault.BadTime paper number asked)) ≡ Ok (Some n)
      by true empty = let none = seconds-none field empty in absurd (cc)
      by false filled = ap (λ found. ok_or (option_map Some found) (fault.BadTime paper number asked)) some

-- a field that says what another says, moved by so many minutes
pub record IsMovedField (offset : ℤ) (field other : List ℕ) : Type 0 where
  pub text : is_utf8 field ≡ true → is_utf8 other ≡ true
  pub time : (paper : Paper) (number : ℕ) (asked : Column) (time : Option ℕ) → time_in paper number asked field ≡ Ok time
      → time_in paper number asked other ≡ Ok (option_map (moved offset) time)

-- the moved field does
pub moved-field : (offset : ℤ) (field : List ℕ) → StaysWritable offset field → IsMovedField offset field (moved_field offset field)
moved-field offset field stays = by (seconds_of field) refl stays
  where
    by : (found : Option ℕ) → seconds_of field ≡ found → IfSome found (λ seconds. moved offset seconds ≤ 359999)
        → IsMovedField offset field (moved_time offset field found)
    by None none stays = record {
      text = λ text. text;
      time = λ paper number asked time e. e
          ∙ ap Ok (let empty = time-empty paper number asked field time none e in empty ∙ sym (ap (option_map (moved offset)) empty));
    }
    by (Some n) some stays = record {
      text = λ text. digits-text (moved offset n) stays;
      time = λ paper number asked time e.
          let is : Some n ≡ time = same_Ok (Some n) time (sym (time-some paper number asked field n some) ∙ e) in
          time-some paper number asked (time_digits (moved offset n)) (moved offset n) (seconds-back (moved offset n) stays)
          ∙ ap (λ time. Ok (option_map (moved offset) time)) is;
    }

-- moved by no minute
moved-none : (offset : ℤ) (n : ℕ) → unsigned_abs offset ≡ 0 → moved offset n ≡ n
moved-none (pos m) n none = ap (λ b. cond b (n - 60 * m) (n + 60 * m)) (le-ltb m 0 (omega arith)) ∙ omega (arith, none)
moved-none (negsuc m) n none = absurd (omega (arith, none))

-- where nothing is moved, the field itself does
pub same-field : (offset : ℤ) (field : List ℕ) → unsigned_abs offset ≡ 0 → IsMovedField offset field field
same-field offset field none = record { text = λ text. text; time = λ paper number asked time e. e ∙ ap Ok (same time) }
  where
    same : (time : Option ℕ) → time ≡ option_map (moved offset) time
    same None = refl
    same (Some n) = ap Some (sym (moved-none offset n none))

-- of a departure that is moved to midnight or later, and of an arrival after it, both round to minutes that are moved alike
pub moved-later : (n s : ℕ) → moved (pos n) s ≡ s + 60 * n
moved-later n s = ap (λ b. cond b (s - 60 * n) (s + 60 * n)) (le-ltb n 0 (omega arith))

pub moved-down : (by : ℤ) (departure : ℕ) → pos 0 ≤ℤ (pos (rounded_down departure) +ℤ by)
    → rounded_down (moved by departure) ≡ unsigned_abs (pos (rounded_down departure) +ℤ by)
moved-down (pos n) departure from = ap rounded_down (moved-later n departure) ∙ omega arith
moved-down (negsuc n) departure from = omega (arith, ints, from)

pub moved-up : (by : ℤ) (departure arrival layover : ℕ) → departure < arrival → pos 0 ≤ℤ (pos (rounded_down departure) +ℤ by)
    → rounded_up (moved by arrival) + layover ≡ unsigned_abs (pos (rounded_up arrival + layover) +ℤ by)
moved-up (pos n) departure arrival layover forward from = ap (λ s. rounded_up s + layover) (moved-later n arrival) ∙ omega arith
moved-up (negsuc n) departure arrival layover forward from = omega (arith, ints, forward, from)

pub moved-forward : (by : ℤ) (departure arrival : ℕ) → departure < arrival → pos 0 ≤ℤ (pos (rounded_down departure) +ℤ by)
    → moved by departure < moved by arrival
moved-forward (pos n) departure arrival forward from = rw (moved-later n departure, moved-later n arrival) (omega arith)
moved-forward (negsuc n) departure arrival forward from = omega (arith, ints, forward, from)
