-- Prices that are written read back.
use Rattle.std.proofs.Common.{◌≡◌, ℕ, suc, ◌<◌, ◌≤◌, cond, Bool, true, false, List, [], ◌∷◌, ◌++◌, length, map, filter, All, Some, Ok}
use Rattle.std.proofs.Common.{refl, sym, ap, ◌∙◌, ⊎_elim, arith}
use Rattle.std.specs.Fmt.{decimal}
use Rattle.std.specs.List.{AllByRecursion, flat_map, range_with_len}
use Rattle.std.specs.Option.{is_some}
use Rattle.std.proofs.lemmas.Bool.{cases_lt, lt-ltb}
use Rattle.std.proofs.lemmas.List.{get_or_past, length-map}
use Rattle.std.proofs.lemmas.List.FromFn.{length-range_with_len}
use Rattle.gtfs_tables.specs.declared.fault.FeedFault.TheVariants as fault
use Rattle.gtfs_tables.specs.declared.paper.Column.TheVariants as column
use Rattle.gtfs_tables.specs.declared.paper.Paper.TheVariants as paper
use Rattle.gtfs_tables.specs.Reading.{◌>>=◌, each_record, filled_in, number_in, provided, text_in}
use Rattle.gtfs_tables.proofs.ReadingLemmas.{text_in-utf8}
use Rattle.block_build.specs.Files.{price_records}
use Rattle.assignment_model.specs.Prices.{price}
use Rattle.price_check.specs.declared.claim.PriceRow.{PriceRow}
use Rattle.price_check.specs.declared.claim.TheConstants.{MOST_PRICE}
use Rattle.price_check.specs.Claim.{Runs}
use Rattle.trip_model.specs.declared.limits.TheConstants.{MOST_SLOTS}
use Rattle.trip_model.specs.Plain.{live_slots, move_at, move_of_slot, trip_moves}
use Rattle.trip_model.specs.Timetable.{TimetableView, IsTimetable, slot_at}
use Rattle.trip_model.proofs.OrderLemmas.{slot-live}
use Rattle.claim_files.specs.declared.prices.Columns.{Columns}
use Rattle.claim_files.specs.Prices.{prices_in, with_prices}
use Rattle.claim_files.specs.Running.{running}
use Rattle.block_build.specs.Names.{IsName}
use Rattle.claim_files.specs.Written.{written_price, written_prices}
use Rattle.claim_files.proofs.EachRecord.{each-adds}
use Rattle.claim_files.proofs.FieldsBack.{then, filled-back, number_in-back, decimal-name}
use Rattle.claim_files.proofs.RunningBack.{running-back}

-- the columns of a header that is written
abbrev pub written_columns : Columns
written_columns = record { trip = 0; leave = 1; enter = 2 }

fields-back : (n : ℕ) (trip : List ℕ) (leave enter : ℕ) → IsName trip → leave ≤ MOST_PRICE → enter ≤ MOST_PRICE
    → prices_in written_columns n (trip ∷ decimal leave ∷ decimal enter ∷ []) ≡ Ok (trip, leave, enter)
unfolding prices_in
fields-back n trip leave enter trip_is low high =
    let left = decimal-name leave (omega (arith, low)) in
    let entered = decimal-name enter (omega (arith, high)) in
    then (text_in paper.Prices n column.TripId trip) trip _ _ (text_in-utf8 paper.Prices n column.TripId trip trip_is.text)
    (then (text_in paper.Prices n column.Leave (decimal leave)) (decimal leave) _ _
    (text_in-utf8 paper.Prices n column.Leave (decimal leave) left.text)
    (then (text_in paper.Prices n column.Enter (decimal enter)) (decimal enter) _ _
    (text_in-utf8 paper.Prices n column.Enter (decimal enter) entered.text)
    (then (filled_in paper.Prices n column.TripId trip) trip _ _ (filled-back paper.Prices n column.TripId trip trip_is.filled)
    (then (filled_in paper.Prices n column.Leave (decimal leave)) (decimal leave) _ _
    (filled-back paper.Prices n column.Leave (decimal leave) left.filled)
    (then (filled_in paper.Prices n column.Enter (decimal enter)) (decimal enter) _ _
    (filled-back paper.Prices n column.Enter (decimal enter) entered.filled)
    (then (number_in paper.Prices n column.Leave 12 MOST_PRICE (decimal leave)) leave _ _
    (number_in-back paper.Prices n column.Leave 12 MOST_PRICE leave (omega arith) low (omega (arith, low)) (omega (arith, low)))
    (then (number_in paper.Prices n column.Enter 12 MOST_PRICE (decimal enter)) enter _ _
    (number_in-back paper.Prices n column.Enter 12 MOST_PRICE enter (omega arith) high (omega (arith, high)) (omega (arith, high)))
    refl)))))))

-- one record more
prices-back : (t : TimetableView) (n : ℕ) (before : List PriceRow) (trip : List ℕ) (leave enter s : ℕ) → IsName trip → leave ≤ MOST_PRICE
    → enter ≤ MOST_PRICE → length before < MOST_SLOTS → running t trip ≡ Some s
    → with_prices t written_columns n before
    (trip ∷ decimal leave ∷ decimal enter ∷ []) ≡ Ok (before ++ record { trip = trip; slot = Some s; leave = leave; enter = enter }
    ∷ [])
unfolding with_prices
prices-back t n before trip leave enter s trip_is low high few runs =
    ap (λ b. provided b (fault.TooManyTrips n) (Ok tt) >>= λ _. prices_in written_columns n (trip ∷ decimal leave ∷ decimal enter ∷ []) >>=
    λ read.
    Ok (before ++ record { trip = read.0; slot = running t read.0; leave = read.1; enter = read.2 } ∷ []))
    (lt-ltb (length before) MOST_SLOTS few)
    ∙ then (prices_in written_columns n (trip ∷ decimal leave ∷ decimal enter ∷ [])) (trip, leave, enter) _ _
    (fields-back n trip leave enter trip_is low high)
    (ap (λ slot. Ok (before ++ record { trip = trip; slot = slot; leave = leave; enter = enter } ∷ [])) runs)

-- the record of a slot that runs
abbrev pub record_of : TimetableView → List ℕ → List ℕ → ℕ → List (List ℕ)
record_of t leave enter s = (slot_at t s).name ∷ decimal (price leave s) ∷ decimal (price enter s) ∷ []

-- the records of the slots that run are those of the live slots
flat-filter : {X : Type 0} (p q : ℕ → Bool) (f : ℕ → X) (xs : List ℕ) → ((x : ℕ) → q x ≡ p x)
    → flat_map (λ x. cond (p x) (f x ∷ []) []) xs ≡ map f (filter q xs)
flat-filter p q f [] same = refl
flat-filter {X = X} p q f (x ∷ xs) same = by (p x) (q x) (same x) (flat-filter p q f xs same)
  where
    by : (b c : Bool) → c ≡ b → flat_map (λ x. cond (p x) (f x ∷ []) []) xs ≡ map f (filter q xs)
        → cond b (f x ∷ []) [] ++ flat_map (λ x. cond (p x) (f x ∷ []) []) xs ≡ map f (cond c (x ∷ filter q xs) (filter q xs))
    by true true e rest = ap (λ ys. f x ∷ ys) rest
    by false false e rest = rest
    by true false e rest = cc
    by false true e rest = cc

pub records-live : (t : TimetableView) (leave enter : List ℕ)
    → price_records t leave enter ≡ map (record_of t leave enter) (live_slots (trip_moves t.slots))
unfolding price_records
records-live t leave enter =
    flat-filter (λ s. (slot_at t s).trip.live) (λ s. is_some (move_at (trip_moves t.slots) s)) (record_of t leave enter)
    (range_with_len 0 (length t.slots)) (slot-live t)
    ∙ ap (λ n. map (record_of t leave enter) (filter (λ s. is_some (move_at (trip_moves t.slots) s)) (range_with_len 0 n)))
    (sym (length-map t.slots move_of_slot))

each-filter : (p : ℕ → Bool) (P : ℕ → Type 0) (xs : List ℕ) → ((x : ℕ) → p x ≡ true → P x) → AllByRecursion P (filter p xs)
each-filter p P [] holds = tt
each-filter p P (x ∷ xs) holds = by (p x) refl (each-filter p P xs holds)
  where
    by : (b : Bool) → p x ≡ b → AllByRecursion P (filter p xs) → AllByRecursion P (cond b (x ∷ filter p xs) (filter p xs))
    by true e rest = (holds x e, rest)
    by false e rest = rest

filter-length : (p : ℕ → Bool) (xs : List ℕ) → length (filter p xs) ≤ length xs
filter-length p [] = omega arith
filter-length p (x ∷ xs) = by (p x) (filter-length p xs)
  where
    by : (b : Bool) → length (filter p xs) ≤ length xs → length (cond b (x ∷ filter p xs) (filter p xs)) ≤ suc (length xs)
    by true few = omega arith
    by false few = omega arith

-- there are at most as many live slots as slots
pub live-few : (t : TimetableView) → length (live_slots (trip_moves t.slots)) ≤ length t.slots
live-few t =
    let n = length (trip_moves t.slots) in
    omega (
      arith,
      filter-length (λ s. is_some (move_at (trip_moves t.slots) s)) (range_with_len 0 n),
      length-range_with_len 0 n,
      length-map
          t.slots move_of_slot,
    )

-- a price is at most what all are
price-most : (prices : List ℕ) (s most : ℕ) → All (λ price. price ≤ most) prices → price prices s ≤ most
price-most prices s most few = ⊎_elim
    (λ (lt : s < length prices). few s 0 lt)
    (λ (past : length prices ≤ s). (let none = get_or_past prices s 0 past in omega (arith, none)))
    (cases_lt s (length prices))

-- the rows of the live slots
pub all-prices : (t : TimetableView) (leave enter : List ℕ) → IsTimetable t → All (λ slot. IsName slot.name) t.slots
    → All (λ price. price ≤ MOST_PRICE) leave → All (λ price. price ≤ MOST_PRICE) enter
    → ((s : ℕ) → (slot_at t s).trip.live ≡ true → s < length t.slots)
    → each_record (with_prices t written_columns) 1 []
    (map (record_of t leave enter) (live_slots (trip_moves t.slots))) ≡ Ok (written_prices t leave enter)
all-prices t leave enter valid names left entered within =
    each-adds (with_prices t written_columns) (λ rows. rows) (record_of t leave enter) (written_price t leave enter) MOST_SLOTS (Runs t)
    (λ n rows s runs less. prices-back t n rows (slot_at t s).name (price leave s) (price enter s) s (names s _ runs.within)
    (price-most leave s MOST_PRICE left) (price-most enter s MOST_PRICE entered) less (running-back t s valid runs))
    1 [] (live_slots (trip_moves t.slots))
    (each-filter (λ s. is_some (move_at (trip_moves t.slots) s)) (Runs t) (range_with_len 0 (length (trip_moves t.slots)))
    (λ s live. (let runs = sym (slot-live t s) ∙ live in record { within = within s runs; live = runs })))
    (omega (arith, live-few t, valid.slots))
