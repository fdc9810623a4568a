-- The rows that are read: at most 4,096, which name slots whose trips run, with prices of at most twelve digits.
use Rattle.std.proofs.Common.{◌≡◌, ℕ, ◌<◌, ◌≤◌, nat_le, nat_lt, cond, Bool, true, false, List, [], ◌∷◌, ◌++◌, length, Option, None, Some}
use Rattle.std.proofs.Common.{Result, Ok, Err, refl, sym, ap, subst, ◌∙◌, arith}
use Rattle.std.specs.Bool.{then_some}
use Rattle.std.specs.Option.{option_and_then, ok_or}
use Rattle.std.proofs.lemmas.Bool.{leb-true, ltb-true}
use Rattle.std.proofs.lemmas.List.{length-append, length-map}
use Rattle.std.proofs.lemmas.List.Elements.{All-nil, All-push}
use Rattle.desk_io.specs.declared.shelf.Found.{Found}
use Rattle.gtfs_tables.specs.declared.fault.FeedFault.{FeedFault}
use Rattle.gtfs_tables.specs.declared.fault.FeedFault.TheVariants as fault
use Rattle.gtfs_tables.specs.declared.paper.Column.{Column}
use Rattle.gtfs_tables.specs.declared.paper.Column.TheVariants as column
use Rattle.gtfs_tables.specs.declared.paper.Paper.{Paper}
use Rattle.gtfs_tables.specs.declared.paper.Paper.TheVariants as paper
use Rattle.gtfs_tables.specs.Reading.{at_most, each_record, field_at, filled_in, nothing, number_in, provided, table_in, text_in}
use Rattle.gtfs_tables.specs.Numbers.{number_of}
use Rattle.price_check.specs.declared.claim.BlockRow.{BlockRow}
use Rattle.price_check.specs.declared.claim.PriceRow.{PriceRow}
use Rattle.price_check.specs.Claim.{ClaimedView, AreBlockRows, ArePriceRows, IsPriced, NamesLive}
use Rattle.trip_model.specs.Timetable.{TimetableView, Slot, slot_at, slot_names}
use Rattle.trip_model.specs.Timetable as named
use Rattle.trip_model.specs.Plain.{move_of_slot, trip_moves}
use Rattle.trip_model.proofs.Counting.{runs-within}
use Rattle.trip_model.proofs.OrderLemmas.{slot-live}
use Rattle.trip_model.specs.declared.limits.TheConstants.{MOST_SLOTS}
use Rattle.price_check.specs.declared.claim.TheConstants.{MOST_PRICE}
use Rattle.claim_files.specs.declared.blocks.Columns.{Columns}
use Rattle.claim_files.specs.declared.prices.Columns as price_columns
use Rattle.claim_files.specs.Blocks as blocks
use Rattle.claim_files.specs.Blocks.{BlocksRead, no_blocks, with_trip}
use Rattle.claim_files.specs.Prices as prices
use Rattle.claim_files.specs.Prices.{prices_in, with_prices}
use Rattle.claim_files.specs.Claims.{claimed_by, claimed_of}
use Rattle.claim_files.specs.Running.{if_runs, running}
use Rattle.claim_files.proofs.EachRecord.{read-parts, provided-parts, same_Ok, each-keeps}

-- a slot whose trip runs is one of the slots
pub slot-within : (t : TimetableView) (s : ℕ) → (slot_at t s).trip.live ≡ true → s < length t.slots
slot-within t s live = omega (arith, runs-within (trip_moves t.slots) s (slot-live t s ∙ live), length-map t.slots move_of_slot)

-- the slot of a name runs
if_runs-live : (t : TimetableView) (s : ℕ) → NamesLive t (if_runs t s)
if_runs-live t s = by (slot_at t s).trip.live refl
  where
    by : (live : Bool) → (slot_at t s).trip.live ≡ live → NamesLive t (if_runs t s)
    by true e = subst (NamesLive t) (ap (λ b. then_some b s) (sym e)) (record { within = slot-within t s e; live = e })
    by false e = subst (NamesLive t) (ap (λ b. then_some b s) (sym e)) tt

running-live : (t : TimetableView) (name : List ℕ) → NamesLive t (running t name)
running-live t name = by (named.number_of (slot_names t) name)
  where
    by : (found : Option ℕ) → NamesLive t (option_and_then (if_runs t) found)
    by None = tt
    by (Some s) = if_runs-live t s

-- one more of at most 4,096
room : (n most : ℕ) (refused : FeedFault) (done : Unit {0}) → provided (nat_lt n most) refused nothing ≡ Ok done → n < most
room n most refused done e = ltb-true n most (provided-parts (nat_lt n most) refused nothing done e).0

-- one more row of a block
step-blocks : (t : TimetableView) (columns : Columns) (n : ℕ) (before after : BlocksRead) (fields : List (List ℕ))
    → AreBlockRows t before.rows
    → with_trip t columns n before fields ≡ Ok after → AreBlockRows t after.rows
unfolding with_trip
step-blocks t columns n before after fields are e =
    let first = read-parts (provided (nat_lt (length before.rows) MOST_SLOTS) (fault.TooManyTrips n) nothing) _ after e in
    let trip = read-parts (blocks.trip_in columns n fields) _ after first.2 in
    let block = read-parts (blocks.block_number n before.names trip.0.0) _ after trip.2 in
    let few = room (length before.rows) MOST_SLOTS (fault.TooManyTrips n) first.0 first.1 in
    let row = blocks.block_row_of t block.0 trip.0.1 trip.0.2 in
    let rows = before.rows ++ row ∷ [] in
    let now : AreBlockRows t rows = record {
      few = omega (arith, few, length-append before.rows (row ∷ []));
      each = All-push (λ (r : BlockRow). NamesLive t r.slot) before.rows row are.each (running-live t trip.0.1);
    } in
    subst (λ (read : BlocksRead). AreBlockRows t read.rows) (same_Ok _ after block.2) now

each-blocks : (t : TimetableView) (columns : Columns) (read : BlocksRead) (rows : List (List (List ℕ)))
    → each_record (with_trip t columns) 1 no_blocks rows ≡ Ok read → AreBlockRows t read.rows
each-blocks t columns read rows e =
    each-keeps (with_trip t columns) (λ read. AreBlockRows t read.rows) (λ n a b fields are is. step-blocks t columns n a b fields are is)
    1 no_blocks read rows
    (record { few = omega arith; each = All-nil (λ (r : BlockRow). NamesLive t r.slot) }) e

-- the rows of `blocks.csv`
pub blocks-rows : (t : TimetableView) (found : Found) (rows : List BlockRow) → blocks.rows_of t found ≡ Ok rows → AreBlockRows t rows
blocks-rows t found rows e =
    let read = read-parts (blocks.blocks_of t found) _ rows e in
    let table = read-parts (table_in paper.Blocks found) _ read.0 read.1 in
    let columns = read-parts (blocks.columns_in table.0.header) _ read.0 table.2 in
    subst (AreBlockRows t) (same_Ok read.0.rows rows read.2) (each-blocks t columns.0 read.0 table.0.rows columns.2)

-- a number that is read is at most the most
number-most : (paper : Paper) (number : ℕ) (column : Column) (digits most : ℕ) (text : List ℕ) (value : ℕ)
    → number_in paper number column digits most text ≡ Ok value → value ≤ most
number-most paper number column digits most text value e = by (number_of digits text) e
  where
    refused : FeedFault
    refused = fault.BadNumber paper number column

    small : (v : ℕ) (b : Bool) → nat_le v most ≡ b → ok_or (cond b (Some v) None) refused ≡ Ok value → value ≤ most
    small v true is e = omega (arith, leb-true v most is, same_Ok v value e)
    small v false is e = absurd (cc)

    by : (found : Option ℕ) → ok_or (at_most most found) refused ≡ Ok value → value ≤ most
    by None e = absurd (cc)
    by (Some v) e = small v (nat_le v most) refl e

read-prices : (columns : price_columns.Columns) (n : ℕ) (fields : List (List ℕ)) (read : List ℕ × ℕ × ℕ)
    → prices_in columns n fields ≡ Ok read → (read.1 ≤ MOST_PRICE) × (read.2 ≤ MOST_PRICE)
unfolding prices_in
read-prices columns n fields read e =
    let a = read-parts (text_in paper.Prices n column.TripId (field_at fields columns.trip)) _ read e in
    let b = read-parts (text_in paper.Prices n column.Leave (field_at fields columns.leave)) _ read a.2 in
    let c = read-parts (text_in paper.Prices n column.Enter (field_at fields columns.enter)) _ read b.2 in
    let d = read-parts (filled_in paper.Prices n column.TripId a.0) _ read c.2 in
    let f = read-parts (filled_in paper.Prices n column.Leave b.0) _ read d.2 in
    let g = read-parts (filled_in paper.Prices n column.Enter c.0) _ read f.2 in
    let leave = read-parts (number_in paper.Prices n column.Leave 12 MOST_PRICE b.0) _ read g.2 in
    let enter = read-parts (number_in paper.Prices n column.Enter 12 MOST_PRICE c.0) _ read leave.2 in
    let same = same_Ok (a.0, leave.0, enter.0) read enter.2 in (
      subst (λ (r : List ℕ × ℕ × ℕ). r.1 ≤ MOST_PRICE) same (number-most paper.Prices n column.Leave 12 MOST_PRICE b.0 leave.0 leave.1),
      subst (λ (r : List ℕ × ℕ × ℕ). r.2 ≤ MOST_PRICE) same (number-most paper.Prices n column.Enter 12 MOST_PRICE c.0 enter.0 enter.1),
    )

-- one more row of prices
step-prices : (t : TimetableView) (columns : price_columns.Columns) (n : ℕ) (before after : List PriceRow) (fields : List (List ℕ))
    → ArePriceRows t before
    → with_prices t columns n before fields ≡ Ok after → ArePriceRows t after
unfolding with_prices
step-prices t columns n before after fields are e =
    let first = read-parts (provided (nat_lt (length before) MOST_SLOTS) (fault.TooManyTrips n) nothing) _ after e in
    let read = read-parts (prices_in columns n fields) _ after first.2 in
    let few = room (length before) MOST_SLOTS (fault.TooManyTrips n) first.0 first.1 in
    let small = read-prices columns n fields read.0 read.1 in
    let row = prices.price_row_of t read.0.0 read.0.1 read.0.2 in
    let now : ArePriceRows t (before ++ row ∷ []) = record {
      few = omega (arith, few, length-append before (row ∷ []));
      each = All-push (λ (r : PriceRow). NamesLive t r.slot) before row are.each (running-live t read.0.0);
      priced = All-push IsPriced before row are.priced (record { leave = small.0; enter = small.1 });
    } in
    subst (ArePriceRows t) (same_Ok _ after read.2) now

each-prices : (t : TimetableView) (columns : price_columns.Columns) (read : List PriceRow) (rows : List (List (List ℕ)))
    → each_record (with_prices t columns) 1 [] rows ≡ Ok read → ArePriceRows t read
each-prices t columns read rows e =
    each-keeps (with_prices t columns) (ArePriceRows t) (λ n a b fields are is. step-prices t columns n a b fields are is) 1 [] read rows
    (record { few = omega arith; each = All-nil (λ (r : PriceRow). NamesLive t r.slot); priced = All-nil IsPriced }) e

-- the rows of `prices.csv`
pub prices-rows : (t : TimetableView) (found : Found) (rows : List PriceRow) → prices.prices_of t found ≡ Ok rows → ArePriceRows t rows
prices-rows t found rows e =
    let table = read-parts (table_in paper.Prices found) _ rows e in
    let columns = read-parts (prices.columns_in table.0.header) _ rows table.2 in
    each-prices t columns.0 rows table.0.rows columns.2

-- the rows of a claim
pub claim-rows : (t : TimetableView) (b p : Found) (claimed : ClaimedView) → claimed_of t b p ≡ Ok claimed
    → AreBlockRows t claimed.blocks × ArePriceRows t claimed.prices
claim-rows t b p claimed e = by (blocks.rows_of t b) (prices.prices_of t p) refl refl e
  where
    by : (rows : Result (List BlockRow) FeedFault) (priced : Result (List PriceRow) FeedFault) → blocks.rows_of t b ≡ rows
        → prices.prices_of t p ≡ priced → claimed_by rows priced ≡ Ok claimed
        → AreBlockRows t claimed.blocks × ArePriceRows t claimed.prices
    by (Ok rows) (Ok priced) is are e =
        let given : ClaimedView = record { blocks = rows; prices = priced } in
        let same : given ≡ claimed = cc in
        subst (λ (c : ClaimedView). AreBlockRows t c.blocks × ArePriceRows t c.prices) same
        (blocks-rows t b rows is, prices-rows t p priced are)
    by (Ok rows) (Err refused) is are e = absurd (cc)
    by (Err refused) priced is are e = absurd (cc)
