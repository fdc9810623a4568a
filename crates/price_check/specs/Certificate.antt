-- What a claim is against which no reason holds: a certificate, which proves its blocks.
use Rattle.std.specs.Prelude.{◌≡◌, ℕ, ◌<◌, ◌==◌, nat_eq, Bool, List, [], ◌∷◌, length, map, Option, None, Some, if◌then◌else◌}
use Rattle.std.specs.List.{filter_map, range_with_len}
use Rattle.std.specs.Option.{option_eq}
use Rattle.trip_model.specs.Blocking.{StandsOnce, IsBlocking}
use Rattle.trip_model.specs.Network.{Network}
use Rattle.assignment_model.specs.Prices.{Plan, IsCertified}
use Rattle.price_check.specs.declared.claim.BlockRow.{BlockRow}
use Rattle.price_check.specs.declared.claim.PriceRow.{PriceRow}
use Rattle.price_check.specs.Claim.{ClaimedView, AreKnown, block_slots, price_slots, block_row, slot_before, blocks_in}
use Rattle.price_check.specs.Reasons.{minutes_before}

-- the slots that records name, in the order of the records
abbrev pub slots_named : List (Option ℕ) → List ℕ
slots_named slots = filter_map (λ slot. slot) slots

-- the records of a file name each live slot once, and nothing else
pub record NameOnce (live : ℕ → Bool) (slots : List (Option ℕ)) : Type 0 where
  pub known : AreKnown slots
  pub once : StandsOnce live (slots_named slots)

-- the slot of the record after a record, where that is of the same block
abbrev pub slot_after : BlockRow → List BlockRow → Option ℕ
slot_after r [] = None
slot_after r (q ∷ rows) = if r.block == q.block then q.slot else None

-- the trip after that of s in its block
abbrev pub next_in : List BlockRow → ℕ → Option ℕ
next_in [] s = None
next_in (r ∷ rows) s = if option_eq nat_eq r.slot (Some s) then slot_after r rows else next_in rows s

-- the record of the prices of s; one without prices where there is none
abbrev pub row_of : List PriceRow → ℕ → PriceRow
row_of [] s = record { trip = []; slot = None; leave = 0; enter = 0 }
row_of (r ∷ rows) s = if option_eq nat_eq r.slot (Some s) then r else row_of rows s

-- the plan of so many slots that a claim gives: the links of its blocks, and the prices of its records
abbrev pub plan_of : ℕ → ClaimedView → Plan
plan_of slots claimed = record {
  next = map (next_in claimed.blocks) (range_with_len 0 slots);
  leave = map (λ s. (row_of claimed.prices s).leave) (range_with_len 0 slots);
  enter = map (λ s. (row_of claimed.prices s).enter) (range_with_len 0 slots);
}

-- each record shows the empty minutes before its trip
abbrev pub AreShown : Network → List BlockRow → Type 0
AreShown network rows = (at s : ℕ) → at < length rows → (block_row rows at).slot ≡ Some s
    → (block_row rows at).deadhead ≡ minutes_before network (slot_before rows at) s

-- A certificate. The records of each file name each live slot once and nothing else. The blocks are a blocking, and the records
-- show the empty minutes before their trips. The links of the blocks with the prices are certified.
pub record IsCertificate (network : Network) (slots : ℕ) (claimed : ClaimedView) : Type 0 where
  pub blocks : NameOnce network.live (block_slots claimed.blocks)
  pub prices : NameOnce network.live (price_slots claimed.prices)
  pub blocking : IsBlocking network (blocks_in claimed.blocks)
  pub shown : AreShown network claimed.blocks
  pub certified : IsCertified network (plan_of slots claimed)
