-- What a keeper holds and has counted, and what its calls do to that.
use Rattle.std.specs.Prelude.{◌≡◌, ℕ, ◌<◌, ◌≤◌, List, ◌++◌, length, Option, None, Some, Result, Ok, Err, option_map}
use Rattle.desk_io.specs.Faults.{Rose}
use Rattle.desk_io.specs.History.{Loading}
use Rattle.desk_io.specs.History as loading
use Rattle.desk_keeper.specs.declared.keeper.KeeperFault.{KeeperFault}
use Rattle.desk_keeper.specs.declared.keeper.KeeperFault.TheVariants.{Failed, TooLong, Memory}

-- the lines of a journal in their order, each as its bytes
abbrev pub Journal : Type 0
Journal = List (List ℕ)

-- what a keeper holds, where it tells that, and how many faults it has counted
pub record KeeperState : Type 0 where
  pub journal : Option Journal
  pub faults : ℕ

-- A keeper that tells its journal answers it whole, or that it has too many lines. One that tells nothing may answer anything.
abbrev pub Tells : Option Journal → ℕ → Result Journal KeeperFault → Type 0
Tells None limit answer = Unit {0}
Tells (Some journal) limit (Ok lines) = lines ≡ journal
Tells (Some journal) limit (Err TooLong) = limit < length journal
Tells (Some journal) limit (Err Failed) = Unit {0}
Tells (Some journal) limit (Err Memory) = Unit {0}

-- what is noted of the answer to a load: what was loaded, or that it was refused
abbrev pub answer_of : Result Journal KeeperFault → Loading
answer_of (Ok lines) = loading.Lines lines
answer_of (Err TooLong) = loading.TooLong
answer_of (Err Failed) = loading.Refused
answer_of (Err Memory) = loading.Refused

-- a call failed: the count rose, and the journal is as it was
pub record CallFailed (before after : KeeperState) : Type 0 where
  pub journal : after.journal ≡ before.journal
  pub never_falls : before.faults ≤ after.faults
  pub rose : Rose before.faults after.faults

-- what a call that is refused does to the keeper: nothing, but where it failed
abbrev pub Refuses : KeeperFault → KeeperState → KeeperState → Type 0
Refuses TooLong before after = after ≡ before
Refuses Memory before after = after ≡ before
Refuses Failed before after = CallFailed before after

-- what a load does to the keeper
abbrev pub Loads : {T : Type 0} → Result T KeeperFault → KeeperState → KeeperState → Type 0
Loads (Ok lines) before after = after ≡ before
Loads (Err fault) before after = Refuses fault before after

-- the keeper with these lines at the end of its journal
abbrev pub with_lines : Journal → KeeperState → KeeperState
with_lines lines keeper = record keeper { journal = option_map (λ journal. journal ++ lines) keeper.journal }

-- what an append of these lines does to the keeper: all of them are appended, or none
abbrev pub Appends : {T : Type 0} → Journal → Result T KeeperFault → KeeperState → KeeperState → Type 0
Appends lines (Ok done) before after = after ≡ with_lines lines before
Appends lines (Err fault) before after = Refuses fault before after
