-- The printed line of a chain.
use Rattle.std.specs.Prelude.{ℕ, ◌<◌, List, [], ◌∷◌, ◌++◌, codes}
use Rattle.std.specs.Fmt.{decimal}
use Rattle.std.specs.List.{flat_map}
use Rattle.gtfs_tables.specs.Times.{minute_digits}
use Rattle.trip_model.specs.Timetable.{TimetableView, place_at}
use Rattle.dh_chains.specs.Chains.{following}
use Rattle.dh_chains.specs.declared.chain.Chain.{Chain}
use Rattle.dh_chains.specs.declared.chain.Deadhead.{Deadhead}

-- the deadhead leaves one of so many places and arrives at one of them
pub record IsBetween (places : ℕ) (m : Deadhead) : Type 0 where
  pub from : m.from < places
  pub to : m.to < places

-- a deadhead: the place that it leaves, the minute, `to`, the place where it arrives, and the minute
unfoldable pub deadhead_text : TimetableView → Deadhead → List ℕ
deadhead_text timetable m =
    (place_at timetable m.from).name ++ codes " " ++ minute_digits m.leaves ++ codes " to " ++ (place_at timetable m.to).name ++ codes " "
    ++ minute_digits m.arrives

-- deadheads, each behind a semicolon
unfoldable pub further_text : TimetableView → List Deadhead → List ℕ
further_text timetable ms = flat_map (λ (m : Deadhead). codes "; " ++ deadhead_text timetable m) ms

-- rule: the line of a chain
-- the chain of that number: its deadheads, and the sum of the maxima with it
unfoldable pub chain_text : TimetableView → ℕ → Chain → ℕ → List ℕ
chain_text timetable number chain sum =
    codes "chain " ++ decimal number ++ codes ": " ++ deadhead_text timetable chain.first
    ++ further_text timetable (following chain.second chain.third) ++ codes ", sum " ++ decimal sum ++ 10 ∷ []
