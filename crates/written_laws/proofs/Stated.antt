-- The blocks that the written feed states are those of the plan, and least where those are.
use Rattle.std.proofs.Common.{◌≡◌, ℕ, ◌<◌, Bool, true, List, [], length, map, Option, None, Some, refl, sym, ap, subst, ◌∙◌, arith}
use Rattle.std.specs.Str.{IsUtf8}
use Rattle.std.proofs.lemmas.List.{length-map}
use Rattle.std.proofs.lemmas.List.FromFn.{get_or-map-range_with_len}
use Rattle.std.proofs.lemmas.Option.{slice_get_within}
use Rattle.std.proofs.lemmas.Str.{IsUtf8-nil}
use Rattle.gtfs_tables.specs.Table.{TableView, IsTable}
use Rattle.trip_model.specs.Blocking.{IsBlocking, IsLeast}
use Rattle.trip_model.specs.Links.{blocks_along}
use Rattle.trip_model.specs.Network.{AreDepartures}
use Rattle.trip_model.specs.Order.{by_departure, minute_left}
use Rattle.trip_model.specs.Plain.{move_at, move_of_slot, trip_moves}
use Rattle.trip_model.specs.Timetable.{TimetableView, IsTimetable, Slot, number_of, slot_at, slot_names}
use Rattle.trip_model.proofs.Counting.{runs-within}
use Rattle.trip_model.proofs.OrderLemmas.{RiseBy-by_departure, StandsOnce-by_departure, slot-live}
use Rattle.trip_model.proofs.TimetableLemmas.{number_of-Some}
use Rattle.deadhead_matrix.specs.Matrix.{MatrixView}
use Rattle.deadhead_matrix.specs.Fitting.{network_of}
use Rattle.block_build.specs.Names.{AreBlockNames}
use Rattle.block_writer.specs.Trips.{block_numbers, block_of, name_of, number_in, with_blocks}
use Rattle.block_audit.specs.Stated.{NamedBlock, AreNames, blocks_by, slots_by, stated_in}
use Rattle.block_audit.proofs.AboveLemmas.{standing-least}
use Rattle.block_audit.proofs.StatedLemmas.{have-no-misfit}
use Rattle.written_laws.specs.Written.{as_written}
use Rattle.written_laws.specs.PlanLaws as spec
use Rattle.written_laws.specs.Planned.{AllRun, IsWhole, NameSlots, names_by_slot, trip_field}
use Rattle.written_laws.proofs.Grouped.{AreNamed, blocks-back, in-block, names-back}
use Rattle.written_laws.proofs.Moves.{least-again, same-moves}
use Rattle.written_laws.proofs.Named.{count-rows, names-are-stated, slot-block, written-field}

-- the departures of a timetable rise along trips that fit
abbrev pub Clock : Type 0
Clock = (timetable : TimetableView) (matrix : MatrixView) → IsTimetable timetable
    → AreDepartures (network_of timetable matrix) (λ s. minute_left (move_at (trip_moves timetable.slots) s))

-- the stated blocks are those of the slots in order of departure, by the names of their blocks
stated-is : (trips : TableView) (base standing : TimetableView) (chosen : List Bool) (blocks names : List (List ℕ))
    → IsTable trips → IsTimetable standing → AllRun base → IsWhole base standing → NameSlots trips chosen standing
    → stated_in (with_blocks trips standing chosen blocks names) (as_written base standing) chosen ≡ blocks_by
    (names_by_slot names blocks (length standing.slots)) (by_departure (trip_moves standing.slots))
stated-is trips base standing chosen blocks names is valid published whole name =
    ap (λ found. blocks_by found (by_departure (trip_moves (as_written base standing).slots)))
    (names-are-stated trips standing chosen blocks names is valid.slot_names whole.runs name)
    ∙ ap (λ moves. blocks_by (names_by_slot names blocks (length standing.slots)) (by_departure moves))
    (same-moves base standing published whole)

-- the slots of a plan's blocks have the names of these
are-named : Clock → (timetable : TimetableView) (matrix : MatrixView) (next : List (Option ℕ)) (names : List (List ℕ))
    → IsTimetable timetable
    → let moves = trip_moves timetable.slots in let blocks = blocks_along next (by_departure (trip_moves timetable.slots)) in
    IsBlocking (network_of timetable matrix) blocks → AreBlockNames (length blocks) names
    → AreNamed (network_of timetable matrix) (λ s. minute_left (move_at moves s)) next (by_departure moves)
    (names_by_slot names blocks (length timetable.slots)) names
are-named clock timetable matrix next names valid are given =
    let moves = trip_moves timetable.slots in
    let blocks = blocks_along next (by_departure moves) in
    record {
      clock = clock timetable matrix valid;
      blocking = are;
      stands = StandsOnce-by_departure moves;
      rises = RiseBy-by_departure moves;
      given = given;
      named = λ s live.
          get_or-map-range_with_len (λ s. name_of names (number_in blocks s)) 0 (length timetable.slots) s s []
          (omega (arith, runs-within moves s live, length-map timetable.slots move_of_slot)) (omega arith);
    }

pub blocks-are-stated : Clock → spec.BlocksAreStated
blocks-are-stated clock trips base standing chosen matrix next names is valid published whole name are given =
    let moves = trip_moves standing.slots in
    let blocks = blocks_along next (by_departure moves) in
    ap slots_by (stated-is trips base standing chosen blocks names is valid published whole name)
    ∙ blocks-back (network_of standing matrix) (λ s. minute_left (move_at moves s)) next (by_departure moves)
    (names_by_slot names blocks (length standing.slots)) names
    (are-named clock standing matrix next names valid are given)

-- each stands under its name
names-are-theirs : Clock → (trips : TableView) (base standing : TimetableView) (chosen : List Bool) (matrix : MatrixView)
    (next : List (Option ℕ)) (names : List (List ℕ))
    → IsTable trips → IsTimetable standing → AllRun base → IsWhole base standing → NameSlots trips chosen standing
    → let blocks = blocks_along next (by_departure (trip_moves standing.slots)) in
    IsBlocking (network_of standing matrix) blocks → AreBlockNames (length blocks) names
    → map (λ (b : NamedBlock). b.name)
    (stated_in (with_blocks trips standing chosen blocks names) (as_written base standing) chosen) ≡ names
names-are-theirs clock trips base standing chosen matrix next names is valid published whole name are given =
    let moves = trip_moves standing.slots in
    let blocks = blocks_along next (by_departure moves) in
    ap (map (λ (b : NamedBlock). b.name)) (stated-is trips base standing chosen blocks names is valid published whole name)
    ∙ names-back (network_of standing matrix) (λ s. minute_left (move_at moves s)) next (by_departure moves)
    (names_by_slot names blocks (length standing.slots)) names
    (are-named clock standing matrix next names valid are given)

-- the name of the block of a slot whose trip runs is text
slot-text : Clock → (timetable : TimetableView) (matrix : MatrixView) (next : List (Option ℕ)) (names : List (List ℕ))
    → IsTimetable timetable
    → let blocks = blocks_along next (by_departure (trip_moves timetable.slots)) in
    IsBlocking (network_of timetable matrix) blocks → AreBlockNames (length blocks) names
    → (s : ℕ) → (slot_at timetable s).trip.live ≡ true
    → IsUtf8 (name_of names (number_in blocks s))
slot-text clock timetable matrix next names valid are given s live =
    let moves = trip_moves timetable.slots in
    let order = by_departure moves in
    let key : ℕ → ℕ = λ s. minute_left (move_at moves s) in
    let by_slot = names_by_slot names (blocks_along next order) (length timetable.slots) in
    let named = are-named clock timetable matrix next names valid are given in
    let runs = slot-live timetable s ∙ live in
    let at = in-block (network_of timetable matrix) key next order by_slot names named s runs in
    subst IsUtf8 (sym at.2 ∙ named.named s runs)
    (given.each at.0 [] (omega (arith, at.1.within, given.counted))).text

-- so is each `block_id` of a selected record
names-are-text : Clock → (trips : TableView) (standing : TimetableView) (chosen : List Bool) (matrix : MatrixView) (next : List (Option ℕ))
    (names : List (List ℕ))
    → IsTable trips → IsTimetable standing → AllRun standing
    → let blocks = blocks_along next (by_departure (trip_moves standing.slots)) in
    IsBlocking (network_of standing matrix) blocks → AreBlockNames (length blocks) names
    → AreNames (with_blocks trips standing chosen blocks names) chosen
names-are-text clock trips standing chosen matrix next names is valid runs are given r within chosen_is =
    let blocks = blocks_along next (by_departure (trip_moves standing.slots)) in
    let inside : r < length trips.rows = omega (arith, within, count-rows trips standing chosen blocks names) in
    subst IsUtf8 (sym (written-field trips standing chosen blocks names is r inside chosen_is))
    (by (number_of (slot_names standing) (trip_field trips r)) refl)
  where
    by : (found : Option ℕ) → number_of (slot_names standing) (trip_field trips r) ≡ found
        → IsUtf8 (block_of standing (block_numbers (length standing.slots) (blocks_along next (by_departure (trip_moves standing.slots))))
        names found)
    by None e = IsUtf8-nil
    by (Some s) e =
        let stands = slice_get_within (slot_names standing) s _ (number_of-Some (slot_names standing) (trip_field trips r) s e) in
        let slot : s < length standing.slots = omega (arith, stands, length-map standing.slots (λ (s : Slot). s.name)) in
        subst IsUtf8 (sym (slot-block trips standing chosen (blocks_along next (by_departure (trip_moves standing.slots))) names runs s
        slot))
        (slot-text clock standing matrix next names valid are given s (runs s _ slot))

pub least-are-stated : Clock → spec.LeastAreStated
least-are-stated clock trips base standing chosen matrix next names is valid published whole name least given =
    let timetable = as_written base standing in
    let network = network_of timetable matrix in
    let blocks = blocks_along next (by_departure (trip_moves standing.slots)) in
    let stated = stated_in (with_blocks trips standing chosen blocks names) timetable chosen in
    let same : slots_by stated ≡ blocks =
    blocks-are-stated clock trips base standing chosen matrix next names is valid published whole name least.fewest.blocking given in
    let again : IsLeast network (slots_by stated) =
    subst (IsLeast network) (sym same) (least-again base standing matrix blocks published whole least) in
    record {
      text = names-are-text clock trips standing chosen matrix next names is valid whole.runs least.fewest.blocking given;
      stated = record {
        names = names-are-theirs clock trips base standing chosen matrix next names is valid published whole name least.fewest.blocking
            given;
        slots = same;
        fits = have-no-misfit timetable matrix stated again.fewest.blocking;
        least = again;
        above = λ others them. standing-least network (slots_by stated) others again them;
      };
    }
