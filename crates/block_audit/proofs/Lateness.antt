-- Two trips fit where a vehicle comes in time and the rules of pairs allow them. So it is late, or rules forbid them, in a misfit.
use Rattle.std.proofs.Common.{◌≡◌, ℕ, zero, suc, ◌+◌, ◌-◌, ◌<◌, ◌≤◌, ◌&&◌, nat_eq, nat_le, Bool, true, false, cond, List, [], ◌∷◌, ◌++◌}
use Rattle.std.proofs.Common.{Option, None, Some}
use Rattle.std.proofs.Common.{if◌then◌else◌, refl, sym, ap, ◌∙◌, arith}
use Rattle.std.specs.Prelude.{All, option_map}
use Rattle.std.specs.List.{AllByRecursion}
use Rattle.std.specs.Option.{is_some, option_eq}
use Rattle.std.proofs.lemmas.Bool.{eq-eqb, leb-false, leb-true, ne_eqb}
use Rattle.std.proofs.lemmas.List.Elements.{recursion_from_All, All-from_recursion}
use Rattle.std.proofs.Math.ListN.{get_or-map}
use Rattle.gtfs_tables.specs.Table.{TableView}
use Rattle.pair_rules.specs.Rules.{allows}
use Rattle.trip_model.specs.Blocking.{times}
use Rattle.trip_model.specs.Order.{by_departure}
use Rattle.trip_model.specs.Plain.{move_at, trip_moves}
use Rattle.trip_model.specs.Timetable.{TimetableView, Slot, slot_at, slot_names}
use Rattle.trip_model.specs.Trip.{move_of}
use Rattle.trip_model.specs.declared.trip.Trip.{Trip}
use Rattle.trip_model.proofs.Counting.{times-cons}
use Rattle.trip_model.proofs.OrderLemmas.{StandsOnce-by_departure, slot-live, slot-move}
use Rattle.deadhead_matrix.specs.Fitting.{empty_between, in_time, name_at, network_of}
use Rattle.deadhead_matrix.specs.Matrix.{MatrixView, walk}
use Rattle.block_audit.specs.declared.misfit.Misfit.{Misfit}
use Rattle.block_audit.specs.declared.misfit.Why.TheVariants.{Forbidden}
use Rattle.block_audit.specs.Laws.{AreForbidden, AreLate, IsForbidden, IsLate}
use Rattle.block_audit.specs.Misfits.{with_misfit, misfit_between, misfits_after, block_misfits, misfits_from, misfits_in, short_by, why_of}
use Rattle.block_audit.specs.Stated.{NamedBlock, blocks_by, slots_by, stated_in, stated_names}
use Rattle.block_audit.proofs.StatedLemmas.{all-slots}

-- two trips for which a way leaves time
timely : (a b : Trip) (way : Option ℕ) → is_some (in_time (move_of a) (move_of b) way)
    ≡ option_eq nat_eq (option_map (λ minutes. a.ends + minutes - b.departs) way) (Some 0)
timely a b None = refl
timely a b (Some minutes) = by (nat_le (a.ends + minutes) b.departs) refl
  where
    by : (t : Bool) → nat_le (a.ends + minutes) b.departs ≡ t
        → is_some {T = ℕ} (if t then Some minutes else None) ≡ nat_eq (a.ends + minutes - b.departs) 0
    by true le =
        let within : a.ends + minutes ≤ b.departs = leb-true (a.ends + minutes) b.departs le in
        sym (eq-eqb (a.ends + minutes - b.departs) 0 (omega (arith, within)))
    by false gt =
        let above : b.departs < a.ends + minutes = leb-false (a.ends + minutes) b.departs gt in
        sym (ne_eqb (a.ends + minutes - b.departs) 0 (λ e. omega (arith, above, e)))

-- what is found where a test passes
passed : (test : Bool) (found : Option ℕ) → is_some {T = ℕ} (if test then found else None) ≡ (is_some found && test)
passed true None = refl
passed true (Some minutes) = refl
passed false None = refl
passed false (Some minutes) = refl

-- why two trips do not fit
late-why : (short : Option ℕ) → IsLate (why_of short)
late-why None = tt
late-why (Some zero) = tt
late-why (Some (suc minutes)) = omega arith

forbidden-why : (short : Option ℕ) → why_of short ≡ Forbidden → option_eq nat_eq short (Some 0) ≡ true
forbidden-why None e = absurd (cc)
forbidden-why (Some zero) e = refl
forbidden-why (Some (suc minutes)) e = absurd (cc)

-- what stands once for each that runs, runs
runs-standing : (live : ℕ → Bool) (slots : List ℕ) → ((s : ℕ) → times s slots ≤ cond (live s) 1 0)
    → AllByRecursion (λ s. live s ≡ true) slots
runs-standing live [] few = tt
runs-standing live (x ∷ slots) few = (
  by (live x) (few x),
  runs-standing live slots
      (λ s. let less : times s slots ≤ cond (live s) 1 0 = omega (arith, times-cons s x slots, few s) in less),
)
  where
    one : times x (x ∷ slots) ≡ 1 + times x slots
    one = times-cons x x slots ∙ ap (λ b. cond b 1 0 + times x slots) (eq-eqb x x refl)

    by : (b : Bool) → times x (x ∷ slots) ≤ cond b 1 0 → b ≡ true
    by true le = refl
    by false le = absurd (omega (arith, le, one))

all-append : (P : Misfit → Type 0) (xs ys : List Misfit) → AllByRecursion P xs → AllByRecursion P ys → AllByRecursion P (xs ++ ys)
all-append P [] ys all more = more
all-append P (x ∷ xs) ys all more = (all.0, all-append P xs ys all.1 more)

module _ (timetable : TimetableView) (matrix : MatrixView) where
  abbrev Live : ℕ → Type 0
  Live s = (slot_at timetable s).trip.live ≡ true

  made : (s : ℕ) → Live s → move_at (trip_moves timetable.slots) s ≡ Some (move_of (slot_at timetable s).trip)
  made s live = slot-move timetable s ∙ ap (λ b. cond b (Some (move_of (slot_at timetable s).trip)) None) live

  named : (s : ℕ) → name_at (slot_names timetable) s ≡ (slot_at timetable s).name
  named s = get_or-map (λ (slot : Slot). slot.name) timetable.slots s _

  abbrev allowed : ℕ → ℕ → Bool
  allowed i j = allows matrix.rules (slot_at timetable i).name (slot_at timetable j).name

  -- two trips fit where a vehicle comes in time and the rules allow them
  pair-fits : (i j : ℕ) → Live i → Live j
      → is_some ((network_of timetable matrix).empty i j) ≡ (option_eq nat_eq (short_by timetable matrix i j) (Some 0)
      && allows matrix.rules (slot_at timetable i).name (slot_at timetable j).name)
  pair-fits i j first second =
      let a = (slot_at timetable i).trip in
      let b = (slot_at timetable j).trip in
      (λ k. is_some (if allows matrix.rules (named i k) (named j k)
      then empty_between (walk matrix) (made i first k) (made j second k) else None))
      ∙ passed (allowed i j) (in_time (move_of a) (move_of b) (walk matrix a.to b.from))
      ∙ ap (λ test. test && allowed i j) (timely a b (walk matrix a.to b.from))

  pair-forbidden : (block i j : ℕ) → Live i → Live j → is_some ((network_of timetable matrix).empty i j) ≡ false
      → IsForbidden timetable matrix.rules
      (record { block = block; before = i; after = j; why = why_of (short_by timetable matrix i j) })
  pair-forbidden block i j first second unfit forbidden =
      sym (pair-fits i j first second ∙ ap (λ test. test && allowed i j) (forbidden-why (short_by timetable matrix i j) forbidden)) ∙ unfit

  -- what holds of the misfit of each pair that does not fit
  module _ (P : Misfit → Type 0)
      (pair : (block i j : ℕ) → Live i → Live j → is_some ((network_of timetable matrix).empty i j) ≡ false
      → P (record { block = block; before = i; after = j; why = why_of (short_by timetable matrix i j) })) where
    with-one : (block i j : ℕ) (rest : List Misfit) → Live i → Live j → AllByRecursion P rest
        → AllByRecursion P (with_misfit (misfit_between timetable matrix block i j) rest)
    with-one block i j rest first second all = by (is_some ((network_of timetable matrix).empty i j)) refl
      where
        by : (b : Bool) → is_some ((network_of timetable matrix).empty i j) ≡ b
            → AllByRecursion P (with_misfit
            (if b then None else Some (record { block = block; before = i; after = j; why = why_of (short_by timetable matrix i j) })) rest)
        by true e = all
        by false e = (pair block i j first second e, all)

    after-all : (block i : ℕ) (js : List ℕ) → Live i → AllByRecursion Live js
        → AllByRecursion P (misfits_after timetable matrix block i js)
    after-all block i [] first all = tt
    after-all block i (j ∷ js) first all =
        with-one block i j (misfits_after timetable matrix block j js) first all.0 (after-all block j js all.0 all.1)

    block-all : (block : ℕ) (slots : List ℕ) → AllByRecursion Live slots → AllByRecursion P (block_misfits timetable matrix block slots)
    block-all block [] all = tt
    block-all block (i ∷ js) all = after-all block i js all.0 all.1

    from-all : (number : ℕ) (stated : List NamedBlock) → AllByRecursion (All Live) (slots_by stated)
        → AllByRecursion P (misfits_from timetable matrix number stated)
    from-all number [] all = tt
    from-all number (b ∷ stated) all =
        all-append P (block_misfits timetable matrix number b.slots) (misfits_from timetable matrix (number + 1) stated)
        (block-all number b.slots (recursion_from_All Live b.slots all.0))
        (from-all (number + 1) stated all.1)

  order-live : All Live (by_departure (trip_moves timetable.slots))
  order-live =
      All-from_recursion Live (by_departure (trip_moves timetable.slots))
      (runs-standing (λ s. (slot_at timetable s).trip.live) (by_departure (trip_moves timetable.slots))
      (λ s. let once = (StandsOnce-by_departure (trip_moves timetable.slots)).once s ∙ ap (λ b. cond b 1 0) (slot-live timetable s) in
      omega (arith, once)))

  stated-all : (trips : TableView) (chosen : List Bool) (P : Misfit → Type 0)
      → ((block i j : ℕ) → Live i → Live j → is_some ((network_of timetable matrix).empty i j) ≡ false
      → P (record { block = block; before = i; after = j; why = why_of (short_by timetable matrix i j) }))
      → All P (misfits_in timetable matrix (stated_in trips timetable chosen))
  stated-all trips chosen P pair =
      let stated = blocks_by (stated_names trips chosen) (by_departure (trip_moves timetable.slots)) in
      All-from_recursion P (misfits_from timetable matrix 0 stated)
      (from-all P pair 0 stated
      (recursion_from_All (All Live) (slots_by stated)
      (all-slots Live (stated_names trips chosen) (by_departure (trip_moves timetable.slots)) order-live)))

pub are-late : AreLate
are-late trips timetable chosen matrix =
    stated-all timetable matrix trips chosen (λ misfit. IsLate misfit.why) (λ block i j _ _ _. late-why (short_by timetable matrix i j))

pub are-forbidden : AreForbidden
are-forbidden trips timetable chosen matrix =
    stated-all timetable matrix trips chosen (IsForbidden timetable matrix.rules) (pair-forbidden timetable matrix)
