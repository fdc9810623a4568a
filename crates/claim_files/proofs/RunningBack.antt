-- The slot of a trip that runs is found by its name.
use Rattle.std.proofs.Common.{◌≡◌, ℕ, [], get_or, Some, sym, ap, ◌∙◌, arith}
use Rattle.std.specs.Bool.{then_some}
use Rattle.std.specs.Option.{option_and_then}
use Rattle.std.proofs.lemmas.List.{get_or-map, length-map}
use Rattle.price_check.specs.Claim.{Runs}
use Rattle.trip_model.specs.Timetable.{TimetableView, IsTimetable, Slot, slot_at, slot_names, number_of}
use Rattle.claim_files.specs.Running.{if_runs, running}
use Rattle.claim_files.proofs.NamesFound.{number-distinct}

pub running-back : (t : TimetableView) (s : ℕ) → IsTimetable t → Runs t s → running t (slot_at t s).name ≡ Some s
running-back t s valid runs =
    let name : get_or (slot_names t) s [] ≡ (slot_at t s).name = get_or-map (λ (slot : Slot). slot.name) t.slots s _ [] runs.within in
    let found = number-distinct (slot_names t) s valid.slot_names
    (omega (arith, runs.within, length-map t.slots (λ (slot : Slot). slot.name))) in
    ap (option_and_then (if_runs t)) (sym (ap (number_of (slot_names t)) name) ∙ found)
    ∙ ap (λ live. then_some live s) runs.live
