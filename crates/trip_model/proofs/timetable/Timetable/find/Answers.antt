use Rattle.std.proofs.Common.{sym, ap, ◌∙◌}
use Rattle.std.specs.Map.{keys_of}
use Rattle.trip_model.specs.Timetable.{slot_names}
use Rattle.trip_model.proofs.TimetableLemmas.{names-slots_of, number_of-keys, number_of-Some, number_of-None}
use Rattle.trip_model.proofs.timetable.Timetable.find.Goals as goal

pub returns-in_err-slot-clause-slot : goal.returns-in_err-slot-clause-slot
returns-in_err-slot-clause-slot c =
    let number = c.get_index_of.ensures.index
    ∙ number_of-keys (slot_names c.args.self.now) (keys_of c.self.inside.trips.entries) c.args.name.now
    (ap slot_names (sym c.self.view_is) ∙ names-slots_of c.self.inside.trips.entries) in
    c.from_residual.ensures ∙ sym c.in_err-slot.was ∙ number

pub returns-in_err-slot-clause-missing : goal.returns-in_err-slot-clause-missing
returns-in_err-slot-clause-missing c =
    let number = c.get_index_of.ensures.index
    ∙ number_of-keys (slot_names c.args.self.now) (keys_of c.self.inside.trips.entries) c.args.name.now
    (ap slot_names (sym c.self.view_is) ∙ names-slots_of c.self.inside.trips.entries) in
    rw c.from_residual.ensures (number_of-None _ _ (sym number ∙ c.in_err-slot.was))

pub returns-clause-slot : goal.returns-clause-slot
returns-clause-slot c =
    let number = c.get_index_of.ensures.index
    ∙ number_of-keys (slot_names c.args.self.now) (keys_of c.self.inside.trips.entries) c.args.name.now
    (ap slot_names (sym c.self.view_is) ∙ names-slots_of c.self.inside.trips.entries) in
    sym c.in_ok-slot.was ∙ number

pub returns-clause-found : goal.returns-clause-found
returns-clause-found c =
    let number = c.get_index_of.ensures.index
    ∙ number_of-keys (slot_names c.args.self.now) (keys_of c.self.inside.trips.entries) c.args.name.now
    (ap slot_names (sym c.self.view_is) ∙ names-slots_of c.self.inside.trips.entries) in
    number_of-Some _ _ _ (sym number ∙ c.in_ok-slot.was)
