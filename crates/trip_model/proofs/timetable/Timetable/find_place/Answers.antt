use Rattle.std.proofs.Common.{sym, ap, ◌∙◌}
use Rattle.std.specs.Map.{keys_of}
use Rattle.trip_model.specs.Timetable.{place_names}
use Rattle.trip_model.proofs.TimetableLemmas.{names-places_of, number_of-keys, number_of-Some, number_of-None}
use Rattle.trip_model.proofs.timetable.Timetable.find_place.Goals as goal

pub returns-in_err-place-clause-number : goal.returns-in_err-place-clause-number
returns-in_err-place-clause-number c =
    let number = c.get_index_of.ensures.index
    ∙ number_of-keys (place_names c.args.self.now) (keys_of c.self.inside.places.entries) c.args.name.now
    (ap place_names (sym c.self.view_is) ∙ names-places_of c.self.inside.places.entries) in
    c.from_residual.ensures ∙ sym c.in_err-place.was ∙ number

pub returns-in_err-place-clause-missing : goal.returns-in_err-place-clause-missing
returns-in_err-place-clause-missing c =
    let number = c.get_index_of.ensures.index
    ∙ number_of-keys (place_names c.args.self.now) (keys_of c.self.inside.places.entries) c.args.name.now
    (ap place_names (sym c.self.view_is) ∙ names-places_of c.self.inside.places.entries) in
    rw c.from_residual.ensures (number_of-None _ _ (sym number ∙ c.in_err-place.was))

pub returns-clause-number : goal.returns-clause-number
returns-clause-number c =
    let number = c.get_index_of.ensures.index
    ∙ number_of-keys (place_names c.args.self.now) (keys_of c.self.inside.places.entries) c.args.name.now
    (ap place_names (sym c.self.view_is) ∙ names-places_of c.self.inside.places.entries) in
    sym c.in_ok-place.was ∙ number

pub returns-clause-found : goal.returns-clause-found
returns-clause-found c =
    let number = c.get_index_of.ensures.index
    ∙ number_of-keys (place_names c.args.self.now) (keys_of c.self.inside.places.entries) c.args.name.now
    (ap place_names (sym c.self.view_is) ∙ names-places_of c.self.inside.places.entries) in
    number_of-Some _ _ _ (sym number ∙ c.in_ok-place.was)
