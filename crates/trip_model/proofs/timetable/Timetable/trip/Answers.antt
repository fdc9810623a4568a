use Rattle.std.proofs.Common.{sym, ap, subst, ◌∙◌}
use Rattle.std.specs.Map.Iter.{deref_pair}
use Rattle.std.specs.Option.{option_map}
use Rattle.trip_model.specs.Trip.{IsValidTrip}
use Rattle.trip_model.proofs.TimetableLemmas.{trip-valid}
use Rattle.trip_model.proofs.timetable.Timetable.trip.Goals as goal

pub returns-clause-valid : goal.returns-clause-valid
returns-clause-valid c =
    subst (λ t. IsValidTrip t.places c.unwrap.result.1.now) c.self.view_is
    (trip-valid _ c.self.inside.trips.entries _ (deref_pair c.unwrap.result) c.self.invariant.trips
    (sym c.get_index.ensures.entry ∙ ap (option_map deref_pair) c.unwrap.ensures))
