use Rattle.std.proofs.Common.{sym, ap, ◌∙◌, arith}
use Rattle.std.specs.Map.Iter.{deref_pair}
use Rattle.std.specs.Option.{option_map}
use Rattle.trip_model.proofs.TimetableLemmas.{place-valid}
use Rattle.trip_model.proofs.timetable.Timetable.layover.Goals as goal

pub returns-clause-valid : goal.returns-clause-valid
returns-clause-valid c =
    let is = place-valid _ c.self.inside.places.entries _ (deref_pair c.unwrap.result) c.self.invariant.each
    (sym c.get_index.ensures.entry ∙ ap (option_map deref_pair) c.unwrap.ensures) in
    omega (arith, is.layover)
