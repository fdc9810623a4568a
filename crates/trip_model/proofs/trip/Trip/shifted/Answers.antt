use Rattle.std.proofs.Common.{rules, arith, sym, subst}
use Rattle.std.proofs.lemmas.Int.{ints, to_z-of_z}
use Rattle.trip_model.specs.Trip.{IsValidTrip}
use Rattle.trip_model.proofs.SlotLemmas.{shifted-is, IsValidTrip-shifted}
use Rattle.trip_model.proofs.trip.Trip.shifted.Goals as goal

pub returns : goal.returns
returns c =
    let is = shifted-is c.args.self c.args.by _ _ _ (search rules) (search rules) (grind (arith, ints, to_z-of_z)) in
    record {
      trip = is;
      valid = λ places valid. subst (IsValidTrip places) (sym is)
          (IsValidTrip-shifted places c.args.self c.args.by valid c.requires.within);
    }
