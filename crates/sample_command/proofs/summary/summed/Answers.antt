use Rattle.std.proofs.Common.{sym, subst}
use Rattle.std.specs.Prelude.{All}
use Rattle.trip_model.specs.Timetable.{TimetableView}
use Rattle.block_build.specs.Names.{IsName}
use Rattle.sample_command.proofs.summary.summed.Goals as goal

pub numbers_of-requires-clause-names : goal.numbers_of-requires-clause-names
numbers_of-requires-clause-names g c =
    subst (λ (t : TimetableView). All (λ slot. IsName slot.name) t.slots) (sym c.timetable-timetable.ensures) c.requires.names
