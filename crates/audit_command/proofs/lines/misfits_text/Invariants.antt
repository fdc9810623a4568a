use Rattle.std.proofs.Common.{◌≡◌, take}
use Rattle.std.specs.Prelude.{string_bytes}
use Rattle.std.specs.List.{flat_map}
use Rattle.audit_command.specs.Lines.{misfit_line}
use Rattle.audit_command.proofs.lines.misfits_text.Given as goal

abbrev pub invariant-loop-misfit : goal.invariant-loop-misfit
invariant-loop-misfit l = string_bytes l.text ≡ flat_map (misfit_line l.timetable l.stated) (take l.misfit-index l.misfits)
