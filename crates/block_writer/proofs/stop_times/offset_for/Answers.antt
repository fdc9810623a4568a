use Rattle.std.proofs.Common.{ap, ◌∙◌, sym, subst, rules}
use mir.Syntax.{w8}
use mir.Val.{SFits}
use Rattle.std.specs.Str.{IsUtf8}
use Rattle.std.proofs.lemmas.Int.{to_z-of_z}
use Rattle.trip_model.specs.Timetable.{number_of, slot_names}
use Rattle.block_writer.specs.StopTimes.{offset_of}
use Rattle.block_writer.proofs.FieldsWritten.{field-text}
use Rattle.block_writer.proofs.stop_times.offset_for.Goals as goal

pub text_of-requires : goal.text_of-requires
text_of-requires c = subst IsUtf8 (sym c.field.ensures) (field-text c.args.row.now c.args.trip c.requires.texts)

pub returns : goal.returns
returns c =
    let fits : SFits w8 c.offset_of.result = search rules in
    to_z-of_z w8 c.offset_of.result fits
    ∙ c.offset_of.ensures
    ∙ ap (λ name. offset_of c.args.timetable.now c.args.base (number_of (slot_names c.args.timetable.now) name))
    (c.text_of.ensures ∙ c.field.ensures)
