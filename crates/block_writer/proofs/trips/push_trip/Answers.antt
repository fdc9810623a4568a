use Rattle.std.proofs.Common.{sym, subst}
use Rattle.std.specs.Str.{IsUtf8}
use Rattle.block_writer.proofs.FieldsWritten.{field-text}
use Rattle.block_writer.proofs.trips.push_trip.Goals as goal

pub text_of-requires : goal.text_of-requires
text_of-requires c = subst IsUtf8 (sym c.field.ensures) (field-text c.args.row.now c.args.trip c.requires.text)

pub text_of-requires-2 : goal.text_of-requires-2
text_of-requires-2 c = subst IsUtf8 (sym c.field-2.ensures) (field-text c.args.row.now c.args.block c.requires.text)
