use Rattle.std.proofs.Common.{refl}
use Rattle.std.specs.Char.{encode_utf8}
use Rattle.std.specs.Str.{chars, is_utf8}
use Rattle.csv.specs.Machine.{next_record}
use Rattle.csv.specs.Reading.{strip_bom, records_from}
use Rattle.gtfs_tables.specs.Parts.{parts_after}
use Rattle.examples_computed.proofs.edits.a_file_of_edits.Goals as goal

pub returns : goal.returns
unfolding encode_utf8 chars is_utf8 next_record strip_bom records_from parts_after
returns c = refl
