use Rattle.std.proofs.Common.{◌≡◌, drop}
use Rattle.std.specs.Prelude.{not}
use Rattle.std.specs.List.{position_from}
use Rattle.std.specs.Str.{is_utf8}
use Rattle.block_writer.specs.Texts.{bad_field}
use Rattle.block_writer.proofs.texts.bad_field.Given as goal

abbrev pub invariant-loop-place : goal.invariant-loop-place
invariant-loop-place l = bad_field l.row ≡ position_from (λ field. not (is_utf8 field)) l.place (drop l.place l.row)
