use Rattle.std.proofs.Common.{◌≡◌, All, map, take}
use Rattle.edit_script.specs.Edits.{IsLineInForm}
use Rattle.edit_script.specs.Forms.{line_of}
use Rattle.edit_script.proofs.reading.read_script.Given as goal

abbrev pub invariant-loop-row : goal.invariant-loop-row
invariant-loop-row l = (l.lines.items ≡ map line_of (take l.row-index l.row-items)) × All IsLineInForm l.lines.items
