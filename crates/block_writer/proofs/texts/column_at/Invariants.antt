use Rattle.std.proofs.Common.{◌≡◌, drop}
use Rattle.block_writer.specs.Texts.{column_at}
use Rattle.block_writer.proofs.texts.column_at.Given as goal

abbrev pub invariant-loop-n : goal.invariant-loop-n
invariant-loop-n l = column_at l.columns l.header l.place ≡ column_at (drop l.n l.columns) l.header l.place
