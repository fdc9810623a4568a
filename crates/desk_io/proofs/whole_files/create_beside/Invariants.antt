use Rattle.desk_io.specs.WholeFiles.{Spared}
use Rattle.desk_io.proofs.whole_files.create_beside.Given as goal

abbrev pub invariant-loop-tried : goal.invariant-loop-tried
invariant-loop-tried g l = Spared l.folder l.name (g.Y.System.trace l.fn.system) (g.Y.System.trace l.system)
