use Rattle.std.proofs.Common.{[], ◌∷◌, ◌++◌, ap, ◌∙◌}
use Rattle.desk_io.specs.System.{Remove, refused_by}
use Rattle.desk_io.proofs.Spared.{removed}
use Rattle.desk_io.proofs.whole_files.replace.Goals as goal

pub returns-clause-spared : goal.returns-clause-spared
returns-clause-spared g c =
    removed c.args.folder.now c.args.name.now c.in_ok-made.made.path _ _ _ _ (refused_by c.remove.result) c.in_ok-made.ensures.made
    (c.in-Err.ensures.spared c.args.folder.now c.args.name.now)
    (c.remove.ensures.noted
    ∙ ap (λ path. g.Y.System.trace c.complete.new.system ++ Remove path (refused_by c.remove.result) ∷ []) c.as_str-in-Err.ensures)
