use Rattle.std.proofs.Common.{◌+◌, [], ◌∷◌, ◌++◌, None, Some, sym, ap, subst, ◌∙◌}
use Rattle.std.specs.Prelude.{OnErr}
use Rattle.std.proofs.lemmas.Result.{err_from_is_err_and}
use Rattle.desk_io.specs.System.{CreateNew}
use Rattle.desk_io.specs.WholeFiles.{Spared}
use Rattle.desk_io.proofs.Spared.{made_beside, none_asked, one_more_asked}
use Rattle.desk_io.proofs.whole_files.create_beside.Goals as goal

pub loop-tried-init : goal.loop-tried-init
loop-tried-init g c = none_asked c.args.folder.now c.args.name.now (g.Y.System.trace c.args.system.now)

pub returns-in_err-path-clause-spared : goal.returns-in_err-path-clause-spared
returns-in_err-path-clause-spared g c =
    let why = err_from_is_err_and c.from_residual.result c.from_residual.ensures.1 in
    subst (λ result. OnErr result (Spared c.args.folder.now c.args.name.now (g.Y.System.trace c.args.system.now)
    (g.Y.System.trace c.loop-tried.system))) (sym why.1) c.loop-tried.invariant

pub returns-in-Ok-clause-made : goal.returns-in-Ok-clause-made
returns-in-Ok-clause-made g c =
    made_beside c.args.folder.now c.args.name.now _ _ _ c.loop-tried.invariant (c.loop-tried.tried + 1) c.in_ok-path.path
    c.in_ok-path.ensures (c.in-Ok.ensures.noted ∙ ap (λ path. g.Y.System.trace c.loop-tried.system ++ CreateNew path None ∷ []) c.as_str.ensures)

pub returns-in-Err : goal.returns-in-Err
returns-in-Err g c = record {
  made = tt;
  spared = one_more_asked c.args.folder.now c.args.name.now _ _ _ c.loop-tried.invariant (CreateNew c.as_str.result.now (Some c.in-Err.why))
      (c.loop-tried.tried + 1, c.as_str.ensures ∙ c.in_ok-path.ensures) c.in-Err.ensures.noted;
}

pub loop-tried-preserved : goal.loop-tried-preserved
loop-tried-preserved g c =
    one_more_asked c.args.folder.now c.args.name.now _ _ _ c.loop-tried.invariant (CreateNew c.as_str.result.now (Some c.in-Err-Taken.field-0))
    (c.loop-tried.tried + 1, c.as_str.ensures ∙ c.in_ok-path.ensures) c.in-Err-Taken.ensures.noted

pub returns-clause-spared : goal.returns-clause-spared
returns-clause-spared g c = c.loop-tried.invariant
