use Rattle.std.proofs.Common.{ap, sym, ◌∙◌}
use Rattle.std.specs.Prelude.{unwrap_or}
use Rattle.deadhead_matrix.specs.Matrix.{walk}
use Rattle.block_build.proofs.FitWalk.{fits-walk}
use Rattle.block_build.proofs.cost.minutes_between.Goals as goal

pub returns : goal.returns
returns c =
    let m = c.args.matrix.now in
    c.unwrap_or.ensures
    ∙ ap (λ found. unwrap_or found 0) (c.minutes.ensures.walk
    ∙ (λ k. walk m (c.trip-to.ensures.value k).to (c.trip-from.ensures.value k).from)
    ∙ sym (fits-walk c.args.timetable.now m c.args.before c.args.slot c.requires.fits))
