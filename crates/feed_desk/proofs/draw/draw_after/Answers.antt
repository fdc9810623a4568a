use Rattle.std.proofs.Common.{refl}
use Rattle.feed_desk.proofs.DrawnLemmas.{has-drawn}
use Rattle.feed_desk.proofs.draw.draw_after.Goals as goal

pub returns-clause-drawn : goal.returns-clause-drawn
returns-clause-drawn g c =
    has-drawn c.args.timetable c.args.lines.now c.args.matrix c.args.likings.now c.in_ok-followed.followed _ c.in_ok-followed.ensures.followed refl
    c.in_ok-blocks.ensures.are c.wrap.ensures refl
