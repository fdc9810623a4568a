use Rattle.std.proofs.Common.{◌≡◌, ◌+◌, ◌-◌, take, sym, ap, ◌∙◌, arith}
use Rattle.std.specs.List.{list_any}
use Rattle.deadhead_matrix.specs.Matrix.{walk}
use Rattle.chart_text.specs.Blocks.{is_walking, links}
use Rattle.chart_text.proofs.BlocksLemmas.{links-pass, links-fail_more, links-fail}
use Rattle.chart_text.proofs.blocks.walks_in.Goals as goal

pub returns-then-is_walking : goal.returns-then-is_walking
returns-then-is_walking c =
    let walks = is_walking c.args.timetable.now (walk c.args.matrix.now) c.args.column in
    sym (links-pass walks c.args.block.now (c.loop-next.next - 1) c.loop-next.next (omega arith) c.loop-next-test.true
    (sym c.if-is_walking.ensures))

pub loop-next-preserved : goal.loop-next-preserved
loop-next-preserved c =
    let walks = is_walking c.args.timetable.now (walk c.args.matrix.now) c.args.column in
    let more : c.loop-next.next + 1 - 1 ≡ c.loop-next.next - 1 + 1 = omega arith in
    ap (λ n. list_any walks (take n (links c.args.block.now))) more
    ∙ links-fail_more walks c.args.block.now (c.loop-next.next - 1) c.loop-next.next (omega arith) c.loop-next-test.true
    c.loop-next.invariant (sym c.if-is_walking.ensures)

pub returns : goal.returns
returns c =
    sym (links-fail (is_walking c.args.timetable.now (walk c.args.matrix.now) c.args.column) c.args.block.now (c.loop-next.next - 1)
    (omega arith) c.loop-next.invariant)
