use Rattle.std.proofs.Common.{get_or}
use Rattle.block_writer.proofs.LinesJudged.{few-after, lines-on, lines-over, lines-refused}
use Rattle.block_writer.proofs.plain.is_plain.Goals as goal

pub returns-in-None : goal.returns-in-None
returns-in-None c =
    lines-refused c.args.columns c.args.text.now c.loop-byte.fields c.loop-byte.last c.loop-byte.byte-index c.fields_after.result
    c.if-columns-lt2.false c.loop-byte-test.true c.loop-byte.invariant.so_far c.in-None.is c.fields_after.ensures

pub loop-byte-preserved : goal.loop-byte-preserved
loop-byte-preserved c = record {
  few = few-after c.args.columns c.loop-byte.fields (get_or c.args.text.now c.loop-byte.byte-index 0) c.in-Some.now
      c.loop-byte.byte-index c.fields_after.result c.in-Some.is c.fields_after.ensures c.loop-byte.invariant.few;
  so_far = lines-on c.args.columns c.args.text.now c.loop-byte.fields c.loop-byte.last c.loop-byte.byte-index c.fields_after.result
      c.in-Some.now c.loop-byte-test.true c.loop-byte.invariant.so_far c.in-Some.is c.fields_after.ensures;
}

pub returns : goal.returns
returns c =
    lines-over c.args.columns c.args.text.now c.loop-byte.fields c.loop-byte.last c.loop-byte.byte-index c.if-columns-lt2.false
    c.loop-byte-test.false c.loop-byte.invariant.so_far
