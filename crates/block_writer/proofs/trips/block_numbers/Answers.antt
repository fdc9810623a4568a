use Rattle.std.proofs.Common.{take, ap, sym, ◌∙◌, arith}
use Rattle.block_writer.specs.Trips.{is_in, number_in, numbered}
use Rattle.block_writer.proofs.Numbered.{number-more, numbers-made}
use Rattle.block_writer.proofs.trips.block_numbers.Goals as goal

pub loop-before-preserved : goal.loop-before-preserved
loop-before-preserved c =
    let n = c.loop-before.before in
    record {
      count = c.number_block.ensures.count ∙ c.loop-before.invariant.count;
      numbers = λ s within.
          c.number_block.ensures.numbers s (omega (arith, c.loop-before.invariant.count))
          ∙ ap (λ number. numbered number (is_in s c.block.result.now) n) (c.loop-before.invariant.numbers s within)
          ∙ ap (λ block. numbered (number_in (take n c.args.blocks.now) s) (is_in s block) n) c.block.ensures
          ∙ sym (number-more c.args.blocks.now s n (omega (arith, c.len-before-end.ensures.count)));
    }

pub returns : goal.returns
returns c =
    numbers-made c.loop-before.numbers.items c.args.slots c.loop-before.before c.args.blocks.now c.loop-before.invariant.count
    (omega (arith, c.len-before-end.ensures.count)) c.loop-before.invariant.numbers
