use Rattle.std.proofs.Common.{ℕ, fold, get_or, [], None, sym, ap, subst, ◌∙◌}
use Rattle.std.specs.List.{range_with_len}
use Rattle.block_names.specs.Names.{with_more}
use Rattle.block_names.specs.Numbered.{trips_numbered}
use Rattle.block_names.proofs.MostLemmas.{IsMost, most-below, most-more}
use Rattle.block_names.proofs.numbers.block_asked.Goals as goal

pub loop-block-preserved : goal.loop-block-preserved
loop-block-preserved c =
    let numbers = c.args.numbers.now in
    let number = c.args.number in
    let count = λ (b : ℕ). trips_numbered numbers number (get_or c.args.blocks.now b []) in
    let b = c.loop-block.block in
    subst (λ o. IsMost count o c.see.new.self) (sym (most-below count b))
    (most-more count (fold (with_more count) None (range_with_len 0 b)) c.loop-block.most c.see.new.self b c.trips_numbered.result
    (c.trips_numbered.ensures ∙ ap (trips_numbered numbers number) c.block.ensures)
    c.loop-block.invariant c.see.ensures.found c.see.ensures.count c.see.ensures.same)
