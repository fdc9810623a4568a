use Rattle.std.proofs.Common.{◌≡◌, length, subst, arith}
use Rattle.pair_search.specs.Arranged.{AreInOrder}
use Rattle.pair_search.specs.Order.{IsOrder}
use Rattle.pair_search.specs.Side.{pairs_minute, pairs_post}
use Rattle.pair_search.proofs.LawLemmas.{arranged-is}
use Rattle.pair_search.proofs.order.arrange.Goals as goal

pub returns-clause-order : goal.returns-clause-order
returns-clause-order c =
    let len : length c.list_ranks.new.ranks ≡ length c.args.pairs.now.moves =
    omega (arith, c.requires.ranks, c.list_ranks.auto.ranks) in
    subst (λ n. IsOrder n (pairs_minute c.args.pairs.now c.args.turned) (pairs_post c.args.pairs.now c.args.turned c.args.without)
    c.put_in_order.new.columns c.put_in_order.new.places) len
    (c.put_in_order.ensures.numbered (pairs_minute c.args.pairs.now c.args.turned)
    (pairs_post c.args.pairs.now c.args.turned c.args.without)
    (λ j d lt. c.list_ranks.ensures.columns j d (omega (arith, lt, c.list_ranks.auto.ranks))))

pub returns-clause-slots : goal.returns-clause-slots
returns-clause-slots c =
    let len : length c.list_ranks.new.ranks ≡ length c.args.pairs.now.moves =
    omega (arith, c.requires.ranks, c.list_ranks.auto.ranks) in
    arranged-is c.args.pairs.now c.args.turned c.args.without c.put_in_order.new.columns c.put_in_order.new.places
    (subst (λ n. IsOrder n (pairs_minute c.args.pairs.now c.args.turned) (pairs_post c.args.pairs.now c.args.turned c.args.without)
    c.put_in_order.new.columns c.put_in_order.new.places) len
    (c.put_in_order.ensures.numbered (pairs_minute c.args.pairs.now c.args.turned)
    (pairs_post c.args.pairs.now c.args.turned c.args.without)
    (λ j d lt. c.list_ranks.ensures.columns j d (omega (arith, lt, c.list_ranks.auto.ranks)))))
    (subst (λ n. AreInOrder n c.put_in_order.new.columns) len c.put_in_order.ensures.sorted)
