use Rattle.std.proofs.Common.{◌≡◌, false, None, length, subst, arith}
use Rattle.pair_search.specs.Arranged.{AreInOrder}
use Rattle.pair_search.specs.Order.{slot_at, place_of, IsOrder, IsRenaming}
use Rattle.pair_search.specs.Side.{pairs_minute}
use Rattle.pair_search.proofs.LawLemmas.{departing-is}
use Rattle.pair_search.proofs.order.arrange_departures.Goals as goal

pub returns-clause-renaming : goal.returns-clause-renaming
returns-clause-renaming c =
    subst (λ n. IsRenaming n (slot_at n c.put_in_order.new.columns) (place_of n c.put_in_order.new.places))
    (omega (arith, c.requires.ranks, c.list_departures.auto.ranks))
    (c.put_in_order.ensures.numbered (pairs_minute c.args.pairs.now false) (λ _. None)
    (λ j d lt. c.list_departures.ensures.columns j d (omega (arith, lt, c.list_departures.auto.ranks)))).renaming

pub returns-clause-slots : goal.returns-clause-slots
returns-clause-slots c =
    let len : length c.list_departures.new.ranks ≡ length c.args.pairs.now.moves =
    omega (arith, c.requires.ranks, c.list_departures.auto.ranks) in
    departing-is c.args.pairs.now c.put_in_order.new.columns c.put_in_order.new.places
    (subst (λ n. IsOrder n (pairs_minute c.args.pairs.now false) (λ _. None) c.put_in_order.new.columns c.put_in_order.new.places) len
    (c.put_in_order.ensures.numbered (pairs_minute c.args.pairs.now false) (λ _. None)
    (λ j d lt. c.list_departures.ensures.columns j d (omega (arith, lt, c.list_departures.auto.ranks)))))
    (subst (λ n. AreInOrder n c.put_in_order.new.columns) len c.put_in_order.ensures.sorted)
