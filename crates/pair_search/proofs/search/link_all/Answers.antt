use Rattle.std.proofs.Common.{◌∙◌, false, None}
use Rattle.pair_search.specs.Arranged.{slots_of, all_found}
use Rattle.pair_search.specs.Side.{side_weight}
use Rattle.pair_search.proofs.LentLemmas.{written, plan-same, IsMatched-same, Covers-same}
use Rattle.pair_search.proofs.search.link_all.Goals as goal

pub link_all-requires-clause-leave : goal.link_all-requires-clause-leave
link_all-requires-clause-leave g c = c.deref_mut.ensures.value ∙ c.requires.leave

pub returns-clause-matched : goal.returns-clause-matched
returns-clause-matched g c =
    IsMatched-same (side_weight c.args.side.now) (λ _. false) None None c.link_all.new.next c.write_links.new.links c.link_all.new.leave _
    c.link_all.new.enter _ c.write_links.ensures
    (written c.link_all.new.leave c.args.leave.now.items c.args.leave.now.len (c.link_all.auto.leave ∙ c.deref_mut.ensures.len))
    (written c.link_all.new.enter c.args.enter.now.items c.args.enter.now.len (c.link_all.auto.enter ∙ c.deref_mut-2.ensures.len))
    c.link_all.ensures.matched

pub returns-clause-covers : goal.returns-clause-covers
returns-clause-covers g c =
    Covers-same (side_weight c.args.side.now) (λ _. false) None c.link_all.new.leave _ c.link_all.new.enter _
    (written c.link_all.new.leave c.args.leave.now.items c.args.leave.now.len (c.link_all.auto.leave ∙ c.deref_mut.ensures.len))
    (written c.link_all.new.enter c.args.enter.now.items c.args.enter.now.len (c.link_all.auto.enter ∙ c.deref_mut-2.ensures.len))
    c.link_all.ensures.covers

pub returns-clause-plan : goal.returns-clause-plan
returns-clause-plan g c =
    let side = c.args.side.now in
    plan-same (all_found (slots_of side.columns) (side_weight side) (slots_of c.args.departures.now)) c.link_all.new.next
    c.write_links.new.links c.link_all.new.leave _ c.link_all.new.enter _ c.write_links.ensures
    (written c.link_all.new.leave c.args.leave.now.items c.args.leave.now.len (c.link_all.auto.leave ∙ c.deref_mut.ensures.len))
    (written c.link_all.new.enter c.args.enter.now.items c.args.enter.now.len (c.link_all.auto.enter ∙ c.deref_mut-2.ensures.len))
    c.link_all.ensures.plan
