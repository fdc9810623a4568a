use Rattle.std.proofs.Common.{◌≡◌, ◌∙◌, ◌<◌, length, set, refl, sym, ap, subst, arith}
use Rattle.std.proofs.lemmas.List.{get_or_read, length-set}
use Rattle.std.proofs.lemmas.Option.{none-some}
use Rattle.trip_model.specs.Plain.{move_at}
use Rattle.pair_search.specs.declared.leads.Lead.{Lead}
use Rattle.pair_search.specs.declared.leads.Stand.{Stand}
use Rattle.pair_search.specs.Groups.{IsSeen}
use Rattle.pair_search.specs.Leads.{stand_of, lead_at, AreLed}
use Rattle.pair_search.specs.Search.{columns_of, AreLooked}
use Rattle.pair_search.specs.Side.{LineView, line_weight, place_weight, side_slots, IsFree}
use Rattle.pair_search.proofs.LeadLemmas.{a-move, idle-row, no-move, AreLed-more}
use Rattle.pair_search.proofs.LookLemmas.{AreLooked-same}
use Rattle.pair_search.proofs.VisitLemmas.{Takes-one}
use Rattle.pair_search.specs.Visits.{RowLooks, Takes}
use Rattle.pair_search.specs.declared.look.Look.TheVariants.{Led}
use Rattle.pair_search.proofs.tree.Tree.look_from.Goals as goal

pub returns-in_default-clause-looked : goal.returns-in_default-clause-looked
returns-in_default-clause-looked g c =
    let side = c.args.side.now in
    let none = no-move side.turned (move_at side.pairs.moves c.args.row) c.in_default.ensures.stand in
    AreLooked-same (place_weight side c.args.row) (side_slots side) c.args.from c.args.start c.args.enter.now (columns_of c.args.self.now)
    (λ j k lt undone is. absurd (none-some k (sym (idle-row side c.args.row j none) ∙ is)))

pub returns-then-stand-lead-clause-looked : goal.returns-then-stand-lead-clause-looked
returns-then-stand-lead-clause-looked g c =
    let side = c.args.side.now in
    let was = c.args.self.now in
    let stand : Stand = c.in-Some.stand in
    let m = a-move side.turned (move_at side.pairs.moves c.args.row) stand c.in-Some.ensures.stand in
    let post = ap (λ (s : Stand). s.post) m.stands in
    let ready = ap (λ (s : Stand). s.ready) m.stands in
    let read : c.index-lead.result.now ≡ lead_at was.leads.items stand.post =
    get_or_read was.leads.items stand.post c.index-lead.result.now (omega (arith, c.in-Some.ensures.within, c.requires.seen.posts))
    c.index-lead.ensures (record { ready = 65535; start = 0 }) in
    let same = read ∙ ap (lead_at was.leads.items) (sym post) in
    AreLooked-same (place_weight side c.args.row) (side_slots side) c.args.from c.args.start c.args.enter.now (columns_of was)
    (λ j k lt undone is. omega (
      arith,
      c.requires.seen.led c.args.row j k m.made (sym c.is_ruled.ensures ∙ c.if-is_ruled.false) m.is
          (omega (arith, c.if-stand-lead.true, ready, ap (λ (l : Lead). l.ready) same)) lt undone is,
      c.if-start-lead.true,
      ap (λ (l : Lead). l.start) same,
    ))

pub look_along-requires-clause-seen : goal.look_along-requires-clause-seen
look_along-requires-clause-seen g c =
    subst (λ (line : LineView). IsSeen line.side c.args.enter.now c.args.self.now) (sym c.line-2.ensures) c.requires.seen

pub returns-clause-seen : goal.returns-clause-seen
returns-clause-seen g c =
    let side = c.args.side.now in
    let enter = c.args.enter.now in
    let was = c.args.self.now in
    let now = c.look_along.new.self in
    let seen : IsSeen side enter now = subst (λ (line : LineView). IsSeen line.side enter now) c.line-2.ensures c.look_along.ensures.seen in
    let looked : AreLooked (place_weight side c.args.row) (side_slots side) c.args.from c.args.start enter (columns_of was)
    (columns_of now) =
    subst (λ (line : LineView). AreLooked (line_weight line) (side_slots line.side) c.args.from c.args.start enter (columns_of was)
    (columns_of now)) c.line-2.ensures c.look_along.ensures.looked in
    let m = a-move side.turned (move_at side.pairs.moves c.args.row) c.in-Some.stand c.in-Some.ensures.stand in
    let within : (stand_of side.turned m.made).post < length now.leads.items =
    omega (arith, c.in-Some.ensures.within, seen.posts, ap (λ (s : Stand). s.post) m.stands) in
    record {
      room = seen.room;
      near = seen.near;
      reached = seen.reached;
      posts = omega (
        arith,
        seen.posts,
        length-set now.leads.items c.in-Some.stand.post
            (record { ready = c.in-Some.stand.ready; start = c.args.start }),
      );
      led =
          subst (λ (s : Stand). AreLed side enter now.done.items now.dist.items
          (set now.leads.items s.post (record { ready = s.ready; start = c.args.start }))) m.stands
          (AreLed-more side enter (columns_of was) (columns_of now) now.leads.items c.args.row c.args.from c.args.start m.made
          c.slots-slots.ensures.moves (sym c.is_ruled.ensures ∙ c.if-is_ruled.false) m.is within looked seen.led);
    }

pub returns-in_default-clause-visited : goal.returns-in_default-clause-visited
returns-in_default-clause-visited g c =
    let side = c.args.side.now in
    let some : 0 < side_slots side = omega (arith, c.requires.row) in
    Takes-one side c.args.row 0 (side_slots side) (Led c.args.row) some c.requires.row (refl, omega arith, some)
    c.args.looks.now.list c.take.new.self.list c.args.steps.now c.take.new.steps c.take.ensures.list c.take.ensures.counted

pub returns-then-stand-lead-clause-visited : goal.returns-then-stand-lead-clause-visited
returns-then-stand-lead-clause-visited g c =
    let side = c.args.side.now in
    let some : 0 < side_slots side = omega (arith, c.requires.row) in
    Takes-one side c.args.row 0 (side_slots side) (Led c.args.row) some c.requires.row (refl, omega arith, some)
    c.args.looks.now.list c.take-then-stand-lead.new.self.list c.args.steps.now c.take-then-stand-lead.new.steps
    c.take-then-stand-lead.ensures.list c.take-then-stand-lead.ensures.counted

pub returns-clause-visited : goal.returns-clause-visited
returns-clause-visited g c =
    subst (λ (line : LineView). Takes (RowLooks line.side line.row 0 (side_slots line.side)) c.args.looks.now.list
    c.look_along.new.looks.list c.args.steps.now c.look_along.new.steps) c.line-2.ensures c.look_along.ensures.visited

pub look_along-requires-clause-free : goal.look_along-requires-clause-free
look_along-requires-clause-free g c =
    subst (λ (line : LineView). IsFree line) (sym c.line-2.ensures) (sym c.is_ruled.ensures ∙ c.if-is_ruled.false)
