use Rattle.std.proofs.Common.{◌≡◌, ◌∙◌, length, false, None, refl, sym, ap, subst, arith}
use Rattle.assignment_model.specs.Prices.{Plan}
use Rattle.assignment_model.specs.Paths.{AreNextTrips}
use Rattle.pair_search.specs.Arranged.{slots_of, found_by}
use Rattle.pair_search.specs.Assignment.{AreWeights}
use Rattle.pair_search.specs.Inverse.{IsInverse}
use Rattle.pair_search.specs.Side.{side_slots, side_weight}
use Rattle.pair_search.proofs.LentLemmas.{written, plan-same, MayBegin-same, IsMatched-same, Covers-same}
use Rattle.pair_search.proofs.PlacedLemmas.{inverse-is, turned-is}
use Rattle.pair_search.proofs.ShiftLemmas.{AreNextTrips-matched}
use Rattle.pair_search.proofs.search.search_befores.Goals as goal

pub invert-requires-clause-links : goal.invert-requires-clause-links
invert-requires-clause-links g c = subst AreNextTrips (sym c.read_links.ensures) c.requires.apart

pub search-requires-clause-begins : goal.search-requires-clause-begins
search-requires-clause-begins g c =
    let was = c.invert.new.before in (
      λ _. false,
      c.requires.begins.0,
      MayBegin-same (side_weight c.args.side.now) (side_slots c.args.side.now) (λ _. false) c.args.b c.requires.begins.0 was was
          c.args.enter.now.items c.deref_mut.result.now c.args.leave.now.items c.deref_mut-2.result.now refl
          c.deref_mut.ensures.value c.deref_mut-2.ensures.value
          (c.requires.begins.1 was (subst (λ links. IsInverse (length links) links was) c.read_links.ensures c.invert.ensures)),
    )

pub invert-requires-2-clause-links : goal.invert-requires-2-clause-links
invert-requires-2-clause-links g c =
    let w = side_weight c.args.side.now in
    let was = c.invert.new.before in
    let a = c.requires.begins.0 in
    AreNextTrips-matched w (side_slots c.args.side.now) (λ _. false) None a c.search.new.next c.search.new.leave c.search.new.enter
    (subst (AreWeights w) c.slots.ensures.count c.slots.ensures.sound)
    (omega (
      arith,
      c.search.auto.next,
      c.invert.auto.before,
      c.as_mut_slice-next.ensures.len,
      c.set_slots.ensures.next,
      c.slots.ensures.count,
    ))
    (c.search.ensures.matched (λ _. false) a
    (MayBegin-same w (side_slots c.args.side.now) (λ _. false) c.args.b a was was c.args.enter.now.items c.deref_mut.result.now
    c.args.leave.now.items c.deref_mut-2.result.now refl
    c.deref_mut.ensures.value c.deref_mut-2.ensures.value
    (c.requires.begins.1 was (subst (λ links. IsInverse (length links) links was) c.read_links.ensures c.invert.ensures))))

pub returns-clause-found : goal.returns-clause-found
returns-clause-found g c = λ a begins.
    let w = side_weight c.args.side.now in
    let was = c.invert.new.before in
    let now = c.search.new.next in
    let inverse : IsInverse (length c.args.links.now) c.args.links.now was =
    subst (λ links. IsInverse (length links) links was) c.read_links.ensures c.invert.ensures in
    let leaves = written c.search.new.enter c.args.leave.now.items c.args.leave.now.len (c.search.auto.enter ∙ c.deref_mut-2.ensures.len) in
    let enters = written c.search.new.leave c.args.enter.now.items c.args.enter.now.len (c.search.auto.leave ∙ c.deref_mut.ensures.len) in
    let begun =
    MayBegin-same w (side_slots c.args.side.now) (λ _. false) c.args.b a was was c.args.enter.now.items c.deref_mut.result.now
    c.args.leave.now.items c.deref_mut-2.result.now refl
    c.deref_mut.ensures.value c.deref_mut-2.ensures.value (begins was inverse) in
    record {
      was = was;
      now = now;
      inverse_was = inverse;
      inverse_now = subst (λ links. IsInverse (length now) now links) (sym c.write_links.ensures) c.invert-2.ensures;
      path = c.search.ensures.path;
      matched = IsMatched-same w (λ _. false) None a now now c.search.new.leave _ c.search.new.enter _ refl enters leaves
          (c.search.ensures.matched (λ _. false) a begun);
      covers = Covers-same w (λ _. false) None c.search.new.leave _ c.search.new.enter _ enters leaves
          (c.search.ensures.covers (λ _. false) a begun);
    }

pub returns-clause-plan : goal.returns-clause-plan
returns-clause-plan g c =
    let side = c.args.side.now in
    let w = side_weight side in
    let n = side_slots side in
    let a = c.requires.begins.0 in
    let find : Plan → Plan = found_by (slots_of side.columns) w c.args.b in
    let links = c.args.links.now in
    let leave = c.args.leave.now.items in
    let enter = c.args.enter.now.items in
    let was = c.invert.new.before in
    let now = c.search.new.next in
    let leaves = written c.search.new.enter leave c.args.leave.now.len (c.search.auto.enter ∙ c.deref_mut-2.ensures.len) in
    let enters = written c.search.new.leave enter c.args.enter.now.len (c.search.auto.leave ∙ c.deref_mut.ensures.len) in
    let inverse : IsInverse (length links) links was =
    subst (λ links. IsInverse (length links) links was) c.read_links.ensures c.invert.ensures in
    let room : length now ≡ n = omega (
      arith,
      c.search.auto.next,
      c.invert.auto.before,
      c.as_mut_slice-next.ensures.len,
      c.set_slots.ensures.next,
      c.slots.ensures.count,
    ) in
    let long : length was ≡ n = omega
    (arith, c.invert.auto.before, c.as_mut_slice-next.ensures.len, c.set_slots.ensures.next, c.slots.ensures.count) in
    let begun =
    MayBegin-same w n (λ _. false) c.args.b a was was enter c.deref_mut.result.now leave c.deref_mut-2.result.now refl
    c.deref_mut.ensures.value c.deref_mut-2.ensures.value (c.requires.begins.1 was inverse) in
    let once = (c.search.ensures.matched (λ _. false) a begun).once in
    turned-is find links leave enter was now _ _ c.write_links.new.links
    (inverse-is links was c.requires.apart.once inverse (omega (arith, long, c.requires.links)))
    (plan-same (find (record { next = was; leave = enter; enter = leave })) now now c.search.new.leave _ c.search.new.enter _ refl enters
    leaves
    (c.search.ensures.plan ∙ ap find
    (plan-same (record { next = was; leave = enter; enter = leave }) was was enter c.deref_mut.result.now leave c.deref_mut-2.result.now
    refl c.deref_mut.ensures.value c.deref_mut-2.ensures.value refl)))
    (c.write_links.ensures ∙ inverse-is now c.invert-2.new.before once c.invert-2.ensures
    (omega (
      arith,
      room,
      c.invert-2.auto.before,
      c.read_links.auto.next,
      c.as_mut_slice-turned.ensures.len,
      c.set_slots.ensures.turned,
      c.slots.ensures.count,
    )))
