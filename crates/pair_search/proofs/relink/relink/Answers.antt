use Rattle.std.proofs.Common.{◌<◌, set, rules, sym, subst, ◌∙◌, arith}
use Rattle.std.specs.Prelude.{IfSome}
use Rattle.trip_model.specs.Links.{next_of}
use Rattle.pair_search.specs.Inverse.{IsInverseBut}
use Rattle.pair_search.proofs.InverseLemmas.{IsInverseBut-begun, IsInverseBut-more, IsInverse-whole}
use Rattle.pair_search.specs.Determined.{linked_back}
use Rattle.pair_search.proofs.FrontLemmas.{IsOnWayBack-more, linked_back-last}
use Rattle.pair_search.specs.Search.{at}
use Rattle.pair_search.proofs.RelinkLemmas.{row-kept, place-before, IsRelinked-more, IsPath-relinked, IsPassing-more, IsMatched-passed}
use Rattle.pair_search.proofs.relink.relink.Goals as goal

pub back-init : goal.back-init
back-init c = record {
  within = c.requires.to;
  inverse = IsInverseBut-begun c.args.next.now c.args.before.now c.args.end.to c.requires.free;
  upto = omega arith;
  relinked = search rules;
  linked = search rules;
  matched = search rules;
}

pub returns-in_default-clause-path : goal.returns-in_default-clause-path
returns-in_default-clause-path c =
    IsPath-relinked c.args.next.now c.back.next c.args.parent.now c.args.rows.now c.args.end.from c.back.place c.back.to c.requires.back
    c.back.invariant.upto c.back.auto.next c.back.invariant.relinked c.in_default.is

pub returns-in_default-clause-matched : goal.returns-in_default-clause-matched
returns-in_default-clause-matched c = λ w out b leave enter tight passing.
    IsMatched-passed w out b c.args.next.now c.back.next leave enter c.args.parent.now c.args.rows.now c.args.end.from c.back.place
    c.back.to c.requires.back c.back.invariant.upto c.back.auto.next c.back.invariant.relinked
    c.in_default.is tight (c.back.invariant.matched w out b leave enter tight passing)

pub returns-in_default-clause-linked : goal.returns-in_default-clause-linked
returns-in_default-clause-linked c = λ from most lt rows.
    linked_back-last from (linked_back from most c.args.next.now (at c.args.rows.now c.args.end.from) c.args.end.to) c.back.next
    (at c.args.rows.now c.back.place) c.back.to c.back.place
    (c.back.invariant.linked from most lt rows) c.in_default.is

pub returns-in_default-clause-inverse : goal.returns-in_default-clause-inverse
returns-in_default-clause-inverse c = λ once so.
    IsInverse-whole (set c.back.next (at c.args.rows.now c.back.place) c.back.to) c.put_before.new.before
    (next_of c.back.next (at c.args.rows.now c.back.place)) c.in_default.is
    (IsInverseBut-more c.back.next c.back.before c.put_before.new.before (at c.args.rows.now c.back.place) c.back.to
    (omega (arith, c.requires.back.within c.back.place c.back.invariant.upto, c.back.auto.next))
    (subst (λ n. IfSome c.back.to (λ j. j < n)) (omega (arith, c.requires.before, c.back.auto.before)) c.back.invariant.within)
    c.put_before.ensures.some c.put_before.ensures.none (c.back.invariant.inverse once so))

pub put_before-requires : goal.put_before-requires
put_before-requires c =
    subst (λ n. IfSome c.back.to (λ j. j < n)) (omega (arith, c.requires.before, c.back.auto.before)) c.back.invariant.within

pub bounds-parent-column : goal.bounds-parent-column
bounds-parent-column c =
    (place-before c.args.next.now c.back.next c.args.parent.now c.args.rows.now c.args.end.from c.back.place c.in-Some.column c.back.to
    c.requires.back c.back.invariant.upto c.back.invariant.relinked c.in-Some.is).0

pub back-smaller : goal.back-smaller
back-smaller c =
    (place-before c.args.next.now c.back.next c.args.parent.now c.args.rows.now c.args.end.from c.back.place c.in-Some.column c.back.to
    c.requires.back c.back.invariant.upto c.back.invariant.relinked c.in-Some.is).1

pub back-preserved : goal.back-preserved
back-preserved c =
    let less =
    (place-before c.args.next.now c.back.next c.args.parent.now c.args.rows.now c.args.end.from c.back.place c.in-Some.column c.back.to
    c.requires.back c.back.invariant.upto c.back.invariant.relinked c.in-Some.is).1 in
    record {
      within =
          (place-before c.args.next.now c.back.next c.args.parent.now c.args.rows.now c.args.end.from c.back.place c.in-Some.column c.back.to
          c.requires.back c.back.invariant.upto c.back.invariant.relinked c.in-Some.is).0;
      inverse = λ once so.
          subst (IsInverseBut (set c.back.next (at c.args.rows.now c.back.place) c.back.to) c.put_before.new.before) c.in-Some.is
          (IsInverseBut-more c.back.next c.back.before c.put_before.new.before (at c.args.rows.now c.back.place) c.back.to
          (omega (arith, c.requires.back.within c.back.place c.back.invariant.upto, c.back.auto.next))
          (subst (λ n. IfSome c.back.to (λ j. j < n)) (omega (arith, c.requires.before, c.back.auto.before)) c.back.invariant.within)
          c.put_before.ensures.some c.put_before.ensures.none (c.back.invariant.inverse once so));
      upto = omega (arith, less, c.back.invariant.upto);
      relinked =
          IsRelinked-more c.args.next.now c.back.next c.args.parent.now c.args.rows.now c.args.end.from c.back.place c.in-Some.column
          c.back.to c.requires.back c.back.invariant.upto c.back.auto.next c.back.invariant.relinked c.in-Some.is;
      linked = λ from most lt rows.
          IsOnWayBack-more from (linked_back from most c.args.next.now (at c.args.rows.now c.args.end.from) c.args.end.to) c.back.next
          (at c.args.rows.now c.back.place) c.in-Some.column
          (at c.args.rows.now (at c.args.parent.now c.in-Some.column)) c.back.to c.back.place (at c.args.parent.now c.in-Some.column)
          (c.back.invariant.linked from most lt rows) c.in-Some.is
          (rows c.back.place c.in-Some.column c.back.invariant.upto
          (sym (row-kept c.args.next.now c.back.next c.args.parent.now c.args.rows.now c.args.end.from c.back.place c.back.to
          c.requires.back c.back.invariant.relinked) ∙ c.in-Some.is))
          less;
      matched = λ w out b leave enter tight passing.
          IsPassing-more w out (at c.args.rows.now 0) b c.args.next.now c.back.next leave enter c.args.parent.now c.args.rows.now
          c.args.end.from c.back.place c.in-Some.column c.back.to c.requires.back c.back.invariant.upto c.back.auto.next
          c.back.invariant.relinked
          c.in-Some.is tight (c.back.invariant.matched w out b leave enter tight passing);
    }
