use Rattle.std.proofs.Common.{◌≡◌, ◌≢◌, ◌∙◌, ◌<◌, ◌≤◌, ℕ, List, length, None, refl, sym, ap, subst, ⊎_elim, inr, arith}
use Rattle.std.proofs.lemmas.Bool.{cases_lt}
use Rattle.std.proofs.lemmas.List.{get_or_read}
use Rattle.std.specs.Prelude.{vec_len}
use Rattle.pair_search.specs.Search.{at}
use Rattle.list_search.specs.Lists.{listed, value_of, row_at, IsRow}
use Rattle.list_search.specs.Trees.{columns_of, IsSettled, IsKept}
use Rattle.list_search.specs.declared.lists.Pair.{Pair}
use Rattle.list_search.proofs.SettleLemmas.{settled-after, settled-here, either-after, either-low, all-gained, all-far, all-undone}
use Rattle.list_search.proofs.tree.Tree.settle.Goals as goal

pub loop-place-init : goal.loop-place-init
loop-place-init c = record {
  slots = refl;
  rows = refl;
  settled = λ j t lt. absurd (omega (arith, lt));
  either = λ j. inr (record { price = refl; far = refl; closed = refl });
}

pub row-requires : goal.row-requires
row-requires c =
    let loop = c.loop-place in
    let was = loop.self in
    let read : c.index-row.result.now ≡ at c.args.self.now.rows.items loop.place =
    get_or_read was.rows.items loop.place c.index-row.result.now
    (omega (arith, c.loop-place-test.true, c.requires.size, ap (λ v. length v.items) loop.invariant.rows, c.args.self.now.rows.ok.0))
    c.index-row.ensures 0 ∙ ap (λ v. at v.items loop.place) loop.invariant.rows in
    omega (arith, c.requires.rows loop.place c.loop-place-test.true, read)

pub settle_row-requires-clause-row : goal.settle_row-requires-clause-row
settle_row-requires-clause-row c =
    subst (λ (ps : List Pair). IsRow (vec_len c.loop-place.self.dist) ps) (sym c.row.ensures.pairs)
    (subst (λ (n : ℕ). IsRow n (row_at c.args.lists.now c.index-row.result.now)) (sym (c.loop-place.invariant.slots ∙ c.requires.slots))
    c.row.ensures.row)

pub settle_row-requires-clause-low : goal.settle_row-requires-clause-low
settle_row-requires-clause-low c = λ j near.
    let loop = c.loop-place in
    either-low c.args.fall (columns_of c.args.self.now) (columns_of loop.self) c.args.enter.now loop.enter j c.requires.fall
    (loop.invariant.either j) (c.requires.low j) near

pub loop-place-preserved : goal.loop-place-preserved
loop-place-preserved c =
    let loop = c.loop-place in
    let was = loop.self in
    let first = c.args.self.now in
    let now = c.settle_row.new.self in
    let enter = c.settle_row.new.enter in
    let row = c.index-row.result.now in
    let v = listed c.args.lists.now row in
    let read : row ≡ at first.rows.items loop.place =
    get_or_read was.rows.items loop.place row
    (omega (arith, c.loop-place-test.true, c.requires.size, ap (λ v. length v.items) loop.invariant.rows, first.rows.ok.0))
    c.index-row.ensures 0 ∙ ap (λ v. at v.items loop.place) loop.invariant.rows in
    let settled : (j : ℕ) → v j ≢ None → IsSettled c.args.fall (columns_of was) loop.enter (columns_of now) enter j =
    subst (λ (ps : List Pair). (j : ℕ) → value_of ps j ≢ None → IsSettled c.args.fall (columns_of was) loop.enter (columns_of now) enter j)
    c.row.ensures.pairs c.settle_row.ensures.settled in
    let kept : (j : ℕ) → v j ≡ None → IsKept (columns_of was) loop.enter (columns_of now) enter j =
    subst (λ (ps : List Pair). (j : ℕ) → value_of ps j ≡ None → IsKept (columns_of was) loop.enter (columns_of now) enter j)
    c.row.ensures.pairs c.settle_row.ensures.kept in
    record {
      slots = c.settle_row.ensures.slots ∙ loop.invariant.slots;
      rows = c.settle_row.ensures.same.0 ∙ loop.invariant.rows;
      settled = λ j t lt lists. ⊎_elim
          (λ (before : t < loop.place).
          settled-after c.args.fall (columns_of first) (columns_of was) (columns_of now) c.args.enter.now loop.enter enter v c.requires.fall
          settled kept j (loop.invariant.settled j t before lists))
          (λ (last : loop.place ≤ t).
          let e : t ≡ loop.place = omega (arith, last, lt) in
          settled-here c.args.fall (columns_of first) (columns_of was) (columns_of now) c.args.enter.now loop.enter enter v c.requires.fall
          settled kept j (loop.invariant.either j)
          (λ none. lists (ap (λ i. listed c.args.lists.now (at first.rows.items i) j) e
          ∙ ap (λ i. listed c.args.lists.now i j) (sym read) ∙ none)))
          (cases_lt t loop.place);
      either = λ j.
          either-after c.args.fall (columns_of first) (columns_of was) (columns_of now) c.args.enter.now loop.enter enter v c.requires.fall
          settled kept j (loop.invariant.either j);
    }

-- the columns that were reached are settled
reached : (c : goal.After-loop-place) → (j : ℕ) → j < c.args.lists.now.slots → at c.args.self.now.dist.items j < 4503599627370497
    → IsSettled c.args.fall (columns_of c.args.self.now) c.args.enter.now (columns_of c.loop-place.self) c.loop-place.enter j
reached c j lt near =
    let from = c.requires.reached j lt near in
    c.loop-place.invariant.settled j from.0 (omega (arith, from.1, c.loop-place-test.false)) from.2

pub returns-clause-columns : goal.returns-clause-columns
returns-clause-columns c = λ j lt.
    all-gained c.args.fall c.args.lists.now.slots (columns_of c.args.self.now) (columns_of c.loop-place.self) c.args.enter.now
    c.loop-place.enter c.requires.fall (reached c) c.loop-place.invariant.either j (omega (arith, lt, c.requires.enter))

pub returns-clause-dist : goal.returns-clause-dist
returns-clause-dist c =
    all-far c.args.fall c.args.lists.now.slots (columns_of c.args.self.now) (columns_of c.loop-place.self) c.args.enter.now
    c.loop-place.enter c.requires.fall (reached c) c.loop-place.invariant.either
    (omega (arith, c.loop-place.self.dist.ok.0, c.loop-place.invariant.slots, c.requires.slots)) c.requires.near

pub returns-clause-done : goal.returns-clause-done
returns-clause-done c =
    all-undone c.args.fall c.args.lists.now.slots (columns_of c.args.self.now) (columns_of c.loop-place.self) c.args.enter.now
    c.loop-place.enter c.requires.fall (reached c) c.loop-place.invariant.either
    (omega (arith, c.loop-place.self.done.ok.0, c.loop-place.self.marks, c.loop-place.invariant.slots, c.requires.slots)) c.requires.done
