use Rattle.std.proofs.Common.{◌≡◌, ◌∙◌, ◌-◌, ◌<◌, ◌≤◌, set, sym, ap, ⊎_elim, arith}
use Rattle.std.proofs.lemmas.Bool.{cases_lt}
use Rattle.std.proofs.lemmas.List.{get_or_read, get_or-set_same, get_or-set_other}
use Rattle.pair_search.specs.Search.{at}
use Rattle.list_search.proofs.tree.Tree.lower.Goals as goal

pub loop-place-preserved : goal.loop-place-preserved
loop-place-preserved c =
    let loop = c.loop-place in
    let tree = c.args.self.now in
    let rows = tree.rows.items in
    let inside : loop.place < c.args.size = c.loop-place-test.true in
    let row : c.index-row.result.now ≡ at rows loop.place =
    get_or_read rows loop.place c.index-row.result.now (omega (arith, inside, c.requires.size, tree.rows.ok.0)) c.index-row.ensures 0 in
    let far : c.index.result.now ≡ at tree.far.items loop.place =
    get_or_read tree.far.items loop.place c.index.result.now
    (omega (arith, inside, c.requires.size, tree.rows.ok.0, tree.row_places, tree.far_places, tree.far.ok.0)) c.index.ensures 0 in
    let was : at loop.leave c.index-row.result.now ≡ at c.args.leave.now (at rows loop.place) =
    ap (at loop.leave) row
    ∙ loop.invariant.others (at rows loop.place) (λ t lt. c.requires.apart t loop.place lt inside) in
    let here = get_or-set_same loop.leave c.index-row.result.now
    (at loop.leave c.index-row.result.now - (c.args.fall - c.index.result.now)) 0
    (omega (arith, c.requires.within loop.place inside, row, loop.auto.leave)) in
    let leave = set loop.leave c.index-row.result.now (at loop.leave c.index-row.result.now - (c.args.fall - c.index.result.now)) in
    record {
      rows = λ t lt. ⊎_elim
          (λ (before : t < loop.place).
          get_or-set_other loop.leave c.index-row.result.now (at rows t)
          (at loop.leave c.index-row.result.now - (c.args.fall - c.index.result.now)) 0
          (λ e. c.requires.apart t loop.place before inside (e ∙ row))
          ∙ loop.invariant.rows t before)
          (λ (last : loop.place ≤ t).
          let e : t ≡ loop.place = omega (arith, last, lt) in
          ap (λ i. at leave (at rows i)) e ∙ ap (at leave) (sym row) ∙ here
          ∙ omega (arith, was, far, ap (λ i. at c.args.leave.now (at rows i)) e, ap (at tree.far.items) e))
          (cases_lt t loop.place);
      others = λ i apart.
          get_or-set_other loop.leave c.index-row.result.now i
          (at loop.leave c.index-row.result.now - (c.args.fall - c.index.result.now)) 0
          (λ e. apart loop.place (omega arith) (sym (e ∙ row)))
          ∙ loop.invariant.others i (λ t lt. apart t (omega (arith, lt)));
    }
