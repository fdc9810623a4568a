use Rattle.std.proofs.Common.{◌≡◌, ◌∙◌, ◌-◌, ◌<◌, ◌∷◌, ℕ, List, get_or, length, take, drop, sym, ap, subst, arith}
use Rattle.std.proofs.lemmas.List.{get_or_read}
use Rattle.list_search.specs.Lists.{ListsView, row_at}
use Rattle.list_search.specs.declared.lists.Pair.{Pair}
use Rattle.list_search.proofs.ListLemmas.{rows-length, row-cut, row-within}
use Rattle.list_search.proofs.lists.PairLists.row.Goals as goal

pub start_of-from-requires : goal.start_of-from-requires
start_of-from-requires c =
    let was = c.self.inside in
    omega (
      arith,
      subst (λ (v : ListsView). c.args.row < length v.rows) (sym c.self.view_is) c.requires,
      rows-length 0 was.ends.items was.pairs.items,
      ap length c.deref.ensures.value,
    )

pub index-requires : goal.index-requires
index-requires c =
    let was = c.self.inside in
    omega (
      arith,
      subst (λ (v : ListsView). c.args.row < length v.rows) (sym c.self.view_is) c.requires,
      rows-length 0 was.ends.items was.pairs.items,
      was.ends.ok.0,
    )

pub part-requires-clause-order : goal.part-requires-clause-order
part-requires-clause-order c =
    let was = c.self.inside in
    let ends = was.ends.items in
    let many = length ends in
    let lt : c.args.row < many =
    omega (
      arith,
      subst (λ (v : ListsView). c.args.row < length v.rows) (sym c.self.view_is) c.requires,
      rows-length 0 ends was.pairs.items,
    ) in
    let to = get_or_read ends c.args.row c.index.result.now lt c.index.ensures 0 in
    let from : c.start_of-from.result ≡ get_or (0 ∷ ends) c.args.row 0 =
    c.start_of-from.ensures ∙ ap (λ (e : List ℕ). get_or (0 ∷ e) c.args.row 0) c.deref.ensures.value in
    omega (arith, to, from, (row-within 0 ends _ c.args.row c.self.invariant.1 lt).0)

pub part-requires-clause-within : goal.part-requires-clause-within
part-requires-clause-within c =
    let was = c.self.inside in
    let ends = was.ends.items in
    let lt : c.args.row < length ends =
    omega (
      arith,
      subst (λ (v : ListsView). c.args.row < length v.rows) (sym c.self.view_is) c.requires,
      rows-length 0 ends was.pairs.items,
    ) in
    let to = get_or_read ends c.args.row c.index.result.now lt c.index.ensures 0 in
    omega (
      arith,
      to,
      (row-within 0 ends _ c.args.row c.self.invariant.1 lt).1,
      ap length c.deref-2.ensures.value,
      was.pairs.ok.0,
    )

pub returns-clause-pairs : goal.returns-clause-pairs
returns-clause-pairs c =
    let was = c.self.inside in
    let ends = was.ends.items in
    let lt : c.args.row < length ends =
    omega (
      arith,
      subst (λ (v : ListsView). c.args.row < length v.rows) (sym c.self.view_is) c.requires,
      rows-length 0 ends was.pairs.items,
    ) in
    let to = get_or_read ends c.args.row c.index.result.now lt c.index.ensures 0 in
    let from : c.start_of-from.result ≡ get_or (0 ∷ ends) c.args.row 0 =
    c.start_of-from.ensures ∙ ap (λ (e : List ℕ). get_or (0 ∷ e) c.args.row 0) c.deref.ensures.value in
    c.part.ensures ∙ ap (λ (ps : List Pair). take (c.index.result.now - c.start_of-from.result) (drop c.start_of-from.result ps))
    c.deref-2.ensures.value
    ∙ ap (λ (n : ℕ). take (n - c.start_of-from.result) (drop c.start_of-from.result was.pairs.items)) to
    ∙ ap (λ (n : ℕ). take (get_or ends c.args.row 0 - n) (drop n was.pairs.items)) from
    ∙ sym (row-cut 0 ends was.pairs.items c.args.row lt)
    ∙ ap (λ (v : ListsView). row_at v c.args.row) c.self.view_is
