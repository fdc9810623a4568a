use Rattle.std.proofs.Common.{◌≡◌, ◌∙◌, ◌++◌, [], ◌∷◌, ℕ, List, get_or, length, drop, sym, ap, subst, arith}
use Rattle.std.specs.List.{All}
use Rattle.std.proofs.Math.Seq.{drop-length}
use Rattle.std.proofs.lemmas.List.Elements.{All-append}
use Rattle.list_search.specs.Lists.{ListsView, IsRow, rows_cut, cut_end, IsCut}
use Rattle.list_search.specs.declared.lists.Pair.{Pair}
use Rattle.list_search.proofs.ListLemmas.{view_with, cut-row, cut_end-row, rows-row}
use Rattle.list_search.proofs.lists.PairLists.end_row.Goals as goal

pub invariant_of-self-2 : goal.invariant_of-self-2
invariant_of-self-2 c =
    let was = c.self.inside in
    let slots = was.slots in
    let ends = was.ends.items in
    let pairs = was.pairs.items in
    let many : c.len.result ≡ length pairs = omega (arith, c.len.ensures, was.pairs.ok.0) in
    let items : c.push.new.self.items ≡ ends ++ length pairs ∷ [] =
    c.in_ok-push.ensures.items ∙ ap (λ (n : ℕ). ends ++ n ∷ []) many in
    let cut : IsCut 0 ends (length pairs) = subst (IsCut 0 ends) (omega (arith, was.pairs.ok.0)) c.self.invariant.1 in (
      c.self.invariant.0,
      subst (λ (n : ℕ). IsCut 0 c.push.new.self.items n) (omega (arith, was.pairs.ok.0))
          (subst (λ (e : List ℕ). IsCut 0 e (length pairs)) (sym items) (cut-row 0 ends (length pairs) cut)),
      subst (λ (e : List ℕ). All (IsRow slots) (rows_cut 0 e pairs)) (sym items)
          (subst (λ (rows : List (List Pair)). All (IsRow slots) rows) (sym (rows-row 0 ends pairs cut))
          (All-append (IsRow slots) (rows_cut 0 ends pairs) (drop (cut_end 0 ends) pairs ∷ []) c.self.invariant.2
          (λ k d lt.
          let e : 0 ≡ k = omega (arith, lt) in
          subst (λ (i : ℕ). IsRow slots (get_or (drop (cut_end 0 ends) pairs ∷ []) i d)) e c.self.invariant.3))),
      subst (λ (e : List ℕ). IsRow slots (drop (cut_end 0 e) pairs)) (sym items)
          (subst (λ (n : ℕ). IsRow slots (drop n pairs)) (sym (cut_end-row 0 ends (length pairs)))
          (subst (IsRow slots) (sym (drop-length pairs)) tt)),
    )

pub returns-clause-ok : goal.returns-clause-ok
returns-clause-ok c =
    let was = c.self.inside in
    let ends = was.ends.items in
    let pairs = was.pairs.items in
    let many : c.len.result ≡ length pairs = omega (arith, c.len.ensures, was.pairs.ok.0) in
    let items : c.push.new.self.items ≡ ends ++ length pairs ∷ [] =
    c.in_ok-push.ensures.items ∙ ap (λ (n : ℕ). ends ++ n ∷ []) many in
    let cut : IsCut 0 ends (length pairs) = subst (IsCut 0 ends) (omega (arith, was.pairs.ok.0)) c.self.invariant.1 in
    ap (λ (e : List ℕ). view_with was.slots (rows_cut 0 e pairs) (drop (cut_end 0 e) pairs)) items
    ∙ ap (λ (rows : List (List Pair)). view_with was.slots rows (drop (cut_end 0 (ends ++ length pairs ∷ [])) pairs))
    (rows-row 0 ends pairs cut)
    ∙ ap (view_with was.slots (rows_cut 0 ends pairs ++ drop (cut_end 0 ends) pairs ∷ []))
    (ap (λ (n : ℕ). drop n pairs) (cut_end-row 0 ends (length pairs)) ∙ drop-length pairs)
    ∙ ap (λ (v : ListsView). view_with v.slots (v.rows ++ v.begun ∷ []) []) c.self.view_is
