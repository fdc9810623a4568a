use Rattle.std.proofs.Common.{◌≡◌, ◌∙◌, ◌<◌, ◌≤◌, ◌++◌, [], ◌∷◌, List, length, drop, sym, ap, subst, arith}
use Rattle.std.specs.List.{All}
use Rattle.std.proofs.lemmas.List.{drop-append-le}
use Rattle.list_search.specs.Lists.{ListsView, IsRow, rows_cut, cut_end, IsCut, behind}
use Rattle.list_search.specs.declared.lists.Pair.{Pair}
use Rattle.list_search.proofs.ListLemmas.{view_with, cut-more, cut-within, rows-push, IsRow-push}
use Rattle.list_search.proofs.lists.PairLists.push.Goals as goal

pub invariant_of-self-2 : goal.invariant_of-self-2
invariant_of-self-2 c =
    let was = c.self.inside in
    let slots = was.slots in
    let ends = was.ends.items in
    let old = was.pairs.items in
    let pair : Pair = record { column = c.args.column; value = c.args.value } in
    let items : c.push.new.self.items ≡ old ++ pair ∷ [] = c.in_ok-push.ensures.items in
    let view = sym c.self.view_is in
    let cut : IsCut 0 ends (length old) = subst (IsCut 0 ends) (omega (arith, was.pairs.ok.0)) c.self.invariant.1 in
    let ended = (cut-within 0 ends (length old) cut).1 in (
      c.self.invariant.0,
      cut-more 0 ends _ _ (omega (arith, c.in_ok-push.ensures.len)) c.self.invariant.1,
      subst (λ (rows : List (List Pair)). All (IsRow slots) rows) (sym (ap (rows_cut 0 ends) items ∙ rows-push 0 ends old (pair ∷ []) cut))
          c.self.invariant.2,
      subst (IsRow slots) (sym (ap (drop (cut_end 0 ends)) items ∙ drop-append-le (cut_end 0 ends) old (pair ∷ []) ended))
          (IsRow-push slots 0 (drop (cut_end 0 ends) old) pair c.self.invariant.3
          (subst (λ (v : ListsView). behind 0 v.begun ≤ c.args.column) view c.requires.after)
          (subst (λ (v : ListsView). c.args.column < v.slots) view c.requires.within) c.requires.most),
    )

pub returns-clause-ok : goal.returns-clause-ok
returns-clause-ok c =
    let was = c.self.inside in
    let ends = was.ends.items in
    let old = was.pairs.items in
    let pair : Pair = record { column = c.args.column; value = c.args.value } in
    let items : c.push.new.self.items ≡ old ++ pair ∷ [] = c.in_ok-push.ensures.items in
    let cut : IsCut 0 ends (length old) = subst (IsCut 0 ends) (omega (arith, was.pairs.ok.0)) c.self.invariant.1 in
    let ended = (cut-within 0 ends (length old) cut).1 in
    ap (λ (rows : List (List Pair)). view_with was.slots rows (drop (cut_end 0 ends) c.push.new.self.items))
    (ap (rows_cut 0 ends) items ∙ rows-push 0 ends old (pair ∷ []) cut)
    ∙ ap (view_with was.slots (rows_cut 0 ends old))
    (ap (drop (cut_end 0 ends)) items ∙ drop-append-le (cut_end 0 ends) old (pair ∷ []) ended)
    ∙ ap (λ (v : ListsView). view_with v.slots v.rows (v.begun ++ pair ∷ [])) c.self.view_is
