-- Where a search has ended and its rows are linked anew, links are matched, and the plan is the one that is computed.
use Rattle.std.proofs.Common.{◌≡◌, ℕ, ◌+◌, ◌<◌, ◌≤◌, Bool, List, length, set, Option, None, Some, refl, sym, ap, subst, ◌∙◌, ⊎_elim, arith}
use Rattle.std.proofs.lemmas.List.{length-set}
use Rattle.std.proofs.lemmas.Bool.{cases_lt}
use Rattle.std.proofs.lemmas.Option.{none-some, same_Some}
use Rattle.assignment_model.specs.Prices.{Plan}
use Rattle.trip_model.specs.Links.{next_of}
use Rattle.pair_search.specs.Assignment.{IsMatched}
use Rattle.pair_search.specs.Determined.{Front, linked_back, found}
use Rattle.pair_search.specs.Fronts.{IsShown}
use Rattle.pair_search.specs.Relinking.{IsShifted, IsTightBack, IsPassing}
use Rattle.pair_search.specs.Search.{at, Problem, TreeView}
use Rattle.pair_search.specs.declared.grow.End.{End}
use Rattle.pair_search.specs.declared.limits.TheConstants.{GREATEST_PRICE}
use Rattle.pair_search.proofs.FoundLemmas.{last_front, found-over}
use Rattle.pair_search.proofs.ShiftLemmas.{IsOver, row-linked, IsTightBack-over, IsPassing-over}

module _ (p : Problem) (s : TreeView) (end : End) (out : ℕ → Bool) (b : Option ℕ) (next : List (Option ℕ))
    (over : IsOver p s end out b next) where
  -- links anew are matched, where they are so along each way back
  pub matched-end : (next' : List (Option ℕ)) (leave enter : List ℕ) → length enter ≡ p.n
      → IsShifted p.n p.a next s.dist end.fall p.leave p.enter leave enter
      → ((w : ℕ → ℕ → Option ℕ) (out : ℕ → Bool) (b : Option ℕ) (leave enter : List ℕ)
      → IsTightBack w out next leave enter s.parent s.rows end.from
      → IsPassing w out (at s.rows 0) b next leave enter (at s.rows end.from) end.to → IsMatched w out None b next' leave enter)
      → IsMatched p.w out None b next' leave enter
  matched-end next' leave enter len shifted linked =
      linked p.w out b leave enter (IsTightBack-over p s end out b next leave enter over shifted)
      (subst (λ first. IsPassing p.w out first b next leave enter (at s.rows end.from) end.to) (sym over.tree.root.1)
      (IsPassing-over p s end out b next leave enter over len shifted))

  -- the way back goes along the rows from which columns were reached
  rows-back : (front : Front) → length s.dist ≡ p.n → IsShown s.dist s.parent s.done s.rows end.from end.to end.fall front
      → (t j : ℕ) → t ≤ end.from → next_of next (at s.rows t) ≡ Some j → at s.rows (at s.parent j) ≡ at front.from j
  rows-back front len shown t j le linked = ⊎_elim
      (λ (lt : 0 < t).
      let inside : t < s.size = omega (arith, le, over.ended.within) in
      let to = row-linked p s end out b next over t lt inside in
      let same = same_Some to.0.column j (sym to.1 ∙ linked) in
      let far : at s.dist j ≡ at s.far t = ap (at s.dist) (sym same) ∙ to.0.far in
      shown.from j (omega (arith, same, (over.given.rows (at s.rows t) to.0.column to.0.linked).1, len))
      (omega (arith, far, over.tree.within t inside, over.ended.later, over.ended.low)))
      (λ (first : t ≤ 0).
      let root : at s.rows t ≡ p.a = ap (at s.rows) (omega (arith, first)) ∙ over.tree.root.1 in
      absurd (none-some j (sym (over.matched.first p.a refl) ∙ ap (next_of next) (sym root) ∙ linked)))
      (cases_lt 0 t)

  -- links anew, with the prices that were shifted, are the plan that is computed
  pub found-end : (leave enter : List ℕ) (next' : List (Option ℕ)) (leave' enter' : List ℕ) → length s.dist ≡ p.n → length enter ≡ p.n
      → p.leave ≡ set leave p.a GREATEST_PRICE → p.enter ≡ enter
      → IsShown s.dist s.parent s.done s.rows end.from end.to end.fall
      (last_front p.w p.a (record { next = next; leave = leave; enter = enter }))
      → ((from : List ℕ) (most : ℕ) → end.from < most
      → ((t j : ℕ) → t ≤ end.from → next_of next (at s.rows t) ≡ Some j → at s.rows (at s.parent j) ≡ at from j)
      → next' ≡ linked_back from most next (at s.rows end.from) end.to)
      → length leave' ≡ length leave → length enter' ≡ length enter
      → IsShifted p.n p.a next s.dist end.fall p.leave p.enter leave' enter'
      → ◌≡◌ {A = Plan} (record { next = next'; leave = leave'; enter = enter' })
      (found p.w p.a (record { next = next; leave = leave; enter = enter }))
  found-end leave enter next' leave' enter' dists enters opened entering shown linked len len' shifted =
      let plan : Plan = record { next = next; leave = leave; enter = enter } in
      found-over p.w p.a plan s.dist s.parent s.done s.rows end.from end.to end.fall next' leave' enter' shown
      (linked (last_front p.w p.a plan).from (length next + 1) (omega (arith, over.ended.within, over.tree.count, over.slots))
      (rows-back (last_front p.w p.a plan) dists shown))
      (len ∙ sym (length-set leave p.a GREATEST_PRICE)) len'
      (subst (λ (n : ℕ). IsShifted n p.a next s.dist end.fall (set leave p.a GREATEST_PRICE) enter leave' enter') (sym enters)
      (subst (λ (l : List ℕ). IsShifted p.n p.a next s.dist end.fall l enter leave' enter') opened
      (subst (λ (l : List ℕ). IsShifted p.n p.a next s.dist end.fall p.leave l leave' enter') entering shifted)))
