use Rattle.std.proofs.Common.{◌≡◌, ℕ, ◌<◌, ◌≤◌, Bool, List, length, Option, Some}
use Rattle.std.specs.Prelude.{IfSome}
use Rattle.trip_model.specs.Links.{next_of, AreApart}
use Rattle.pair_search.specs.Inverse.{IsInverse, IsInverseBut}
use Rattle.pair_search.specs.Determined.{linked_back}
use Rattle.pair_search.specs.Fronts.{IsOnWayBack}
use Rattle.pair_search.specs.Relinking.{IsTightBack, IsPassing, IsRelinked}
use Rattle.pair_search.specs.Search.{at}
use Rattle.pair_search.proofs.relink.relink.Given as goal

abbrev pub invariant-back : goal.invariant-back
invariant-back l = record {
  within : IfSome l.to (λ j. j < length l.parent);
  inverse : AreApart l.initial.next → IsInverse (length l.initial.next) l.initial.next l.initial.before
      → IsInverseBut l.next l.before l.to;
  upto : l.place ≤ l.fn.end.from;
  relinked : IsRelinked l.initial.next l.next l.rows l.fn.end.from l.place l.to;
  linked : (from : List ℕ) (most : ℕ) → l.fn.end.from < most
      → ((t j : ℕ) → t ≤ l.fn.end.from → next_of l.initial.next (at l.rows t) ≡ Some j → at l.rows (at l.parent j) ≡ at from j)
      → IsOnWayBack from (linked_back from most l.initial.next (at l.rows l.fn.end.from) l.fn.end.to) l.next (at l.rows l.place) l.to
      l.place;
  matched : (w : ℕ → ℕ → Option ℕ) (out : ℕ → Bool) (b : Option ℕ) (leave enter : List ℕ)
      → IsTightBack w out l.initial.next leave enter l.parent l.rows l.fn.end.from
      → IsPassing w out (at l.rows 0) b l.initial.next leave enter (at l.rows l.fn.end.from) l.fn.end.to
      → IsPassing w out (at l.rows 0) b l.next leave enter (at l.rows l.place) l.to;
}

abbrev pub decreases-back : goal.decreases-back
decreases-back l = l.place
