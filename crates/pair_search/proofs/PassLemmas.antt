-- Groups of which no column comes nearer are passed.
use Rattle.std.proofs.Common.{ℕ, ◌+◌, ◌-◌, ◌<◌, ◌≤◌, List, subst, arith}
use Rattle.std.specs.Prelude.{zero, suc}
use Rattle.pair_search.specs.Groups.{begins, group_at, AreGroups, IsSpent}
use Rattle.pair_search.specs.Search.{AreLooked, Columns}
use Rattle.pair_search.specs.Side.{LineView, side_slots, line_weight}
use Rattle.pair_search.proofs.GroupLemmas.{begins-there}
use Rattle.pair_search.proofs.LookLemmas.{AreLooked-spent}

module _ (line : LineView)
    (are : AreGroups (side_slots line.side) line.side.columns line.side.count line.side.groups)
    (from start : ℕ) (enter : List ℕ) (was now : Columns) where
  -- the columns of the groups before one were looked at
  abbrev pub Looked : ℕ → Type 0
  Looked r = AreLooked (line_weight line) (begins (side_slots line.side) line.side.count line.side.groups r) from start enter was now

  -- a group of which no column comes nearer is looked at
  looked-one : (r : ℕ) → r < line.side.count → IsSpent line (group_at line.side.groups r) start enter now → Looked r → Looked (r + 1)
  looked-one r lt spent l =
      let group = group_at line.side.groups r in
      subst (λ upto. AreLooked (line_weight line) upto from start enter was now) (are.next r lt)
      (AreLooked-spent (line_weight line) group.from group.to from start group.from enter was now
      (λ j after before early. absurd (omega (arith, after, early)))
      (λ j k after before late undone fit. spent j k after before undone fit)
      (subst (λ upto. AreLooked (line_weight line) upto from start enter was now)
      (begins-there (side_slots line.side) line.side.count line.side.groups r lt) l))

  looked-by : (a m : ℕ) → a + m ≤ line.side.count
      → ((r : ℕ) → a ≤ r → r < a + m → IsSpent line (group_at line.side.groups r) start enter now) → Looked a → Looked (a + m)
  looked-by a zero le spent l = subst Looked (omega arith) l
  looked-by a (suc m) le spent l =
      subst Looked (omega arith)
      (looked-one (a + m) (omega (arith, le)) (spent (a + m) (omega arith) (omega arith))
      (looked-by a m (omega (arith, le)) (λ r after before. spent r after (omega (arith, before))) l))

  -- groups up to another one are passed
  pub AreLooked-passed : (a b : ℕ) → a ≤ b → b ≤ line.side.count
      → ((r : ℕ) → a ≤ r → r < b → IsSpent line (group_at line.side.groups r) start enter now) → Looked a → Looked b
  AreLooked-passed a b le within spent l =
      subst Looked (omega (arith, le))
      (looked-by a (b - a) (omega (arith, le, within)) (λ r after before. spent r after (omega (arith, before, le))) l)
