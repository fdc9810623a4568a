-- Pairs that no rule forbids.
use Rattle.std.proofs.Common.{◌≡◌, ℕ, true, false, not, ap, ◌∙◌}
use Rattle.assignment_model.specs.Prices.{weight}
use Rattle.deadhead_matrix.specs.Fitting.{name_at}
use Rattle.deadhead_matrix.proofs.Ruled.{allowed-weight}
use Rattle.pair_rules.specs.Rules.{allows}
use Rattle.pair_rules.proofs.Allowed.{allows-unnamed_first, allows-unnamed_second}
use Rattle.pair_graph.specs.Pairs.{PairsView, is_kept, is_ruled, pairs_network, walks_network}

-- a pair whose first trip is the first of no rule, and whose second trip is kept with no other
pub allowed-after : (pairs : PairsView) (i j : ℕ) → is_ruled pairs false i ≡ false → is_kept pairs false j ≡ false
    → allows pairs.matrix.rules (name_at pairs.names i) (name_at pairs.names j) ≡ true
allowed-after pairs i j free loose =
    allows-unnamed_first pairs.matrix.rules (name_at pairs.names i) (name_at pairs.names j) free ∙ ap not loose

-- a pair whose second trip is the second of no rule, and whose first trip is kept with no other
pub allowed-before : (pairs : PairsView) (i j : ℕ) → is_ruled pairs true j ≡ false → is_kept pairs true i ≡ false
    → allows pairs.matrix.rules (name_at pairs.names i) (name_at pairs.names j) ≡ true
allowed-before pairs i j free loose =
    allows-unnamed_second pairs.matrix.rules (name_at pairs.names i) (name_at pairs.names j) free ∙ ap not loose

-- what they weigh
pub free-row : (pairs : PairsView) (i j : ℕ) → is_ruled pairs false i ≡ false → is_kept pairs false j ≡ false
    → weight (pairs_network pairs) i j ≡ weight (walks_network pairs) i j
free-row pairs i j free loose =
    allowed-weight pairs.matrix.rules pairs.names (walks_network pairs) i j (allowed-after pairs i j free loose)

pub free-column : (pairs : PairsView) (i j : ℕ) → is_ruled pairs true j ≡ false → is_kept pairs true i ≡ false
    → weight (pairs_network pairs) i j ≡ weight (walks_network pairs) i j
free-column pairs i j free loose =
    allowed-weight pairs.matrix.rules pairs.names (walks_network pairs) i j (allowed-before pairs i j free loose)
