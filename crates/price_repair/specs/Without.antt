-- Pairs of trips with a trip more or less, for which a plan is certified before it is repaired.
use Rattle.std.specs.Prelude.{◌≡◌, ℕ, true, length, Some}
use Rattle.assignment_model.specs.Prices.{Plan, IsCertified}
use Rattle.pair_graph.specs.Pairs.{PairsView, moves_without, pairs_network}
use Rattle.trip_model.specs.Plain.{AreMoves}

-- the same pairs but that the trip of a slot does not run
abbrev pub pairs_without : PairsView → ℕ → PairsView
pairs_without pairs s = record pairs { moves = moves_without pairs.moves (Some s) }

-- a plan that is certified for other pairs, of valid moves, which without the trip of a slot are these
pub record IsCertifiedWith (pairs : PairsView) (s : ℕ) (plan : Plan) : Type 0 where
  pub whole : PairsView
  pub valid : AreMoves (length whole.matrix.walks) whole.moves
  pub rest : pairs_without whole s ≡ pairs
  pub certified : IsCertified (pairs_network whole) plan

-- the trip of a slot runs, and a plan is certified for the pairs without it
pub record IsCertifiedWithout (pairs : PairsView) (s : ℕ) (plan : Plan) : Type 0 where
  pub runs : (pairs_network pairs).live s ≡ true
  pub certified : IsCertified (pairs_network (pairs_without pairs s)) plan
