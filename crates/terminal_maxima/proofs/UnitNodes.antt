-- Nodes that are all units are a tree.
use Rattle.std.proofs.Common.{◌≡◌, ℕ, ◌+◌, ◌*◌, ◌<◌, replicate, sym, ap, ◌∙◌, subst, arith}
use Rattle.std.proofs.lemmas.List.{get_or-replicate, length-replicate}
use Rattle.terminal_maxima.specs.Nodes.{IsTree, node_of}
use Rattle.terminal_maxima.specs.Summary.{SummaryLaws}

module _ {S : Type 0} {sums : S → ℕ → Type 0} {unit : S} {join : S → S → S} (laws : SummaryLaws sums unit join) (leaves : ℕ) where
  each_is_unit : (i : ℕ) → i < 2 * leaves → node_of unit (replicate (2 * leaves) unit) i ≡ unit
  each_is_unit i within = get_or-replicate (2 * leaves) i unit unit within

  pub units_are_tree : IsTree sums unit join leaves (replicate (2 * leaves) unit)
  units_are_tree = record {
    count = length-replicate (2 * leaves) unit;
    leaf = λ p within. subst (λ (x : S). sums x 1) (sym (each_is_unit (leaves + p) (omega arith))) laws.sums_one;
    inner = λ i some within.
        let here = each_is_unit i (omega arith) in
        let left = each_is_unit (2 * i) (omega arith) in
        let right = each_is_unit (2 * i + 1) (omega arith) in
        here ∙ sym (laws.unit_left unit 1 laws.sums_one (omega arith)) ∙ ap (λ (x : S). join x unit) (sym left)
        ∙ ap (join (node_of unit (replicate (2 * leaves) unit) (2 * i))) (sym right);
  }
