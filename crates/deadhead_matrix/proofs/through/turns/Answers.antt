use Rattle.std.proofs.Common.{◌≡◌, List, ℕ, [], length, get_or, subst, ◌∙◌, arith}
use Rattle.std.proofs.lemmas.List.{get_or_default}
use Rattle.deadhead_matrix.specs.Rows.{IsTurn}
use Rattle.deadhead_matrix.proofs.TurnLemmas.{AreDistances-turn, AreThrough-turn}
use Rattle.deadhead_matrix.proofs.through.turns.Goals as goal

pub loop-via-preserved : goal.loop-via-preserved
loop-via-preserved c =
    let n = length c.args.rows.now in
    let before = c.loop-via.rows in
    let after = c.turn.new.rows in
    let k = c.loop-via.via in
    let are = c.loop-via.invariant.distances in
    let row : c.deref.result.now ≡ get_or before k [] =
    c.deref.ensures.value ∙ c.in_ok-row.ensures
    ∙ get_or_default before k c.index-rows-via.result [] (omega (arith, c.loop-via-test.true, are.count)) in
    let turned = subst (λ m. IsTurn (get_or before k []) k m before after) are.count
    (subst (λ (r : List ℕ). IsTurn r k (length before) before after) row c.turn.ensures) in
    record {
      distances = AreDistances-turn n k before after are c.loop-via-test.true turned;
      through = λ entries first.
          AreThrough-turn entries n k before after are c.loop-via-test.true turned (c.loop-via.invariant.through entries first);
    }
