use Rattle.std.proofs.Common.{◌≡◌, ℕ, ◌+◌, ◌∷◌, ◌++◌, [], List, Option, map, sym, ◌∙◌, arith}
use Rattle.std.specs.List.{range_with_len}
use Rattle.std.proofs.lemmas.List.FromFn.{map-range_with_len_more}
use Rattle.block_names.specs.Numbered.{block_asked}
use Rattle.block_names.proofs.numbers.blocks_asked.Goals as goal

-- one more is asked
asked-more : (f : ℕ → Option ℕ) (old new : List (Option ℕ)) (o : Option ℕ) (k : ℕ) → new ≡ old ++ o ∷ []
    → old ≡ map f (range_with_len 0 k) → o ≡ f k → new ≡ map f (range_with_len 0 (k + 1))
asked-more f old new o k pushed so_far is =
    pushed ∙ (λ i. so_far i ++ is i ∷ []) ∙ sym (map-range_with_len_more f 0 k k (omega arith))

pub loop-number-preserved : goal.loop-number-preserved
loop-number-preserved c =
    asked-more (block_asked c.args.numbers.now c.args.blocks.now) c.loop-number.asked.items c.push.new.self.items c.block_asked.result
    c.loop-number.number c.in_ok-push.ensures.items c.loop-number.invariant c.block_asked.ensures
