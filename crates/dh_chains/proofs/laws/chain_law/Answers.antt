use Rattle.std.proofs.Common.{sym, arith, ◌<◌, length}
use Rattle.trip_model.specs.Deficit.{deficit}
use Rattle.deficit_steps.specs.Changes.{value}
use Rattle.deficit_steps.proofs.DeficitsLemmas.{value-held}
use Rattle.dh_chains.specs.Chains.{places_of, places_with}
use Rattle.dh_chains.proofs.Effects.{falls, falls-held}
use Rattle.dh_chains.proofs.Held.{chain-agree}
use Rattle.dh_chains.proofs.laws.chain_law.Goals as goal

pub returns-clause-falls : goal.returns-clause-falls
returns-clause-falls c = falls

pub returns-clause-moves : goal.returns-clause-moves
returns-clause-moves c = λ moves matrix. falls-held (places_with (deficit moves) matrix) moves

pub returns-clause-held : goal.returns-clause-held
returns-clause-held c = λ deficits moves matrix first rest valid held same. (
  chain-agree (places_of deficits matrix) (deficit moves) first rest
      (λ k t within h. let there : k < length deficits = omega arith in
      value-held deficits moves k (valid.changes k _ there) held there t h),
  chain-agree (places_with (deficit moves) matrix) (value deficits) first rest
      (λ k t within h. let there : k < length deficits = omega arith in
      sym (value-held deficits moves k (valid.changes k _ there) held there t h)),
)

pub returns-clause-first : goal.returns-clause-first
returns-clause-first c = λ deficits moves matrix first rest valid held same is. record {
  chain = (returns-clause-held c deficits moves matrix first rest valid held same).0 is.chain;
  least = λ m ms chain before. is.least m ms ((returns-clause-held c deficits moves matrix m ms valid held same).1 chain) before;
}

pub returns-clause-none : goal.returns-clause-none
returns-clause-none c = λ deficits moves matrix valid held same none first rest chain.
    none first rest ((returns-clause-held c deficits moves matrix first rest valid held same).1 chain)
