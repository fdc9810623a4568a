-- The chains of the deficits that are kept are those of the moves that are held.
use Rattle.std.proofs.Common.{◌≡◌, ℕ, ◌<◌, ◌≤◌, List, [], ◌∷◌, sym, ap, subst, ◌∙◌, arith}
use Rattle.std.specs.Prelude.{All, ℤ, pos, ◌<ℤ◌}
use Rattle.std.proofs.lemmas.Int.{ints}
use Rattle.std.proofs.lemmas.List.Elements.{All-head, All-tail, All-weaker}
use Rattle.trip_model.specs.Maximum.{first_maximum}
use Rattle.trip_model.proofs.MaximumLemmas.{first_maximum-agree}
use Rattle.deficit_steps.specs.NextMaximum.{IsNextMaximum, NoNextMaximum}
use Rattle.dh_chains.specs.declared.chain.Deadhead.{Deadhead}
use Rattle.dh_chains.specs.Chains.{GoesOn, IsDeadhead, IsUnitChain, Places}

-- the same next minute of the maximum of two functions that agree
next-agree : (d e : ℕ → ℤ) (from at : ℕ) → ((t : ℕ) → t ≤ 8191 → d t ≡ e t) → IsNextMaximum d from at → IsNextMaximum e from at
next-agree d e from at same is =
    let maximum : (first_maximum d).0 ≡ (first_maximum e).0 = ap (λ (m : ℤ × ℕ). m.0) (first_maximum-agree d e same) in
    record {
      not_before = is.not_before;
      within = is.within;
      reached = sym (same at is.within) ∙ is.reached ∙ maximum;
      first = λ t h before.
          let less = is.first t h before in
          let here = same t (omega (arith, before, is.within)) in
          omega (arith, ints, less, here, maximum);
    }

none-agree : (d e : ℕ → ℤ) (from : ℕ) → ((t : ℕ) → t ≤ 8191 → d t ≡ e t) → NoNextMaximum d from → NoNextMaximum e from
none-agree d e from same none = λ t h within.
    let maximum : (first_maximum d).0 ≡ (first_maximum e).0 = ap (λ (m : ℤ × ℕ). m.0) (first_maximum-agree d e same) in
    let less = none t h within in
    let here = same t within in
    omega (arith, ints, less, here, maximum)

goes_on-agree : (places : Places) (e : ℕ → ℕ → ℤ) (last : Deadhead) (rest : List Deadhead)
    → ((k t : ℕ) → k < places.count → t ≤ 8191 → places.deficit k t ≡ e k t)
    → last.from < places.count → All (IsDeadhead places) rest → GoesOn places last rest → GoesOn (record places { deficit = e }) last rest
goes_on-agree places e last [] same within deadheads goes =
    none-agree (places.deficit last.from) (e last.from) last.leaves (λ t h. same last.from t within h) goes
goes_on-agree places e last (next ∷ rest) same within deadheads goes = (
  goes.0,
  next-agree (places.deficit last.from) (e last.from) last.leaves next.arrives (λ t h. same last.from t within h) goes.1,
  goes_on-agree places e next rest same (All-head (IsDeadhead places) next rest deadheads).from
      (All-tail (IsDeadhead places) next rest deadheads) goes.2,
)

deadhead-agree : (places : Places) (e : ℕ → ℕ → ℤ) (m : Deadhead) → IsDeadhead places m → IsDeadhead (record places { deficit = e }) m
deadhead-agree places e m is = record { from = is.from; minutes = is.minutes; walk = is.walk; lasting = is.lasting; leaves = is.leaves }

pub chain-agree : (places : Places) (e : ℕ → ℕ → ℤ) (first : Deadhead) (rest : List Deadhead)
    → ((k t : ℕ) → k < places.count → t ≤ 8191 → places.deficit k t ≡ e k t)
    → IsUnitChain places first rest → IsUnitChain (record places { deficit = e }) first rest
chain-agree places e first rest same chain =
    let maximum = first_maximum-agree (places.deficit first.to) (e first.to) (λ t h. same first.to t chain.target h) in
    record {
      few = chain.few;
      deadheads = All-weaker (IsDeadhead places) (IsDeadhead (record places { deficit = e })) (deadhead-agree places e) (first ∷ rest)
          chain.deadheads;
      distinct = chain.distinct;
      target = chain.target;
      wanting = subst (λ (m : ℤ × ℕ). pos 0 <ℤ m.0) maximum chain.wanting;
      in_time = chain.in_time ∙ ap (λ (m : ℤ × ℕ). m.1) maximum;
      goes_on = goes_on-agree places e first rest same (All-head (IsDeadhead places) first rest chain.deadheads).from
          (All-tail (IsDeadhead places) first rest chain.deadheads) chain.goes_on;
    }
