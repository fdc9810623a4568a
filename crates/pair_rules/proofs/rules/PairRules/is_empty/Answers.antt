use Rattle.std.proofs.Common.{◌≡◌, ◌≢◌, ℕ, zero, suc, ◌==◌, true, false, List, [], ◌∷◌, length, refl, sym, ap, ◌∙◌, arith}
use Rattle.std.proofs.lemmas.Bool.{false≢true, eqb-true}
use Rattle.pair_rules.specs.Rules.{PairRule}
use Rattle.pair_rules.proofs.rules.PairRules.is_empty.Goals as goal

none-of : (rules : List PairRule) → (length rules == 0) ≡ true → rules ≡ []
none-of [] e = refl
none-of (rule ∷ rules) e = absurd (omega (arith, eqb-true (length (rule ∷ rules)) 0 e))

some-of : (rules : List PairRule) → (length rules == 0) ≡ false → rules ≢ []
some-of rules e none = false≢true (sym e ∙ ap (λ (rules : List PairRule). length rules == 0) none)

pub returns-clause-none : goal.returns-clause-none
returns-clause-none c = λ e. none-of c.args.self.now (ap (λ n. n == 0) (sym c.len.ensures.count) ∙ e)

pub returns-clause-some : goal.returns-clause-some
returns-clause-some c = λ e. some-of c.args.self.now (ap (λ n. n == 0) (sym c.len.ensures.count) ∙ e)
