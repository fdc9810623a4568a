use Rattle.std.proofs.Common.{◌≡◌, Some, None, not, true, false, sym, ap, ◌∙◌}
use Rattle.std.proofs.lemmas.Bool.{not-true, not-false}
use Rattle.pair_rules.specs.declared.kind.RuleKind.TheVariants.{Keep, Never}
use Rattle.pair_rules.specs.Rules.{keeps_first, keeps_second}
use Rattle.pair_rules.specs.declared.marks.Marks.{Marks}
use Rattle.pair_rules.specs.Marks.{kind_of, allowed_by}
use Rattle.pair_rules.proofs.Allowed.{allows-by_kind}
use Rattle.pair_rules.proofs.rules.PairRules.allows_at.Goals as goal

pub returns-in-Some-Keep : goal.returns-in-Some-Keep
returns-in-Some-Keep c = λ a b first second.
    let rules = c.args.self.now in
    let kind : kind_of rules a b ≡ Some Keep = sym (c.kind.ensures.value a b first second) ∙ cc in
    sym (allows-by_kind rules a b c.kind.ensures.valid ∙ ap (λ o. allowed_by o (keeps_first rules a) (keeps_second rules b)) kind)

pub returns-in-Some-Never : goal.returns-in-Some-Never
returns-in-Some-Never c = λ a b first second.
    let rules = c.args.self.now in
    let kind : kind_of rules a b ≡ Some Never = sym (c.kind.ensures.value a b first second) ∙ cc in
    sym (allows-by_kind rules a b c.kind.ensures.valid ∙ ap (λ o. allowed_by o (keeps_first rules a) (keeps_second rules b)) kind)

pub returns-then-not-marks_at : goal.returns-then-not-marks_at
returns-then-not-marks_at c = λ a b first second.
    let rules = c.args.self.now in
    let kind : kind_of rules a b ≡ None = sym (c.kind.ensures.value a b first second) ∙ c.in-None.is in
    let kept : keeps_first rules a ≡ false = sym (ap (λ (m : Marks). m.keeps_first) (c.marks_at.ensures a first))
    ∙ not-true c.marks_at.result.keeps_first c.if-not-marks_at.true in
    let kept-before = ap (λ (m : Marks). m.keeps_second) (c.marks_at-then-not-marks_at.ensures b second) in
    sym (allows-by_kind rules a b c.kind.ensures.valid ∙ (λ t. allowed_by (kind t) (kept t) (sym kept-before t)))

pub returns-else-not-marks_at : goal.returns-else-not-marks_at
returns-else-not-marks_at c = λ a b first second.
    let rules = c.args.self.now in
    let kind : kind_of rules a b ≡ None = sym (c.kind.ensures.value a b first second) ∙ c.in-None.is in
    let kept : keeps_first rules a ≡ true = sym (ap (λ (m : Marks). m.keeps_first) (c.marks_at.ensures a first))
    ∙ not-false c.marks_at.result.keeps_first c.if-not-marks_at.false in
    c.if-not-marks_at.false
    ∙ sym (allows-by_kind rules a b c.kind.ensures.valid ∙ (λ t. allowed_by (kind t) (kept t) (keeps_second rules b)))
