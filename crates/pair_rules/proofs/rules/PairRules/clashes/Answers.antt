use Rattle.std.proofs.Common.{◌&&◌, ◌||◌, is_some, sym, ap, ◌∙◌}
use Rattle.pair_rules.specs.Rules.{PairRule, is_keep, keeps_first, keeps_second}
use Rattle.pair_rules.specs.declared.marks.Marks.{Marks}
use Rattle.pair_rules.proofs.Allowed.{clashes-by_kind}
use Rattle.pair_rules.proofs.rules.PairRules.clashes.Goals as goal

pub returns-then-is_some : goal.returns-then-is_some
returns-then-is_some c =
    let rules = c.args.self.now in
    let rule : PairRule = record { before = c.args.before.now; after = c.args.after.now; kind = c.args.kind } in
    let kind = ap is_some (sym (c.kind.ensures.value rule.before rule.after (sym c.number-first.ensures) (sym c.number-second.ensures)))
    ∙ sym c.is_some.ensures ∙ c.if-is_some.true in
    c.if-is_some.true
    ∙ sym (clashes-by_kind rules rule
    ∙ (λ t. kind t || (is_keep rule.kind && (keeps_first rules rule.before || keeps_second rules rule.after))))

pub returns-then-marks_at : goal.returns-then-marks_at
returns-then-marks_at c =
    let rules = c.args.self.now in
    let rule : PairRule = record { before = c.args.before.now; after = c.args.after.now; kind = c.args.kind } in
    let kind = ap is_some (sym (c.kind.ensures.value rule.before rule.after (sym c.number-first.ensures) (sym c.number-second.ensures)))
    ∙ sym c.is_some.ensures ∙ c.if-is_some.false in
    let keep = sym c.is_keep.ensures ∙ c.if-is_keep.true in
    let first = sym (ap (λ (m : Marks). m.keeps_first) (c.marks_at.ensures rule.before (sym c.number-first.ensures)))
    ∙ c.if-marks_at.true in
    c.if-marks_at.true
    ∙ sym (clashes-by_kind rules rule ∙ (λ t. kind t || (keep t && (first t || keeps_second rules rule.after))))

pub returns-else-marks_at : goal.returns-else-marks_at
returns-else-marks_at c =
    let rules = c.args.self.now in
    let rule : PairRule = record { before = c.args.before.now; after = c.args.after.now; kind = c.args.kind } in
    let kind = ap is_some (sym (c.kind.ensures.value rule.before rule.after (sym c.number-first.ensures) (sym c.number-second.ensures)))
    ∙ sym c.is_some.ensures ∙ c.if-is_some.false in
    let keep = sym c.is_keep.ensures ∙ c.if-is_keep.true in
    let first = sym (ap (λ (m : Marks). m.keeps_first) (c.marks_at.ensures rule.before (sym c.number-first.ensures)))
    ∙ c.if-marks_at.false in
    let second = sym (ap (λ (m : Marks). m.keeps_second) (c.marks_at-else-marks_at.ensures rule.after (sym c.number-second.ensures))) in
    sym (clashes-by_kind rules rule ∙ (λ t. kind t || (keep t && (first t || second t))))

pub returns-else-is_keep : goal.returns-else-is_keep
returns-else-is_keep c =
    let rules = c.args.self.now in
    let rule : PairRule = record { before = c.args.before.now; after = c.args.after.now; kind = c.args.kind } in
    let kind = ap is_some (sym (c.kind.ensures.value rule.before rule.after (sym c.number-first.ensures) (sym c.number-second.ensures)))
    ∙ sym c.is_some.ensures ∙ c.if-is_some.false in
    let keep = sym c.is_keep.ensures ∙ c.if-is_keep.false in
    c.if-is_keep.false
    ∙ sym (clashes-by_kind rules rule ∙ (λ t. kind t || (keep t && (keeps_first rules rule.before || keeps_second rules rule.after))))
