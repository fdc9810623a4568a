use Rattle.std.proofs.Common.{◌≡◌, ◌∷◌, [], ◌++◌, get_or, pos, refl, ap, rules, ◌∙◌}
use mir.Val.{to_z, of_z, SFits}
use mir.Syntax.{w32}
use Rattle.std.specs.Prelude.{string_bytes}
use Rattle.std.specs.Fmt.{signed_decimal}
use Rattle.std.proofs.lemmas.Int.{to_z-of_z}
use Rattle.deficit_steps.proofs.LinesLemmas.{steps-more}
use Rattle.deficit_steps.proofs.lines.push_steps.Goals as goal

pub loop-step-preserved : goal.loop-step-preserved
loop-step-preserved c =
    let step = get_or c.args.steps.now c.loop-step.step-index (0, pos 0) in
    let line : string_bytes c.writeln.new.self ≡ string_bytes c.loop-step.text ++ 32
    ∷ (c.as_str.result.now ++ 32 ∷ (signed_decimal (to_z w32 (of_z w32 step.1)) ++ 10 ∷ [])) = c.in_ok-writeln.ensures.bytes in
    let fits : SFits w32 step.1 = search rules in
    let value = to_z-of_z w32 step.1 fits in
    steps-more (string_bytes c.args.text.now) c.args.steps.now c.loop-step.step-index step (string_bytes c.loop-step.text)
    (string_bytes c.writeln.new.self) c.as_str.result.now c.loop-step-test.true refl
    c.loop-step.invariant (c.as_str.ensures ∙ c.in_ok-minute.ensures)
    (line ∙ ap (λ v. string_bytes c.loop-step.text ++ 32 ∷ (c.as_str.result.now ++ 32 ∷ (signed_decimal v ++ 10 ∷ []))) value)
