use Rattle.std.proofs.Common.{◌≡◌, ◌∷◌, [], ◌++◌, ◌∙◌}
use Rattle.std.specs.Prelude.{string_bytes}
use Rattle.std.specs.Fmt.{decimal}
use Rattle.std.proofs.lemmas.Result.{on_ok_weaker}
use Rattle.deficit_steps.specs.Changes.{value}
use Rattle.deficit_steps.proofs.LinesLemmas.{place-written}
use Rattle.deficit_steps.proofs.lines.push_place.Goals as goal

pub returns : goal.returns
returns c =
    let line : string_bytes c.writeln.new.self ≡ string_bytes c.args.text.now
    ++ (c.args.name.now ++ 32 ∷ 109 ∷ 97 ∷ 120 ∷ 32
    ∷ (decimal c.max-high.result.0 ++ 32 ∷ 97 ∷ 116 ∷ 32 ∷ (c.as_str.result.now ++ 10 ∷ []))) = c.in_ok-writeln.ensures.bytes in
    on_ok_weaker c.push_steps.result
    (place-written (string_bytes c.args.text.now) c.args.name.now (value c.args.deficits.now c.args.place) c.max-high.result.0
    c.max-high.result.1 c.as_str.result.now c.deref.result.now (string_bytes c.writeln.new.self) (string_bytes c.push_steps.new.text)
    c.max-high.ensures.computed (c.as_str.ensures ∙ c.in_ok-minute.ensures) (c.deref.ensures.value ∙ c.in_ok-steps.ensures) line)
    c.push_steps.ensures
