use Rattle.std.proofs.Common.{◌∙◌, ap}
use Rattle.std.specs.Prelude.{string_bytes}
use Rattle.deficit_steps.specs.Changes.{value}
use Rattle.chart_text.specs.Deficits.{value_in}
use Rattle.chart_text.proofs.DeficitsLemmas.{place-written}
use Rattle.chart_text.proofs.deficits.push_place.Goals as goal

pub returns : goal.returns
returns c =
    let d = value c.args.deficits.now c.args.place in
    let read = c.deref.ensures.value in
    place-written (string_bytes c.args.text.now) c.args.name.now c.args.columns.now d (value_in c.deref.result.now)
    (string_bytes c.push_marks.new.text) (string_bytes c.writeln.new.self)
    c.requires.columns (λ t h. ap (λ vs. value_in vs t) read ∙ c.in_ok-values.ensures.values t h)
    c.in_ok-push_marks.ensures c.in_ok-writeln.ensures.bytes
