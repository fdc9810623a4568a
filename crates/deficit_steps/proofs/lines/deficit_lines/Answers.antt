use Rattle.std.proofs.Common.{◌≡◌, ◌<◌, ◌≤◌, [], length, sym, ◌∙◌, arith}
use Rattle.std.specs.Prelude.{string_bytes}
use Rattle.std.proofs.lemmas.List.{get_or-map, length-map}
use Rattle.trip_model.specs.Timetable.{place_names}
use Rattle.deficit_steps.specs.Changes.{value}
use Rattle.deficit_steps.proofs.LinesLemmas.{lines-more, text-written}
use Rattle.deficit_steps.proofs.lines.deficit_lines.Goals as goal

pub loop-place-preserved : goal.loop-place-preserved
loop-place-preserved c =
    let places = c.args.timetable.now.places in
    let there : c.loop-place.place < length places = omega (arith, c.places-place-end.ensures.count) in
    let named : c.loop-place.place < length (place_names c.args.timetable.now) = omega (arith, length-map places (λ p. p.name)) in
    lines-more (place_names c.args.timetable.now) (value c.args.deficits.now) c.loop-place.place c.place_name.result.now
    (string_bytes c.loop-place.text) (string_bytes c.push_place.new.text) named
    (c.place_name.ensures ∙ sym (get_or-map (λ p. p.name) places c.loop-place.place _ [] there)) c.loop-place.invariant
    c.in_ok-push_place.ensures

pub returns-clause-text : goal.returns-clause-text
returns-clause-text c =
    let places = c.args.timetable.now.places in
    let len = length-map places (λ p. p.name) in
    let all : length (place_names c.args.timetable.now) ≤ c.loop-place.place = omega (arith, c.places-place-end.ensures.count) in
    let same : length c.args.deficits.now ≡ length (place_names c.args.timetable.now) = omega arith in
    c.wrap.ensures
    ∙ text-written (place_names c.args.timetable.now) (value c.args.deficits.now) c.loop-place.place c.total-sum.result _
    (string_bytes c.loop-place.text) (string_bytes c.writeln.new.self) all same c.loop-place.invariant c.total-sum.ensures
    c.in_ok-writeln.ensures.bytes

pub returns-clause-held : goal.returns-clause-held
returns-clause-held c = λ moves held.
    returns-clause-text c
    ∙ c.text_law.ensures (place_names c.args.timetable.now) c.args.deficits.now moves c.places-place-end.ensures.valid held
    (length-map c.args.timetable.now.places (λ p. p.name) ∙ c.requires)
