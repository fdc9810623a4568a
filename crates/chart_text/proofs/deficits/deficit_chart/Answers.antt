use Rattle.std.proofs.Common.{◌≡◌, ◌<◌, ◌≤◌, [], ◌∷◌, ◌++◌, length, codes, slice_get, Some, None, sym, ap, ◌∙◌, arith}
use Rattle.std.specs.Prelude.{string_bytes}
use Rattle.std.proofs.lemmas.List.{get_or-map, length-map}
use Rattle.std.proofs.lemmas.Result.{IfOk-weaker}
use Rattle.trip_model.specs.Deficit.{deficit, live_moves}
use Rattle.trip_model.specs.Timetable.{place_names}
use Rattle.deficit_steps.specs.Changes.{value}
use Rattle.chart_text.specs.Columns.{columns_of}
use Rattle.chart_text.specs.Deficits.{place_line, chart_of}
use Rattle.chart_text.proofs.ColumnsLemmas.{text-more}
use Rattle.chart_text.proofs.DeficitsLemmas.{no_columns, chart-written}
use Rattle.chart_text.proofs.deficits.deficit_chart.Goals as goal

pub returns-in_default-clause-text : goal.returns-in_default-clause-text
returns-in_default-clause-text c =
    let columns = columns_of (live_moves c.args.timetable.now.slots) in
    let list = c.deref.ensures.value ∙ c.in_ok-columns.ensures.columns in
    let none : slice_get columns 0 ≡ None = ap (λ cs. slice_get cs 0) (sym list) ∙ sym c.in_default.ensures.value in
    IfOk-weaker c.of.result _ _ (λ text is. is ∙ no_columns columns (place_names c.args.timetable.now) (value c.args.deficits.now) none)
    c.of.ensures

pub returns-in_default-clause-held : goal.returns-in_default-clause-held
returns-in_default-clause-held c = λ moves held.
    let columns = columns_of (live_moves c.args.timetable.now.slots) in
    let list = c.deref.ensures.value ∙ c.in_ok-columns.ensures.columns in
    let none : slice_get columns 0 ≡ None = ap (λ cs. slice_get cs 0) (sym list) ∙ sym c.in_default.ensures.value in
    IfOk-weaker c.of.result _ _ (λ text is. is ∙ no_columns columns (place_names c.args.timetable.now) (deficit moves) none) c.of.ensures

pub loop-place-preserved : goal.loop-place-preserved
loop-place-preserved c =
    let places = c.args.timetable.now.places in
    let there : c.loop-place.place < length places = omega (arith, c.places-place-end.ensures.count) in
    let named : c.loop-place.place < length (place_names c.args.timetable.now) = omega (arith, length-map places (λ p. p.name)) in
    let name = c.place_name.ensures ∙ sym (get_or-map (λ p. p.name) places c.loop-place.place _ [] there) in
    text-more (λ place. place_line c.in_ok-columns.columns.items place.1 (value c.args.deficits.now place.0)) 0
    (place_names c.args.timetable.now) c.loop-place.place c.loop-place.place []
    (string_bytes c.writeln.new.self) (string_bytes c.loop-place.text) (string_bytes c.push_place.new.text) named (omega arith)
    c.loop-place.invariant
    (c.in_ok-push_place.ensures ∙ (λ i. string_bytes c.loop-place.text
    ++ place_line (c.deref-in-loop-place.ensures.value i) (name i) (value c.args.deficits.now c.loop-place.place)))

pub returns-clause-text : goal.returns-clause-text
returns-clause-text c =
    let places = c.args.timetable.now.places in
    let names = length-map places (λ p. p.name) in
    let all : length (place_names c.args.timetable.now) ≤ c.loop-place.place = omega (arith, c.places-place-end.ensures.count) in
    let first : slice_get c.in_ok-columns.columns.items 0 ≡ Some c.in-Some.first.now =
    ap (λ cs. slice_get cs 0) (sym c.deref.ensures.value) ∙ sym c.in-Some.ensures.value in
    c.wrap.ensures
    ∙ chart-written c.in_ok-columns.columns.items (place_names c.args.timetable.now) (value c.args.deficits.now) c.in-Some.first.now
    c.loop-place.place c.as_str.result.now
    (string_bytes c.writeln.new.self) (string_bytes c.loop-place.text) first all (c.as_str.ensures ∙ c.in_ok-minute.ensures)
    (c.in_ok-writeln.ensures.bytes ∙ (λ i. c.new-text.ensures.bytes i ++ (codes "chart from " ++ (c.as_str.result.now ++ 10 ∷ []))))
    c.loop-place.invariant
    ∙ ap (λ cs. chart_of cs (place_names c.args.timetable.now) (value c.args.deficits.now)) c.in_ok-columns.ensures.columns

pub returns-clause-held : goal.returns-clause-held
returns-clause-held c = λ moves held.
    returns-clause-text c
    ∙ c.chart_law.ensures c.args.timetable.now c.args.deficits.now moves c.in_ok-columns.ensures.valid c.places-place-end.ensures.valid
    held c.requires
