use Rattle.std.proofs.Common.{◌∷◌, [], ◌++◌, get_or, sym, ap, codes, ◌∙◌}
use Rattle.std.proofs.lemmas.Bool.{not-false, not-true}
use Rattle.std.proofs.lemmas.List.{append-nil}
use Rattle.std.specs.Fmt.{decimal}
use Rattle.std.specs.Prelude.{string_bytes}
use Rattle.trip_model.specs.declared.trip.Trip.{Trip}
use Rattle.block_build.proofs.LinesWritten.{price-none, price-one}
use Rattle.block_build.proofs.lines.push_price.Goals as goal

pub returns-then-not-trip : goal.returns-then-not-trip
returns-then-not-trip c =
    sym (append-nil (string_bytes c.args.text.now))
    ∙ ap (λ xs. string_bytes c.args.text.now ++ xs)
    (sym (price-none c.args.prices.now.timetable.now c.args.prices.now.leave.now c.args.prices.now.enter.now c.args.slot
    (ap (λ (trip : Trip). trip.live) (sym c.trip.ensures.value) ∙ not-true c.trip.result.live c.if-not-trip.true)))

pub returns : goal.returns
returns c =
    let leave = c.args.prices.now.leave.now in
    let enter = c.args.prices.now.enter.now in
    let live = ap (λ (trip : Trip). trip.live) (sym c.trip.ensures.value) ∙ not-false c.trip.result.live c.if-not-trip.false in
    c.in_ok-writeln.ensures.bytes
    ∙ (λ i. string_bytes c.args.text.now
    ++ (codes " price " ++ (c.name-name.ensures i
    ++ (codes " " ++ (decimal (get_or leave (c.from.ensures i) 0)
    ++ (codes " " ++ (decimal (get_or enter (c.from-2.ensures i) 0) ++ 10 ∷ [])))))))
    ∙ ap (λ xs. string_bytes c.args.text.now ++ xs) (sym (price-one c.args.prices.now.timetable.now leave enter c.args.slot live))
