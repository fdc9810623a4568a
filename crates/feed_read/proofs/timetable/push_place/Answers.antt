use Rattle.std.proofs.Common.{List, ◌∷◌, [], sym, ap, ◌∙◌, arith, length-append}
use Rattle.std.proofs.lemmas.Option.{slice_get_within, get_or_from_slice_get}
use Rattle.trip_model.specs.Place.{Place}
use Rattle.trip_model.specs.Timetable.{place_names}
use Rattle.trip_model.proofs.TimetableLemmas.{number_of-None, number_of-Some}
use Rattle.feed_read.specs.Base.{place_of}
use Rattle.feed_read.proofs.Places.{with_place-new, with_place-known}
use Rattle.feed_read.proofs.timetable.push_place.Goals as goal

pub append_place-requires-clause-new : goal.append_place-requires-clause-new
append_place-requires-clause-new c =
    number_of-None (place_names c.args.timetable.now) (place_of c.args.settings.now c.args.terminal.now c.args.class.now).name
    (sym c.in_ok-find_place.ensures.number ∙ c.in-None.is)

pub returns-in-Some-clause-pushed : goal.returns-in-Some-clause-pushed
returns-in-Some-clause-pushed c =
    let names = place_names c.args.timetable.now in
    let place = place_of c.args.settings.now c.args.terminal.now c.args.class.now in
    let n = c.in-Some.field-0 in
    let found = number_of-Some names place.name n (sym c.in_ok-find_place.ensures.number ∙ c.in-Some.is) in
    ap (λ (places : List Place). record (c.args.timetable.now) { places = places })
    (sym (with_place-known c.args.timetable.now.places place
    (n, slice_get_within names n place.name found, get_or_from_slice_get names n place.name place.name found)))

pub returns-in-None-clause-full : goal.returns-in-None-clause-full
returns-in-None-clause-full c =
    let places = c.args.timetable.now.places in
    let place = place_of c.args.settings.now c.args.terminal.now c.args.class.now in
    let new = number_of-None (place_names c.args.timetable.now) place.name (sym c.in_ok-find_place.ensures.number ∙ c.in-None.is) in
    rw (with_place-new places place new) (omega (arith, length-append places (place ∷ [])))

pub returns-in_ok-append_place-in-None-2-clause-pushed : goal.returns-in_ok-append_place-in-None-2-clause-pushed
returns-in_ok-append_place-in-None-2-clause-pushed c =
    let place = place_of c.args.settings.now c.args.terminal.now c.args.class.now in
    let new = number_of-None (place_names c.args.timetable.now) place.name (sym c.in_ok-find_place.ensures.number ∙ c.in-None.is) in
    c.in_ok-append_place-in-None-2.ensures
    ∙ ap (λ (places : List Place). record (c.args.timetable.now) { places = places })
    (sym (with_place-new c.args.timetable.now.places place new))
