use Rattle.std.proofs.Common.{sym, ap, ◌∙◌}
use Rattle.trip_model.specs.Timetable.{number_of, place_names}
use Rattle.feed_read.proofs.Classes.{post_named, terminal_named}
use Rattle.feed_read.proofs.timetable.find_place.Goals as goal

pub returns-in_ok-name-clause-number : goal.returns-in_ok-name-clause-number
returns-in_ok-name-clause-number c =
    c.find_place.ensures.number
    ∙ ap (number_of (place_names c.args.timetable.now))
    (c.as_str.ensures ∙ c.in_ok-name.ensures
    ∙ post_named c.args.settings.now c.args.terminal.now c.args.class.now (sym c.classed.ensures ∙ c.if-classed.true))

pub returns-else-classed-clause-number : goal.returns-else-classed-clause-number
returns-else-classed-clause-number c =
    c.find_place-else-classed.ensures.number
    ∙ ap (number_of (place_names c.args.timetable.now))
    (c.as_str-else-classed.ensures
    ∙ terminal_named c.args.settings.now c.args.terminal.now c.args.class.now (sym c.classed.ensures ∙ c.if-classed.false))
