use Rattle.desk_feed.proofs.feed.kept_on_date.Goals as goal

pub found-calendar-requires : goal.found-calendar-requires
found-calendar-requires c = c.requires.1.1.1.0

pub found-dates-requires : goal.found-dates-requires
found-dates-requires c = c.requires.1.1.1.1.0
