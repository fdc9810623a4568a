use Rattle.desk_feed.proofs.feed.read_settings.Goals as goal

pub found-settings-requires : goal.found-settings-requires
found-settings-requires c = c.requires.0

pub found-terminals-requires : goal.found-terminals-requires
found-terminals-requires c = c.requires.1.0

pub found-tolerances-requires : goal.found-tolerances-requires
found-tolerances-requires c = c.requires.1.1.0
