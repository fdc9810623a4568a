use Rattle.desk_feed.proofs.feed.read_lines.Goals as goal

pub found-requires : goal.found-requires
found-requires c = c.requires.1.1.1.1.1.1.1.1.1.1.0
