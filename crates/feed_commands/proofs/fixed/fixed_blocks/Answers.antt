use Rattle.trip_model.specs.Plain.{trip_moves}
use Rattle.feed_commands.proofs.fixed.fixed_blocks.Goals as goal

pub blocks_of-requires-clause-links : goal.blocks_of-requires-clause-links
blocks_of-requires-clause-links c =
    c.plain_law.ensures.links (trip_moves c.args.timetable.now.slots) c.in_ok-links.links c.in_ok-links.ensures.links
