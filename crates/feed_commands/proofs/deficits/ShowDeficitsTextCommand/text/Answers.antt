use Rattle.trip_model.specs.Deficit.{live_moves}
use Rattle.feed_commands.proofs.deficits.ShowDeficitsTextCommand.text.Goals as goal

pub returns-clause-shown : goal.returns-clause-shown
returns-clause-shown g c = c.deficit_lines.ensures.held (live_moves c.args.stands.timetable.now.slots) c.in_ok-deficits.ensures.held
