use Rattle.audit_command.proofs.audit.read_trips.Goals as goal

pub found-requires : goal.found-requires
found-requires c = c.requires.1.1.1.1.1.0
