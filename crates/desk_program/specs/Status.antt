-- The lines that the program prints on standard error.
use Rattle.std.specs.Prelude.{ℕ, ◌==◌, if◌then◌else◌, List, Option, None, Some, codes}
use Rattle.desk_run.specs.declared.status.TheConstants.{READ_FAULT, WRITE_FAULT, KEEPER_FAULT, NO_MEMORY}

-- rule: the line on standard error
-- the line for a status, and none for a status that says enough by itself
abbrev pub status_line_of : ℕ → Option (List ℕ)
status_line_of status =
    if status == READ_FAULT then Some (codes "blockdesk: read fault")
    else if status == WRITE_FAULT then Some (codes "blockdesk: write fault")
    else if status == KEEPER_FAULT then Some (codes "blockdesk: keeper fault")
    else if status == NO_MEMORY then Some (codes "blockdesk: out of memory")
    else None
