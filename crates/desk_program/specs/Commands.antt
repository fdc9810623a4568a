-- Which command the words name, and what that asks.
use Rattle.std.specs.Prelude.{ℕ, ◌≤◌, ◌==◌, ◌&&◌, nat_le, nat_lt, List, [], ◌∷◌, length, Option, None, Some, option_map, codes}
use Rattle.std.specs.Prelude.{if◌then◌else◌, ⊤}
use Rattle.std.specs.Str.{bytes_eq}
use Rattle.desk_run.specs.Commands.{Asked}
use Rattle.feed_commands.specs.Deficits.{deficits_asked}
use Rattle.feed_commands.specs.Fixed.{fixed_asked}
use Rattle.blocks_command.specs.Blocks.{blocks_asked}
use Rattle.plan_commands.specs.Chart.{chart_asked}
use Rattle.plan_commands.specs.Check.{check_asked}
use Rattle.write_command.specs.Write.{write_asked}
use Rattle.lowering_commands.specs.Chains.{chains_asked}
use Rattle.lowering_commands.specs.Shifts.{shifts_asked}
use Rattle.joined_command.specs.Joined.{joined_asked}
use Rattle.planners_command.specs.Planners.{planners_asked}
use Rattle.audit_command.specs.Audit.{audit_asked}
use Rattle.feed_sample.specs.declared.sample.TheConstants.{MOST_SAMPLE}
use Rattle.gtfs_tables.specs.Numbers.{number_of}
use Rattle.sample_command.specs.Sample.{sample_asked}
use Rattle.journal_commands.specs.Keep.{keep_asked}
use Rattle.journal_commands.specs.Kept.{kept_asked}
use Rattle.desk_program.specs.declared.command.CommandName.{CommandName}
use Rattle.desk_program.specs.declared.command.CommandName.TheVariants.{Deficits, Fixed, Blocks, Check, Write, Chart, Chains, Shifts, Keep}
use Rattle.desk_program.specs.declared.command.CommandName.TheVariants.{Kept, Joined, Planners, Audit, Sample}

-- the command of that name
abbrev pub command_named : List ℕ → Option CommandName
command_named word =
    if bytes_eq word (codes "deficits") then Some Deficits
    else if bytes_eq word (codes "fixed") then Some Fixed
    else if bytes_eq word (codes "blocks") then Some Blocks
    else if bytes_eq word (codes "check") then Some Check
    else if bytes_eq word (codes "write") then Some Write
    else if bytes_eq word (codes "chart") then Some Chart
    else if bytes_eq word (codes "chains") then Some Chains
    else if bytes_eq word (codes "shifts") then Some Shifts
    else if bytes_eq word (codes "keep") then Some Keep
    else if bytes_eq word (codes "kept") then Some Kept
    else if bytes_eq word (codes "joined") then Some Joined
    else if bytes_eq word (codes "planners") then Some Planners
    else if bytes_eq word (codes "audit") then Some Audit
    else None

-- how many digits a number below 10,000 has
abbrev pub digits_of : ℕ → ℕ
digits_of n = if nat_lt n 10 then 1 else if nat_lt n 100 then 2 else if nat_lt n 1000 then 3 else 4

-- The number of trips that a word has, no more than a sample may have. The word has as many characters as that has digits, so no
-- sign, no space and no zero in front.
abbrev pub trips_written : ℕ → Option ℕ → Option ℕ
trips_written characters None = None
trips_written characters (Some n) = if (characters == digits_of n) && nat_le n MOST_SAMPLE then Some n else None

abbrev pub trips_in : List ℕ → Option ℕ
trips_in word = trips_written (length word) (number_of 4 word)

-- the command of a sample, where it has a number of trips
abbrev pub sample_of : Option ℕ → Option CommandName
sample_of trips = option_map Sample trips

-- rule: which words name a command
-- the command that the words name: a command and a folder, or that of a sample and a number
abbrev pub command_of : List (List ℕ) → Option CommandName
command_of (command ∷ word ∷ []) = if bytes_eq command (codes "sample") then sample_of (trips_in word) else command_named command
command_of words = None

-- a sample of so many trips can be made
abbrev pub IsMakeable : CommandName → Type 0
IsMakeable (Sample trips) = trips ≤ MOST_SAMPLE
IsMakeable command = ⊤

-- what a command asks
abbrev pub asked_by : CommandName → Asked
asked_by Deficits = deficits_asked
asked_by Fixed = fixed_asked
asked_by Blocks = blocks_asked
asked_by Check = check_asked
asked_by Write = write_asked
asked_by Chart = chart_asked
asked_by Chains = chains_asked
asked_by Shifts = shifts_asked
asked_by Keep = keep_asked
asked_by Kept = kept_asked
asked_by Joined = joined_asked
asked_by Planners = planners_asked
asked_by Audit = audit_asked
asked_by (Sample trips) = sample_asked trips

-- the folder that is read and written: the second of two words, but for `sample`, which works on none
abbrev pub folder_of : List (List ℕ) → List ℕ
folder_of (command ∷ folder ∷ []) = if bytes_eq command (codes "sample") then codes "." else folder
folder_of words = codes "."
