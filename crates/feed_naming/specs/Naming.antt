-- How the blocks of a feed are named, by what was read.
use Rattle.std.specs.Prelude.{ℕ, zero, suc, ◌+◌, Bool, false, List, [], ◌∷◌, ◌++◌, length, slice_index_or, Result, Ok}
use Rattle.std.specs.Prelude.{if◌then◌else◌}
use Rattle.gtfs_tables.specs.Reading.{◌>>=◌, table_in, text_in}
use Rattle.gtfs_tables.specs.Table.{TableView}
use Rattle.gtfs_tables.specs.declared.fault.FeedFault.{FeedFault}
use Rattle.gtfs_tables.specs.declared.paper.Column.TheVariants as column
use Rattle.gtfs_tables.specs.declared.paper.Paper.TheVariants as paper
use Rattle.desk_settings.specs.Selected.{chosen_in, field_of}
use Rattle.desk_settings.specs.Settings.{SettingsView}
use Rattle.block_names.specs.Names.{NamingView}
use Rattle.desk_run.specs.Reading.{ReadView, found_of}

-- the names that were stated, with the `block_id` of a record, counted from 0, where it is selected; it is refused where it is
-- no text
abbrev pub with_stated : TableView → List Bool → ℕ → List (List ℕ) → Result (List (List ℕ)) FeedFault
with_stated trips chosen r names =
    if slice_index_or chosen r false
    then (text_in paper.Trips (r + 1) column.BlockId (field_of column.BlockId trips r) >>= λ name. Ok (names ++ name ∷ []))
    else Ok names

-- and with those of so many records, from one on
abbrev pub stated_from : TableView → List Bool → ℕ → ℕ → List (List ℕ) → Result (List (List ℕ)) FeedFault
stated_from trips chosen zero r names = Ok names
stated_from trips chosen (suc left) r names = with_stated trips chosen r names >>= stated_from trips chosen left (r + 1)

-- the `block_id` of each selected record, in their order, or the refusal of the first that is no text. The n-th, counted from 0,
-- is of the trip in slot n
abbrev pub stated_texts : TableView → List Bool → Result (List (List ℕ)) FeedFault
stated_texts trips chosen = stated_from trips chosen (length trips.rows) 0 []

-- the names that blocks keep, by the trips of a feed: none where the settings name blocks by numbers
abbrev pub kept_by : SettingsView → Result TableView FeedFault → Result (List (List ℕ)) FeedFault
kept_by settings table =
    if settings.keeps_names then (table >>= λ trips. stated_texts trips (chosen_in settings trips)) else Ok []

-- rule: which names the blocks of a feed keep
-- how blocks are named by the settings and by the trips of a feed
abbrev pub naming_by : SettingsView → Result TableView FeedFault → Result NamingView FeedFault
naming_by settings table = kept_by settings table >>= λ stated. Ok (record { prefix = settings.prefix; stated = stated })

-- and so by what was read
abbrev pub naming_in : ReadView → SettingsView → Result NamingView FeedFault
naming_in read settings = naming_by settings (table_in paper.Trips (found_of read.pages paper.Trips))
