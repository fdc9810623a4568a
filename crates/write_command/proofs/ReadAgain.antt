-- What is written of a feed is read again as the feed.
use Rattle.std.proofs.Common.{◌≡◌, ◌<◌, ℕ, List, Ok, length, sym, ap, subst}
use Rattle.std.specs.Prelude.{All}
use Rattle.csv.specs.Reading.{strip_bom}
use Rattle.desk_io.specs.declared.shelf.Found.TheVariants.{File}
use Rattle.gtfs_tables.specs.Table.{TableView}
use Rattle.desk_settings.specs.Selected.{chosen_in}
use Rattle.trip_model.specs.Timetable.{Slot}
use Rattle.feed_read.specs.Base.{base_of}
use Rattle.block_names.specs.Names.{NamingView, names_of}
use Rattle.block_writer.specs.StopTimes.{stop_times_written}
use Rattle.written_laws.specs.Follows.{IsEditedFrom}
use Rattle.written_laws.specs.Written.{AreWritable, as_written}
use Rattle.written_laws.proofs.Edits.{standing-follows}
use Rattle.written_laws.proofs.ReadBack.{base-forward, written-back}
use Rattle.desk_feed.specs.Feed.{FeedView, standing}
use Rattle.desk_feed.specs.Script.{first_records}
use Rattle.write_command.specs.Write.{AreReadAgain, trips_of}

pub read-again : (naming : NamingView) (said : FeedView) (trips stop_times : TableView) (blocks : List (List ℕ))
    → AreReadAgain naming said trips stop_times blocks
read-again naming said trips stop_times blocks trips_bytes stop_times_bytes base are writable trips_unmarked stop_times_unmarked =
    subst Back (ap length are.slots)
    (λ writable stop_times_unmarked.
    written-back said.settings trips_bytes stop_times_bytes trips stop_times base (standing said) (chosen_in said.settings trips) blocks
    (names_of naming blocks)
    are.trips_are are.stop_times_are are.trips_table are.stop_times_table are.read follows writable trips_unmarked stop_times_unmarked)
    writable stop_times_unmarked
  where
    -- the files read back, where so many slots have records
    Back : ℕ → Type 0
    Back n =
        AreWritable stop_times (standing said) n
        → strip_bom (stop_times_written stop_times (standing said) n) ≡ stop_times_written stop_times (standing said) n
        → base_of said.settings (File (trips_of naming said trips blocks))
        (File (stop_times_written stop_times (standing said) n)) ≡ Ok (as_written base (standing said))

    follows : IsEditedFrom base (standing said)
    follows =
        let forward = base-forward said.settings (File trips_bytes) (File stop_times_bytes) base are.read in
        let on = standing-follows said.base (first_records said.lines (length said.lines))
        (subst (All (λ (slot : Slot). slot.trip.departs < slot.trip.ends)) are.slots forward) in
        subst (λ slots. IsEditedFrom (record base { slots = slots }) (standing said)) (sym are.slots)
        (record { names = on.names; trips = on.trips })
