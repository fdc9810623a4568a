use Rattle.std.proofs.Common.{inl, inr, ◌≢◌, refl, ap, rules}
use Rattle.gtfs_tables.specs.Reading.{table_in}
use Rattle.gtfs_tables.specs.declared.fault.FeedFault.TheVariants as fault
use Rattle.gtfs_tables.specs.declared.paper.Paper.TheVariants as paper
use Rattle.block_writer.specs.StopTimes.{stop_time_columns}
use Rattle.desk_run.specs.Reading.{found_of}
use Rattle.write_command.specs.Write.{trip_columns, trips_table}
use Rattle.write_command.proofs.Given.{beside-texts, told-refusal}
use Rattle.write_command.proofs.write.writable_of.Goals as goal

pub found-trips-requires : goal.found-trips-requires
found-trips-requires c = c.requires.1.1.1.1.1.0

pub found-stop_times-requires : goal.found-stop_times-requires
found-stop_times-requires c = c.requires.1.1.1.1.1.1.0

pub returns-in-Err : goal.returns-in-Err
returns-in-Err c =
    let other : c.in-Err.fault ≢ fault.Memory = search rules in
    inl (told-refusal paper.Trips c.trip_columns.result.now (trip_columns c.args.settings.now) c.found-trips.result.now
    (found_of c.args.read.now.pages paper.Trips) c.in-Err.fault _
    c.trip_columns.ensures c.found-trips.ensures.found (c.in-Err.ensures.refused other) c.in_ok-refuse-in-Err.ensures)

pub returns : goal.returns
returns c =
    let other : c.in-Err-stop_times_text.fault ≢ fault.Memory = search rules in
    inr (beside-texts (table_in paper.Trips c.found-trips.result.now) (trips_table c.args.read.now) c.in-Ok.trips
    (ap (table_in paper.Trips) c.found-trips.ensures.found) c.in-Ok.ensures.texts
    (told-refusal paper.StopTimes stop_time_columns stop_time_columns c.found-stop_times.result.now
    (found_of c.args.read.now.pages paper.StopTimes) c.in-Err-stop_times_text.fault _
    refl c.found-stop_times.ensures.found (c.in-Err-stop_times_text.ensures.refused other) c.in_ok-refuse-in-Err-stop_times_text.ensures))
