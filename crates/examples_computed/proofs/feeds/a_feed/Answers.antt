use Rattle.std.proofs.Common.{refl}
use Rattle.std.specs.Char.{encode_utf8}
use Rattle.std.specs.Str.{chars, is_utf8}
use Rattle.csv.specs.Machine.{next_record}
use Rattle.csv.specs.Reading.{strip_bom, records_from}
use Rattle.gtfs_tables.specs.Parts.{parts_after}
use Rattle.desk_settings.specs.Settings.{settings_of}
use Rattle.feed_read.specs.Base.{base_of, timetable_of}
use Rattle.feed_read.specs.FeedTrips.{feed_trip_between, feed_trip_of}
use Rattle.feed_read.specs.Kept.{with_record_kept}
use Rattle.feed_read.specs.StopTimes as times
use Rattle.feed_read.specs.StopTimes.{stop_time_in, with_stop_time}
use Rattle.feed_read.specs.Trips as trips
use Rattle.feed_read.specs.Trips.{chosen_in, with_selected, with_trip}
use Rattle.deadhead_matrix.specs.Deadheads as deadheads
use Rattle.deadhead_matrix.specs.Deadheads.{deadhead_in, with_deadhead}
use Rattle.deadhead_matrix.specs.Depot as depot
use Rattle.deadhead_matrix.specs.Depot.{depot_row_in}
use Rattle.desk_feed.specs.Feed.{said_by}
use Rattle.examples_computed.proofs.feeds.a_feed.Goals as goal

pub returns : goal.returns
unfolding is_utf8 chars encode_utf8 said_by settings_of base_of timetable_of feed_trip_between feed_trip_of with_record_kept times.columns_in stop_time_in with_stop_time trips.columns_in chosen_in with_selected with_trip deadheads.columns_in deadhead_in with_deadhead depot.columns_in depot_row_in next_record strip_bom records_from parts_after
returns c = refl
