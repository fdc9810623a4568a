use Rattle.std.proofs.Common.{sym, ap, ◌∙◌, Err}
use Rattle.gtfs_tables.specs.declared.fault.FeedFault.TheVariants as fault
use Rattle.feed_read.proofs.FeedTripLemmas.{feed_trip_of-repeated}
use Rattle.feed_read.proofs.feed_trip.feed_trip_of.Goals as goal

pub returns-then-trip_ends-clause-gives : goal.returns-then-trip_ends-clause-gives
returns-then-trip_ends-clause-gives c = λ stop_times are.
    feed_trip_of-repeated c.args.settings.now c.args.name.now c.args.class.now stop_times (sym are.repeated ∙ c.if-trip_ends.true)
    ∙ ap (λ name. Err (fault.DuplicateSequence name)) (sym c.in_ok-of.ensures)
