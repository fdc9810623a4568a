use Rattle.std.proofs.Common.{length, map, Ok, Err, Global, Vec, subst, arith}
use Rattle.std.proofs.lemmas.List.{length-map}
use Rattle.std.proofs.lemmas.Result.{err_from_is_err_and}
use Rattle.feed_read.specs.declared.trip_ends.TripEnds.{TripEnds}
use Rattle.feed_read.specs.Kept.{trip_ends_seen}
use Rattle.feed_read.proofs.KeptLemmas.{is_of-paper, keeps-file, AreKept-none, IsOf}
use Rattle.feed_read.proofs.stop_times.trip_ends_in.Goals as goal

pub returns-in_err-read-clause-keeps : goal.returns-in_err-read-clause-keeps
returns-in_err-read-clause-keeps c =
    let p = err_from_is_err_and c.from_residual-in_err-read.result c.from_residual-in_err-read.ensures.1 in
    rw (p.1, p.2)
    (keeps-file (λ (trip_ends : Vec TripEnds Global). trip_ends.items) (Err c.in_err-read.field-0.0) c.args.names.now _ c.args.found.now
    (AreKept-none c.in_ok-no_trip_ends.field-0.items c.in_ok-no_trip_ends.ensures.none) c.in_err-read.ensures)

pub returns-clause-keeps : goal.returns-clause-keeps
returns-clause-keeps c =
    keeps-file (λ (trip_ends : Vec TripEnds Global). trip_ends.items) (Ok c.in_ok-read.read.trip_ends) c.args.names.now _ c.args.found.now
    (AreKept-none c.in_ok-no_trip_ends.field-0.items c.in_ok-no_trip_ends.ensures.none) c.in_ok-read.ensures

pub returns-clause-count : goal.returns-clause-count
returns-clause-count c =
    let begun = c.in_ok-no_trip_ends.field-0.items in
    let made = c.in_ok-read.read.trip_ends.items in
    let kept = map trip_ends_seen begun in
    let same = subst (IsOf (length kept)) c.in_ok-read.ensures (is_of-paper c.args.names.now kept c.args.found.now) in
    omega (arith, same, length-map begun trip_ends_seen, length-map made trip_ends_seen, c.in_ok-no_trip_ends.ensures.count, c.len.ensures)
