use Rattle.std.proofs.Common.{◌≡◌, ◌-◌, length}
use Rattle.feed_naming.specs.Naming.{stated_from, stated_texts}
use Rattle.feed_naming.proofs.naming.stated_texts.Given as goal

abbrev pub invariant-loop-before : goal.invariant-loop-before
invariant-loop-before l =
    stated_from l.trips l.chosen (length l.trips.rows - l.before) l.before l.names.items
    ≡ stated_texts l.trips l.chosen
