use Rattle.std.proofs.Common.{◌≡◌, []}
use Rattle.std.specs.List.Sorted.{IsStrictlySortedBy}
use Rattle.std.specs.Map.{keys_of}
use Rattle.std.specs.String.{string_cmp}
use Rattle.toml.specs.View.{members_view}
use Rattle.trip_model.specs.declared.limits.TheConstants.{MOST_LAYOVER}
use Rattle.desk_settings.specs.Desk.{entries_from, minutes_in}
use Rattle.desk_settings.proofs.DeskLemmas.{AreNew}
use Rattle.desk_settings.proofs.desk.layovers_from.Given as goal

abbrev pub invariant-loop-place : goal.invariant-loop-place
invariant-loop-place l = record {
  gives : entries_from (minutes_in MOST_LAYOVER) l.layovers (members_view l.place-iterator) ≡ entries_from (minutes_in MOST_LAYOVER) []
      (members_view l.fn.table.entries);
  rising : IsStrictlySortedBy string_cmp (keys_of l.place-iterator);
  new : AreNew l.layovers l.place-iterator;
}
