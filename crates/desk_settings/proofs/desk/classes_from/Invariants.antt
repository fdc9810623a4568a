use Rattle.std.proofs.Common.{◌≡◌, []}
use Rattle.std.specs.List.Sorted.{IsStrictlySortedBy}
use Rattle.std.specs.Map.{keys_of}
use Rattle.std.specs.String.{string_cmp}
use Rattle.toml.specs.View.{members_view}
use Rattle.desk_settings.specs.Desk.{class_in, entries_from}
use Rattle.desk_settings.proofs.DeskLemmas.{AreNew}
use Rattle.desk_settings.proofs.desk.classes_from.Given as goal

abbrev pub invariant-loop-route : goal.invariant-loop-route
invariant-loop-route l = record {
  gives : entries_from class_in l.classes (members_view l.route-iterator) ≡ entries_from class_in [] (members_view l.fn.table.entries);
  rising : IsStrictlySortedBy string_cmp (keys_of l.route-iterator);
  new : AreNew l.classes l.route-iterator;
}
