use Rattle.std.proofs.Common.{◌≡◌, ℕ, ◌-◌, drop, length, false, replicate, None}
use Rattle.std.specs.Prelude.{vec_len}
use Rattle.assignment_model.specs.Prices.{Plan}
use Rattle.pair_search.specs.Arranged.{slot_in, bare}
use Rattle.pair_search.specs.Assignment.{IsMatched, Covers}
use Rattle.pair_search.specs.Determined.{found_each}
use Rattle.pair_search.specs.Inverse.{IsInverse}
use Rattle.pair_search.specs.Order.{stands_before, IsRenaming}
use Rattle.pair_search.specs.declared.limits.TheConstants.{FAR}
use Rattle.list_search.specs.Lists.{listed}
use Rattle.list_search.proofs.search.link_rows.Given as goal

abbrev pub invariant-loop-added : goal.invariant-loop-added
invariant-loop-added l = record {
  slots : vec_len l.tree.dist ≡ l.lists.slots;
  dist : l.tree.dist.items ≡ replicate l.lists.slots FAR;
  done : l.tree.done.items ≡ replicate l.lists.slots false;
  inverse : IsInverse (length l.next) l.next l.before;
  turn : ℕ → ℕ;
  renaming : IsRenaming l.lists.slots (slot_in l.rows) turn;
  matched : IsMatched (listed l.lists) (stands_before turn (l.lists.slots - l.added)) None None l.next l.leave l.enter;
  covers : Covers (listed l.lists) (stands_before turn (l.lists.slots - l.added)) None l.leave l.enter;
  plan : ◌≡◌ {A = Plan} (record { next = l.next; leave = l.leave; enter = l.enter })
      (found_each (listed l.lists) (drop (l.lists.slots - l.added) l.rows) (bare l.lists.slots));
}
