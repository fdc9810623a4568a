use Rattle.std.proofs.Common.{ap}
use Rattle.undo_log.specs.Log.{LogView}
use Rattle.plan_history.specs.declared.item.Item.{Item}
use Rattle.plan_history.proofs.keep.keep.Goals as goal

pub returns-clause-noted : goal.returns-clause-noted
returns-clause-noted c = record {
  item = c.item_of-item.result;
  before = c.item_of-item.ensures.before;
  after = c.item_of-item.ensures.after;
  changes = c.item_of-item.ensures.changes;
  undone = ap (λ (l : LogView Item). l.undone) c.push-forgotten.ensures.lists;
  kept = ap (λ (l : LogView Item). l.kept) c.push-forgotten.ensures.lists;
}
