use Rattle.std.proofs.Common.{[]}
use Rattle.std.proofs.lemmas.Str.Ascii.{IsAscii-nil}
use Rattle.gtfs_tables.proofs.Fields.{cut-texts}
use Rattle.gtfs_tables.proofs.PartLemmas.{parts-texts}
use Rattle.gtfs_tables.proofs.field_list.Fields.bytes.Goals as goal

pub returns-then-self : goal.returns-then-self
returns-then-self c ascii =
    rw (← c.self.view_is, c.if-self.true) (parts-texts [] c.self.inside.line.items IsAscii-nil (rw c.deref.ensures.value at ascii))

pub returns-else-self : goal.returns-else-self
returns-else-self c ascii =
    let held = c.self.inside.held in
    rw (← c.self.view_is, c.if-self.false) (cut-texts 0 held.ends held.bytes (rw c.as_slice.ensures at ascii))
