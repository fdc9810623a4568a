use Rattle.std.proofs.Common.{unwrap_or, ap, ◌∙◌, [], ℕ, List, Option}
use Rattle.csv.specs.Records.{fields_of}
use Rattle.gtfs_tables.proofs.Fields.{field_at-plain}
use Rattle.gtfs_tables.proofs.field_list.Fields.get.Goals as goal

pub returns-in-Some : goal.returns-in-Some
returns-in-Some c = ap (λ (o : Option (List ℕ)). unwrap_or o []) c.in-Some.ensures.value
    ∙ rw (← c.self.view_is, c.if-self.false) (field_at-plain (fields_of c.self.inside.held) c.args.place)

pub returns-in-None : goal.returns-in-None
returns-in-None c = ap (λ (o : Option (List ℕ)). unwrap_or o []) c.in-None.ensures.value
    ∙ rw (← c.self.view_is, c.if-self.false) (field_at-plain (fields_of c.self.inside.held) c.args.place)
