use Rattle.std.proofs.Common.{subst}
use Rattle.std.specs.Bool.{MatchBool}
use Rattle.std.specs.Str.{IsAscii, IsNotAscii}
use Rattle.gtfs_tables.proofs.Fields.{padded-texts}
use Rattle.gtfs_tables.proofs.row.Row.is_ascii.Goals as goal

pub returns : goal.returns
returns c all =
    let row = c.self.inside in
    let ascii = subst (λ b. MatchBool b (IsAscii c.bytes.result.now) (IsNotAscii c.bytes.result.now)) all c.is_ascii.ensures.cases in
    rw (← c.self.view_is) (padded-texts row.width row.fields (c.bytes.ensures ascii))
