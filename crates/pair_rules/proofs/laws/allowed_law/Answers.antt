use Rattle.pair_rules.proofs.Allowed.{allows-unnamed_first, allows-unnamed_second}
use Rattle.pair_rules.proofs.laws.allowed_law.Goals as goal

pub returns-clause-unnamed_first : goal.returns-clause-unnamed_first
returns-clause-unnamed_first c = allows-unnamed_first

pub returns-clause-unnamed_second : goal.returns-clause-unnamed_second
returns-clause-unnamed_second c = allows-unnamed_second
