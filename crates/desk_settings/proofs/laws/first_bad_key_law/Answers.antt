use Rattle.desk_settings.proofs.FirstBadKey.{first_bad}
use Rattle.desk_settings.proofs.laws.first_bad_key_law.Goals as goal

pub returns : goal.returns
returns c = first_bad
