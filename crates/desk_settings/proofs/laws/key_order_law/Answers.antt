use Rattle.desk_settings.proofs.DocumentLemmas.{document_in-ascend}
use Rattle.desk_settings.proofs.laws.key_order_law.Goals as goal

pub returns : goal.returns
returns c = document_in-ascend
