use Rattle.std.proofs.Common.{[], arith}
use Rattle.deficit_steps.proofs.DeficitsLemmas.{value-held}
use Rattle.deficit_steps.proofs.LinesLemmas.{deficit_text-agree}
use Rattle.deficit_steps.proofs.laws.text_law.Goals as goal

pub returns : goal.returns
returns c = λ names deficits moves valid held len.
    deficit_text-agree names _ _ (λ place minute there h. value-held deficits moves place (valid.changes place [] (omega arith)) held
    (omega arith) minute h)
