use Rattle.pair_search.proofs.DeterminedLemmas.{nearest-none, nearest-some}
use Rattle.pair_search.proofs.LawLemmas.{looked-is, leaving-is, entering-is}
use Rattle.pair_search.proofs.laws.one_search_law.Goals as goal

pub returns : goal.returns
returns c = record {
  pick = λ n j bound done dist. nearest-some n j done dist bound;
  end = λ n bound done dist. nearest-none n done dist bound;
  look = looked-is;
  leave = leaving-is;
  enter = entering-is;
}
