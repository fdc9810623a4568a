use Rattle.pair_search.specs.Visits.{SearchesOnce}
use Rattle.pair_search.proofs.VisitLemmas.{not-twice, Takes-grown}
use Rattle.pair_search.proofs.laws.looks_law.Goals as goal

pub returns : goal.returns
returns c = record {
  twice = λ side before between after look. not-twice side before between after look;
  grown = λ side. Takes-grown (SearchesOnce side);
}
