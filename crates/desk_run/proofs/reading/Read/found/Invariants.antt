use Rattle.std.proofs.Common.{◌≡◌, drop}
use Rattle.desk_run.specs.Reading.{IsAmong, found_of, papers_of}
use Rattle.desk_run.proofs.reading.Read.found.Given as goal

abbrev pub invariant-loop-page : goal.invariant-loop-page
invariant-loop-page l = record {
  found : found_of l.self.pages l.paper ≡ found_of (drop l.page-index l.self.pages) l.paper;
  among : IsAmong (papers_of (drop l.page-index l.self.pages)) l.paper;
}
