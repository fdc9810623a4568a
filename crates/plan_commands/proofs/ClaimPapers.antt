-- The two files of a claim are among the papers that were read for `check`.
use Rattle.std.proofs.Common.{◌≡◌, List, refl, sym, subst}
use Rattle.gtfs_tables.specs.declared.paper.Paper.{Paper}
use Rattle.gtfs_tables.specs.declared.paper.Paper.TheVariants as paper
use Rattle.desk_run.specs.Reading.{IsAmong, papers_of}
use Rattle.desk_run.specs.declared.reading.Page.{Page}
use Rattle.plan_commands.specs.Check.{claim_papers}

pub blocks-among : (pages : List Page) → papers_of pages ≡ claim_papers → IsAmong (papers_of pages) paper.Blocks
blocks-among pages read = subst (λ (papers : List Paper). IsAmong papers paper.Blocks) (sym read) refl

pub prices-among : (pages : List Page) → papers_of pages ≡ claim_papers → IsAmong (papers_of pages) paper.Prices
prices-among pages read = subst (λ (papers : List Paper). IsAmong papers paper.Prices) (sym read) refl
