-- Papers that are read one after the other.
use Rattle.std.proofs.Common.{◌≡◌, ℕ, ◌+◌, ◌<◌, List, [], ◌∷◌, ◌++◌, length, take, drop, get_or, None, sym, ap, ◌∙◌, append_assoc}
use Rattle.std.proofs.lemmas.List.{map-append, take-append-drop, take_more}
use Rattle.desk_io.specs.History.{Call, Read}
use Rattle.gtfs_tables.specs.Papers.{file_name_of}
use Rattle.gtfs_tables.specs.declared.paper.Paper.{Paper}
use Rattle.desk_run.specs.Order.{IsRefusedPaper, reads_of}
use Rattle.desk_run.specs.Reading.{papers_of}
use Rattle.desk_run.specs.declared.reading.Page.{Page}

module _ (before now next : List Call) (pages all : List Page) (page : Page) where
  -- one more was read
  pub one_more_read : now ≡ before ++ reads_of pages → next ≡ now ++ reads_of (page ∷ []) → all ≡ pages ++ page ∷ []
      → next ≡ before ++ reads_of all
  one_more_read far noted is =
      noted ∙ ap (λ calls. calls ++ reads_of (page ∷ [])) far ∙ append_assoc before (reads_of pages) (reads_of (page ∷ []))
      ∙ ap (λ calls. before ++ calls) (sym (map-append _ pages (page ∷ []))) ∙ ap (λ all. before ++ reads_of all) (sym is)

-- the next one was refused
pub read_refused : (papers : List Paper) (pages : List Page) (i : ℕ) (paper d : Paper) (before now next : List Call)
    → papers_of pages ≡ take i papers → i < length papers → paper ≡ get_or papers i d → now ≡ before ++ reads_of pages
    → next ≡ now ++ Read (file_name_of paper) None ∷ [] → IsRefusedPaper papers before next
read_refused papers pages i paper d before now next named lt is far noted = record {
  pages = pages;
  paper = paper;
  left = drop (i + 1) papers;
  named = sym (take-append-drop (i + 1) papers)
      ∙ ap (λ xs. xs ++ drop (i + 1) papers) (take_more papers i d lt ∙ (λ j. sym named j ++ sym is j ∷ []))
      ∙ append_assoc (papers_of pages) (paper ∷ []) (drop (i + 1) papers);
  noted = noted ∙ ap (λ calls. calls ++ Read (file_name_of paper) None ∷ []) far
      ∙ append_assoc before (reads_of pages) (Read (file_name_of paper) None ∷ []);
}
