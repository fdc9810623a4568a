-- When each status of a command comes, from what its run did.
use Rattle.std.proofs.Common.{◌≡◌, ◌⊎◌, ℕ, inl, inr, Bool, true, false, List, [], ◌∷◌, get_or, take, Some, None, refl, sym, ap, ◌∙◌, subst}
use Rattle.std.proofs.Common.{arith}
use Rattle.std.specs.Prelude.{Option, IsSome, is_some}
use Rattle.std.proofs.lemmas.List.Folds.{map_fixed}
use Rattle.std.proofs.lemmas.Simd.{map-map}
use Rattle.desk_io.specs.Faults.{Rose, NoneCounted}
use Rattle.desk_io.specs.Shelf.{Files, ShelfState, with_file}
use Rattle.gtfs_tables.specs.declared.paper.Paper.{Paper}
use Rattle.desk_keeper.specs.Keeper.{Journal, KeeperState}
use Rattle.desk_run.specs.Becomes.{with_writings, with_appended}
use Rattle.desk_run.specs.Causes.{HasCause, IsComplete}
use Rattle.desk_run.specs.Commands.{Asked, IsEnding, IsReadIn}
use Rattle.desk_run.specs.Outcome.{status_of}
use Rattle.desk_run.specs.Reading.{ReadView, AreRead, IsLoaded, page_in, pages_in}
use Rattle.desk_run.specs.Runs.{HasEnded, IsCutShort, IsUnkept, RunsAs}
use Rattle.desk_run.specs.World.{World, NoCountRose}
use Rattle.desk_run.specs.declared.outcome.Writing.{Writing}
use Rattle.desk_run.specs.declared.reading.Page.{Page}
use Rattle.desk_run.specs.declared.status.Ending.{Ending}
use Rattle.desk_run.specs.declared.status.Ending.TheVariants as ending
use Rattle.desk_run.specs.declared.status.TheConstants.{USAGE}

-- the pages that a shelf tells are those that stand in its files
pub pages_told : (files : Files) (papers : List Paper) (pages : List Page) → AreRead (Some files) papers pages
    → pages ≡ pages_in papers files
pages_told files papers pages read =
    sym (map_fixed (λ (page : Page). page_in files page.paper) pages
    (λ k d lt i. record { paper = (get_or pages k d).paper; found = sym (read.told k d lt) i }))
    ∙ sym (map-map (page_in files) (λ (page : Page). page.paper) pages) ∙ ap (λ ps. pages_in ps files) read.named

-- what was read of the papers and of the journal that a command asks for is what it reads of the world
pub read_in : (asked : Asked) (before : World) (papers : List Paper) (keeps : Bool) (read : ReadView) → papers ≡ asked.papers
    → keeps ≡ asked.keeps
    → AreRead before.shelf.files papers read.pages → IsLoaded keeps before.keeper.journal read.journal → IsReadIn asked before read
read_in asked before papers keeps read papers_are keeps_are pages loaded = record {
  pages = subst (λ papers. AreRead before.shelf.files papers read.pages) papers_are pages;
  journal = subst (λ keeps. IsLoaded keeps before.keeper.journal read.journal) keeps_are loaded;
}

no_usage : (e : Ending) → status_of e ≡ USAGE → ⊥
no_usage ending.Done is = omega (arith, is)
no_usage ending.EditsRefused is = omega (arith, is)
no_usage ending.FeedRefused is = omega (arith, is)
no_usage ending.No is = omega (arith, is)

-- no write raises a count, and no append
written_quiet : (writes : List Writing) (shelf : ShelfState)
    → ((with_writings writes shelf).read_faults ≡ shelf.read_faults) × ((with_writings writes shelf).write_faults ≡ shelf.write_faults)
written_quiet [] shelf = (refl, refl)
written_quiet (writing ∷ writes) shelf = written_quiet writes (with_file writing.name writing.bytes shelf)

appended_quiet : (lines : Option Journal) (keeper : KeeperState) → (with_appended lines keeper).faults ≡ keeper.faults
appended_quiet None keeper = refl
appended_quiet (Some lines) keeper = refl

-- a command that has lines to append asks for the journal
keeps_lines : (keeps : Bool) (lines : Option Journal) → (keeps ≡ false → lines ≡ None) → IsSome lines → keeps ≡ true
keeps_lines true lines none some = refl
keeps_lines false lines none some = sym (ap is_some (none refl)) ∙ some

not_risen : (before now : ℕ) → NoneCounted before now → Rose before now → ⊥
not_risen before now none rose = omega (arith, none.same, none.below, rose)

module _ (asked : Asked) (found : Option ReadView) (before after : World) (status : ℕ) where
  ended_by : HasEnded asked found before after status → IsEnding asked found status
  ended_by ended =
      let chosen = ended.chosen in
      record { read = chosen.read; is = chosen.is; ending = chosen.outcome.ending; ends = chosen.given.ends; answered = ended.answered }

  quiet : HasEnded asked found before after status → NoCountRose before after
  quiet ended =
      let outcome = ended.chosen.outcome in
      record {
        read_faults = ap (λ (w : World). w.shelf.read_faults) ended.carried ∙ (written_quiet outcome.writes before.shelf).0;
        write_faults = ap (λ (w : World). w.shelf.write_faults) ended.carried ∙ (written_quiet outcome.writes before.shelf).1;
        sink_faults = ap (λ (w : World). w.sink.faults) ended.carried;
        keeper_faults = ap (λ (w : World). w.keeper.faults) ended.carried ∙ appended_quiet outcome.lines before.keeper;
      }

  write_rose : IsCutShort asked found before after
      → Rose before.shelf.write_faults after.shelf.write_faults ⊎ Rose before.sink.faults after.sink.faults
  write_rose (chosen, inl file) =
      inl (subst (λ n. Rose n after.shelf.write_faults) (written_quiet (take file.shelf.count chosen.outcome.writes) before.shelf).1
      file.shelf.shelf.rose)
  write_rose (chosen, inr text) = inr text.sink.rose

  keeper_rose : IsUnkept asked found before after → (asked.keeps ≡ true) × Rose before.keeper.faults after.keeper.faults
  keeper_rose (inl unloaded) = (unloaded.asked, unloaded.keeper.rose)
  keeper_rose (inr (chosen, lines)) = (keeps_lines asked.keeps chosen.outcome.lines chosen.given.unkept lines.some, lines.keeper.rose)

  pub has_cause : RunsAs asked found before after status → HasCause asked found before after status
  has_cause runs = record {
    ended = λ low. ended_by (runs.ended low);
    no_usage = λ two. (let ended = runs.ended (omega (arith, two)) in no_usage ended.chosen.outcome.ending (sym ended.answered ∙ two));
    read_fault = λ five. (runs.read_fault five).shelf.rose;
    write_fault = λ six. write_rose (runs.write_fault six);
    keeper_fault = λ seven. keeper_rose (runs.keeper_fault seven);
    quiet = λ low. quiet (runs.ended low);
    no_other = runs.no_other;
  }

  pub is_complete : RunsAs asked found before after status → IsComplete asked found before after status
  is_complete runs none = elim runs.no_other [
    | inl low ↦ inl (ended_by (runs.ended low))
    | inr other ↦ elim other [
      | inl five ↦ absurd (not_risen _ _ none.read_faults (runs.read_fault five).shelf.rose)
      | inr more ↦ elim more [
        | inl six ↦ elim (write_rose (runs.write_fault six)) [
          | inl write ↦ absurd (not_risen _ _ none.write_faults write)
          | inr put ↦ absurd (not_risen _ _ none.sink_faults put)
        ]
        | inr last ↦ elim last [
          | inl seven ↦ absurd (not_risen _ _ none.keeper_faults (keeper_rose (runs.keeper_fault seven)).1)
          | inr eight ↦ inr eight
        ]
      ]
    ]
  ]
