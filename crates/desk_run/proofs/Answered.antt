-- What was found is what the calls of a run answered.
use Rattle.std.proofs.Common.{◌≡◌, inl, inr, ℕ, ◌<◌, Bool, true, false, List, [], ◌∷◌, ◌++◌, length, Option, None, Some}
use Rattle.std.proofs.Common.{refl, sym, ap, subst, ◌∙◌, append_assoc, arith}
use Rattle.std.specs.Prelude.{IfSome, nat_le, if◌then◌else◌, option_map}
use Rattle.std.proofs.lemmas.List.{append-nil}
use Rattle.desk_io.specs.History.{Call, Read, Write, Put, Load, Append}
use Rattle.desk_keeper.specs.Keeper.{Journal}
use Rattle.gtfs_tables.specs.declared.paper.Paper.{Paper}
use Rattle.gtfs_tables.specs.declared.paper.TheConstants.{MOST_RECORDS}
use Rattle.desk_run.specs.Answers.{both, found_by, journal_by, pages_by, since}
use Rattle.desk_run.specs.Commands.{Asked, IsReadIn}
use Rattle.desk_run.specs.Order.{IsInOrder, load_of, reading, reads_of, refused_at, with_call, with_calls}
use Rattle.desk_run.specs.Outside.{Histories, Outside}
use Rattle.desk_run.specs.Reading.{IsLoaded, ReadView, papers_of}
use Rattle.desk_run.specs.World.{World}
use Rattle.desk_run.specs.declared.reading.Loaded.{Loaded}
use Rattle.desk_run.specs.declared.reading.Loaded.TheVariants as loaded
use Rattle.desk_run.specs.declared.reading.Page.{Page}
use Rattle.desk_run.proofs.InOrder.{after_reading, after_refused_load, after_refused_read}

-- the calls that came in a run are those behind the ones that were there
since_then : (before calls now : List Call) → now ≡ before ++ calls → since before now ≡ calls
since_then before calls now came = ap (since before) came ∙ behind before
  where
    behind : (before : List Call) → since before (before ++ calls) ≡ calls
    behind [] = refl
    behind (call ∷ before) = behind before

-- reads answer their pages, whatever follows
pages_back : (pages : List Page) (more : List Call) → pages_by (papers_of pages) (reads_of pages ++ more) ≡ Some pages
pages_back [] more = refl
pages_back (page ∷ pages) more = ap (option_map (λ (pages : List Page). page ∷ pages)) (pages_back pages more)

-- and none where one is refused
pages_cut : (pages : List Page) (paper : Paper) (left : List Paper)
    → pages_by (papers_of pages ++ paper ∷ left) (reads_of pages ++ refused_at (paper ∷ left) ∷ []) ≡ None
pages_cut [] paper left = refl
pages_cut (page ∷ pages) paper left = ap (option_map (λ (pages : List Page). page ∷ pages)) (pages_cut pages paper left)

none_read : (papers : List Paper) → 0 < length papers → pages_by papers [] ≡ None
none_read [] some = absurd (omega (arith, some))
none_read (paper ∷ papers) some = refl

-- a load answers the journal, whatever follows
journal_told : (short : Bool) (journal : Journal) (more : List Call)
    → journal_by true (load_of (if short then loaded.Lines journal else loaded.TooLong) ++ more)
    ≡ Some (if short then loaded.Lines journal else loaded.TooLong)
journal_told true journal more = refl
journal_told false journal more = refl

journal_back : (keeps : Bool) (journal : Option Journal) (answer : Loaded) (more : List Call) → IsLoaded keeps journal answer
    → journal_by keeps (load_of answer ++ more) ≡ Some answer
journal_back false journal answer more is = ap Some (sym is)
journal_back true None loaded.Unasked more is = absurd is
journal_back true None (loaded.Lines lines) more is = refl
journal_back true None loaded.TooLong more is = refl
journal_back true (Some journal) answer more is =
    subst (λ answer. journal_by true (load_of answer ++ more) ≡ Some answer) (sym is)
    (journal_told (nat_le (length journal) MOST_RECORDS) journal more)

no_journal : (pages : Option (List Page)) → both pages None ≡ None
no_journal None = refl
no_journal (Some pages) = refl

-- what calls add to those of the shelf and of the keeper
record Grown (h now : Histories) : Type 0 where
  shelf : List Call
  keeper : List Call
  to_shelf : now.shelf ≡ h.shelf ++ shelf
  to_keeper : now.keeper ≡ h.keeper ++ keeper

module _ (h now : Histories) (call : Call) where
  one_to_shelf : Grown (record h { shelf = h.shelf ++ call ∷ [] }) now → Grown h now
  one_to_shelf g = record {
    shelf = call ∷ g.shelf;
    keeper = g.keeper;
    to_shelf = g.to_shelf ∙ append_assoc h.shelf (call ∷ []) g.shelf;
    to_keeper = g.to_keeper;
  }

  one_to_keeper : Grown (record h { keeper = h.keeper ++ call ∷ [] }) now → Grown h now
  one_to_keeper g = record {
    shelf = g.shelf;
    keeper = call ∷ g.keeper;
    to_shelf = g.to_shelf;
    to_keeper = g.to_keeper ∙ append_assoc h.keeper (call ∷ []) g.keeper;
  }

  one_to_sink : Grown (record h { sink = h.sink ++ call ∷ [] }) now → Grown h now
  one_to_sink g = record { shelf = g.shelf; keeper = g.keeper; to_shelf = g.to_shelf; to_keeper = g.to_keeper }

grown : (h : Histories) (calls : List Call) → Grown h (with_calls h calls)
grown h [] = record { shelf = []; keeper = []; to_shelf = sym (append-nil h.shelf); to_keeper = sym (append-nil h.keeper) }
grown h (Read name answer ∷ calls) = one_to_shelf h _ (Read name answer) (grown (with_call h (Read name answer)) calls)
grown h (Write name bytes ∷ calls) = one_to_shelf h _ (Write name bytes) (grown (with_call h (Write name bytes)) calls)
grown h (Put piece ∷ calls) = one_to_sink h _ (Put piece) (grown (with_call h (Put piece)) calls)
grown h (Load answer ∷ calls) = one_to_keeper h _ (Load answer) (grown (with_call h (Load answer)) calls)
grown h (Append lines ∷ calls) = one_to_keeper h _ (Append lines) (grown (with_call h (Append lines)) calls)

module _ (asked : Asked) (h now : Histories) where
  -- all was read, and then calls came that carry an outcome out
  all_answered : (world : World) (read : ReadView) (more : List Call) → IsReadIn asked world read
      → now ≡ with_calls (with_calls h (reading read)) more → found_by asked h now ≡ Some read
  all_answered world read more told made =
      let g = grown (with_calls h (reading read)) more in
      let shelf : now.shelf ≡ h.shelf ++ (reads_of read.pages ++ g.shelf) =
      ap (λ (h : Histories). h.shelf) made ∙ g.to_shelf ∙ ap (λ (h : Histories). h.shelf ++ g.shelf) (after_reading h read)
      ∙ append_assoc h.shelf (reads_of read.pages) g.shelf in
      let keeper : now.keeper ≡ h.keeper ++ (load_of read.journal ++ g.keeper) =
      ap (λ (h : Histories). h.keeper) made ∙ g.to_keeper ∙ ap (λ (h : Histories). h.keeper ++ g.keeper) (after_reading h read)
      ∙ append_assoc h.keeper (load_of read.journal) g.keeper in
      let pages : pages_by asked.papers (since h.shelf now.shelf) ≡ Some read.pages =
      (λ i. pages_by (sym told.pages.named i) (since_then h.shelf _ now.shelf shelf i)) ∙ pages_back read.pages g.shelf in
      let journal : journal_by asked.keeps (since h.keeper now.keeper) ≡ Some read.journal =
      ap (journal_by asked.keeps) (since_then h.keeper _ now.keeper keeper)
      ∙ journal_back asked.keeps world.keeper.journal read.journal g.keeper told.journal in
      λ i. both (pages i) (journal i)

  -- a read or the load was refused
  one_refused : (pages : List Page) (left : List Paper) → asked.papers ≡ papers_of pages ++ left → (left ≡ [] → asked.keeps ≡ true)
      → now ≡ with_calls h (reads_of pages ++ refused_at left ∷ []) → found_by asked h now ≡ None
  one_refused pages [] papers keeps noted =
      let calls = since_then h.keeper _ now.keeper (ap (λ (h : Histories). h.keeper) (noted ∙ after_refused_load h pages)) in
      (λ i. both (pages_by asked.papers (since h.shelf now.shelf)) (journal_by (keeps refl i) (calls i)))
      ∙ no_journal (pages_by asked.papers (since h.shelf now.shelf))
  one_refused pages (paper ∷ left) papers keeps noted =
      let calls = since_then h.shelf _ now.shelf (ap (λ (h : Histories). h.shelf) (noted ∙ after_refused_read h pages paper left)) in
      (λ i. both (pages_by (papers i) (calls i)) (journal_by asked.keeps (since h.keeper now.keeper)))
      ∙ (λ i. both (pages_cut pages paper left i) (journal_by asked.keeps (since h.keeper now.keeper)))

  -- no memory was found for the papers
  none_answered : 0 < length asked.papers → now ≡ h → found_by asked h now ≡ None
  none_answered some same =
      let calls = since_then h.shelf [] now.shelf (ap (λ (h : Histories). h.shelf) same ∙ sym (append-nil h.shelf)) in
      (λ i. both (pages_by asked.papers (calls i)) (journal_by asked.keeps (since h.keeper now.keeper)))
      ∙ (λ i. both (none_read asked.papers some i) (journal_by asked.keeps (since h.keeper now.keeper)))

pub answered : (asked : Asked) (found : Option ReadView) (before after : Outside) (status : ℕ) → IfSome found (IsReadIn asked before.world)
    → IsInOrder asked found before after status → found ≡ found_by asked before.calls after.calls
answered asked (Some read) before after status told (inl (more, all)) =
    sym (all_answered asked before.calls after.calls before.world read [] told all)
answered asked None before after status told (inl (more, inl is)) =
    sym (one_refused asked before.calls after.calls is.pages is.left is.papers is.keeps is.noted)
answered asked None before after status told (inl (more, inr (some, same))) =
    sym (none_answered asked before.calls after.calls some same)
answered asked found before after status told (inr c) =
    c.chosen.is ∙ sym (all_answered asked before.calls after.calls before.world c.chosen.read c.first.made c.chosen.told c.first.noted)
