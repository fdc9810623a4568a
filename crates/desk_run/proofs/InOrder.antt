-- The calls of a run, in their order, from the calls of its parts.
use Rattle.std.proofs.Common.{◌≡◌, inl, inr, ℕ, ◌<◌, Bool, true, List, [], ◌∷◌, ◌++◌, length, drop, Option, None, Some, Result, Ok, Err}
use Rattle.std.proofs.Common.{refl, sym, ap, subst, ◌∙◌, append_assoc, arith}
use Rattle.std.proofs.lemmas.List.{append-nil, drop_all}
use Rattle.std.proofs.lemmas.List.Sums.{fold-append}
use Rattle.desk_io.specs.History.{Call, Put, ComeFirst}
use Rattle.desk_io.specs.Sink.{ArePuts, PutsCome}
use Rattle.desk_keeper.specs.Keeper.{Journal}
use Rattle.gtfs_tables.specs.declared.paper.Paper.{Paper}
use Rattle.desk_run.specs.Becomes.{Becomes}
use Rattle.desk_run.specs.Commands.{Asked, Chosen}
use Rattle.desk_run.specs.Order.{CallsToCarry, IsInOrder, MakesFirst, OnlyReads, StopsAtPaper, append_of, carrying, load_of, reading}
use Rattle.desk_run.specs.Order.{reads_of, refused_at, status_by, with_call, with_calls, writes_of}
use Rattle.desk_run.specs.Outcome.{OutcomeView}
use Rattle.desk_run.specs.Outside.{Histories, Outside}
use Rattle.desk_run.specs.Reading.{ReadView, papers_of}
use Rattle.desk_run.specs.declared.fault.RunFault.{RunFault}
use Rattle.desk_run.specs.declared.fault.RunFault.TheVariants as run_fault
use Rattle.desk_run.specs.declared.outcome.Writing.{Writing}
use Rattle.desk_run.specs.declared.reading.Loaded.{Loaded}
use Rattle.desk_run.specs.declared.reading.Loaded.TheVariants as loaded
use Rattle.desk_run.specs.declared.reading.Page.{Page}
use Rattle.desk_run.specs.declared.status.TheConstants.{NO}

-- a fact of each of some calls
abbrev Each : (Call → Type 0) → List Call → Type 0
Each P [] = Unit {0}
Each P (call ∷ calls) = P call × Each P calls

each_first : (P : Call → Type 0) (made left : List Call) → Each P (made ++ left) → Each P made
each_first P [] left each = tt
each_first P (call ∷ made) left (here, each) = (here, each_first P made left each)

each_of_both : (P : Call → Type 0) (calls others : List Call) → Each P calls → Each P others → Each P (calls ++ others)
each_of_both P [] others each each' = each'
each_of_both P (call ∷ calls) others (here, each) each' = (here, each_of_both P calls others each each')

-- no list that has an item is empty
some_left : {X : Type 0} (x : X) (xs : List X) → x ∷ xs ≡ [] → ⊥
some_left x xs none = let count : length (x ∷ xs) ≡ 0 = ap length none in omega (arith, count)

-- a call is one for the shelf, for the sink, or for the keeper
abbrev ForShelf : Call → Type 0
ForShelf call = (h : Histories) → with_call h call ≡ record h { shelf = h.shelf ++ call ∷ [] }

abbrev ForSink : Call → Type 0
ForSink call = (h : Histories) → with_call h call ≡ record h { sink = h.sink ++ call ∷ [] }

abbrev ForKeeper : Call → Type 0
ForKeeper call = (h : Histories) → with_call h call ≡ record h { keeper = h.keeper ++ call ∷ [] }

on_shelf : (h : Histories) (calls : List Call) → Each ForShelf calls → with_calls h calls ≡ record h { shelf = h.shelf ++ calls }
on_shelf h [] each = ap (λ calls. record h { shelf = calls }) (sym (append-nil h.shelf))
on_shelf h (call ∷ calls) (here, each) =
    ap (λ now. with_calls now calls) (here h) ∙ on_shelf (record h { shelf = h.shelf ++ call ∷ [] }) calls each
    ∙ ap (λ calls. record h { shelf = calls }) (append_assoc h.shelf (call ∷ []) calls)

on_sink : (h : Histories) (calls : List Call) → Each ForSink calls → with_calls h calls ≡ record h { sink = h.sink ++ calls }
on_sink h [] each = ap (λ calls. record h { sink = calls }) (sym (append-nil h.sink))
on_sink h (call ∷ calls) (here, each) =
    ap (λ now. with_calls now calls) (here h) ∙ on_sink (record h { sink = h.sink ++ call ∷ [] }) calls each
    ∙ ap (λ calls. record h { sink = calls }) (append_assoc h.sink (call ∷ []) calls)

on_keeper : (h : Histories) (calls : List Call) → Each ForKeeper calls → with_calls h calls ≡ record h { keeper = h.keeper ++ calls }
on_keeper h [] each = ap (λ calls. record h { keeper = calls }) (sym (append-nil h.keeper))
on_keeper h (call ∷ calls) (here, each) =
    ap (λ now. with_calls now calls) (here h) ∙ on_keeper (record h { keeper = h.keeper ++ call ∷ [] }) calls each
    ∙ ap (λ calls. record h { keeper = calls }) (append_assoc h.keeper (call ∷ []) calls)

each_read : (pages : List Page) → Each ForShelf (reads_of pages)
each_read [] = tt
each_read (page ∷ pages) = (λ h. refl, each_read pages)

each_load : (journal : Loaded) → Each ForKeeper (load_of journal)
each_load loaded.Unasked = tt
each_load (loaded.Lines lines) = (λ h. refl, tt)
each_load loaded.TooLong = (λ h. refl, tt)

each_write : (writes : List Writing) → Each ForShelf (writes_of writes)
each_write [] = tt
each_write (writing ∷ writes) = (λ h. refl, each_write writes)

each_append : (lines : Option Journal) → Each ForKeeper (append_of lines)
each_append None = tt
each_append (Some lines) = (λ h. refl, tt)

each_put : (text left : List ℕ) (calls : List Call) → ArePuts text left calls → Each ForSink calls
each_put text left [] are = tt
each_put text left (call ∷ calls) (is, count, some, are) = (subst ForSink (sym is) (λ h. refl), each_put (drop count text) left calls are)

-- puts of a text that none came of
pub record SomePuts (text : List ℕ) : Type 0 where
  pub puts : List Call
  pub are : ArePuts text [] puts

some_puts : (text : List ℕ) → SomePuts text
some_puts [] = record { puts = []; are = refl }
some_puts (byte ∷ bytes) = record {
  puts = Put (byte ∷ bytes) ∷ [];
  are = (refl, length (byte ∷ bytes), omega arith, sym (drop_all (length (byte ∷ bytes)) (byte ∷ bytes) (omega arith)));
}

-- all of some calls came
all_first : (calls before after : List Call) → after ≡ before ++ calls → ComeFirst calls before after
all_first calls before after came = record { made = calls; left = []; order = sym (append-nil calls); came = came }

-- the first ones of some calls, before others that were not made
module _ (h : Histories) (calls rest : List Call) where
  first_on_shelf : (now : List Call) → Each ForShelf calls → ComeFirst calls h.shelf now
      → MakesFirst (calls ++ rest) h (record h { shelf = now })
  first_on_shelf now each come = record {
    made = come.made;
    left = come.left ++ rest;
    order = ap (λ calls. calls ++ rest) come.order ∙ append_assoc come.made come.left rest;
    noted = ap (λ calls. record h { shelf = calls }) come.came
        ∙ sym (on_shelf h come.made (each_first ForShelf come.made come.left (subst (Each ForShelf) come.order each)));
  }

  first_on_keeper : (now : List Call) → Each ForKeeper calls → ComeFirst calls h.keeper now
      → MakesFirst (calls ++ rest) h (record h { keeper = now })
  first_on_keeper now each come = record {
    made = come.made;
    left = come.left ++ rest;
    order = ap (λ calls. calls ++ rest) come.order ∙ append_assoc come.made come.left rest;
    noted = ap (λ calls. record h { keeper = calls }) come.came
        ∙ sym (on_keeper h come.made (each_first ForKeeper come.made come.left (subst (Each ForKeeper) come.order each)));
  }

first_on_sink : (h : Histories) (calls now : List Call) → Each ForSink calls → ComeFirst calls h.sink now
    → MakesFirst calls h (record h { sink = now })
first_on_sink h calls now each come = record {
  made = come.made;
  left = come.left;
  order = come.order;
  noted = ap (λ calls. record h { sink = calls }) come.came
      ∙ sym (on_sink h come.made (each_first ForSink come.made come.left (subst (Each ForSink) come.order each)));
}

-- some calls, and then the first ones of others
then_first : (h mid after : Histories) (calls others : List Call) → mid ≡ with_calls h calls → MakesFirst others mid after
    → MakesFirst (calls ++ others) h after
then_first h mid after calls others all first = record {
  made = calls ++ first.made;
  left = first.left;
  order = ap (λ others. calls ++ others) first.order ∙ sym (append_assoc calls first.made first.left);
  noted = first.noted ∙ ap (λ mid. with_calls mid first.made) all ∙ sym (fold-append with_call h calls first.made);
}

-- where an outcome was carried out in part, and where it was carried out whole
module _ (outcome : OutcomeView) (h : Histories) where
  pub ends_at_file : {T E : Type 0} (fault : E) (shelf : List Call) → ComeFirst (writes_of outcome.writes) h.shelf shelf
      → CallsToCarry {T = T} outcome (Err fault) h (record h { shelf = shelf })
  ends_at_file fault shelf come =
      let text = some_puts outcome.text in
      record {
        puts = text.puts;
        are = text.are;
        first = first_on_shelf h (writes_of outcome.writes) (append_of outcome.lines ++ text.puts) shelf (each_write outcome.writes)
            come;
        whole = tt;
      }

  module _ (shelf : List Call) (written : shelf ≡ h.shelf ++ writes_of outcome.writes) where
    abbrev mid : Histories
    mid = record h { shelf = shelf }

    all_written : mid ≡ with_calls h (writes_of outcome.writes)
    all_written = ap (λ calls. record h { shelf = calls }) written ∙ sym (on_shelf h (writes_of outcome.writes) (each_write outcome.writes))

    pub ends_at_lines : {T E : Type 0} (fault : E) (keeper : List Call) → ComeFirst (append_of outcome.lines) h.keeper keeper
        → CallsToCarry {T = T} outcome (Err fault) h (record h { shelf = shelf; keeper = keeper })
    ends_at_lines fault keeper come =
        let text = some_puts outcome.text in
        record {
          puts = text.puts;
          are = text.are;
          first = then_first h mid (record h { shelf = shelf; keeper = keeper }) (writes_of outcome.writes)
              (append_of outcome.lines ++ text.puts) all_written
              (first_on_keeper mid (append_of outcome.lines) text.puts keeper (each_append outcome.lines) come);
          whole = tt;
        }

    to_text : (keeper sink : List Call) (puts : List Call) → keeper ≡ h.keeper ++ append_of outcome.lines → ArePuts outcome.text [] puts
        → ComeFirst puts h.sink sink
        → MakesFirst (carrying outcome puts) h (record { shelf = shelf; sink = sink; keeper = keeper })
    to_text keeper sink puts appended are come =
        let kept : Histories = record h { shelf = shelf; keeper = keeper } in
        then_first h mid (record { shelf = shelf; sink = sink; keeper = keeper }) (writes_of outcome.writes)
        (append_of outcome.lines ++ puts) all_written
        (then_first mid kept (record { shelf = shelf; sink = sink; keeper = keeper }) (append_of outcome.lines) puts
        (ap (λ calls. record mid { keeper = calls }) appended ∙ sym (on_keeper mid (append_of outcome.lines) (each_append outcome.lines)))
        (first_on_sink kept puts sink (each_put outcome.text [] puts are) come))

    module _ (keeper sink : List Call) (appended : keeper ≡ h.keeper ++ append_of outcome.lines) where
      pub ends_at_text : {T U E F : Type 0} (fault : F) (other : E) → PutsCome {T = U} outcome.text (Err other) h.sink sink
          → CallsToCarry {T = T} outcome (Err fault) h (record { shelf = shelf; sink = sink; keeper = keeper })
      ends_at_text fault other put =
          record { puts = put.puts; are = put.are; first = to_text keeper sink put.puts appended put.are put.come; whole = tt }

      pub ends_whole : {T U E F : Type 0} (status : T) (answer : U) → PutsCome {E = E} outcome.text (Ok answer) h.sink sink
          → CallsToCarry {E = F} outcome (Ok status) h (record { shelf = shelf; sink = sink; keeper = keeper })
      unfolding to_text then_first first_on_sink all_first
      ends_whole status answer put =
          record {
            puts = put.puts;
            are = put.are;
            first = to_text keeper sink put.puts appended put.are (all_first put.puts h.sink sink put.come);
            whole = refl;
          }

-- first some calls of the shelf, and then some of the keeper
shelf_then_keeper : (h : Histories) (calls others : List Call) → Each ForShelf calls → Each ForKeeper others
    → with_calls h (calls ++ others) ≡ record h { shelf = h.shelf ++ calls; keeper = h.keeper ++ others }
shelf_then_keeper h calls others each each' =
    fold-append with_call h calls others ∙ ap (λ mid. with_calls mid others) (on_shelf h calls each)
    ∙ on_keeper (record h { shelf = h.shelf ++ calls }) others each'

-- all was read
pub after_reading : (h : Histories) (read : ReadView)
    → with_calls h (reading read) ≡ record h { shelf = h.shelf ++ reads_of read.pages; keeper = h.keeper ++ load_of read.journal }
after_reading h read = shelf_then_keeper h (reads_of read.pages) (load_of read.journal) (each_read read.pages) (each_load read.journal)

pub all_read : (h : Histories) (read : ReadView) (shelf keeper : List Call) → shelf ≡ h.shelf ++ reads_of read.pages
    → keeper ≡ h.keeper ++ load_of read.journal → record h { shelf = shelf; keeper = keeper } ≡ with_calls h (reading read)
all_read h read shelf keeper came loaded = (λ i. record h { shelf = came i; keeper = loaded i }) ∙ sym (after_reading h read)

-- the read of a paper was refused
pub after_refused_read : (h : Histories) (pages : List Page) (paper : Paper) (left : List Paper)
    → with_calls h (reads_of pages ++ refused_at (paper ∷ left) ∷ [])
    ≡ record h { shelf = h.shelf ++ (reads_of pages ++ refused_at (paper ∷ left) ∷ []) }
after_refused_read h pages paper left =
    on_shelf h (reads_of pages ++ refused_at (paper ∷ left) ∷ [])
    (each_of_both ForShelf (reads_of pages) (refused_at (paper ∷ left) ∷ []) (each_read pages) (λ h. refl, tt))

pub ends_at_paper : (asked : Asked) (h : Histories) (papers : List Paper) (shelf : List Call) → papers ≡ asked.papers
    → StopsAtPaper papers h.shelf shelf → OnlyReads asked None h (record h { shelf = shelf })
ends_at_paper asked h papers shelf papers_are (inl is) = inl (record {
  pages = is.pages;
  left = is.paper ∷ is.left;
  papers = sym papers_are ∙ is.named;
  keeps = λ none. absurd (some_left is.paper is.left none);
  noted = ap (λ calls. record h { shelf = calls }) is.noted ∙ sym (after_refused_read h is.pages is.paper is.left);
})
ends_at_paper asked h papers shelf papers_are (inr (some, same)) =
    inr (subst (λ papers. 0 < length papers) papers_are some, ap (λ calls. record h { shelf = calls }) same)

-- the load was refused
pub after_refused_load : (h : Histories) (pages : List Page)
    → with_calls h (reads_of pages ++ refused_at [] ∷ [])
    ≡ record h { shelf = h.shelf ++ reads_of pages; keeper = h.keeper ++ refused_at [] ∷ [] }
after_refused_load h pages = shelf_then_keeper h (reads_of pages) (refused_at [] ∷ []) (each_read pages) (λ h. refl, tt)

pub ends_at_load : (asked : Asked) (h : Histories) (pages : List Page) (keeps : Bool) (shelf keeper : List Call)
    → papers_of pages ≡ asked.papers → keeps ≡ asked.keeps → shelf ≡ h.shelf ++ reads_of pages
    → (keeps ≡ true) × (keeper ≡ h.keeper ++ refused_at [] ∷ [])
    → OnlyReads asked None h (record h { shelf = shelf; keeper = keeper })
ends_at_load asked h pages keeps shelf keeper papers_are keeps_are came (asks, refused) = inl (record {
  pages = pages;
  left = [];
  papers = sym papers_are ∙ sym (append-nil (papers_of pages));
  keeps = λ _. sym keeps_are ∙ asks;
  noted = (λ i. record h { shelf = came i; keeper = refused i }) ∙ sym (after_refused_load h pages);
})

pub fails_above : (fault : RunFault) → NO < status_by (Err fault)
fails_above run_fault.Read = omega arith
fails_above run_fault.Write = omega arith
fails_above run_fault.Keeper = omega arith
fails_above run_fault.Memory = omega arith

-- a run that gave an outcome
pub carried_in_order : (asked : Asked) (found : Option ReadView) (before after : Outside) (result : Result ℕ RunFault)
    (chosen : Chosen asked found before.world) (read : Histories) → read ≡ with_calls before.calls (reading chosen.read)
    → CallsToCarry chosen.outcome result read after.calls → Becomes chosen.outcome result before.world after.world
    → IsInOrder asked found before after (status_by result)
carried_in_order asked found before after result chosen read is carries becomes =
    inr (record {
      chosen = chosen;
      puts = carries.puts;
      are = carries.are;
      first = record {
        made = carries.first.made;
        left = carries.first.left;
        order = carries.first.order;
        noted = carries.first.noted ∙ ap (λ read. with_calls read carries.first.made) is;
      };
      result = result;
      answered = refl;
      becomes = becomes;
      whole = carries.whole;
    })
