-- What `blocks` has written, `check` accepts.
use Rattle.std.proofs.Common.{◌≡◌, ℕ, ◌≤◌, false, List, ◌++◌, length, Option, Some, None, Result, Ok, Err, refl, sym, ap, subst, ◌∙◌, arith}
use Rattle.std.proofs.lemmas.Option.{none-some, same_Some}
use Rattle.std.specs.FinMap.{get}
use Rattle.desk_io.specs.Shelf.{Files, found_as, found_in}
use Rattle.desk_io.specs.Sink.{put_bytes}
use Rattle.desk_io.specs.declared.shelf.Found.{Found}
use Rattle.desk_io.specs.declared.shelf.Found.TheVariants.{File}
use Rattle.gtfs_tables.specs.Papers.{file_name_of}
use Rattle.gtfs_tables.specs.Reading.{◌>>=◌}
use Rattle.gtfs_tables.specs.declared.fault.FeedFault.{FeedFault}
use Rattle.gtfs_tables.specs.declared.paper.Paper.{Paper}
use Rattle.gtfs_tables.specs.declared.paper.Paper.TheVariants as paper
use Rattle.gtfs_tables.specs.declared.paper.TheConstants.{MOST_BYTES}
use Rattle.desk_settings.specs.Settings.{settings_of}
use Rattle.pair_rules.specs.Reading.{rules_of}
use Rattle.feed_read.specs.Base.{base_of}
use Rattle.deadhead_matrix.specs.Deadheads.{deadheads_of}
use Rattle.deadhead_matrix.specs.Depot.{pulls_of}
use Rattle.assignment_model.specs.Prices.{Plan}
use Rattle.block_build.specs.Files.{blocks_text, prices_text}
use Rattle.claim_files.specs.Claims.{claimed_of}
use Rattle.claim_files.specs.Written.{IsAccepted}
use Rattle.desk_run.specs.Becomes.{with_writings}
use Rattle.desk_run.specs.Commands.{IsGiven}
use Rattle.desk_run.specs.Outcome.{OutcomeView, putting, status_of}
use Rattle.desk_run.specs.Reading.{ReadView, AreRead, found_of, pages_in}
use Rattle.desk_run.specs.declared.status.Ending.TheVariants as ending
use Rattle.desk_run.specs.declared.status.TheConstants.{EDITS_REFUSED}
use Rattle.desk_run.specs.Runs.{HasEnded}
use Rattle.desk_run.specs.World.{World}
use Rattle.desk_run.proofs.EachStatus.{pages_told}
use Rattle.desk_core.specs.Counts.{blocks_in, minutes_in}
use Rattle.plan_choice.specs.Likings.{LikingsView}
use Rattle.feed_likings.specs.Likings.{likings_in}
use Rattle.block_names.specs.Names.{NamingView, names_of}
use Rattle.feed_naming.specs.Commands.{DoesNamed}
use Rattle.feed_naming.specs.Naming.{naming_in}
use Rattle.feed_desk.specs.Answers.{answers_by}
use Rattle.feed_desk.specs.Plans.{fixed_number, plan_at}
use Rattle.blocks_command.specs.Answers.{answer_text}
use Rattle.blocks_command.specs.Blocks.{WritesPlans, blocks_asked, blocks_does, blocks_named}
use Rattle.desk_feed.specs.Feed.{FeedView, feed_papers, kept_on, lines_by, said_by, said_with, standing}
use Rattle.desk_feed.specs.Judging.{Does, refused_of, refusing, said_in}
use Rattle.plan_commands.specs.Check.{IsChecked, check_asked, checked, claim_in, claim_outcome, claim_papers, verdict_outcome, yes_line}
use Rattle.desk_feed.proofs.OneMatrix.{matrix-same}
use Rattle.two_runs.specs.Confirmed.{IsConfirmed, IsShort, StandAgain}
use Rattle.two_runs.proofs.TwoFiles.{first-stands, found-short, is_name, others-stand, second-stands, with_two, with_two_told}

-- the files with those of blocks and of prices
abbrev written : Files → List ℕ → List ℕ → Files
written files blocks prices = with_two (file_name_of paper.Blocks) blocks (file_name_of paper.Prices) prices files

-- papers that are found as before say what they said
said_same : (one other : Paper → Found) → one paper.Settings ≡ other paper.Settings → one paper.Terminals ≡ other paper.Terminals
    → one paper.Tolerances ≡ other paper.Tolerances
    → one paper.Calendar ≡ other paper.Calendar → one paper.CalendarDates ≡ other paper.CalendarDates → one paper.Trips ≡ other paper.Trips
    → one paper.StopTimes ≡ other paper.StopTimes → one paper.Deadheads ≡ other paper.Deadheads → one paper.Depot ≡ other paper.Depot
    → one paper.Pairs ≡ other paper.Pairs → one paper.Edits ≡ other paper.Edits
    → said_by one ≡ said_by other
unfolding said_by
said_same one other settings terminals tolerances calendar dates trips stop_times deadheads depot pairs edits = λ i.
    (settings_of (settings i) (terminals i) (tolerances i) >>= λ s. kept_on (calendar i) (dates i) s s.date) >>= λ s. base_of s (trips i)
    (stop_times i) >>= λ t. deadheads_of (deadheads i) t >>= λ d. pulls_of (depot i) d.0
    >>= λ p. rules_of (pairs i) >>= λ r. lines_by (edits i) >>= λ lines. Ok (said_with s d.0 d.1 p r lines)

-- what is found in them
module _ (files : Files) (blocks prices : List ℕ) where
  kept : (name : List ℕ) → is_name name (file_name_of paper.Prices) ≡ false → is_name name (file_name_of paper.Blocks) ≡ false
      → found_in (written files blocks prices) name MOST_BYTES ≡ found_in files name MOST_BYTES
  kept name not_prices not_blocks =
      ap (found_as MOST_BYTES) (others-stand (file_name_of paper.Blocks) blocks (file_name_of paper.Prices) prices files name not_prices
      not_blocks)

  blocks_found : get (written files blocks prices) (file_name_of paper.Blocks) ≡ Some blocks
  blocks_found = first-stands (file_name_of paper.Blocks) blocks (file_name_of paper.Prices) prices files refl refl

  prices_found : get (written files blocks prices) (file_name_of paper.Prices) ≡ Some prices
  prices_found = second-stands (file_name_of paper.Blocks) blocks (file_name_of paper.Prices) prices files refl

  -- the papers of a feed say what they said
  pub said_kept : said_by (found_of (pages_in claim_papers (written files blocks prices))) ≡ said_by (found_of (pages_in feed_papers files))
  said_kept = said_same (found_of (pages_in claim_papers (written files blocks prices))) (found_of (pages_in feed_papers files))
      (kept (file_name_of paper.Settings) refl refl) (kept (file_name_of paper.Terminals) refl refl)
      (kept (file_name_of paper.Tolerances) refl refl) (kept (file_name_of paper.Calendar) refl refl)
      (kept (file_name_of paper.CalendarDates) refl refl) (kept (file_name_of paper.Trips) refl refl)
      (kept (file_name_of paper.StopTimes) refl refl) (kept (file_name_of paper.Deadheads) refl refl)
      (kept (file_name_of paper.Depot) refl refl) (kept (file_name_of paper.Pairs) refl refl)
      (kept (file_name_of paper.Edits) refl refl)

  -- the two files are found as they were written, where they are not too long
  pub blocks_read : IsShort (written files blocks prices) paper.Blocks
      → found_of (pages_in claim_papers (written files blocks prices)) paper.Blocks ≡ File blocks
  blocks_read short = ap (found_as MOST_BYTES) blocks_found
      ∙ found-short blocks (λ long. short (ap (found_as MOST_BYTES) blocks_found ∙ long))

  pub prices_read : IsShort (written files blocks prices) paper.Prices
      → found_of (pages_in claim_papers (written files blocks prices)) paper.Prices ≡ File prices
  prices_read short = ap (found_as MOST_BYTES) prices_found
      ∙ found-short prices (λ long. short (ap (found_as MOST_BYTES) prices_found ∙ long))

-- what a run of `blocks` says that has done all: it has done so with an accepted feed, whose blocks are named
pub record HasPlanned (read : ReadView) (outcome : OutcomeView) : Type 0 where
  pub said : FeedView
  pub says : said_in read ≡ Ok said
  pub naming : NamingView
  pub plan : WritesPlans (likings_in read said.settings said.base) naming said outcome

planned_said : (read : ReadView) (outcome : OutcomeView) → IsGiven blocks_asked read outcome → status_of outcome.ending ≤ EDITS_REFUSED
    → HasPlanned read outcome
unfolding blocks_asked
planned_said read outcome given low = by (said_in read) refl given.gives
  where
    high : (refused : FeedFault) → outcome ≡ refusing refused → HasPlanned read outcome
    high refused does = absurd (omega (arith, low, ap (λ (o : OutcomeView). status_of o.ending) does))

    named : (said : FeedView) → said_in read ≡ Ok said → (result : Result NamingView FeedFault)
        → DoesNamed (λ naming. blocks_named.Gives read naming said) result outcome → HasPlanned read outcome
    named said is (Ok naming) does = record { said = said; says = is; naming = naming; plan = does }
    named said is (Err refused) does = high refused does

    by : (result : Result FeedView FeedFault) → said_in read ≡ result → Does (blocks_does.Gives read) result outcome
        → HasPlanned read outcome
    by (Ok said) is does = named said is (naming_in read said.settings) does
    by (Err refused) is does = high refused does

-- the files of a shelf with two more, where it tells them
abbrev with_texts : List ℕ → List ℕ → Option Files → Option Files
with_texts blocks prices = with_two_told (file_name_of paper.Blocks) blocks (file_name_of paper.Prices) prices

module _ (seen again : Option ReadView) (before left later after : World) (first second : ℕ)
    (one : HasEnded blocks_asked seen before left first) (two : HasEnded check_asked again later after second)
    (all : first ≤ EDITS_REFUSED) where
  abbrev planned : HasPlanned one.chosen.read one.chosen.outcome
  planned = planned_said one.chosen.read one.chosen.outcome one.chosen.given (omega (arith, all, one.answered))

  abbrev said : FeedView
  said = planned.said

  -- how its blocks are named
  abbrev naming : NamingView
  naming = planned.naming

  -- how links are liked
  abbrev likings : LikingsView
  likings = likings_in one.chosen.read said.settings said.base

  abbrev plan : WritesPlans likings naming said one.chosen.outcome
  plan = planned.plan

  -- the plan at the last moment, and its blocks
  abbrev last_plan : Plan
  last_plan = plan_at said.base said.lines plan.matrix likings (length said.lines)

  abbrev blocks : List (List ℕ)
  blocks = blocks_in (standing said) last_plan

  abbrev text_of_blocks : List ℕ
  text_of_blocks = blocks_text (standing said) plan.matrix (names_of naming blocks) blocks

  abbrev text_of_prices : List ℕ
  text_of_prices = prices_text (standing said) last_plan.leave last_plan.enter

  -- the files after the first run, where the shelf tells them
  files_left : left.shelf.files ≡ with_texts text_of_blocks text_of_prices before.shelf.files
  files_left = ap (λ (w : World). w.shelf.files) one.carried
      ∙ ap (λ (o : OutcomeView). (with_writings o.writes before.shelf).files) plan.done

  -- the blocks and the prices are accepted
  accepted : IsAccepted (standing said) plan.matrix (names_of naming blocks) blocks last_plan.leave last_plan.enter
  accepted = plan.accepted

  module _ (files : Files) (told : before.shelf.files ≡ Some files) (found : Files) (told_later : later.shelf.files ≡ Some found)
      (stands : StandAgain (written files text_of_blocks text_of_prices) found)
      (blocks_short : IsShort (written files text_of_blocks text_of_prices) paper.Blocks)
      (prices_short : IsShort (written files text_of_blocks text_of_prices) paper.Prices) where
    read_first : one.chosen.read.pages ≡ pages_in feed_papers files
    unfolding blocks_asked
    read_first = pages_told files feed_papers one.chosen.read.pages
        (subst (λ fs. AreRead fs feed_papers one.chosen.read.pages) told one.chosen.told.pages)

    read_second : two.chosen.read.pages ≡ pages_in claim_papers (written files text_of_blocks text_of_prices)
    unfolding check_asked
    read_second = pages_told found claim_papers two.chosen.read.pages
        (subst (λ fs. AreRead fs claim_papers two.chosen.read.pages) told_later two.chosen.told.pages) ∙ stands

    says : said_in two.chosen.read ≡ Ok said
    says = ap (λ pages. said_by (found_of pages)) read_second ∙ said_kept files text_of_blocks text_of_prices
        ∙ sym (ap (λ pages. said_by (found_of pages)) read_first) ∙ planned.says

    claim : claim_in two.chosen.read said ≡ Ok accepted.0
    claim =
        (λ i. claimed_of (standing said)
        ((ap (λ pages. found_of pages paper.Blocks) read_second ∙ blocks_read files text_of_blocks text_of_prices blocks_short) i)
        ((ap (λ pages. found_of pages paper.Prices) read_second ∙ prices_read files text_of_blocks text_of_prices prices_short) i))
        ∙ accepted.1

    judged : IsChecked two.chosen.read said two.chosen.outcome
    unfolding check_asked
    judged = subst (λ said. Does (IsChecked two.chosen.read) said two.chosen.outcome) says two.chosen.given.gives

    abbrev vehicles : ℕ
    vehicles = length blocks

    abbrev minutes : ℕ
    minutes = minutes_in (standing said) plan.matrix last_plan

    yes : two.chosen.outcome ≡ putting (refused_of said ++ yes_line vehicles minutes) ending.Done
    yes =
        judged.done
        ∙ ap (checked two.chosen.read said)
        (matrix-same said.entries said.pulls said.rules (length said.base.places) judged.matrix plan.matrix judged.matrix_is plan.matrix_is)
        ∙ ap (claim_outcome (refused_of said) (standing said) plan.matrix) claim
        ∙ ap (verdict_outcome (refused_of said) (standing said) accepted.0) accepted.2

    confirmed : IsConfirmed before left later after second
    confirmed = record {
      answers = answers_by (answer_text plan.matrix naming) said.base said.lines
          (plan_at said.base said.lines plan.matrix likings)
          (length said.lines);
      refused = refused_of said;
      fixed = fixed_number (standing said);
      vehicles = vehicles;
      minutes = minutes;
      yes = two.answered ∙ ap (λ (o : OutcomeView). status_of o.ending) yes;
      planned = ap (λ (w : World). w.sink) one.carried ∙ ap (λ (o : OutcomeView). put_bytes o.text before.sink) plan.done;
      checked = ap (λ (w : World). w.sink) two.carried ∙ ap (λ (o : OutcomeView). put_bytes o.text later.sink) yes;
    }

  pub confirms : (files found : Files) → left.shelf.files ≡ Some files → later.shelf.files ≡ Some found → StandAgain files found
      → IsShort files paper.Blocks → IsShort files paper.Prices
      → IsConfirmed before left later after second
  confirms files found told_left told_later stands blocks_short prices_short = by before.shelf.files refl
    where
      by : (o : Option Files) → before.shelf.files ≡ o → IsConfirmed before left later after second
      by None told = absurd (none-some files (sym (ap (with_texts text_of_blocks text_of_prices) told) ∙ sym files_left ∙ told_left))
      by (Some base) told =
          let same : files ≡ written base text_of_blocks text_of_prices =
          same_Some files (written base text_of_blocks text_of_prices)
          (sym told_left ∙ files_left ∙ ap (with_texts text_of_blocks text_of_prices) told) in
          confirmed base told found told_later (subst (λ fs. StandAgain fs found) same stands)
          (subst (λ fs. IsShort fs paper.Blocks) same blocks_short)
          (subst (λ fs. IsShort fs paper.Prices) same prices_short)
