-- What the papers say, where one of them is refused.
use Rattle.std.proofs.Common.{◌≡◌, List, Result, Ok, sym, ap, ◌∙◌}
use Rattle.desk_io.specs.declared.shelf.Found.{Found}
use Rattle.gtfs_tables.specs.declared.fault.FeedFault.{FeedFault}
use Rattle.gtfs_tables.specs.declared.paper.Paper.{Paper}
use Rattle.gtfs_tables.specs.Reading.{◌>>=◌, Fails}
use Rattle.gtfs_tables.proofs.ReadingLemmas.{Fails->>=, Fails-equal}
use Rattle.desk_settings.specs.Settings.{SettingsView}
use Rattle.trip_model.specs.Timetable.{TimetableView}
use Rattle.pair_rules.specs.Rules.{PairRule}
use Rattle.deadhead_matrix.specs.declared.entry.Entry.{Entry}
use Rattle.deadhead_matrix.specs.declared.pulls.Pull.{Pull}
use Rattle.desk_feed.specs.Feed.{FeedView, settings_in, timetable_in, deadheads_in, pulls_in, rules_in, lines_in, said_by, said_with}

module _ (found : Paper → Found) (settings : SettingsView) where
  -- what is said once the rules are read, once the pulls are, once the deadheads are, and once the timetable is
  abbrev with_rules : TimetableView × List Entry → List Pull → List PairRule → Result FeedView FeedFault
  with_rules deadheads pulls rules = lines_in found >>= λ lines. Ok (said_with settings deadheads.0 deadheads.1 pulls rules lines)

  abbrev with_pulls : TimetableView × List Entry → List Pull → Result FeedView FeedFault
  with_pulls deadheads pulls = rules_in found >>= with_rules deadheads pulls

  abbrev with_deadheads : TimetableView × List Entry → Result FeedView FeedFault
  with_deadheads deadheads = pulls_in found deadheads.0 >>= with_pulls deadheads

  abbrev with_timetable : TimetableView → Result FeedView FeedFault
  with_timetable timetable = deadheads_in found timetable >>= with_deadheads

  module _ (known : settings_in found ≡ Ok settings) where
    said_with_settings : said_by found ≡ (timetable_in found settings >>= with_timetable)
    unfolding said_by
    said_with_settings = ap (λ read. read >>= λ s. timetable_in found s >>= λ t. deadheads_in found t >>= λ d. pulls_in found d.0 >>=
        λ p. rules_in found >>= λ r. lines_in found
        >>= λ lines. Ok (said_with s d.0 d.1 p r lines)) known

    -- the timetable is refused
    pub said-no_timetable : (refused : FeedFault) → Fails refused (timetable_in found settings) → Fails refused (said_by found)
    said-no_timetable refused due =
        Fails-equal refused (timetable_in found settings >>= with_timetable) (said_by found) (sym said_with_settings)
        (Fails->>= refused (timetable_in found settings) with_timetable due)

    module _ (timetable : TimetableView) (read : timetable_in found settings ≡ Ok timetable) where
      said_with_timetable : said_by found ≡ with_timetable timetable
      said_with_timetable = said_with_settings ∙ ap (λ read. read >>= with_timetable) read

      -- the deadheads are refused
      pub said-no_deadheads : (refused : FeedFault) → Fails refused (deadheads_in found timetable) → Fails refused (said_by found)
      said-no_deadheads refused due =
          Fails-equal refused (with_timetable timetable) (said_by found) (sym said_with_timetable)
          (Fails->>= refused (deadheads_in found timetable) with_deadheads due)

      module _ (deadheads : TimetableView × List Entry) (entered : deadheads_in found timetable ≡ Ok deadheads) where
        said_with_deadheads : said_by found ≡ with_deadheads deadheads
        said_with_deadheads = said_with_timetable ∙ ap (λ read. read >>= with_deadheads) entered

        -- the pulls are refused
        pub said-no_pulls : (refused : FeedFault) → Fails refused (pulls_in found deadheads.0) → Fails refused (said_by found)
        said-no_pulls refused due =
            Fails-equal refused (with_deadheads deadheads) (said_by found) (sym said_with_deadheads)
            (Fails->>= refused (pulls_in found deadheads.0) (with_pulls deadheads) due)

        module _ (pulls : List Pull) (pulled : pulls_in found deadheads.0 ≡ Ok pulls) where
          said_with_pulls : said_by found ≡ with_pulls deadheads pulls
          said_with_pulls = said_with_deadheads ∙ ap (λ read. read >>= with_pulls deadheads) pulled

          -- the rules are refused
          pub said-no_rules : (refused : FeedFault) → Fails refused (rules_in found) → Fails refused (said_by found)
          said-no_rules refused due =
              Fails-equal refused (with_pulls deadheads pulls) (said_by found) (sym said_with_pulls)
              (Fails->>= refused (rules_in found) (with_rules deadheads pulls) due)

          -- the script is refused
          pub said-no_lines : (rules : List PairRule) (refused : FeedFault) → rules_in found ≡ Ok rules
              → Fails refused (lines_in found) → Fails refused (said_by found)
          said-no_lines rules refused ruled due =
              Fails-equal refused (with_rules deadheads pulls rules) (said_by found)
              (sym (said_with_pulls ∙ ap (λ read. read >>= with_rules deadheads pulls) ruled))
              (Fails->>= refused (lines_in found) (λ lines. Ok (said_with settings deadheads.0 deadheads.1 pulls rules lines)) due)
