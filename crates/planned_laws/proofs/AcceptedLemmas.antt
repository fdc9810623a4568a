-- What an accepted feed says is valid, so there may be plans of its timetable.
use Rattle.std.proofs.Common.{◌≡◌, true, Result, Ok, Err, sym, subst, arith}
use Rattle.std.specs.Prelude.{All, IfOk}
use Rattle.std.proofs.lemmas.Result.{IfOk-at_ok}
use Rattle.deadhead_matrix.specs.Matrix.{MatrixView}
use Rattle.deadhead_matrix.specs.Pulls.{IsPull}
use Rattle.desk_feed.specs.Feed.{FeedView, deadheads_in, lines_in, pulls_in, rules_in, said_by, settings_in, timetable_in}
use Rattle.desk_feed.specs.Schedule.{IsMatrixFor}
use Rattle.desk_feed.specs.Script.{IsScript}
use Rattle.desk_io.specs.declared.shelf.Found.{Found}
use Rattle.desk_settings.specs.Prefer.{none_twice}
use Rattle.feed_likings.specs.Likings.{likings_by}
use Rattle.feed_likings.proofs.UnitLemmas.{units-few}
use Rattle.gtfs_tables.specs.Reading.{table_in}
use Rattle.gtfs_tables.specs.Table.{TableView}
use Rattle.gtfs_tables.specs.declared.fault.FeedFault.{FeedFault}
use Rattle.gtfs_tables.specs.declared.paper.Paper.{Paper}
use Rattle.gtfs_tables.specs.declared.paper.Paper.TheVariants as paper
use Rattle.pair_rules.specs.Rules.{ArePairRules}
use Rattle.trip_model.specs.Timetable.{IsTimetable}
use Rattle.planned_laws.specs.Laws.{AreLikings, IsValidFeed, MayPlan, likings_found}
use Rattle.planned_laws.proofs.FormLemmas.{script-read}
use Rattle.planned_laws.proofs.MetLemmas.{base-read}
use Rattle.planned_laws.proofs.PullLemmas.{ArePulls, deadheads-read, pulls-read}
use Rattle.planned_laws.proofs.ReadLemmas.{read-next}
use Rattle.planned_laws.proofs.RuleLemmas.{rules-read}
use Rattle.planned_laws.proofs.SettingsLemmas.{AreSettings, settings-read}

-- it is accepted, and no preference is there twice
record IsRead (said : FeedView) : Type 0 where
  pub accepted : IsValidFeed said
  pub once : none_twice said.settings.prefer ≡ true

all-read : (found : Paper → Found) → IfOk (said_by found) IsRead
unfolding said_by
all-read found =
    read-next AreSettings IsRead (settings_in found) _ (settings-read found)
    (λ settings set. read-next IsTimetable IsRead (timetable_in found settings) _
    (base-read settings set (found paper.Trips) (found paper.StopTimes))
    (λ timetable valid. read-next (λ r. IsTimetable r.0) IsRead (deadheads_in found timetable) _
    (deadheads-read (found paper.Deadheads) timetable valid)
    (λ deadheads now. read-next (ArePulls deadheads.0.places) IsRead (pulls_in found deadheads.0) _
    (pulls-read (found paper.Depot) deadheads.0)
    (λ pulls are. read-next ArePairRules IsRead (rules_in found) _ (rules-read (found paper.Pairs))
    (λ rules valid_rules. read-next IsScript IsRead (lines_in found) _ (script-read (found paper.Edits))
    (λ lines script. record {
      accepted = record { base = now; script = script; pulls = are.each; count = are.count; rules = valid_rules };
      once = set.prefer;
    }))))))

module _ (found : Paper → Found) (said : FeedView) (is : said_by found ≡ Ok said) where
  read : IsRead said
  read = IfOk-at_ok IsRead is (all-read found)

  pub accepted-is : IsValidFeed said
  accepted-is = read.accepted

  likings-few : (trips : Result TableView FeedFault) → AreLikings (likings_by said.settings said.base trips)
  likings-few (Ok trips) = units-few said.settings.prefer read.once
  likings-few (Err refused) = omega arith

  pub may-plan : (matrix : MatrixView) → IsMatrixFor said matrix → MayPlan said.base matrix (likings_found found said)
  may-plan matrix of = record {
    valid = read.accepted.base;
    places = sym of.count;
    pulls = subst (All IsPull) (sym of.pulls_are) read.accepted.pulls;
    liked = likings-few (table_in paper.Trips (found paper.Trips));
  }
