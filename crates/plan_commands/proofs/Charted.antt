-- What `chart` gives of an accepted feed is what it asks.
use Rattle.std.proofs.Common.{◌≡◌, List, ℕ, Result, Ok, Err, ap, subst, ◌∙◌}
use Rattle.std.specs.Prelude.{IfOk}
use Rattle.deadhead_matrix.specs.Matrix.{MatrixView}
use Rattle.plan_choice.specs.Likings.{LikingsView}
use Rattle.desk_run.specs.Outcome.{OutcomeView}
use Rattle.desk_run.specs.Reading.{ReadView}
use Rattle.desk_feed.specs.Edited.{refusing_first}
use Rattle.desk_feed.specs.Feed.{FeedView}
use Rattle.desk_feed.specs.Schedule.{IsMatrixFor}
use Rattle.feed_likings.specs.Likings.{likings_in}
use Rattle.block_names.specs.Names.{NamingView, names_of}
use Rattle.feed_naming.specs.Commands.{IsGivenNamed}
use Rattle.feed_desk.specs.Drawn.{HasDrawn, IsDrawn}
use Rattle.feed_desk.specs.declared.draw.Drawn.{Drawn}
use Rattle.plan_commands.specs.Chart.{chart_named, chart_text}

pub chart-given : {D E : Type 0} (read : ReadView) (naming : NamingView) (said : FeedView) (matrix : MatrixView) (likings : LikingsView)
    (drawn : Drawn D) (text : List ℕ)
    → IsMatrixFor said matrix → HasDrawn said.base said.lines matrix likings drawn → likings ≡ likings_in read said.settings said.base
    → text ≡ chart_text drawn.desk.script.timetable drawn.desk.matrix (names_of naming drawn.blocks) drawn.blocks
    → (result : Result OutcomeView E) → IfOk result (λ outcome. outcome ≡ refusing_first drawn.refused text drawn.ending)
    → IfOk result (IsGivenNamed chart_named read naming said)
chart-given read naming said matrix likings drawn text is has liked printed (Err e) put = tt
chart-given read naming said matrix likings drawn text is has liked printed (Ok outcome) put =
    let here = put ∙ (λ i. refusing_first (has.refused i)
    ((printed ∙ (λ j. chart_text (has.timetable j) (has.matrix_is j) (names_of naming drawn.blocks) drawn.blocks)) i) (has.ending i)) in
    record {
      gives = record {
        matrix = matrix;
        matrix_is = is;
        plan = drawn.desk.plan;
        blocks = drawn.blocks;
        drawn = subst (λ l. IsDrawn said.base said.lines matrix l drawn.desk.plan drawn.blocks) liked has.plan;
        done = here;
      };
      ends = ap (λ (o : OutcomeView). o.ending) here;
      unkept = ap (λ (o : OutcomeView). o.lines) here;
    }
