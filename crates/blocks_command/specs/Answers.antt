-- What is put of each record of a script, by the plan after it.
use Rattle.std.specs.Prelude.{ℕ, List, [], ◌++◌, length, None, Some, codes}
use Rattle.std.specs.Fmt.{decimal}
use Rattle.trip_model.specs.Timetable.{TimetableView}
use Rattle.edit_script.specs.declared.edit.Edit.TheVariants.{Show}
use Rattle.edit_script.specs.declared.edit.Line.{Line}
use Rattle.edit_script.specs.declared.edit.Line.TheVariants as line
use Rattle.deadhead_matrix.specs.Matrix.{MatrixView}
use Rattle.assignment_model.specs.Prices.{Plan}
use Rattle.block_build.specs.Lines.{block_text, price_text}
use Rattle.block_names.specs.Names.{NamingView, names_of}
use Rattle.desk_core.specs.Counts.{blocks_in, minutes_in}
use Rattle.desk_feed.specs.Numbers.{numbers_line}
use Rattle.desk_feed.specs.Script.{refusal_line}
use Rattle.feed_desk.specs.Answers.{Answer}
use Rattle.feed_desk.specs.Plans.{fixed_number}

-- the numbers of a timetable and of the blocks of a plan for it
abbrev pub numbers_text : TimetableView → MatrixView → Plan → List ℕ
numbers_text timetable matrix plan =
    numbers_line (fixed_number timetable) (length (blocks_in timetable plan)) (minutes_in timetable matrix plan)

module _ (matrix : MatrixView) (naming : NamingView) where
  -- rule: what a `show` prints
  -- a plan as it is shown: the lines of its blocks, one space before each, and those of its prices
  abbrev pub show_text : TimetableView → Plan → List ℕ
  show_text timetable plan =
      block_text timetable matrix (codes " ") (names_of naming (blocks_in timetable plan)) (blocks_in timetable plan)
      ++ price_text timetable plan.leave plan.enter

  -- what is shown after a record: of a show the plan, and of any other nothing
  abbrev pub shown_text : Line → TimetableView → Plan → List ℕ
  shown_text (line.Edit Show) timetable plan = show_text timetable plan
  shown_text line timetable plan = []

  -- what is put of a record: where it is accepted the numbers after it, and what is shown; else why it is refused
  unfoldable pub answer_text : Answer
  answer_text number line timetable plan None =
      codes "record " ++ (decimal number ++ (codes ": ok, " ++ (numbers_text timetable matrix plan ++ shown_text line timetable plan)))
  answer_text number line timetable plan (Some refused) = refusal_line number line refused
