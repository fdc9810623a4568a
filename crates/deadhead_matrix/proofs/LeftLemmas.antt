-- The places that a file leaves, as the reading of its records tells them.
use Rattle.std.proofs.Common.{◌≡◌, ℕ, ◌+◌, List, [], ◌∷◌, Result, Ok, Err, refl, ◌∙◌}
use Rattle.desk_io.specs.declared.shelf.Found.{Found}
use Rattle.desk_io.specs.declared.shelf.Found.TheVariants.{File, Missing, TooLong}
use Rattle.gtfs_tables.specs.declared.fault.FeedFault.{FeedFault}
use Rattle.gtfs_tables.specs.declared.paper.Paper.TheVariants as paper
use Rattle.gtfs_tables.specs.Fold.{AreLeft, IsTableLeft, LeftBy}
use Rattle.gtfs_tables.specs.Reading.{◌>>=◌, judged, nothing, table_in}
use Rattle.gtfs_tables.specs.Table.{TableView}
use Rattle.deadhead_matrix.specs.declared.read.Columns.{Columns}
use Rattle.deadhead_matrix.specs.Deadheads.{ReadingView, columns_in, begun, with_deadhead}
use Rattle.deadhead_matrix.specs.Left.{left_after, left_by, left_by_each, left_by_paper, left_by_table, timetable_left, Leaves}
use Rattle.deadhead_matrix.specs.Posts.{Class, classes_of}

-- what a record leaves, and those after it
left-step : (classes : List Class) (columns : Columns) (number : ℕ) (before after : ReadingView) (fields : List (List ℕ))
    (rows : List (List (List ℕ))) (read : Result ReadingView FeedFault)
    → LeftBy (Leaves classes columns number before fields after)
    (λ more. AreLeft (with_deadhead classes columns) (Leaves classes columns) (number + 1) more rows after) read
    → ((more : ReadingView) → AreLeft (with_deadhead classes columns) (Leaves classes columns) (number + 1) more rows after
    → after.timetable ≡ left_by_each classes columns (number + 1) more rows)
    → after.timetable ≡ left_after read (λ more. left_by_each classes columns (number + 1) more rows)
    (left_by classes columns number before.timetable fields)
left-step classes columns number before after fields rows (Ok more) are each = each more are
left-step classes columns number before after fields rows (Err refused) is each = is

-- what records leave
left-each : (classes : List Class) (columns : Columns) (number : ℕ) (before after : ReadingView) (rows : List (List (List ℕ)))
    → AreLeft (with_deadhead classes columns) (Leaves classes columns) number before rows after
    → after.timetable ≡ left_by_each classes columns number before rows
left-each classes columns number before after [] are = λ i. (are i).timetable
left-each classes columns number before after (fields ∷ rows) are =
    left-step classes columns number before after fields rows (with_deadhead classes columns number before fields) are
    (λ more now. left-each classes columns (number + 1) more after rows now)

-- what a table leaves
left-table : (classes : List Class) (table : TableView) (before after : ReadingView)
    → IsTableLeft columns_in (with_deadhead classes) (Leaves classes) before table after
    → after.timetable ≡ left_by_table classes before table
left-table classes table before after is = by (columns_in table.header) is
  where
    by : (columns : Result Columns FeedFault)
        → LeftBy (after ≡ before) (λ columns. AreLeft (with_deadhead classes columns) (Leaves classes columns) 1 before table.rows after)
        columns
        → after.timetable ≡ left_after columns (λ columns. left_by_each classes columns 1 before table.rows) before.timetable
    by (Ok columns) are = left-each classes columns 1 before after table.rows are
    by (Err refused) is = λ i. (is i).timetable

-- what a paper that is a table leaves
left-paper : (classes : List Class) (found : Found) (before after : ReadingView) → judged paper.Deadheads found ≡ nothing
    → ((table : TableView) → table_in paper.Deadheads found ≡ Ok table
    → IsTableLeft columns_in (with_deadhead classes) (Leaves classes) before table after)
    → after.timetable ≡ left_by_paper classes found before
left-paper classes found before after judges each = by (table_in paper.Deadheads found) judges each
  where
    by : (table : Result TableView FeedFault) → (table >>= λ _. nothing) ≡ nothing
        → ((t : TableView) → table ≡ Ok t → IsTableLeft columns_in (with_deadhead classes) (Leaves classes) before t after)
        → after.timetable ≡ left_after table (left_by_table classes before) before.timetable
    by (Ok table) judges each = left-table classes table before after (each table refl)
    by (Err refused) judges each = cc judges

-- the same of the file, where no record was read before
pub left-file : (found : Found) (classes : List Class) (before after : ReadingView) → classes ≡ classes_of before.timetable
    → before ≡ begun before.timetable
    → judged paper.Deadheads found ≡ nothing
    → ((table : TableView) → table_in paper.Deadheads found ≡ Ok table
    → IsTableLeft columns_in (with_deadhead classes) (Leaves classes) before table after)
    → after.timetable ≡ timetable_left found before.timetable
left-file Missing classes before after are none judges each = cc judges
left-file TooLong classes before after are none judges each = cc judges
left-file (File bytes) classes before after are none judges each =
    left-paper classes (File bytes) before after judges each ∙ (λ i. left_by_paper (are i) (File bytes) (none i))
