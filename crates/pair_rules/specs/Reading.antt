-- The rules that `pairs.csv` gives pairs of trips.
use Rattle.std.specs.Prelude.{ℕ, not, nat_lt, if◌then◌else◌, List, [], ◌∷◌, ◌++◌, length, Option, Some, None, Result, Ok, codes}
use Rattle.std.specs.Option.{ok_or}
use Rattle.std.specs.Str.{bytes_eq}
use Rattle.desk_io.specs.declared.shelf.Found.{Found}
use Rattle.gtfs_tables.specs.declared.fault.FeedFault.{FeedFault}
use Rattle.gtfs_tables.specs.declared.fault.FeedFault.TheVariants as fault
use Rattle.gtfs_tables.specs.declared.paper.Column.TheVariants as column
use Rattle.gtfs_tables.specs.declared.paper.Paper.TheVariants as paper
use Rattle.gtfs_tables.specs.Fold.{optional_read}
use Rattle.gtfs_tables.specs.Reading.{◌>>=◌, provided, column_in, field_at, text_in, filled_in}
use Rattle.gtfs_tables.specs.Spaces.{without_spaces}
use Rattle.pair_rules.specs.declared.kind.RuleKind.{RuleKind}
use Rattle.pair_rules.specs.declared.kind.RuleKind.TheVariants.{Keep, Never}
use Rattle.pair_rules.specs.declared.limits.TheConstants.{MOST_RULES}
use Rattle.pair_rules.specs.declared.read.Columns.{Columns}
use Rattle.pair_rules.specs.Rules.{PairRule, clashes}

-- where the required columns are
unfoldable pub columns_in : List (List ℕ) → Result Columns FeedFault
columns_in header = do
  before ← column_in paper.Pairs column.Before header
  after ← column_in paper.Pairs column.After header
  rule ← column_in paper.Pairs column.Rule header
  Ok (record { before = before; after = after; rule = rule })

-- the kind of a word
abbrev pub kind_named : List ℕ → Option RuleKind
kind_named word =
    if bytes_eq word (codes "keep") then Some Keep
    else if bytes_eq word (codes "never") then Some Never
    else None

-- the kind of a text: its word may have spaces round it
abbrev pub kind_in : List ℕ → Option RuleKind
kind_in text = kind_named (without_spaces text)

-- the rule of one record, whose two trips differ
unfoldable pub rule_in : Columns → ℕ → List (List ℕ) → Result PairRule FeedFault
rule_in columns number fields = do
  before ← text_in paper.Pairs number column.Before (field_at fields columns.before)
  after ← text_in paper.Pairs number column.After (field_at fields columns.after)
  rule ← text_in paper.Pairs number column.Rule (field_at fields columns.rule)
  _ ← filled_in paper.Pairs number column.Before before
  _ ← filled_in paper.Pairs number column.After after
  _ ← filled_in paper.Pairs number column.Rule rule
  kind ← ok_or (kind_in rule) (fault.BadRule number)
  provided (not (bytes_eq before after)) (fault.SameTrip number) (Ok (record { before = before; after = after; kind = kind }))

-- the rules with one more, that of a record of this number, which clashes with none of them; there are at most 32,768
abbrev pub with_rule : ℕ → List PairRule → PairRule → Result (List PairRule) FeedFault
with_rule number before rule =
    provided (not (clashes before rule)) (fault.DuplicateRow paper.Pairs number)
    (provided (nat_lt (length before) MOST_RULES) (fault.TooManyRecords paper.Pairs) (Ok (before ++ rule ∷ [])))

-- rule: the order of refusals within a file
-- the rules with that of one record
abbrev pub with_row : Columns → ℕ → List PairRule → List (List ℕ) → Result (List PairRule) FeedFault
with_row columns number before fields = rule_in columns number fields >>= with_rule number before

-- the rules of the file, record by record; without one there are none
abbrev pub rules_of : Found → Result (List PairRule) FeedFault
rules_of found = optional_read paper.Pairs columns_in with_row [] found
