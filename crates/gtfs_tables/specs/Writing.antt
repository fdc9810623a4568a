-- Records as comma-separated text, by what `csv` promises of its writer.
use Rattle.std.specs.Prelude.{◌≡◌, ℕ, ◌-◌, ◌<◌, true, List, [], ◌∷◌, length, get_or, All}
use Rattle.std.specs.List.{flat_map}
use Rattle.csv.specs.Reading.{strip_bom}
use Rattle.csv.specs.Writing as csv
use Rattle.csv.specs.declared.writer.WriterBuilder.{WriterBuilder}

-- how records are written: with commas, double quotes only where they are needed, and a line feed at the end of each
abbrev pub record_writer : WriterBuilder
record_writer = csv.with_flexible csv.default_writer true

-- rule: how a record is written
-- the text of a record, with its line feed
abbrev pub record_text : List (List ℕ) → List ℕ
record_text fields = csv.row_text record_writer fields

-- the text of records, one after the other
abbrev pub records_text : List (List (List ℕ)) → List ℕ
records_text rows = flat_map record_text rows

-- whether a text is of whole records: it has none, or it ends in a line feed
abbrev pub AreWhole : List ℕ → Type 0
AreWhole text = get_or text (length text - 1) 10 ≡ 10

-- what a writer holds that lost a record: a byte and no line feed, which no records are
abbrev pub lost : List ℕ
lost = 0 ∷ []

-- Texts that read back: each record has a field, and the text does not begin with a byte-order mark, which no reader keeps.
pub record ReadBack (rows : List (List (List ℕ))) : Type 0 where
  pub filled : All (λ (fields : List (List ℕ)). 0 < length fields) rows
  pub unmarked : strip_bom (records_text rows) ≡ records_text rows
