-- Names with a value each, in the order in which a file names them.
use Rattle.std.specs.Prelude.{ℕ, Bool, not, List, [], ◌∷◌, ◌++◌, map, Option, Result, Ok, is_some, String, string_bytes}
use Rattle.std.specs.Map.{lookup}
use Rattle.std.specs.Str.{bytes_eq}
use Rattle.gtfs_tables.specs.declared.fault.FeedFault.{FeedFault}
use Rattle.gtfs_tables.specs.declared.fault.FeedFault.TheVariants as fault
use Rattle.gtfs_tables.specs.declared.paper.Paper.{Paper}
use Rattle.gtfs_tables.specs.Reading.{provided}

-- a name, as its bytes
abbrev pub Name : Type 0
Name = List ℕ

-- rule: lists of names with values
-- names with a value each
abbrev pub Entries : Type 0 → Type 0
Entries X = List (Name × X)

-- the value of a name, if it has one
abbrev pub value_of : {X : Type 0} → Name → Entries X → Option X
value_of name entries = lookup (bytes_eq name) entries

-- whether a name has a value
abbrev pub has_name : {X : Type 0} → Name → Entries X → Bool
has_name name entries = is_some (value_of name entries)

-- rule: duplicate records
-- the entries, and that of a record of this number, whose name must be new, at the end
abbrev pub with_record : {X : Type 0} → Paper → ℕ → Entries X → Name × X → Result (Entries X) FeedFault
with_record paper number before entry =
    provided (not (has_name entry.0 before)) (fault.DuplicateRow paper number) (Ok (before ++ entry ∷ []))

-- the entries that a map holds in order
abbrev pub entries_of : {X Y : Type 0} → List (String Y × X) → Entries X
entries_of entries = map (λ e. (string_bytes e.0, e.1)) entries
