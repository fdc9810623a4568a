-- A list of names without repeats.
use Rattle.std.specs.Prelude.{Bool, List, [], ◌∷◌, ◌++◌, fold, if◌then◌else◌}
use Rattle.std.specs.List.{list_any}
use Rattle.std.specs.Str.{bytes_eq}
use Rattle.gtfs_tables.specs.Entries.{Name}

-- whether the name is one of the names
abbrev pub is_among : Name → List Name → Bool
is_among name names = list_any (bytes_eq name) names

-- the names, and this one at the end if it is new
abbrev pub with_name : List Name → Name → List Name
with_name names name = if is_among name names then names else names ++ name ∷ []

-- these names, each where it first comes
abbrev pub each_once : List Name → List Name
each_once names = fold with_name [] names

-- those of the names that are among others, each where it first comes
abbrev pub if_among : List Name → List Name → Name → List Name
if_among others kept name = if is_among name others then with_name kept name else kept

abbrev pub kept_among : List Name → List Name → List Name
kept_among others names = fold (if_among others) [] names
