-- What a planner prefers among plans that are equally good, and in which order.
use Rattle.std.specs.Prelude.{ℕ, ◌==◌, ◌&&◌, Bool, true, not, List, [], ◌∷◌, ◌++◌, Option, Some, None, option_and_then, codes}
use Rattle.std.specs.Prelude.{if◌then◌else◌}
use Rattle.std.specs.List.{list_any}
use Rattle.std.specs.Str.{bytes_eq}
use Rattle.toml.specs.Data.{Data, Items, no_items, item, as_str, as_array}
use Rattle.desk_settings.specs.declared.prefer.Preference.{Preference}
use Rattle.desk_settings.specs.declared.prefer.Preference.TheVariants.{Stated, Line, Waiting}

-- a number for each, by which two are told apart
abbrev pub rank : Preference → ℕ
rank Stated = 0
rank Line = 1
rank Waiting = 2

abbrev pub is_same : Preference → Preference → Bool
is_same p q = rank p == rank q

-- whether it is one of these
abbrev pub has : Preference → List Preference → Bool
has p order = list_any (is_same p) order

-- none is there twice
abbrev pub none_twice : List Preference → Bool
none_twice [] = true
none_twice (p ∷ order) = not (has p order) && none_twice order

-- the preference of that name
abbrev pub preference_named : List ℕ → Option Preference
preference_named name =
    if bytes_eq name (codes "stated") then Some Stated
    else if bytes_eq name (codes "line") then Some Line
    else if bytes_eq name (codes "waiting") then Some Waiting
    else None

-- behind those before it, where it is none of them
abbrev pub added : List Preference → Preference → Option (List Preference)
added before p = if has p before then None else Some (before ++ p ∷ [])

-- and so with the preference that a value names
abbrev pub with_preference : List Preference → Data → Option (List Preference)
with_preference before value = option_and_then (λ name. option_and_then (added before) (preference_named name)) (as_str value)

-- the preferences of a list, in their order of importance; nothing where one has no name or comes twice
abbrev pub preferences_from : List Preference → Items → Option (List Preference)
preferences_from before no_items = Some before
preferences_from before (item value rest) = option_and_then (λ more. preferences_from more rest) (with_preference before value)

-- rule: which values `prefer` takes
-- a value that is such a list
abbrev pub preferences_in : Data → Option (List Preference)
preferences_in value = option_and_then (preferences_from []) (as_array value)

-- rule: what a planner prefers where `desk.toml` does not say it
abbrev pub standard_preferences : List Preference
standard_preferences = Stated ∷ Line ∷ Waiting ∷ []
