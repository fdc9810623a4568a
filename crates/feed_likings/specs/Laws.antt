-- What an order of preferences means for whole plans: each decides before all that stand behind it.
use Rattle.std.specs.Prelude.{◌≡◌, ◌⊎◌, ℕ, ◌+◌, ◌*◌, ◌<◌, true, List, [], ◌∷◌}
use Rattle.desk_settings.specs.Prefer.{none_twice}
use Rattle.desk_settings.specs.declared.prefer.Preference.{Preference}
use Rattle.desk_settings.specs.declared.prefer.Preference.TheVariants.{Stated, Line, Waiting}
use Rattle.feed_likings.specs.Units.{range_of, unit_of}

-- what the links of a plan count together that have so much of each preference: neighbours as stated, links of one line, and
-- minutes that are not waited
abbrev pub counted : List Preference → (Preference → ℕ) → ℕ
counted order had = had Stated * unit_of Stated order + had Line * unit_of Line order + had Waiting * unit_of Waiting order

-- it is no more than the links of a plan can have
abbrev pub IsInRange : (Preference → ℕ) → Type 0
IsInRange had = (p : Preference) → had p < range_of p

-- one has more than another of the first preference of which they have not as much
abbrev pub HasMore : List Preference → (Preference → ℕ) → (Preference → ℕ) → Type 0
HasMore [] had other = ⊥
HasMore (p ∷ order) had other = (other p < had p) ⊎ ((other p ≡ had p) × HasMore order had other)

-- rule: what is preferred more decides first
abbrev pub FirstDecides : Type 0
FirstDecides =
    (order : List Preference) (had other : Preference → ℕ)
    → none_twice order ≡ true
    → IsInRange had
    → IsInRange other
    → HasMore order had other
    → counted order other < counted order had
