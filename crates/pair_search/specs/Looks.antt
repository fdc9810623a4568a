-- The looks of searches, and how the logic stores them.
use Rattle.std.specs.Prelude.{◌≡◌, ℕ, ◌==◌, cond, List, refl}
use Rattle.std.specs.Coded.{Coded, code_by, coded×, coded_ℕ, coded_list}
use Rattle.pair_search.specs.declared.look.Look.{Look}
use Rattle.pair_search.specs.declared.look.Look.TheVariants.{Visited, Tried, Passed, Led}

-- how the logic stores a look: its kind, and what it is of
abbrev Stored : Type 0
Stored = ℕ × (ℕ × ℕ)

abbrev stored : Look → Stored
stored (Visited row place) = (0, (row, place))
stored (Tried row place) = (1, (row, place))
stored (Passed row group) = (2, (row, group))
stored (Led row) = (3, (row, 0))

abbrev look_at : Stored → Look
look_at (kind, (row, at)) =
    cond (kind == 0) (Visited row at) (cond (kind == 1) (Tried row at) (cond (kind == 2) (Passed row at) (Led row)))

pub look_at-stored : (look : Look) → look_at (stored look) ≡ look
look_at-stored (Visited row place) = refl
look_at-stored (Tried row place) = refl
look_at-stored (Passed row group) = refl
look_at-stored (Led row) = refl

abbrev pub looks_code : Coded (List Look)
looks_code = coded_list (code_by Stored (coded× coded_ℕ (coded× coded_ℕ coded_ℕ)) stored look_at look_at-stored)
