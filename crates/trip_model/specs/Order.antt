-- Slots in order of departure, and in order of end.
use Rattle.std.specs.Prelude.{◌≡◌, ℕ, ◌<◌, ◌≤◌, nat_le, List, [], ◌∷◌, fold, Option, None, Some, ⊤, if◌then◌else◌}
use Rattle.std.specs.List.{AllByRecursion}
use Rattle.trip_model.specs.Plain.{move_at, live_slots}
use Rattle.trip_model.specs.declared.trip.Move.{Move}

-- the minute in which a move leaves; 0 where there is none
abbrev pub minute_left : Option Move → ℕ
minute_left None = 0
minute_left (Some m) = m.leaves

-- the minute in which a move arrives; 0 where there is none
abbrev pub minute_arrived : Option Move → ℕ
minute_arrived None = 0
minute_arrived (Some m) = m.arrives

-- a slot is put behind those at the front of the list whose key is not above its own
abbrev pub placed_by : (ℕ → ℕ) → List ℕ → ℕ → List ℕ
placed_by key [] s = s ∷ []
placed_by key (x ∷ xs) s = if nat_le (key x) (key s) then x ∷ placed_by key xs s else s ∷ x ∷ xs

-- slots by their keys, and those of one key in the order in which they were
abbrev pub by_key : (ℕ → ℕ) → List ℕ → List ℕ
by_key key slots = fold (placed_by key) [] slots

-- rule: trips in order of departure
-- the slots that run, by departure, and those of one departure by number
unfoldable pub by_departure : List (Option Move) → List ℕ
by_departure moves = by_key (λ s. minute_left (move_at moves s)) (live_slots moves)

-- the slots that run, by end, and those of one end by number
unfoldable pub by_end : List (Option Move) → List ℕ
by_end moves = by_key (λ s. minute_arrived (move_at moves s)) (live_slots moves)

-- no slot has a greater key than one after it
abbrev pub RiseBy : (ℕ → ℕ) → List ℕ → Type 0
RiseBy key [] = ⊤
RiseBy key (x ∷ xs) = AllByRecursion (λ y. key x ≤ key y) xs × RiseBy key xs

-- of two slots with one key the lesser comes first
abbrev pub TiesRise : (ℕ → ℕ) → List ℕ → Type 0
TiesRise key [] = ⊤
TiesRise key (x ∷ xs) = AllByRecursion (λ y. key x ≡ key y → x < y) xs × TiesRise key xs
