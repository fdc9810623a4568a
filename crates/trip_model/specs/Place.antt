-- Places: terminals, or posts where vehicles are of classes.
use Rattle.std.specs.Prelude.{◌≡◌, ℕ, ◌≤◌, ◌==◌, Bool, true, false, List, [], ◌∷◌, ◌++◌, slice_index_or}
use Rattle.std.specs.List.{list_any}
use Rattle.trip_model.specs.declared.limits.TheConstants.{MOST_LAYOVER}

-- word: place = terminal
-- a place with its terminal, the class of the vehicles that use it, and the minutes of layover of a trip that ends there
pub record Place : Type 0 where
  pub name : List ℕ
  pub terminal : List ℕ
  pub class : List ℕ
  pub layover : ℕ

-- a terminal, for vehicles of the empty class
abbrev pub terminal_place : List ℕ → ℕ → Place
terminal_place name layover = record { name = name; terminal = name; class = []; layover = layover }

-- the byte `/`
abbrev pub slash : ℕ
slash = 47

-- a text has a `/`
abbrev pub has_slash : List ℕ → Bool
has_slash text = list_any (λ b. b == slash) text

-- rule: the name of a post
-- word: post = terminal of one vehicle type
-- the post of a terminal for a class, with the name TERMINAL/CLASS
abbrev pub post_place : List ℕ → List ℕ → ℕ → Place
post_place terminal class layover = record { name = terminal ++ slash ∷ class; terminal = terminal; class = class; layover = layover }

-- where vehicles are of classes a place is a post, whose class has no `/`; elsewhere it is a terminal
abbrev pub IsPostOrTerminal : Bool → Place → Type 0
IsPostOrTerminal true p = (p ≡ post_place p.terminal p.class p.layover) × (has_slash p.class ≡ false)
IsPostOrTerminal false p = p ≡ terminal_place p.name p.layover

-- a post or a terminal with a layover of at most four hours
pub record IsPlace (classed : Bool) (p : Place) : Type 0 where
  pub is : IsPostOrTerminal classed p
  pub layover : p.layover ≤ MOST_LAYOVER

-- the place of that number, and past the last one a place with no name
abbrev pub place_in : List Place → ℕ → Place
place_in places p = slice_index_or places p (terminal_place [] 0)

-- the class of the place of that number
unfoldable pub class_of : List Place → ℕ → List ℕ
class_of places p = (place_in places p).class
