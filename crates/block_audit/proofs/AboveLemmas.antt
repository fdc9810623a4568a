-- What it says that blocks are above least ones, or not.
use Rattle.std.proofs.Common.{◌≡◌, ℕ, ◌-◌, ◌≤◌, Bool, true, false, nat_lt, List, length, if◌then◌else◌, refl, sym, arith}
use Rattle.std.proofs.lemmas.Bool.{ltb-true, ltb-false, le-ltb}
use Rattle.trip_model.specs.Blocking.{IsBlocking, IsLeast, empty_minutes}
use Rattle.trip_model.specs.Network.{Network}
use Rattle.block_audit.specs.declared.cost.Above.TheVariants.{Nothing, Vehicles, Minutes}
use Rattle.block_audit.specs.Laws.{standing, Says}

module _ (network : Network) (blocks least : List (List ℕ)) where
  -- blocks that cost as little as least ones are least
  as-good : IsBlocking network blocks → IsLeast network least → length blocks ≤ length least
      → empty_minutes network blocks ≤ empty_minutes network least → length blocks ≡ length least → IsLeast network blocks
  as-good are is few short count = record {
    fewest = record { blocking = are; fewest = λ others them. omega (arith, few, is.fewest.fewest others them) };
    shortest = λ others them same. omega (arith, short, is.shortest others them (omega (arith, same, count)));
  }

  pub says-standing : IsBlocking network blocks → IsLeast network least → Says network blocks least (standing network blocks least)
  says-standing are is = by-vehicles (nat_lt (length least) (length blocks)) refl
    where
      fewer : length least ≤ length blocks
      fewer = is.fewest.fewest blocks are

      by-minutes : (b : Bool) → nat_lt (empty_minutes network least) (empty_minutes network blocks) ≡ b → length blocks ≡ length least
          → Says network blocks least (if b then Minutes (empty_minutes network blocks - empty_minutes network least) else Nothing)
      by-minutes true e same =
          let above = ltb-true (empty_minutes network least) (empty_minutes network blocks) e in
          (omega (arith, above), same, omega (arith, above))
      by-minutes false e same =
          as-good are is (omega (arith, same)) (ltb-false (empty_minutes network least) (empty_minutes network blocks) e) same

      by-vehicles : (b : Bool) → nat_lt (length least) (length blocks) ≡ b
          → Says network blocks least (if b then Vehicles (length blocks - length least)
          else (if nat_lt (empty_minutes network least) (empty_minutes network blocks) then Minutes
          (empty_minutes network blocks - empty_minutes network least) else Nothing))
      by-vehicles true e =
          let above = ltb-true (length least) (length blocks) e in
          (omega (arith, above), omega (arith, above))
      by-vehicles false e =
          by-minutes (nat_lt (empty_minutes network least) (empty_minutes network blocks)) refl
          (omega (arith, fewer, ltb-false (length least) (length blocks) e))

  pub standing-least : IsLeast network blocks → IsLeast network least → standing network blocks least ≡ Nothing
  standing-least are is =
      let same : length blocks ≡ length least =
      omega (arith, are.fewest.fewest least is.fewest.blocking, is.fewest.fewest blocks are.fewest.blocking) in
      let vehicles = le-ltb (length least) (length blocks) (omega (arith, same)) in
      let minutes = le-ltb (empty_minutes network least) (empty_minutes network blocks)
      (are.shortest least is.fewest.blocking (sym same)) in
      λ i. if vehicles i then Vehicles (length blocks - length least)
      else (if minutes i then Minutes (empty_minutes network blocks - empty_minutes network least) else Nothing)
