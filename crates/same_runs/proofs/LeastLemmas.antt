-- Least blocks have one number and one sum of empty minutes.
use Rattle.std.proofs.Common.{◌≡◌, ℕ, List, length, sym, arith}
use Rattle.trip_model.specs.Blocking.{IsLeast, empty_minutes}
use Rattle.trip_model.specs.Network.{Network}

pub one-number : (network : Network) (one other : List (List ℕ)) → IsLeast network one → IsLeast network other → length one ≡ length other
one-number network one other least least' =
    let below = least.fewest.fewest other least'.fewest.blocking in
    let above = least'.fewest.fewest one least.fewest.blocking in
    omega (arith, below, above)

pub one-sum : (network : Network) (one other : List (List ℕ)) → IsLeast network one → IsLeast network other
    → empty_minutes network one ≡ empty_minutes network other
one-sum network one other least least' =
    let number = one-number network one other least least' in
    let below = least.shortest other least'.fewest.blocking (sym number) in
    let above = least'.shortest one least.fewest.blocking number in
    omega (arith, below, above)
