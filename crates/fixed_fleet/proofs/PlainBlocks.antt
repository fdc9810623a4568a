-- The theorem of blocks without deadheads: the fewest number the sum of the maxima.
use Rattle.std.proofs.Common.{◌≡◌, ℕ, suc, zero, ◌+◌, ◌<◌, List, [], ◌∷◌, length, map, fold, replicate, All, ℤ, pos, ◌+ℤ◌, ◌≤ℤ◌, Option}
use Rattle.std.proofs.Common.{None, Some, refl, ap, subst, ◌∙◌, arith}
use lib.IntN.{negsuc}
use Rattle.std.proofs.lemmas.Int.{ints}
use Rattle.std.proofs.lemmas.List.Elements.{All-nil, All-cons, All-head, All-tail}
use Rattle.std.proofs.lemmas.Option.{none-some, same_Some}
use Rattle.trip_model.specs.declared.trip.Move.{Move}
use Rattle.trip_model.specs.Blocking.{IsBlocking, IsFewest}
use Rattle.trip_model.specs.Deficit.{deficit}
use Rattle.trip_model.specs.Links.{AreLinks, link_count, blocks_along}
use Rattle.trip_model.specs.Maximum.{first_maximum, sum_of_maxima}
use Rattle.trip_model.specs.Order.{by_departure}
use Rattle.trip_model.specs.Plain.{move_at, made, plain_network, IsMove, AreMoves}
use Rattle.trip_model.proofs.Counting.{sum_below}
use Rattle.trip_model.proofs.MaximumLemmas.{deficit-maximum}
use Rattle.fixed_fleet.specs.Rule.{forerunner, with_link, first_in_first_out}
use Rattle.fixed_fleet.proofs.LeastNumber.{AreMaxima, sum-of-maxima, sum-le-blocks}
use Rattle.fixed_fleet.proofs.FirstInFirstOut.{AreLinks-fifo, blocks-fifo}

-- a whole number that is not below 0, as a natural one
natural : ℤ → ℕ
natural (pos n) = n
natural (negsuc n) = 0

pos-natural : (z : ℤ) → pos 0 ≤ℤ z → pos (natural z) ≡ z
unfolding natural
pos-natural (pos n) h = refl
pos-natural (negsuc n) h = absurd (omega (arith, ints))

-- the moves that are made leave before they arrive
forward : (places : ℕ) (moves : List (Option Move)) → AreMoves places moves → All (λ m. m.leaves < m.arrives) (made moves)
forward places [] are = All-nil (λ (m : Move). m.leaves < m.arrives)
forward places (None ∷ moves) are = forward places moves (record { each = λ s m e. are.each (suc s) m e })
forward places (Some m ∷ moves) are =
    All-cons (λ (m : Move). m.leaves < m.arrives) m (made moves) (are.each 0 m refl).forward
    (forward places moves (record { each = λ s m e. are.each (suc s) m e }))

-- the maxima of the deficits of moves
maxima : List Move → ℕ → ℕ
maxima moves k = natural (first_maximum (deficit moves k)).0

AreMaxima-maxima : (places : ℕ) (moves : List (Option Move)) → AreMoves places moves → AreMaxima (made moves) (maxima (made moves))
unfolding maxima
AreMaxima-maxima places moves are = record {
  is = λ k. pos-natural (first_maximum (deficit (made moves) k)).0 (deficit-maximum (made moves) k (forward places moves are));
}

-- no blocking has fewer blocks
pub maxima-le-blocks : (places : ℕ) (moves : List (Option Move)) (blocks : List (List ℕ)) → AreMoves places moves
    → IsBlocking (plain_network moves) blocks
    → sum_of_maxima (deficit (made moves)) places ≤ℤ pos (length blocks)
maxima-le-blocks places moves blocks are blocking =
    let high = AreMaxima-maxima places moves are in
    let few = sum-le-blocks places moves (maxima (made moves)) blocks high blocking in
    subst (λ z. z ≤ℤ pos (length blocks)) (sum-of-maxima (made moves) (maxima (made moves)) high places) (omega (arith, ints))

-- the blocks of the rule are as many, and no fewer are
pub IsFewest-fifo : (places : ℕ) (moves : List (Option Move)) → AreMoves places moves
    → IsFewest (plain_network moves) (blocks_along (first_in_first_out moves) (by_departure moves))
    × (pos (length (blocks_along (first_in_first_out moves) (by_departure moves))) ≡ sum_of_maxima (deficit (made moves)) places)
IsFewest-fifo places moves are =
    let high = AreMaxima-maxima places moves are in
    let blocks = blocks-fifo places moves (maxima (made moves)) are high in (
      record {
        blocking = blocks.0;
        fewest = λ others blocking. omega (arith, blocks.1, sum-le-blocks places moves (maxima (made moves)) others high blocking);
      },
      ap pos blocks.1 ∙ sum-of-maxima (made moves) (maxima (made moves)) high places,
    )

pub links-fifo : (places : ℕ) (moves : List (Option Move)) → AreMoves places moves
    → AreLinks (plain_network moves) (first_in_first_out moves)
links-fifo places moves are = AreLinks-fifo places moves (maxima (made moves)) are (AreMaxima-maxima places moves are)

-- the trips are as many as the links and the sum of the maxima
pub trips-fifo : (places : ℕ) (moves : List (Option Move)) → AreMoves places moves
    → pos (length (by_departure moves)) ≡ (pos (link_count (first_in_first_out moves)) +ℤ sum_of_maxima (deficit (made moves)) places)
trips-fifo places moves are =
    let high = AreMaxima-maxima places moves are in
    let blocks = blocks-fifo places moves (maxima (made moves)) are high in
    sum (sum_below (maxima (made moves)) places) (link_count (first_in_first_out moves)) (length (by_departure moves))
    (omega (arith, blocks.1, blocks.2))
    ∙ ap (λ z. pos (link_count (first_in_first_out moves)) +ℤ z) (sum-of-maxima (made moves) (maxima (made moves)) high places)
  where
    sum : (a b c : ℕ) → a + b ≡ c → pos c ≡ (pos b +ℤ pos a)
    sum a b c e = omega (arith, ints)

-- any list of moves
made-all : (moves : List Move) → made (map Some moves) ≡ moves
made-all [] = refl
made-all (m ∷ moves) = ap (λ ms. m ∷ ms) (made-all moves)

are-all : (places : ℕ) (moves : List Move) → All (IsMove places) moves → AreMoves places (map Some moves)
are-all places [] all = record { each = λ s m e. absurd (none-some m e) }
are-all places (n ∷ moves) all = record { each = by (are-all places moves (All-tail (IsMove places) n moves all)) }
  where
    by : AreMoves places (map Some moves) → (s : ℕ) (m : Move) → move_at (map Some (n ∷ moves)) s ≡ Some m → IsMove places m
    by rest zero m e = subst (IsMove places) (same_Some n m e) (All-head (IsMove places) n moves all)
    by rest (suc s) m e = rest.each s m e

pub plain_blocks : (places : ℕ) (moves : List Move) → All (IsMove places) moves
    → (blocks : List (List ℕ)) × IsFewest (plain_network (map Some moves)) blocks
    × (pos (length blocks) ≡ sum_of_maxima (deficit moves) places)
plain_blocks places moves all =
    let fifo = IsFewest-fifo places (map Some moves) (are-all places moves all) in (
      blocks_along (first_in_first_out (map Some moves)) (by_departure (map Some moves)),
      fifo.0,
      fifo.1 ∙ ap (λ ms. sum_of_maxima (deficit ms) places) (made-all moves),
    )

-- the links that are made slot by slot in the order of departure
pub fifo-from_order : (moves : List (Option Move)) (order : List ℕ) → order ≡ by_departure moves
    → fold (λ links j. with_link links (forerunner moves links j) j) (replicate (length moves) None) order ≡ first_in_first_out moves
unfolding first_in_first_out
fifo-from_order moves order is = ap (fold (λ links j. with_link links (forerunner moves links j) j) (replicate (length moves) None)) is
