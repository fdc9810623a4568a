-- The chains that lower the sum of the maxima one after the other are determined by the moves and by the matrix.
use Rattle.std.proofs.Common.{◌≡◌, ℕ, suc, ◌+◌, ◌<◌, List, [], ◌∷◌, ◌++◌, length, get_or, ℤ, refl, sym, ap, subst, ◌∙◌, inl, inr, ⊎_elim}
use Rattle.std.proofs.Common.{arith}
use Rattle.std.specs.Prelude.{codes}
use Rattle.std.specs.Fmt.{decimal}
use Rattle.std.proofs.lemmas.Bool.{cases_lt}
use Rattle.std.proofs.lemmas.Int.{ints}
use Rattle.std.proofs.lemmas.Option.{same_Some}
use Rattle.trip_model.specs.declared.trip.Move.{Move}
use Rattle.trip_model.specs.Deficit.{deficit}
use Rattle.trip_model.specs.Maximum.{first_maximum}
use Rattle.trip_model.specs.Timetable.{TimetableView}
use Rattle.deadhead_matrix.specs.Matrix.{MatrixView}
use Rattle.deficit_steps.specs.NextMaximum.{IsNextMaximum}
use Rattle.dh_chains.specs.declared.chain.Chain.{Chain}
use Rattle.dh_chains.specs.declared.chain.Deadhead.{Deadhead}
use Rattle.dh_chains.specs.Chains.{GoesOn, IsBefore, IsDeadhead, IsFirstChain, Places, deadheads, following, left, moves_of, places_with}
use Rattle.dh_chains.specs.Chains.{route}
use Rattle.dh_chains.specs.Lines.{deadhead_text, further_text, chain_text}
use Rattle.lowering_commands.specs.Chains.{AreChains, chains_text, with_chain}
use Rattle.lowering_commands.specs.Fleet.{fleet_of}

-- two lists of places of which none comes first are one
one-route : (ps qs : List ℕ) → (IsBefore ps qs → ⊥) → (IsBefore qs ps → ⊥) → ps ≡ qs
one-route [] [] below above = refl
one-route [] (q ∷ qs) below above = absurd (below tt)
one-route (p ∷ ps) [] below above = absurd (above tt)
one-route (p ∷ ps) (q ∷ qs) below above =
    let first : p ≡ q = ⊎_elim (λ (less : p < q). absurd (below (inl less)))
    (λ more. ⊎_elim (λ (less : q < p). absurd (above (inl less))) (λ rest. omega (arith, more, rest)) (cases_lt q p)) (cases_lt p q) in
    let rest = one-route ps qs (λ before. below (inr (first, before))) (λ before. above (inr (sym first, before))) in
    λ i. first i ∷ rest i

head-same : (p q : ℕ) (ps qs : List ℕ) → p ∷ ps ≡ q ∷ qs → p ≡ q
head-same p q ps qs e = ap first e
  where
    first : List ℕ → ℕ
    first [] = 0
    first (x ∷ xs) = x

tail-same : (p q : ℕ) (ps qs : List ℕ) → p ∷ ps ≡ q ∷ qs → ps ≡ qs
tail-same p q ps qs e = ap rest e
  where
    rest : List ℕ → List ℕ
    rest [] = []
    rest (x ∷ xs) = xs

none-before : (p : ℕ) (ps : List ℕ) → [] ≡ p ∷ ps → ⊥
none-before p ps e = let count : ◌≡◌ {A = ℕ} (length {A = ℕ} []) (length (p ∷ ps)) = ap length e in omega (arith, count)

-- a next maximum is at one minute
one-next : (d : ℕ → ℤ) (from at other : ℕ) → IsNextMaximum d from at → IsNextMaximum d from other → at ≡ other
one-next d from at other is is' = ⊎_elim
    (λ (less : at < other). let low = is'.first at is.not_before less in absurd (omega (arith, ints, low, is.reached)))
    (λ more. ⊎_elim (λ (less : other < at). let low = is.first other is'.not_before less in absurd (omega (arith, ints, low, is'.reached)))
    (λ rest. omega (arith, more, rest)) (cases_lt other at))
    (cases_lt at other)

module _ (places : Places) where
  -- a deadhead is known by its two places and by when it arrives
  one-deadhead : (m n : Deadhead) → IsDeadhead places m → IsDeadhead places n → m.from ≡ n.from → m.to ≡ n.to → m.arrives ≡ n.arrives
      → m ≡ n
  one-deadhead m n is is' from to arrives =
      let minutes : is.minutes ≡ is'.minutes =
      same_Some is.minutes is'.minutes (sym is.walk ∙ (λ i. places.walk (from i) (to i)) ∙ is'.walk) in
      let leaves : m.leaves ≡ n.leaves = omega (arith, is.leaves, is'.leaves, minutes, arrives) in
      λ i. record { from = from i; to = to i; leaves = leaves i; arrives = arrives i }

  -- and so are those that follow it, by the places that they leave
  one-rest : (last : Deadhead) (ms ns : List Deadhead) → ((m : Deadhead) (k : ℕ) → k < length ms → IsDeadhead places (get_or ms k m))
      → ((m : Deadhead) (k : ℕ) → k < length ns → IsDeadhead places (get_or ns k m))
      → GoesOn places last ms → GoesOn places last ns → left ms ≡ left ns → ms ≡ ns
  one-rest last [] [] are are' on on' same = refl
  one-rest last [] (n ∷ ns) are are' on on' same = absurd (none-before n.from (left ns) same)
  one-rest last (m ∷ ms) [] are are' on on' same = absurd (none-before m.from (left ms) (sym same))
  one-rest last (m ∷ ms) (n ∷ ns) are are' on on' same =
      let first : m ≡ n = one-deadhead m n (are m 0 (omega arith)) (are' n 0 (omega arith))
      (head-same m.from n.from (left ms) (left ns) same) (on.0 ∙ sym on'.0)
      (one-next (places.deficit last.from) last.leaves m.arrives n.arrives on.1 on'.1) in
      let rest = one-rest m ms ns (λ d k h. are d (suc k) (omega (arith, h))) (λ d k h. are' d (suc k) (omega (arith, h))) on.2
      (subst (λ x. GoesOn places x ns) (sym first) on'.2)
      (tail-same m.from n.from (left ms) (left ns) same) in
      λ i. first i ∷ rest i

  -- two first chains are one
  one-chain : (m n : Deadhead) (ms ns : List Deadhead) → IsFirstChain places m ms → IsFirstChain places n ns → m ∷ ms ≡ n ∷ ns
  one-chain m n ms ns is is' =
      let way : route m ms ≡ route n ns =
      one-route (route m ms) (route n ns) (λ before. is'.least m ms is.chain before) (λ before. is.least n ns is'.chain before) in
      let to : m.to ≡ n.to = head-same m.to n.to (left (m ∷ ms)) (left (n ∷ ns)) way in
      let lefts : left (m ∷ ms) ≡ left (n ∷ ns) = tail-same m.to n.to (left (m ∷ ms)) (left (n ∷ ns)) way in
      let arrives : m.arrives ≡ n.arrives = is.chain.in_time ∙ ap (λ p. (first_maximum (places.deficit p)).1) to ∙ sym is'.chain.in_time in
      let first : m ≡ n = one-deadhead m n (is.chain.deadheads 0 m (omega arith)) (is'.chain.deadheads 0 n (omega arith))
      (head-same m.from n.from (left ms) (left ns) lefts) to arrives in
      let rest = one-rest m ms ns (λ d k h. is.chain.deadheads (suc k) d (omega (arith, h)))
      (λ d k h. is'.chain.deadheads (suc k) d (omega (arith, h)))
      is.chain.goes_on (subst (λ x. GoesOn places x ns) (sym first) is'.chain.goes_on)
      (tail-same m.from n.from (left ms) (left ns) lefts) in
      λ i. first i ∷ rest i

-- the line of a chain, by its deadheads
line : TimetableView → ℕ → ℕ → List Deadhead → List ℕ
line timetable number sum [] = []
line timetable number sum (m ∷ ms) =
    codes "chain " ++ decimal number ++ codes ": " ++ deadhead_text timetable m ++ further_text timetable ms ++ codes ", sum "
    ++ decimal sum ++ 10 ∷ []

same-line : (timetable : TimetableView) (number sum : ℕ) (c d : Chain) → deadheads c ≡ deadheads d
    → chain_text timetable number c sum ≡ chain_text timetable number d sum
unfolding chain_text line
same-line timetable number sum c d same = ap (line timetable number sum) same

pub one-text : (timetable : TimetableView) (matrix : MatrixView) (moves : List Move) (before : ℕ) (cs ds : List Chain)
    → AreChains matrix moves cs → AreChains matrix moves ds
    → chains_text timetable moves before cs ≡ chains_text timetable moves before ds
one-text timetable matrix moves before [] [] none none' = refl
one-text timetable matrix moves before [] (d ∷ ds) none are = absurd (none d.first (following d.second d.third) are.0.first.chain)
one-text timetable matrix moves before (c ∷ cs) [] are none = absurd (none c.first (following c.second c.third) are.0.first.chain)
one-text timetable matrix moves before (c ∷ cs) (d ∷ ds) are are' =
    let places = places_with (deficit moves) matrix in
    let same : deadheads c ≡ deadheads d =
    one-chain places c.first d.first (following c.second c.third) (following d.second d.third) are.0.first are'.0.first in
    let more : with_chain moves c ≡ with_chain moves d = ap (λ ms. moves ++ moves_of ms) same in
    let rest = one-text timetable matrix (with_chain moves c) (before + 1) cs ds are.1
    (subst (λ all. AreChains matrix all ds) (sym more) are'.1) in
    let sum : List Move → ℕ = fleet_of (length timetable.places) in
    (λ i. chain_text timetable (before + 1) c (sum (more i)) ++ chains_text timetable (with_chain moves c) (before + 1) cs)
    ∙ ap (λ text. text ++ chains_text timetable (with_chain moves c) (before + 1) cs)
    (same-line timetable (before + 1) (sum (with_chain moves d)) c d same)
    ∙ ap (λ text. chain_text timetable (before + 1) d (sum (with_chain moves d)) ++ text) rest
    ∙ ap (λ all. chain_text timetable (before + 1) d (sum (with_chain moves d)) ++ chains_text timetable all (before + 1) ds) more
