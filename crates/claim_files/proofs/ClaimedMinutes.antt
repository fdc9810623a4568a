-- The rows of written blocks show the empty minutes before their trips, which are few.
use Rattle.std.proofs.Common.{◌≡◌, ℕ, zero, suc, ◌+◌, ◌<◌, ◌≤◌, cond, true, false, List, [], ◌∷◌, ◌++◌, length, Option, None}
use Rattle.std.proofs.Common.{Some, refl, sym, ap, subst, ◌∙◌, arith}
use Rattle.std.specs.Prelude.{⊤, unwrap_or}
use Rattle.std.specs.List.{AllByRecursion}
use Rattle.std.proofs.lemmas.Option.{same_Some}
use Rattle.deadhead_matrix.specs.Fitting.{out_before, network_of}
use Rattle.deadhead_matrix.specs.Matrix.{MatrixView}
use Rattle.assignment_model.specs.Prices.{IsDay}
use Rattle.assignment_model.proofs.Duality.{fitting}
use Rattle.price_check.specs.declared.claim.BlockRow.{BlockRow}
use Rattle.price_check.specs.Claim.{begin_with, block_row}
use Rattle.price_check.specs.Certificate.{AreShown}
use Rattle.price_check.specs.Reasons.{minutes_before}
use Rattle.price_check.proofs.ChainLemmas.{before_at, before_at-more, before_at-none, before_rest}
use Rattle.trip_model.specs.Blocking.{Follow}
use Rattle.trip_model.specs.Network.{Network, Fits}
use Rattle.trip_model.specs.Plain.{move_at, trip_moves}
use Rattle.trip_model.specs.Timetable.{TimetableView, slot_at}
use Rattle.trip_model.specs.Trip.{move_of}
use Rattle.trip_model.proofs.OrderLemmas.{slot-live, slot-move}
use Rattle.block_build.proofs.FitWalk.{fits-walk}
use Rattle.claim_files.proofs.ChainRows.{IsChain, chain, minutes, row, rows_on, later-block, same-block}

-- the move of a slot that runs
moving : (t : TimetableView) (m : MatrixView) (s : ℕ) → (network_of t m).live s ≡ true
    → move_at (trip_moves t.slots) s ≡ Some (move_of (slot_at t s).trip)
moving t m s live = slot-move t s ∙ ap (λ b. cond b (Some (move_of (slot_at t s).trip)) None) (sym (slot-live t s) ∙ live)

-- a trip may follow on the one before it, or begin a block
abbrev pub Follows : Network → Option ℕ → ℕ → Type 0
Follows network None s = network.live s ≡ true
Follows network (Some i) s = Fits network i s

-- the empty minutes that are written are those of the network
pub minutes-same : (t : TimetableView) (m : MatrixView) (before : Option ℕ) (s : ℕ) → Follows (network_of t m) before s
    → minutes t m before s ≡ minutes_before (network_of t m) before s
minutes-same t m None s live = sym (ap (out_before m.pulls) (moving t m s live))
minutes-same t m (Some i) s fits = ap (λ found. unwrap_or found 0) (sym (fits-walk t m i s fits))

-- and at most those of a day
pub minutes-few : (network : Network) (slots : ℕ) (before : Option ℕ) (s : ℕ) → IsDay network slots → Follows network before s
    → minutes_before network before s ≤ 8191
minutes-few network slots None s day live = omega (arith, day.out s)
minutes-few network slots (Some i) s day fits =
    let walk = fitting network i s fits in
    let same : minutes_before network (Some i) s ≡ walk.0 = ap (λ found. unwrap_or found 0) walk.1 in
    omega (arith, same, day.walks i s walk.0 walk.1)

-- records show the empty minutes, the first after a slot or none
ShownFrom : Network → Option ℕ → List BlockRow → Type 0
ShownFrom network before [] = ⊤
ShownFrom network before (r ∷ rows) = ((s : ℕ) → r.slot ≡ Some s → r.deadhead ≡ minutes_before network before s)
    × ShownFrom network (before_rest r rows) rows

shown-at : (network : Network) (before : Option ℕ) (rows : List BlockRow) → ShownFrom network before rows → (at s : ℕ) → at < length rows
    → (block_row rows at).slot ≡ Some s
    → (block_row rows at).deadhead ≡ minutes_before network (before_at before rows at) s
unfolding ShownFrom
shown-at network before [] shown at s lt is = absurd (omega arith)
shown-at network before (r ∷ rows) shown zero s lt is = shown.0 s is
shown-at network before (r ∷ rows) shown (suc at) s lt is =
    shown-at network (before_rest r rows) rows shown.1 at s (omega (arith, lt)) is
    ∙ ap (λ b. minutes_before network b s) (sym (before_at-more before r rows at (omega (arith, lt))))

-- before the rows of a later block stands no trip
before-later : (r : BlockRow) (rest : List BlockRow) → begin_with rest r.block ≡ false → before_rest r rest ≡ None
before-later r [] apart = refl
before-later r (q ∷ rest) apart = ap (λ joins. cond joins r.slot None) apart

module _ (t : TimetableView) (m : MatrixView) where
  shown-row : (k : ℕ) (before : Option ℕ) (i : ℕ) → Follows (network_of t m) before i → (s : ℕ) → (row t m k before i).slot ≡ Some s
      → (row t m k before i).deadhead ≡ minutes_before (network_of t m) before s
  shown-row k before i follows s is = minutes-same t m before i follows
      ∙ ap (minutes_before (network_of t m) before) (same_Some i s is)

  chain-shown : (k : ℕ) (before : Option ℕ) (i : ℕ) (js : List ℕ) (rest : List BlockRow) → begin_with rest k ≡ false
      → Follows (network_of t m) before i → Follow (network_of t m) i js
      → ShownFrom (network_of t m) None rest → ShownFrom (network_of t m) before (chain t m k before (i ∷ js) ++ rest)
  unfolding ShownFrom
  chain-shown k before i [] rest apart here along later =
      (shown-row k before i here, subst (λ b. ShownFrom (network_of t m) b rest) (sym (before-later (row t m k before i) rest apart)) later)
  chain-shown k before i (j ∷ js) rest apart here along later =
      let rows = chain t m k (Some i) (j ∷ js) ++ rest in
      let joined : before_rest (row t m k before i) rows ≡ Some i = ap (λ joins. cond joins (Some i) None) (same-block t m k) in (
        shown-row k before i here,
        subst (λ b. ShownFrom (network_of t m) b rows) (sym joined)
            (chain-shown k (Some i) j js rest apart along.0 along.1 later),
      )

  -- a block whose first trip runs
  abbrev pub Begins : List ℕ → Type 0
  Begins [] = ⊥
  Begins (i ∷ js) = ((network_of t m).live i ≡ true) × Follow (network_of t m) i js

  rows-shown : (links : List (Option ℕ)) (k : ℕ) (blocks : List (List ℕ)) → AllByRecursion (IsChain links) blocks
      → AllByRecursion Begins blocks → ShownFrom (network_of t m) None (rows_on t m k blocks)
  unfolding ShownFrom
  rows-shown links k [] are begin = tt
  rows-shown links k ([] ∷ blocks) are begin = absurd are.0
  rows-shown links k ((i ∷ js) ∷ blocks) are begin =
      chain-shown k None i js (rows_on t m (k + 1) blocks) (later-block t m links k blocks are.1) begin.0.0 begin.0.1
      (rows-shown links (k + 1) blocks are.1 begin.1)

  -- each row shows the empty minutes before its trip
  pub shown-claimed : (links : List (Option ℕ)) (blocks : List (List ℕ)) → AllByRecursion (IsChain links) blocks
      → AllByRecursion Begins blocks → AreShown (network_of t m) (rows_on t m 0 blocks)
  shown-claimed links blocks are begin = λ at s lt is.
      shown-at (network_of t m) None (rows_on t m 0 blocks) (rows-shown links 0 blocks are begin) at s lt is
      ∙ ap (λ b. minutes_before (network_of t m) b s) (before_at-none (rows_on t m 0 blocks) at)

  -- the rows of a block show few minutes
  pub chain-few : (slots k : ℕ) (before : Option ℕ) (i : ℕ) (js : List ℕ) → IsDay (network_of t m) slots
      → Follows (network_of t m) before i → Follow (network_of t m) i js
      → AllByRecursion (λ (r : BlockRow). r.deadhead ≤ 8191) (chain t m k before (i ∷ js))
  chain-few slots k before i [] day here along =
      (omega (arith, minutes-same t m before i here, minutes-few (network_of t m) slots before i day here), tt)
  chain-few slots k before i (j ∷ js) day here along = (
    omega (arith, minutes-same t m before i here, minutes-few (network_of t m) slots before i day here),
    chain-few slots k
        (Some i) j js day along.0 along.1,
  )
