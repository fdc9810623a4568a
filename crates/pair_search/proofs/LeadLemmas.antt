-- A row that stands at a post no sooner than another one weighs no more with any column. So it brings nothing nearer where it is
-- no nearer itself.
use Rattle.std.proofs.Common.{◌≡◌, ◌≢◌, ℕ, ◌+◌, ◌-◌, ◌<◌, ◌≤◌, nat_le, Bool, true, false, cond, List, length, set, replicate, Option}
use Rattle.std.proofs.Common.{None, Some, if◌then◌else◌, refl, sym, ap, subst, ◌∙◌, ⊎_elim, arith}
use Rattle.std.specs.Option.{option_map}
use Rattle.std.proofs.lemmas.Bool.{cases_eq, cases_lt, le-leb, lt-leb}
use Rattle.std.proofs.lemmas.List.{get_or-replicate, get_or_past, get_or-set_same, get_or-set_other, length-replicate}
use Rattle.std.proofs.lemmas.Option.{none-some, same_Some}
use Rattle.deadhead_matrix.specs.Fitting.{in_time, empty_between, home_after, out_before}
use Rattle.deadhead_matrix.specs.Matrix.{walk}
use Rattle.deadhead_matrix.specs.Pulls.{pull_at}
use Rattle.deadhead_matrix.specs.Fitting.{name_at}
use Rattle.deadhead_matrix.proofs.Ruled.{allowed-weight, fit-weight}
use Rattle.pair_rules.proofs.Allowed.{allows-unnamed_first, allows-unnamed_second}
use Rattle.assignment_model.specs.Prices.{weight}
use Rattle.pair_graph.specs.Pairs.{PairsView, is_ruled, walks_network}
use Rattle.trip_model.specs.Plain.{move_at, AreMoves}
use Rattle.trip_model.specs.declared.trip.Move.{Move}
use Rattle.pair_search.specs.declared.leads.Lead.{Lead}
use Rattle.pair_search.specs.declared.leads.Stand.{Stand}
use Rattle.pair_search.specs.Leads.{stand_of, lead_at, AreLed}
use Rattle.pair_search.specs.Search.{at, is_done, AreLooked, Columns}
use Rattle.pair_search.specs.Side.{SideView, side_slot, side_slots, side_weight, place_weight}
use Rattle.pair_search.proofs.FitLemmas.{idle}
use Rattle.pair_search.proofs.SideLemmas.{all_weights, IsWithout-side}

-- a row that stands nowhere makes no move
pub no-move : (turned : Bool) (o : Option Move) → None ≡ option_map (stand_of turned) o → o ≡ None
no-move turned None e = refl
no-move turned (Some m) e = absurd (none-some (stand_of turned m) e)

-- a row that stands somewhere makes a move
pub record IsMade (turned : Bool) (o : Option Move) (stand : Stand) : Type 0 where
  pub made : Move
  pub is : o ≡ Some made
  pub stands : stand_of turned made ≡ stand

pub a-move : (turned : Bool) (o : Option Move) (stand : Stand) → Some stand ≡ option_map (stand_of turned) o → IsMade turned o stand
a-move turned None stand e = absurd (none-some stand (sym e))
a-move turned (Some m) stand e = record { made = m; is = refl; stands = same_Some (stand_of turned m) stand (sym e) }

-- what is saved between two moves
abbrev saved : PairsView → Option Move → Option Move → Option ℕ
saved pairs a b = option_map (λ minutes. 67108864 + home_after pairs.matrix.pulls a + out_before pairs.matrix.pulls b - minutes)
    (empty_between (walk pairs.matrix) a b)

-- who is in time is in time also when it begins sooner, and when it is needed later
in-time-still : (late early minutes by after : ℕ) (f : ℕ → ℕ) (k : ℕ) → early ≤ late → by ≤ after
    → option_map f (cond (nat_le (late + minutes) by) (Some minutes) None) ≡ Some k
    → option_map f (cond (nat_le (early + minutes) after) (Some minutes) None) ≡ Some k
in-time-still late early minutes by after f k sooner later is = ⊎_elim
    (λ (misses : by < late + minutes). absurd (none-some k
    (sym (ap (λ b. option_map f (cond b (Some minutes) None)) (lt-leb (late + minutes) by misses)) ∙ is)))
    (λ (makes : late + minutes ≤ by).
    ap (λ b. option_map f (cond b (Some minutes) None)) (le-leb (early + minutes) after (omega (arith, makes, sooner, later)))
    ∙ sym (ap (λ b. option_map f (cond b (Some minutes) None)) (le-leb (late + minutes) by makes)) ∙ is)
    (cases_lt by (late + minutes))

-- the same of two moves with walks of the same length
in-time-moves : (a a' b b' : Move) (o : Option ℕ) (f : ℕ → ℕ) (k : ℕ) → a.arrives ≤ a'.arrives → b'.leaves ≤ b.leaves
    → option_map f (in_time a' b' o) ≡ Some k → option_map f (in_time a b o) ≡ Some k
in-time-moves a a' b b' None f k sooner later is = is
in-time-moves a a' b b' (Some minutes) f k sooner later is =
    in-time-still a'.arrives a.arrives minutes b'.leaves b.leaves f k sooner later is

-- a move that ends at the same place, no later, goes on to all that the other goes on to
leaves-sooner : (pairs : PairsView) (m m' : Move) (b : Option Move) (k : ℕ) → m'.to ≡ m.to → m.arrives ≤ m'.arrives
    → saved pairs (Some m') b ≡ Some k → saved pairs (Some m) b ≡ Some k
leaves-sooner pairs m m' None k there sooner is = is
leaves-sooner pairs m m' (Some n) k there sooner is =
    let out = (pull_at pairs.matrix.pulls n.from).pull_out in
    let f : ℕ → ℕ → ℕ = λ p minutes. 67108864 + (pull_at pairs.matrix.pulls p).pull_in + out - minutes in
    subst (λ p. option_map (f p) (in_time m n (walk pairs.matrix p n.from)) ≡ Some k) there
    (in-time-moves m m' n n (walk pairs.matrix m'.to n.from) (f m'.to) k sooner (omega arith) is)

-- a move that begins at the same place, no sooner, is reached by all that reach the other
enters-later : (pairs : PairsView) (m m' : Move) (a : Option Move) (k : ℕ) → m'.from ≡ m.from → m'.leaves ≤ m.leaves
    → saved pairs a (Some m') ≡ Some k → saved pairs a (Some m) ≡ Some k
enters-later pairs m m' None k here later is = is
enters-later pairs m m' (Some n) k here later is =
    let home = (pull_at pairs.matrix.pulls n.to).pull_in in
    let f : ℕ → ℕ → ℕ = λ p minutes. 67108864 + home + (pull_at pairs.matrix.pulls p).pull_out - minutes in
    subst (λ p. option_map (f p) (in_time n m (walk pairs.matrix n.to p)) ≡ Some k) here
    (in-time-moves n n m m' (walk pairs.matrix n.to m'.from) (f m'.from) k (omega arith) later is)

-- the weights of all pairs without the rules, from the side
abbrev walk_weights : PairsView → Bool → ℕ → ℕ → Option ℕ
walk_weights pairs turned i j = if turned then weight (walks_network pairs) j i else weight (walks_network pairs) i j

-- of two rows that stand at one post the one that is ready no later fits all that the other fits, and weighs the same
walks-as : (pairs : PairsView) (turned : Bool) (i i' j k : ℕ) (m m' : Move) → move_at pairs.moves i ≡ Some m
    → move_at pairs.moves i' ≡ Some m' → m'.leaves ≤ 8191
    → (stand_of turned m').post ≡ (stand_of turned m).post → (stand_of turned m).ready ≤ (stand_of turned m').ready
    → walk_weights pairs turned i' j ≡ Some k → walk_weights pairs turned i j ≡ Some k
walks-as pairs true i i' j k m m' is is' day here sooner w =
    subst (λ o. saved pairs (move_at pairs.moves j) o ≡ Some k) (sym is)
    (enters-later pairs m m' (move_at pairs.moves j) k here (omega (arith, sooner, day))
    (subst (λ o. saved pairs (move_at pairs.moves j) o ≡ Some k) is' w))
walks-as pairs false i i' j k m m' is is' day there sooner w =
    subst (λ o. saved pairs o (move_at pairs.moves j) ≡ Some k) (sym is)
    (leaves-sooner pairs m m' (move_at pairs.moves j) k there sooner
    (subst (λ o. saved pairs o (move_at pairs.moves j) ≡ Some k) is' w))

-- the same with the rules, where none names a row
weighs-as : (pairs : PairsView) (turned : Bool) (i i' j k : ℕ) → is_ruled pairs turned i ≡ false → is_ruled pairs turned i' ≡ false
    → (walk_weights pairs turned i' j ≡ Some k → walk_weights pairs turned i j ≡ Some k)
    → all_weights pairs turned i' j ≡ Some k → all_weights pairs turned i j ≡ Some k
weighs-as pairs true i i' j k free free' walks w =
    let rules = pairs.matrix.rules in
    let names = pairs.names in
    let fit = fit-weight rules names (walks_network pairs) j i' k w in
    allowed-weight rules names (walks_network pairs) j i
    (allows-unnamed_second rules (name_at names j) (name_at names i) free
    ∙ sym (allows-unnamed_second rules (name_at names j) (name_at names i') free') ∙ fit.0)
    ∙ walks fit.1
weighs-as pairs false i i' j k free free' walks w =
    let rules = pairs.matrix.rules in
    let names = pairs.names in
    let fit = fit-weight rules names (walks_network pairs) i' j k w in
    allowed-weight rules names (walks_network pairs) i j
    (allows-unnamed_first rules (name_at names i) (name_at names j) free
    ∙ sym (allows-unnamed_first rules (name_at names i') (name_at names j) free') ∙ fit.0)
    ∙ walks fit.1

-- the same where a column may be left out
side-weighs-as : (side : SideView) (i i' j k : ℕ) (m m' : Move) → is_ruled side.pairs side.turned i ≡ false
    → is_ruled side.pairs side.turned i' ≡ false → move_at side.pairs.moves i ≡ Some m
    → move_at side.pairs.moves i' ≡ Some m' → m'.leaves ≤ 8191
    → (stand_of side.turned m').post ≡ (stand_of side.turned m).post → (stand_of side.turned m).ready ≤ (stand_of side.turned m').ready
    → side_weight side i' j ≡ Some k → side_weight side i j ≡ Some k
side-weighs-as side i i' j k m m' free free' is is' day here sooner w =
    let without = IsWithout-side side in
    without.all i j k (λ left. none-some k (sym (without.none i' j left) ∙ w))
    (weighs-as side.pairs side.turned i i' j k free free'
    (walks-as side.pairs side.turned i i' j k m m' is is' day here sooner) (without.some i' j k w))

-- a row whose trip does not run weighs nothing
pub idle-row : (side : SideView) (i j : ℕ) → move_at side.pairs.moves i ≡ None → place_weight side i j ≡ None
idle-row side i j none = by (place_weight side i j) refl
  where
    slot : ℕ
    slot = side_slot side j

    nothing : (turned : Bool) (k : ℕ) → all_weights side.pairs turned i slot ≡ Some k → ⊥
    nothing true k e = none-some k (sym (idle side.pairs i slot none).1 ∙ e)
    nothing false k e = none-some k (sym (idle side.pairs i slot none).0 ∙ e)

    by : (o : Option ℕ) → place_weight side i j ≡ o → place_weight side i j ≡ None
    by None e = e
    by (Some k) e = absurd (nothing side.turned k ((IsWithout-side side).some i slot k e))

-- leads stay where columns come nearer and more of them are done
pub AreLed-nearer : (side : SideView) (enter : List ℕ) (done done' : List Bool) (dist dist' : List ℕ) (leads : List Lead)
    → ((j : ℕ) → at dist' j ≤ at dist j) → ((j : ℕ) → is_done done' j ≡ false → is_done done j ≡ false)
    → AreLed side enter done dist leads → AreLed side enter done' dist' leads
AreLed-nearer side enter done done' dist dist' leads nearer more led = λ i j k m free is ready lt undone w.
    omega (arith, led i j k m free is ready lt (more j undone) w, nearer j)

-- before a search no row is led
pub AreLed-none : (side : SideView) (enter : List ℕ) (done : List Bool) (dist : List ℕ) (leads : List Lead) (posts : ℕ)
    → AreMoves (length side.pairs.matrix.walks) side.pairs.moves → leads ≡ replicate posts (record { ready = 65535; start = 0 })
    → AreLed side enter done dist leads
AreLed-none side enter done dist leads posts are none = λ i j k m free is ready lt undone w.
    let move = are.each i m is in
    absurd (omega (
      arith,
      ready,
      unled (stand_of side.turned m).post,
      in-day side.turned m (omega (arith, move.forward, move.in_day)) move.in_day,
    ))
  where
    unled : (p : ℕ) → (lead_at leads p).ready ≡ 65535
    unled p = ap (λ ls. (lead_at ls p).ready) none ∙ ⊎_elim
        (λ (lt : p < posts). ap (λ (l : Lead). l.ready)
        (get_or-replicate posts p (record { ready = 65535; start = 0 }) (record { ready = 65535; start = 0 }) lt))
        (λ (past : posts ≤ p). ap (λ (l : Lead). l.ready)
        (get_or_past (replicate posts (record { ready = 65535; start = 0 })) p (record { ready = 65535; start = 0 })
        (omega (arith, past, length-replicate {A = Lead} posts (record { ready = 65535; start = 0 })))))
        (cases_lt p posts)

    in-day : (turned : Bool) (m : Move) → m.leaves ≤ 8191 → m.arrives ≤ 8191 → (stand_of turned m).ready ≤ 8191
    in-day true m leaves arrives = omega arith
    in-day false m leaves arrives = arrives

-- a row from which all columns were looked at leads those that stand at its post no sooner
pub AreLed-more : (side : SideView) (enter : List ℕ) (was now : Columns) (leads : List Lead) (row from start : ℕ) (made : Move)
    → AreMoves (length side.pairs.matrix.walks) side.pairs.moves → is_ruled side.pairs side.turned row ≡ false
    → move_at side.pairs.moves row ≡ Some made
    → (stand_of side.turned made).post < length leads
    → AreLooked (place_weight side row) (side_slots side) from start enter was now
    → AreLed side enter now.done now.dist leads
    → AreLed side enter now.done now.dist
    (set leads (stand_of side.turned made).post (record { ready = (stand_of side.turned made).ready; start = start }))
AreLed-more side enter was now leads row from start made are plain made-is within looked led = λ i j k m free is. ⊎_elim
    (λ (here : (stand_of side.turned m).post ≡ post) ready lt undone w.
    let move = are.each i m is in
    let same = at-post here in
    omega (
      arith,
      ap (λ (l : Lead). l.start) same,
      looked.covered j k lt (ap (λ xs. is_done xs j) (sym looked.done) ∙ undone)
          (side-weighs-as side row i (side_slot side j) k made m plain free made-is is (omega (arith, move.forward, move.in_day)) here
          (omega (arith, ready, ap (λ (l : Lead). l.ready) same)) w),
    ))
    (λ (elsewhere : (stand_of side.turned m).post ≢ post) ready lt undone w.
    let same = at-other elsewhere in
    omega (
      arith,
      ap (λ (l : Lead). l.start) same,
      led i j k m free is (omega (arith, ready, ap (λ (l : Lead). l.ready) same)) lt undone w,
    ))
    (cases_eq (stand_of side.turned m).post post)
  where
    post : ℕ
    post = (stand_of side.turned made).post

    led-now : List Lead
    led-now = set leads post (record { ready = (stand_of side.turned made).ready; start = start })

    at-post : {p : ℕ} → p ≡ post → lead_at led-now p ≡ record { ready = (stand_of side.turned made).ready; start = start }
    at-post {p} here = ap (lead_at led-now) here
        ∙ get_or-set_same leads post (record { ready = (stand_of side.turned made).ready; start = start })
        (record { ready = 65535; start = 0 }) within

    at-other : {p : ℕ} → p ≢ post → lead_at led-now p ≡ lead_at leads p
    at-other {p} elsewhere = get_or-set_other leads post p (record { ready = (stand_of side.turned made).ready; start = start })
        (record { ready = 65535; start = 0 }) elsewhere
