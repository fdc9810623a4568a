-- What the start of a trip tells of it, and what is saved along a walk to there.
use Rattle.std.proofs.Common.{◌≡◌, ℕ, ◌+◌, ◌-◌, ◌<◌, ◌≤◌, Option, None, Some, if◌then◌else◌, refl, sym, ap, ◌∙◌, arith}
use Rattle.std.proofs.lemmas.Bool.{le-leb, lt-leb}
use Rattle.deadhead_matrix.specs.Pulls.{pull_at}
use Rattle.pair_graph.specs.Pairs.{PairsView}
use Rattle.pair_graph.specs.Shares.{saved_along}
use Rattle.pair_graph.specs.declared.share.Share.{Share}
use Rattle.plan_choice.specs.Listing.{start_at, start_by}
use Rattle.plan_choice.specs.declared.start.Start.{Start}
use Rattle.trip_model.specs.Plain.{move_at}
use Rattle.trip_model.specs.declared.trip.Move.{Move}

-- the trip of a slot begins so
pub record IsBegun (pairs : PairsView) (s : ℕ) (start : Start) : Type 0 where
  pub move : Move
  pub made : move_at pairs.moves s ≡ Some move
  pub from : move.from ≡ start.place
  pub leaves : move.leaves ≡ start.leaves
  pub out : start.out ≡ (pull_at pairs.matrix.pulls start.place).pull_out

-- what leaves after minute 0 is a trip that runs
pub begun : (pairs : PairsView) (s : ℕ) (start : Start) → start ≡ start_at pairs s → 0 < start.leaves → IsBegun pairs s start
begun pairs s start is later = by (move_at pairs.moves s) refl
  where
    by : (m : Option Move) → move_at pairs.moves s ≡ m → IsBegun pairs s start
    by None none =
        let still = ap (λ (b : Start). b.leaves) (is ∙ ap (start_by pairs.matrix.pulls) none) in absurd (omega (arith, still, later))
    by (Some m) made =
        let begins = is ∙ ap (start_by pairs.matrix.pulls) made in
        record {
          move = m;
          made = made;
          from = sym (ap (λ (b : Start). b.place) begins);
          leaves = sym (ap (λ (b : Start). b.leaves) begins);
          out = ap (λ (b : Start). b.out) begins
              ∙ ap (λ place. (pull_at pairs.matrix.pulls place).pull_out) (sym (ap (λ (b : Start). b.place) begins));
        }

-- nothing is saved where a vehicle comes too late, and else the pulls and a vehicle less the walk
pub saved-late : (share : Share) (pull walk minute : ℕ) → minute < share.ready + walk → saved_along share pull (Some walk) minute ≡ None
saved-late share pull walk minute late =
    ap (λ test. if test then Some (share.saved + pull - walk) else None) (lt-leb (share.ready + walk) minute late)

pub saved-timely : (share : Share) (pull walk minute : ℕ) → share.ready + walk ≤ minute
    → saved_along share pull (Some walk) minute ≡ Some (share.saved + pull - walk)
saved-timely share pull walk minute timely =
    ap (λ test. if test then Some (share.saved + pull - walk) else None) (le-leb (share.ready + walk) minute timely)
