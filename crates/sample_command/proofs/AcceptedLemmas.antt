-- The verdict on what is written of a plan, as it is read.
use Rattle.std.proofs.Common.{◌≡◌, ℕ, List, length, Result, Ok, Err, sym, ap, subst, ◌∙◌}
use Rattle.trip_model.specs.Blocking.{empty_minutes}
use Rattle.trip_model.specs.Timetable.{TimetableView}
use Rattle.deadhead_matrix.specs.Matrix.{MatrixView}
use Rattle.deadhead_matrix.specs.Fitting.{network_of}
use Rattle.price_check.specs.declared.verdict.Reason.{Reason}
use Rattle.price_check.specs.declared.verdict.Verdict.{Verdict}
use Rattle.price_check.specs.declared.verdict.Verdict.TheVariants.{Yes, No}
use Rattle.price_check.specs.Claim.{ClaimedView}
use Rattle.price_check.specs.Reasons.{verdict_of}
use Rattle.claim_files.specs.declared.fault.ClaimFault.{ClaimFault}
use Rattle.claim_files.specs.Written.{IsAccepted, written}

abbrev or_given : ClaimedView → Result ClaimedView ClaimFault → ClaimedView
or_given claimed (Ok read) = read
or_given claimed (Err fault) = claimed

-- what was read is what is accepted, so the verdict on it is yes
pub verdict-yes : (timetable : TimetableView) (matrix : MatrixView) (names blocks : List (List ℕ)) (leave enter : List ℕ)
    (claimed : ClaimedView)
    → IsAccepted timetable matrix names blocks leave enter → written timetable matrix names blocks leave enter ≡ Ok claimed
    → verdict_of timetable matrix claimed ≡ Yes (length blocks) (empty_minutes (network_of timetable matrix) blocks)
verdict-yes timetable matrix names blocks leave enter claimed accepted read =
    ap (verdict_of timetable matrix) (ap (or_given claimed) (sym read ∙ accepted.1)) ∙ accepted.2

abbrev vehicles_of : Verdict → ℕ
vehicles_of (Yes vehicles minutes) = vehicles
vehicles_of (No reason) = 0

abbrev minutes_of : Verdict → ℕ
minutes_of (Yes vehicles minutes) = minutes
minutes_of (No reason) = 0

pub same-vehicles : (v m w n : ℕ) → Yes v m ≡ Yes w n → v ≡ w
same-vehicles v m w n same = ap vehicles_of same

pub same-minutes : (v m w n : ℕ) → Yes v m ≡ Yes w n → m ≡ n
same-minutes v m w n same = ap minutes_of same

abbrev IsNo : Verdict → Type 0
IsNo (Yes vehicles minutes) = ⊥
IsNo (No reason) = Unit {0}

pub not-no : (reason : Reason) (v m : ℕ) → No reason ≡ Yes v m → ⊥
not-no reason v m same = subst IsNo same tt
