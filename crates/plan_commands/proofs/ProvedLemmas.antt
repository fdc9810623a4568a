-- What the laws of certificates say of the two files of a claim.
use Rattle.std.proofs.Common.{◌≡◌, ◌≤◌, length, None, Ok}
use Rattle.std.specs.Prelude.{All}
use Rattle.desk_io.specs.declared.shelf.Found.{Found}
use Rattle.trip_model.specs.Blocking.{IsLeast}
use Rattle.trip_model.specs.Timetable.{TimetableView, IsTimetable}
use Rattle.deadhead_matrix.specs.Fitting.{network_of}
use Rattle.deadhead_matrix.specs.Matrix.{MatrixView}
use Rattle.deadhead_matrix.specs.Pulls.{IsPull}
use Rattle.price_check.specs.Certificate.{IsCertificate}
use Rattle.price_check.specs.Claim.{ClaimedView, AreBlockRows, ArePriceRows, blocks_in}
use Rattle.price_check.specs.Reasons.{reason_of}
use Rattle.claim_files.specs.Claims.{claimed_of}
use Rattle.plan_commands.specs.Check.{Proves}

-- a claim against which no reason holds is a certificate, and the other way round
abbrev Certifies : Type 0
Certifies = (timetable : TimetableView) (matrix : MatrixView) (claimed : ClaimedView) → IsTimetable timetable
    → AreBlockRows timetable claimed.blocks → ArePriceRows timetable claimed.prices → reason_of timetable matrix claimed ≡ None
    → IsCertificate (network_of timetable matrix) (length timetable.slots) claimed

abbrev HasNoReason : Type 0
HasNoReason = (timetable : TimetableView) (matrix : MatrixView) (claimed : ClaimedView) → IsTimetable timetable
    → IsCertificate (network_of timetable matrix) (length timetable.slots) claimed → reason_of timetable matrix claimed ≡ None

-- the blocks of a certificate are least
abbrev ProvesLeast : Type 0
ProvesLeast = (timetable : TimetableView) (matrix : MatrixView) (claimed : ClaimedView) → IsTimetable timetable → All IsPull matrix.pulls
    → length claimed.blocks ≤ 4096 → IsCertificate (network_of timetable matrix) (length timetable.slots) claimed
    → IsLeast (network_of timetable matrix) (blocks_in claimed.blocks)

-- what is claimed are rows that the checker judges
abbrev HasBlockRows : Type 0
HasBlockRows = (timetable : TimetableView) (blocks prices : Found) (claimed : ClaimedView)
    → claimed_of timetable blocks prices ≡ Ok claimed → AreBlockRows timetable claimed.blocks

abbrev HasPriceRows : Type 0
HasPriceRows = (timetable : TimetableView) (blocks prices : Found) (claimed : ClaimedView)
    → claimed_of timetable blocks prices ≡ Ok claimed → ArePriceRows timetable claimed.prices

pub proves : Certifies → HasNoReason → ProvesLeast → HasBlockRows → HasPriceRows → (timetable : TimetableView) (matrix : MatrixView)
    (blocks prices : Found) → IsTimetable timetable → All IsPull matrix.pulls
    → Proves timetable matrix (claimed_of timetable blocks prices)
proves certifies reasonless least block_rows price_rows timetable matrix blocks prices valid pulls = λ claimed is.
    let rows = block_rows timetable blocks prices claimed is in (
      λ none. let proved = certifies timetable matrix claimed valid rows (price_rows timetable blocks prices claimed is) none in
          (proved, least timetable matrix claimed valid pulls rows.few proved),
      λ proved. reasonless timetable matrix claimed valid proved,
    )
