-- The neighbours in stated blocks that do not fit: no vehicle can make the second trip after the first.
use Rattle.std.specs.Prelude.{ℕ, zero, suc, ◌+◌, ◌-◌, List, [], ◌∷◌, ◌++◌, Option, None, Some, is_some, option_map, if◌then◌else◌}
use Rattle.deadhead_matrix.specs.Matrix.{MatrixView, walk}
use Rattle.deadhead_matrix.specs.Fitting.{network_of}
use Rattle.trip_model.specs.Timetable.{TimetableView, slot_at}
use Rattle.block_build.specs.Lines.{walk_between}
use Rattle.block_audit.specs.declared.misfit.Misfit.{Misfit}
use Rattle.block_audit.specs.declared.misfit.Why.{Why}
use Rattle.block_audit.specs.declared.misfit.Why.TheVariants.{NoWay, Late, Forbidden}
use Rattle.block_audit.specs.Stated.{NamedBlock}

-- by how many minutes a vehicle comes too late from the first trip to the second; None where no way leads there. The end of the
-- first, the least walk and the departure of the second decide that
abbrev pub short_by : TimetableView → MatrixView → ℕ → ℕ → Option ℕ
short_by timetable matrix i j =
    option_map (λ minutes. (slot_at timetable i).trip.ends + minutes - (slot_at timetable j).trip.departs)
    (walk_between timetable (walk matrix) i j)

-- why two trips do not fit: no way leads from the one to the other, a vehicle comes too late by that many minutes, or, where it
-- would come in time, a rule of pairs forbids it
abbrev pub why_of : Option ℕ → Why
why_of None = NoWay
why_of (Some zero) = Forbidden
why_of (Some (suc minutes)) = Late (suc minutes)

-- the misfit of two neighbours of the block of that number; None where the second fits after the first
abbrev pub misfit_between : TimetableView → MatrixView → ℕ → ℕ → ℕ → Option Misfit
misfit_between timetable matrix block i j =
    if is_some ((network_of timetable matrix).empty i j) then None
    else Some (record { block = block; before = i; after = j; why = why_of (short_by timetable matrix i j) })

-- misfits with one more before them, if there is one
abbrev pub with_misfit : Option Misfit → List Misfit → List Misfit
with_misfit None misfits = misfits
with_misfit (Some misfit) misfits = misfit ∷ misfits

-- the misfits of the trip of i and those after it in a block, in the order of the trips
abbrev pub misfits_after : TimetableView → MatrixView → ℕ → ℕ → List ℕ → List Misfit
misfits_after timetable matrix block i [] = []
misfits_after timetable matrix block i (j ∷ js) =
    with_misfit (misfit_between timetable matrix block i j) (misfits_after timetable matrix block j js)

-- the misfits of a block
abbrev pub block_misfits : TimetableView → MatrixView → ℕ → List ℕ → List Misfit
block_misfits timetable matrix block [] = []
block_misfits timetable matrix block (i ∷ js) = misfits_after timetable matrix block i js

-- the misfits of blocks, block by block; the first block has that number
abbrev pub misfits_from : TimetableView → MatrixView → ℕ → List NamedBlock → List Misfit
misfits_from timetable matrix number [] = []
misfits_from timetable matrix number (block ∷ blocks) = block_misfits timetable matrix number block.slots
    ++ misfits_from timetable matrix (number + 1) blocks

-- rule: which stated trips do not fit
-- word: misfit = infeasible connection of an existing block
-- all misfits
abbrev pub misfits_in : TimetableView → MatrixView → List NamedBlock → List Misfit
misfits_in timetable matrix stated = misfits_from timetable matrix 0 stated
