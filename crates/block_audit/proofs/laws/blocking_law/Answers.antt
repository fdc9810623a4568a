use Rattle.block_audit.proofs.Lateness.{are-forbidden, are-late}
use Rattle.block_audit.proofs.StatedLemmas.{each-stands, are-blocking, have-no-misfit}
use Rattle.block_audit.proofs.laws.blocking_law.Goals as goal

pub returns-clause-stands : goal.returns-clause-stands
returns-clause-stands c = each-stands

pub returns-clause-blocking : goal.returns-clause-blocking
returns-clause-blocking c = are-blocking

pub returns-clause-fitting : goal.returns-clause-fitting
returns-clause-fitting c = have-no-misfit

pub returns-clause-late : goal.returns-clause-late
returns-clause-late c = are-late

pub returns-clause-forbidden : goal.returns-clause-forbidden
returns-clause-forbidden c = are-forbidden
