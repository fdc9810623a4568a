use Rattle.std.proofs.Common.{refl, subst, arith, ◌∙◌}
use Rattle.std.specs.Prelude.{IfSome}
use Rattle.blocks_command.specs.Blocks.{blocks_asked}
use Rattle.desk_program.specs.declared.command.CommandName.TheVariants.{Blocks}
use Rattle.desk_run.specs.Commands.{IsReadIn}
use Rattle.same_runs.proofs.CommandLemmas.{determined}
use Rattle.same_runs.proofs.RunLemmas.{alike}
use Rattle.same_runs.proofs.HeadlineLemmas.{headline-of}
use Rattle.same_runs.proofs.laws.headline_law.Goals as goal

pub returns : goal.returns
returns c before after status n m run low =
    let same = alike blocks_asked before after before after status status n m n m (determined Blocks) run run refl (omega (arith, low))
    (omega (arith, low)) in
    record {
      read = same.read;
      answered = same.answered;
      told = subst (λ found. IfSome found (IsReadIn blocks_asked before.world)) (run.answered ∙ same.answered) run.told;
      outcome = same.outcome;
      carried = same.one;
      headline = headline-of same.read same.outcome same.given (omega (arith, low, same.one.answered));
    }
