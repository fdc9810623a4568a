use Rattle.std.proofs.Common.{sym, ◌∙◌}
use Rattle.desk_core.proofs.FollowLemmas.{AreSwapped-touched, HoldsAmong-before, HoldsAmong-without, Holds-followed, IsMove-before}
use Rattle.desk_core.proofs.FollowLemmas.{IsMove-after, places-touched}
use Rattle.desk_core.proofs.follow.DeficitsInStep.follow.Goals as goal

pub take_out-requires-clause-valid : goal.take_out-requires-clause-valid
take_out-requires-clause-valid g c =
    let touched = c.args.touched in
    let old = c.requires.0 in
    let new = c.requires.1 in
    let step = c.requires.2 in
    IsMove-before touched.slot touched.before touched.after old new _ step.before step.after c.requires.3.rows step.touches

pub take_out-requires-clause-held : goal.take_out-requires-clause-held
take_out-requires-clause-held g c =
    let touched = c.args.touched in
    let old = c.requires.0 in
    let new = c.requires.1 in
    let step = c.requires.2 in
    HoldsAmong-before c.args.self.now touched.before touched.after old new step.before
    (AreSwapped-touched touched.slot touched.before touched.after old new step.touches) c.requires.3.held

pub put_in-requires-clause-valid : goal.put_in-requires-clause-valid
put_in-requires-clause-valid g c =
    let touched = c.args.touched in
    let old = c.requires.0 in
    let new = c.requires.1 in
    let step = c.requires.2 in
    IsMove-after touched.slot touched.before touched.after old new _ step.after
    (c.take_out.ensures.rows ∙ c.requires.3.rows) step.touches

pub put_in-requires-clause-held : goal.put_in-requires-clause-held
put_in-requires-clause-held g c =
    let touched = c.args.touched in
    let old = c.requires.0 in
    let new = c.requires.1 in
    let step = c.requires.2 in
    HoldsAmong-without c.args.self.now c.take_out.new.deficits touched.before touched.after old new step.before
    (AreSwapped-touched touched.slot touched.before touched.after old new step.touches) c.requires.3.held c.take_out.ensures.held

pub returns-clause-with : goal.returns-clause-with
returns-clause-with g c = λ old new step is.
    let touched = c.args.touched in
    record {
      held = Holds-followed c.args.self.now c.take_out.new.deficits c.put_in.new.deficits touched.before touched.after old new
          (AreSwapped-touched touched.slot touched.before touched.after old new step.touches) is.held c.take_out.ensures.held
          c.put_in.ensures.held;
      rows = c.put_in.ensures.rows ∙ c.take_out.ensures.rows ∙ is.rows
          ∙ sym (places-touched touched.slot touched.before touched.after old new step.touches);
    }
