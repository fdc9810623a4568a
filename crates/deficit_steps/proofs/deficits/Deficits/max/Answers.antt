use Rattle.std.proofs.Common.{sym, ap, subst, ◌∙◌}
use Rattle.trip_model.specs.Maximum.{IsFirstMaximum, first_maximum}
use Rattle.trip_model.proofs.MaximumLemmas.{IsFirstMaximum-first_maximum}
use Rattle.deficit_steps.specs.Changes.{value_in, value}
use Rattle.deficit_steps.proofs.DeficitsLemmas.{row_read}
use Rattle.deficit_steps.proofs.deficits.Deficits.max.Goals as goal

pub returns-clause-maximum : goal.returns-clause-maximum
returns-clause-maximum c =
    let d = value c.args.self.now c.args.place in
    let row = row_read c.args.self.now c.self.inside.rows.items c.args.place c.from.result c.index.result.now c.self.view_is c.from.ensures
    c.requires c.index.ensures in
    subst (λ b. IsFirstMaximum d b.0 b.1) (ap (λ r. first_maximum (value_in r)) (sym row) ∙ c.max.ensures) (IsFirstMaximum-first_maximum d)
