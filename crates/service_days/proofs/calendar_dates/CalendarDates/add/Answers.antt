use Rattle.std.proofs.Common.{not, ◌&&◌, ◌++◌, ◌∷◌, [], is_some, nat_eq, sym, ap, ◌∙◌, string_bytes}
use Rattle.std.specs.Prelude.{string_eq}
use Rattle.service_days.specs.CalendarDates.{is_same, exception_of}
use Rattle.service_days.proofs.ViewedLemmas.{lookup-viewed, told-new, pushed}
use Rattle.service_days.proofs.calendar_dates.CalendarDates.add.Goals as goal

pub returns-clause-new : goal.returns-clause-new
returns-clause-new c =
    told-new c.in_ok-insert.field-0 c.is_none.result c.is_none.ensures
    ∙ ap (λ found. not (is_some found))
    (c.in_ok-insert.ensures.old
    ∙ sym (lookup-viewed (λ k. (string_bytes k.0, k.1)) (is_same (string_bytes c.in_ok-service.service, c.args.date))
    c.self.inside.exceptions.entries)
    ∙ (λ i. exception_of (c.self.view_is i) (c.in_ok-service.ensures.ok i, c.args.date)))

pub returns-clause-added : goal.returns-clause-added
returns-clause-added c told =
    pushed (λ k. (string_bytes k.0, k.1)) (λ a b. string_eq a.0 b.0 && nat_eq a.1 b.1) c.self.inside.exceptions c.insert.new.self
    (c.in_ok-service.service, c.args.date) c.args.exception
    c.in_ok-insert.field-0 c.is_none.result c.is_none.ensures c.in_ok-insert.ensures.old c.in_ok-insert.ensures.entries told
    ∙ (λ i. c.self.view_is i ++ ((c.in_ok-service.ensures.ok i, c.args.date), c.args.exception) ∷ [])
