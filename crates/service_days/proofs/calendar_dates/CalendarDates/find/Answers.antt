use Rattle.std.proofs.Common.{sym, ◌∙◌, string_bytes}
use Rattle.service_days.specs.CalendarDates.{is_same, exception_of}
use Rattle.service_days.proofs.ViewedLemmas.{lookup-viewed}
use Rattle.service_days.proofs.calendar_dates.CalendarDates.find.Goals as goal

pub returns : goal.returns
returns c =
    c.copied.ensures
    ∙ c.get.ensures.value
    ∙ sym (lookup-viewed (λ k. (string_bytes k.0, k.1)) (is_same (string_bytes c.in_ok-service.service, c.args.date))
    c.self.inside.exceptions.entries)
    ∙ (λ i. exception_of (c.self.view_is i) (c.in_ok-service.ensures.ok i, c.args.date))
