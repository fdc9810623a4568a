-- Two runs whose calls answered the same, by what each of them has done.
use Rattle.std.proofs.Common.{◌≡◌, inl, inr, ℕ, ◌≤◌, List, [], ◌++◌, Option, Result, Ok, Err, sym, ap, subst, ◌∙◌, arith}
use Rattle.std.specs.Prelude.{IfOk}
use Rattle.std.proofs.lemmas.List.{append-nil}
use Rattle.std.proofs.lemmas.List.Sums.{fold-append}
use Rattle.std.proofs.lemmas.Option.{same_Some}
use Rattle.desk_io.specs.History.{Call}
use Rattle.desk_io.specs.Sink.{ArePuts}
use Rattle.desk_run.specs.Answers.{found_by}
use Rattle.desk_run.specs.Becomes.{Becomes}
use Rattle.desk_run.specs.Commands.{Asked, Chosen, IsGiven}
use Rattle.desk_run.specs.Order.{IsInOrder, MakesFirst, carrying, reading, status_by, with_call, with_calls}
use Rattle.desk_run.specs.Outside.{Outside}
use Rattle.desk_run.specs.Performs.{Performs}
use Rattle.desk_run.specs.Reading.{ReadView}
use Rattle.desk_run.specs.declared.fault.RunFault.TheVariants as run_fault
use Rattle.desk_run.specs.declared.status.TheConstants.{NO}
use Rattle.same_runs.specs.Same.{AreAlike, CarriesOut, IsDetermined}

-- a run that came to its end carried an outcome out
record Ended (asked : Asked) (found : Option ReadView) (before after : Outside) (status : ℕ) : Type 0 where
  chosen : Chosen asked found before.world
  carries : CarriesOut chosen.read chosen.outcome before after status

module _ (asked : Asked) (found : Option ReadView) (before after : Outside) (status : ℕ) (few : status ≤ NO) where
  ended_by : (chosen : Chosen asked found before.world) (puts : List Call) → ArePuts chosen.outcome.text [] puts
      → (first : MakesFirst (carrying chosen.outcome puts) (with_calls before.calls (reading chosen.read)) after.calls)
      (result : Result ℕ _)
      → status ≡ status_by result → Becomes chosen.outcome result before.world after.world → IfOk result (λ end. first.left ≡ [])
      → Ended asked found before after status
  ended_by chosen puts are first (Ok s) answered becomes whole = record {
    chosen = chosen;
    carries = record {
      calls = record {
        puts = puts;
        are = are;
        made = first.noted
            ∙ ap (with_calls (with_calls before.calls (reading chosen.read)))
            (sym (first.order ∙ ap (λ left. first.made ++ left) whole ∙ append-nil first.made))
            ∙ sym (fold-append with_call before.calls (reading chosen.read) (carrying chosen.outcome puts));
      };
      world = becomes.1;
      answered = answered ∙ becomes.0;
    };
  }
  ended_by chosen puts are first (Err run_fault.Read) answered becomes whole = absurd (omega (arith, answered, few))
  ended_by chosen puts are first (Err run_fault.Write) answered becomes whole = absurd (omega (arith, answered, few))
  ended_by chosen puts are first (Err run_fault.Keeper) answered becomes whole = absurd (omega (arith, answered, few))
  ended_by chosen puts are first (Err run_fault.Memory) answered becomes whole = absurd (omega (arith, answered, few))

  ended : IsInOrder asked found before after status → Ended asked found before after status
  ended (inl (more, first)) = absurd (omega (arith, few, more))
  ended (inr c) = ended_by c.chosen c.puts c.are c.first c.result c.answered c.becomes c.whole

pub alike : (asked : Asked) (before after later last : Outside) (status second n m k l : ℕ) → IsDetermined asked
    → Performs asked before after status n m → Performs asked later last second k l
    → found_by asked later.calls last.calls ≡ found_by asked before.calls after.calls → status ≤ NO → second ≤ NO
    → AreAlike asked before after later last status second
alike asked before after later last status second n m k l determined one other same few few' =
    let e = ended asked one.found before after status few one.order in
    let e' = ended asked other.found later last second few' other.order in
    let read : e'.chosen.read ≡ e.chosen.read =
    same_Some e'.chosen.read e.chosen.read (sym e'.chosen.is ∙ other.answered ∙ same ∙ sym one.answered ∙ e.chosen.is) in
    let given : IsGiven asked e.chosen.read e'.chosen.outcome = subst (λ r. IsGiven asked r e'.chosen.outcome) read e'.chosen.given in
    let outcome : e'.chosen.outcome ≡ e.chosen.outcome =
    determined e.chosen.read e'.chosen.outcome e.chosen.outcome given e.chosen.given in
    record {
      read = e.chosen.read;
      answered = sym one.answered ∙ e.chosen.is;
      outcome = e.chosen.outcome;
      given = e.chosen.given;
      one = e.carries;
      other = subst (λ r. CarriesOut r e.chosen.outcome later last second) read
          (subst (λ outcome. CarriesOut e'.chosen.read outcome later last second) outcome e'.carries);
    }
