-- What is read of the weekdays one after the other, as a loop does it.
use Rattle.std.proofs.Common.{◌≡◌, ℕ, suc, ◌+◌, ◌-◌, ◌<◌, ◌≤◌, List, [], ◌∷◌, ◌++◌, length, get_or, map, set, take}
use Rattle.std.proofs.Common.{Bor, Result, Ok, refl, sym, ap, subst, ◌∙◌, arith}
use Rattle.std.proofs.lemmas.List.{get_or-map, length-set, length-take-le, take_all, take_more_set}
use Rattle.gtfs_tables.specs.declared.fault.FeedFault.{FeedFault}
use Rattle.gtfs_tables.specs.Reading.{◌>>=◌, Fails}
use Rattle.gtfs_tables.proofs.ReadingLemmas.{Fails->>=, Fails-equal}
use Rattle.service_days.specs.Calendar.{days_more, each_day}

module _ {A : Type 0} (read : ℕ → Result A FeedFault) where
  -- The weekdays before a day are read, and the first of these are what they gave.
  pub record AreRead (day : ℕ) (got : List A) : Type 0 where
    pub days : length got ≡ 7
    pub rest : each_day read ≡ days_more read (7 - day) (take day got)

  pub none-read : (got : List A) → length got ≡ 7 → AreRead 0 got
  none-read got days = record { days = days; rest = refl }

  next : (day : ℕ) (got : List A) → AreRead day got → day < 7
      → each_day read ≡ (read day >>= λ x. days_more read (7 - (day + 1)) (take day got ++ x ∷ []))
  next day got are lt =
      are.rest ∙ ap (λ n. days_more read n (take day got)) (let more : 7 - day ≡ suc (7 - (day + 1)) = omega (arith, lt) in more)
      ∙ ap (λ n. read n >>= λ x. days_more read (7 - (day + 1)) (take day got ++ x ∷ []))
      (length-take-le day got (omega (arith, lt, are.days)))

  -- one more is read
  pub one-read : (day : ℕ) (got : List A) (x : A) → AreRead day got → day < 7 → read day ≡ Ok x → AreRead (day + 1) (set got day x)
  one-read day got x are lt is = record {
    days = length-set got day x ∙ are.days;
    rest = next day got are lt
        ∙ ap (λ r. r >>= λ x. days_more read (7 - (day + 1)) (take day got ++ x ∷ [])) is
        ∙ ap (days_more read (7 - (day + 1))) (sym (take_more_set got day x (omega (arith, lt, are.days))));
  }

  -- one is refused
  pub one-refused : (day : ℕ) (got : List A) (refused : FeedFault) → AreRead day got → day < 7 → Fails refused (read day)
      → Fails refused (each_day read)
  one-refused day got refused are lt due =
      Fails-equal refused _ (each_day read) (sym (next day got are lt))
      (Fails->>= refused (read day) (λ x. days_more read (7 - (day + 1)) (take day got ++ x ∷ [])) due)

  -- all are read
  pub all-read : (day : ℕ) (got : List A) → AreRead day got → 7 ≤ day → each_day read ≡ Ok got
  all-read day got are past =
      are.rest ∙ ap (λ n. days_more read n (take day got)) (let none : 7 - day ≡ 0 = omega (arith, past) in none)
      ∙ ap Ok (take_all day got (omega (arith, past, are.days)))

-- what is so of the text of a day is so of the text that a clause sees
pub day-seen : (P : List ℕ → Type 0) (texts : List (Bor (List ℕ))) (day : ℕ) (past : Bor (List ℕ)) → day < length texts
    → P (get_or texts day past).now → P (get_or (map (λ text. text.now) texts) day [])
day-seen P texts day past lt so = subst P (sym (get_or-map (λ text. text.now) texts day past [] lt)) so
