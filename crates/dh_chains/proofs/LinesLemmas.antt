-- The printed text of the deadheads behind the first one, written one after the other.
use Rattle.std.proofs.Common.{◌≡◌, ℕ, List, ◌++◌, Option, None, Some, sym, ap, ◌∙◌, append_assoc}
use Rattle.std.specs.Prelude.{codes}
use Rattle.std.proofs.lemmas.List.{append-nil}
use Rattle.trip_model.specs.Timetable.{TimetableView}
use Rattle.dh_chains.specs.declared.chain.Deadhead.{Deadhead}
use Rattle.dh_chains.specs.Chains.{following}
use Rattle.dh_chains.specs.Lines.{deadhead_text, further_text}

pub none-written : (timetable : TimetableView) (before : List ℕ) (second third : Option Deadhead) → second ≡ None
    → before ≡ before ++ further_text timetable (following second third)
unfolding further_text
none-written timetable before second third none = sym (append-nil before)
    ∙ ap (λ (o : Option Deadhead). before ++ further_text timetable (following o third)) (sym none)

pub one-written : (timetable : TimetableView) (before after : List ℕ) (second third : Option Deadhead) (m : Deadhead) → second ≡ Some m
    → third ≡ None
    → after ≡ before ++ (codes "; " ++ deadhead_text timetable m) → after ≡ before ++ further_text timetable (following second third)
unfolding further_text
one-written timetable before after second third m some none written =
    written ∙ ap (λ xs. before ++ xs) (sym (append-nil (codes "; " ++ deadhead_text timetable m)))
    ∙ (λ i. before ++ further_text timetable (following (sym some i) (sym none i)))

pub two-written : (timetable : TimetableView) (before between after : List ℕ) (second third : Option Deadhead) (m n : Deadhead)
    → second ≡ Some m → third ≡ Some n
    → between ≡ before ++ (codes "; " ++ deadhead_text timetable m) → after ≡ between ++ (codes "; " ++ deadhead_text timetable n)
    → after ≡ before ++ further_text timetable (following second third)
unfolding further_text
two-written timetable before between after second third m n some other first then_ =
    let a = codes "; " ++ deadhead_text timetable m in
    let b = codes "; " ++ deadhead_text timetable n in
    then_ ∙ ap (λ xs. xs ++ b) first ∙ append_assoc before a b ∙ ap (λ xs. before ++ (a ++ xs)) (sym (append-nil b))
    ∙ (λ i. before ++ further_text timetable (following (sym some i) (sym other i)))
