-- What is put of an accepted record is a part of the text of a run.
use Rattle.std.proofs.Common.{◌≡◌, ℕ, zero, suc, ◌+◌, ◌<◌, ◌≤◌, List, [], ◌++◌, Option, None, sym, ap, ◌∙◌, ⊎_elim, arith, codes, subst}
use Rattle.std.specs.Fmt.{decimal}
use Rattle.std.proofs.lemmas.Bool.{cases_lt}
use Rattle.std.proofs.lemmas.List.{append_assoc}
use Rattle.trip_model.specs.Timetable.{TimetableView}
use Rattle.assignment_model.specs.Prices.{Plan}
use Rattle.deadhead_matrix.specs.Matrix.{MatrixView}
use Rattle.edit_script.specs.declared.edit.Line.{Line}
use Rattle.edit_script.specs.declared.fault.EditFault.{EditFault}
use Rattle.desk_feed.specs.Script.{gathered, line_at, refusal_in, standing_at, step_at}
use Rattle.feed_desk.specs.Answers.{answers_by}
use Rattle.block_names.specs.Names.{NamingView}
use Rattle.blocks_command.specs.Answers.{answer_text, numbers_text, shown_text}
use Rattle.same_runs.specs.Headline.{IsPartOf}

-- what is put of an accepted record before what is shown
abbrev pub accepted_line : ℕ → List ℕ → List ℕ
accepted_line number numbers = codes "record " ++ (decimal number ++ (codes ": ok, " ++ numbers))

-- a part stays one where something is put before or after it
pub part-before : (part text more : List ℕ) → IsPartOf part text → IsPartOf part (text ++ more)
part-before part text more p = record {
  front = p.front;
  back = p.back ++ more;
  is = ap (λ t. t ++ more) p.is ∙ append_assoc p.front (part ++ p.back) more ∙ ap (λ t. p.front ++ t) (append_assoc part p.back more);
}

pub part-after : (part text more : List ℕ) → IsPartOf part text → IsPartOf part (more ++ text)
part-after part text more p = record {
  front = more ++ p.front;
  back = p.back;
  is = ap (λ t. more ++ t) p.is ∙ sym (append_assoc more p.front (part ++ p.back));
}

-- the answer to an accepted record begins with its line
module _ (matrix : MatrixView) (naming : NamingView) where
  answer-part : (number : ℕ) (line : Line) (timetable : TimetableView) (plan : Plan) (refused : Option EditFault) → refused ≡ None
      → IsPartOf (accepted_line number (numbers_text timetable matrix plan)) (answer_text matrix naming number line timetable plan refused)
  unfolding answer_text
  answer-part number line timetable plan refused none =
      let numbers = numbers_text timetable matrix plan in
      let shown = shown_text matrix naming line timetable plan in record {
        front = [];
        back = shown;
        is = ap (answer_text matrix naming number line timetable plan) none
            ∙ sym (append_assoc (codes "record ") (decimal number ++ (codes ": ok, " ++ numbers)) shown
            ∙ ap (λ t. codes "record " ++ t) (append_assoc (decimal number) (codes ": ok, " ++ numbers) shown
            ∙ ap (λ t. decimal number ++ t) (append_assoc (codes ": ok, ") numbers shown)));
      }

  module _ (base : TimetableView) (lines : List Line) (plans : ℕ → Plan) where
    pub answers-part : (m n : ℕ) → n < m → refusal_in (step_at base lines n) ≡ None
        → IsPartOf (accepted_line (n + 1) (numbers_text (standing_at base lines (suc n)) matrix (plans (suc n))))
        (answers_by (answer_text matrix naming) base lines plans m)
    unfolding answers_by gathered
    answers-part zero n low none = absurd (omega (arith, low))
    answers-part (suc m) n low none =
        let part = λ (k : ℕ). accepted_line (k + 1) (numbers_text (standing_at base lines (suc k)) matrix (plans (suc k))) in
        let before = answers_by (answer_text matrix naming) base lines plans m in
        let last = λ (k : ℕ). answer_text matrix naming (k + 1) (line_at lines k) (standing_at base lines (suc k)) (plans (suc k))
        (refusal_in (step_at base lines k)) in ⊎_elim
        (λ (earlier : n < m). part-before (part n) before (last m) (answers-part m n earlier none))
        (λ (here : m ≤ n). (let e : n ≡ m = omega (arith, here, low) in
        part-after (part n) (last m) before (subst (λ k. IsPartOf (part n) (last k)) e
        (answer-part (n + 1) (line_at lines n) (standing_at base lines (suc n)) (plans (suc n)) (refusal_in (step_at base lines n)) none))))
        (cases_lt n m)
