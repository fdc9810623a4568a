-- The records of a list through the edit machine, one after the other.
use Rattle.std.proofs.Common.{◌≡◌, ℕ, zero, suc, ◌+◌, Bool, true, false, List, [], ◌∷◌, ◌++◌, Option, ◌||◌, refl, sym, ap, subst, ◌∙◌}
use Rattle.std.proofs.Common.{arith}
use Rattle.std.specs.Prelude.{is_some, string_bytes}
use Rattle.std.proofs.lemmas.List.{append-nil, append_assoc}
use Rattle.edit_script.specs.declared.edit.Line.{Line}
use Rattle.edit_script.specs.declared.fault.EditFault.{EditFault}
use Rattle.edit_script.specs.Machine.{IsAt, Numbered, machine, state_after}
use Rattle.trip_model.specs.Timetable.{TimetableView}
use Rattle.desk_feed.specs.Script.{IsStepped, gathered, line_at, numbered, refusal_in}
use Rattle.journal_commands.specs.declared.replay.Replay.{Replay}
use Rattle.journal_commands.specs.declared.replay.Source.{Source}
use Rattle.journal_commands.specs.declared.replay.Source.TheVariants as source
use Rattle.journal_commands.specs.Replay.{answer_line, answers_to, kept_line, kept_to, records_from, refusal_at, some_to}
use Rattle.journal_commands.specs.Replayed.{IsThrough}

pub records-none : (before : ℕ) (lines : List Line) → records_from before lines 0 ≡ []
unfolding records_from gathered
records-none before lines = refl

pub records-next : (before : ℕ) (lines : List Line) (n : ℕ)
    → records_from before lines (suc n) ≡ records_from before lines n ++ numbered (before + (n + 1)) (line_at lines n) ∷ []
unfolding records_from gathered
records-next before lines n = refl

or-assoc : (a b c : Bool) → ((a || b) || c) ≡ (a || (b || c))
or-assoc true b c = refl
or-assoc false b c = refl

or-false : (a : Bool) → a ≡ (a || false)
or-false true = refl
or-false false = refl

module _ (base : TimetableView) (first : List Numbered) (source : Source) (before : ℕ) (lines : List Line) where
  answers-none : answers_to base first source before lines 0 ≡ []
  unfolding answers_to gathered
  answers-none = refl

  answers-next : (n : ℕ) → answers_to base first source before lines (suc n)
      ≡ answers_to base first source before lines n
      ++ answer_line source (n + 1) (line_at lines n) (refusal_at base first source before lines n)
  unfolding answers_to gathered
  answers-next n = refl

  pub kept-none : kept_to base first source before lines 0 ≡ []
  unfolding kept_to gathered
  kept-none = refl

  pub kept-next : (n : ℕ) → kept_to base first source before lines (suc n) ≡ kept_to base first source before lines n
      ++ kept_line source (line_at lines n) (refusal_at base first source before lines n)
  unfolding kept_to gathered
  kept-next n = refl

  some-none : some_to base first source before lines 0 ≡ false
  unfolding some_to gathered
  some-none = refl

  some-next : (n : ℕ) → some_to base first source before lines
      (suc n) ≡ (some_to base first source before lines n || is_some (refusal_at base first source before lines n))
  unfolding some_to gathered
  some-next n = refl

  pub through-none : (was : Replay) → IsAt base (machine base first) was.script → IsThrough base first source before lines 0 was was
  through-none was at = record {
    at = subst (λ records. IsAt base (machine base records) was.script)
        (sym (ap (λ rs. first ++ rs) (records-none before lines) ∙ append-nil first)) at;
    text = sym (ap (λ t. string_bytes was.text ++ t) answers-none ∙ append-nil (string_bytes was.text));
    kept = sym (ap (λ k. was.kept.items ++ k) kept-none ∙ append-nil was.kept.items);
    some = or-false was.some ∙ ap (λ b. was.some || b) (sym some-none);
  }

  pub through-next : (n : ℕ) (was now next : Replay) (line : Line) (refused : Option EditFault)
      → IsThrough base first source before lines n was now
      → line ≡ line_at lines n → IsStepped (before + (n + 1)) line refused now.script next.script
      → string_bytes next.text ≡ string_bytes now.text ++ answer_line source (n + 1) line refused
      → next.kept.items ≡ now.kept.items ++ kept_line source line refused
      → next.some ≡ (now.some || is_some refused)
      → IsThrough base first source before lines (n + 1) was next
  through-next n was now next line refused through line_is stepped text kept some =
      let here = subst (λ l. (refused ≡ refusal_in
      (state_after base (machine base (first ++ records_from before lines n)) (numbered (before + (n + 1)) l)))
      × IsAt base (machine base ((first ++ records_from before lines n) ++ numbered (before + (n + 1)) l ∷ [])) next.script) line_is
      (stepped base (first ++ records_from before lines n) through.at) in
      let grown : (first ++ records_from before lines n) ++ numbered (before + (n + 1)) (line_at lines n) ∷ [] ≡ first
      ++ records_from before lines (suc n) =
      append_assoc first (records_from before lines n) (numbered (before + (n + 1)) (line_at lines n) ∷ [])
      ∙ ap (λ rs. first ++ rs) (sym (records-next before lines n)) in
      subst (λ m. IsThrough base first source before lines m was next) (let count : suc n ≡ n + 1 = omega arith in count) (record {
        at = subst (λ records. IsAt base (machine base records) next.script) grown here.1;
        text = text ∙ (λ i. through.text i ++ answer_line source (n + 1) (line_is i) (here.0 i))
            ∙ append_assoc (string_bytes was.text) (answers_to base first source before lines n)
            (answer_line source (n + 1) (line_at lines n) (refusal_at base first source before lines n))
            ∙ ap (λ t. string_bytes was.text ++ t) (sym (answers-next n));
        kept = kept ∙ (λ i. through.kept i ++ kept_line source (line_is i) (here.0 i))
            ∙ append_assoc was.kept.items (kept_to base first source before lines n)
            (kept_line source (line_at lines n) (refusal_at base first source before lines n))
            ∙ ap (λ k. was.kept.items ++ k) (sym (kept-next n));
        some = some ∙ (λ i. through.some i || is_some (here.0 i))
            ∙ or-assoc was.some (some_to base first source before lines n) (is_some (refusal_at base first source before lines n))
            ∙ ap (λ b. was.some || b) (sym (some-next n));
      })

-- of the journal's own records nothing is kept
pub kept-journal : (base : TimetableView) (first : List Numbered) (before : ℕ) (lines : List Line) (n : ℕ)
    → kept_to base first source.Journal before lines n ≡ []
kept-journal base first before lines zero = kept-none base first source.Journal before lines
kept-journal base first before lines (suc n) = kept-next base first source.Journal before lines n
    ∙ append-nil (kept_to base first source.Journal before lines n) ∙ kept-journal base first before lines n
