-- The plans of a script are planned, for every accepted feed, whatever runs.
use Rattle.std.proofs.Common.{◌≡◌, ℕ, zero, suc, ◌+◌, ◌<◌, ◌≤◌, List, [], ◌∷◌, ◌++◌, length, Result, Ok, Err, refl, sym}
use Rattle.std.proofs.Common.{subst, ⊎_elim, arith}
use Rattle.std.specs.Prelude.{All, IsOk}
use Rattle.std.proofs.lemmas.Bool.{cases_lt}
use Rattle.std.proofs.lemmas.List.{get_or_past}
use Rattle.deadhead_matrix.specs.Matrix.{MatrixView}
use Rattle.desk_core.specs.Computed.{first_plan}
use Rattle.desk_core.specs.Desk.{DeskView, desk_seen}
use Rattle.desk_feed.specs.Script.{first_records, line_at, numbered, refusal_in, state_at, step_at}
use Rattle.desk_feed.proofs.ScriptLemmas.{first-next, first-none, none-refused}
use Rattle.edit_script.specs.Edits.{IsLineInForm}
use Rattle.edit_script.specs.Machine.{IsAt, Numbered, edit_record, machine, no_edit_record, state_after}
use Rattle.edit_script.specs.Script.{ScriptView, opened, stepped}
use Rattle.edit_script.specs.declared.edit.Edit.{Edit}
use Rattle.edit_script.specs.declared.edit.Line.{Line}
use Rattle.edit_script.specs.declared.edit.Line.TheVariants as line
use Rattle.edit_script.specs.declared.fault.EditFault.{EditFault}
use Rattle.feed_desk.specs.Moments.{IsFollowed}
use Rattle.feed_desk.specs.Plans.{ArePlanned}
use Rattle.feed_desk.proofs.MomentsLemmas.{AreMade, AreProved, AreRestored, MakesMoves, ReachesMaxima, are-planned, next-of}
use Rattle.plan_choice.specs.Likings.{LikingsView}
use Rattle.plan_history.specs.History.{HistoryView}
use Rattle.trip_model.specs.Timetable.{TimetableView}
use Rattle.planned_laws.specs.Laws.{MayPlan}
use Rattle.planned_laws.proofs.DeskLemmas.{IsSound, step-edit}
use Rattle.planned_laws.proofs.FirstLemmas.{first-is}

-- what is needed of the edit machine
abbrev pub StartsAt : Type 0
StartsAt = (base : TimetableView) → IsAt base (machine base []) (opened base)

abbrev pub IsAcceptedAlike : Type 0
IsAcceptedAlike = (base : TimetableView) (records : List Numbered) (s next : ScriptView) (number : ℕ) (edit : Edit)
    → IsAt base (machine base records) s → stepped s number edit ≡ Ok next
    → IsOk (state_after base (machine base records) (edit_record number edit))
    × IsAt base (machine base (records ++ edit_record number edit ∷ [])) next

abbrev pub IsRefusedAlike : Type 0
IsRefusedAlike = (base : TimetableView) (records : List Numbered) (s : ScriptView) (number : ℕ) (edit : Edit) (refused : EditFault)
    → IsAt base (machine base records) s → stepped s number edit ≡ Err refused
    → (state_after base (machine base records) (edit_record number edit) ≡ Err refused)
    × IsAt base (machine base (records ++ edit_record number edit ∷ [])) s

abbrev pub PassesOver : Type 0
PassesOver = (base : TimetableView) (records : List Numbered) (s : ScriptView) (number : ℕ) → IsAt base (machine base records) s
    → IsAt base (machine base (records ++ no_edit_record number ∷ [])) s

-- a sound desk at a moment
record IsBuilt (base : TimetableView) (lines : List Line) (m : MatrixView) (k : ℕ) : Type 0 where
  script : ScriptView
  history : HistoryView
  sound : IsSound script m history
  at : IsAt base (state_at base lines k) script
  last : script.last ≤ k

-- a desk at the next moment, to which the record was done
record IsNextBuilt (base : TimetableView) (lines : List Line) (m : MatrixView) (k : ℕ) (old : DeskView) : Type 0 where
  next : IsBuilt base lines m (suc k)
  follow : IsFollowed (line_at lines k) (refusal_in (step_at base lines k)) old (desk_seen next.script m next.history)

module _ (starts : StartsAt) (accepts : IsAcceptedAlike) (refuses : IsRefusedAlike) (passes : PassesOver) (base : TimetableView)
    (lines : List Line) (m : MatrixView) (likings : LikingsView) (forms : All IsLineInForm lines) (is : MayPlan base m likings) where
  -- each record is in form, and past the last one there is none
  in-form : (k : ℕ) → IsLineInForm (line_at lines k)
  in-form k = ⊎_elim
      (λ (lt : k < length lines). forms k line.NotAnEdit lt)
      (λ (le : length lines ≤ k). subst IsLineInForm (sym (get_or_past lines k line.NotAnEdit le)) tt)
      (cases_lt k (length lines))

  -- what each record does
  module _ (k : ℕ) (old : IsBuilt base lines m k) where
    build : (l : Line) → line_at lines k ≡ l → (s : ScriptView) (h : HistoryView) → IsSound s m h → s.last ≤ suc k
        → IsAt base (machine base (first_records lines k ++ numbered (k + 1) l ∷ [])) s
        → IsFollowed l (refusal_in (state_after base (state_at base lines k) (numbered (k + 1) l))) (desk_seen old.script m old.history)
        (desk_seen s m h)
        → IsNextBuilt base lines m k (desk_seen old.script m old.history)
    build l e s h sound last at follow = record {
      next = record {
        script = s;
        history = h;
        sound = sound;
        at =
            subst (λ records. IsAt base (machine base records) s) (sym (first-next lines k (suc k) (omega arith)))
            (subst (λ l. IsAt base (machine base (first_records lines k ++ numbered (k + 1) l ∷ [])) s) (sym e) at);
        last = last;
      };
      follow =
          subst (λ l. IsFollowed l (refusal_in (state_after base (state_at base lines k) (numbered (k + 1) l)))
          (desk_seen old.script m old.history) (desk_seen s m h)) (sym e) follow;
    }

    by-edit : (edit : Edit) → line_at lines k ≡ line.Edit edit → (r : Result ScriptView EditFault) → stepped old.script (k + 1) edit ≡ r
        → IsNextBuilt base lines m k (desk_seen old.script m old.history)
    by-edit edit e (Ok next) due =
        let done = accepts base (first_records lines k) old.script next (k + 1) edit old.at due in
        let now = step-edit old.script next m old.history is.pulls old.sound (k + 1) edit (subst IsLineInForm e (in-form k)) due in
        build (line.Edit edit) e next now.history now.sound (omega (arith, now.last (omega (arith, old.last)))) done.1
        (subst (λ refused. IsFollowed (line.Edit edit) refused (desk_seen old.script m old.history) (desk_seen next m now.history))
        (none-refused (state_after base (state_at base lines k) (numbered (k + 1) (line.Edit edit))) done.0)
        (record {
          number = k + 1;
          next = next-of old.script (k + 1) edit (omega (arith, old.last));
          done = now.done;
        }))
    by-edit edit e (Err refused) due =
        let stays = refuses base (first_records lines k) old.script (k + 1) edit refused old.at due in
        build (line.Edit edit) e old.script old.history old.sound (omega (arith, old.last)) stays.1
        (subst (λ r. IsFollowed (line.Edit edit) (refusal_in r) (desk_seen old.script m old.history) (desk_seen old.script m old.history))
        (sym stays.0) refl)

    by-line : (l : Line) → line_at lines k ≡ l → IsNextBuilt base lines m k (desk_seen old.script m old.history)
    by-line line.NotAnEdit e =
        build line.NotAnEdit e old.script old.history old.sound (omega (arith, old.last))
        (passes base (first_records lines k) old.script (k + 1) old.at) refl
    by-line (line.Edit edit) e = by-edit edit e (stepped old.script (k + 1) edit) refl

  built : (k : ℕ) → IsBuilt base lines m k
  built zero = record {
    script = opened base;
    history = record { plan = first_plan base m likings; earlier = []; later = []; room = 0 };
    sound =
        record {
          desk =
              record {
                places = is.places;
                plan = (first-is base m is.valid is.places is.pulls likings is.liked).scheduled.certified;
                earlier = tt;
                later = tt;
              };
          over = (is.valid, is.places);
          earlier = tt;
          later = tt;
        };
    at = subst (λ records. IsAt base (machine base records) (opened base)) (sym (first-none lines)) (starts base);
    last = omega arith;
  }
  built (suc k) = (by-line k (built k) (line_at lines k) refl).next

  desks : ℕ → DeskView
  desks k = desk_seen (built k).script m (built k).history

  pub planned-is : AreRestored → AreProved → MakesMoves → AreMade → ReachesMaxima → ArePlanned base lines m likings
  unfolding built desks
  planned-is restores proves makes are_made reaches =
      are-planned restores proves makes are_made reaches base lines (desks 0) (desks (length lines)) (length lines) desks
      (record {
        begins = refl;
        ends = refl;
        each = λ k le. record {
          at = (built k).at;
          matrix_is = refl;
          plan = (built k).sound.desk.plan;
          valid = (built k).sound.over.0;
        };
        follow = λ k lt. (by-line k (built k) (line_at lines k) refl).follow;
      })
      (record { timetable = base; script = refl; earlier = refl; later = refl })
      likings refl is.pulls (first-is base m is.valid is.places is.pulls likings is.liked).chosen refl
