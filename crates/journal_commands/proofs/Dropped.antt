-- Records that are refused, and shows, may be dropped, and the others numbered anew: what stands is the same.
use Rattle.std.proofs.Common.{◌≡◌, ◌+◌, ◌-◌, ◌==◌, min, Bool, true, false, List, [], ◌∷◌, ◌++◌, length, drop, fold, take, map, Result, Ok}
use Rattle.std.proofs.Common.{Err, refl, sym, ap, subst, ◌∙◌}
use Rattle.std.proofs.lemmas.Bool.{false≢true, true≢false}
use Rattle.std.specs.Prelude.{nat_lt, if◌then◌else◌}
use Rattle.std.proofs.lemmas.List.{drop-map, length-map, map-append, take-map}
use Rattle.trip_model.specs.Timetable.{TimetableView}
use Rattle.undo_log.specs.declared.log.TheConstants.{UNDO_DEPTH}
use Rattle.edit_script.specs.declared.edit.Edit.{Edit}
use Rattle.edit_script.specs.declared.edit.Edit.TheVariants.{Shift, Cancel, Restore, Extra, Undo, Redo, Show}
use Rattle.edit_script.specs.declared.edit.Line.{Line}
use Rattle.edit_script.specs.declared.edit.Line.TheVariants as line
use Rattle.edit_script.specs.declared.edit.TheConstants.{MOST_SHOWS}
use Rattle.edit_script.specs.declared.fault.EditFault.{EditFault}
use Rattle.edit_script.specs.declared.fault.EditFault.TheVariants as fault
use Rattle.edit_script.specs.Changes.{edited}
use Rattle.edit_script.specs.Machine.{Numbered, State, after_line, after_record, if_accepted, or_stays, state_by, timetable_at, with_record}
use Rattle.edit_script.specs.Script.{all_but_last, last_alone}

-- the lines of records
abbrev pub lines_of : List Numbered → List Line
lines_of records = map (λ (r : Numbered). r.line) records

-- two states have the same lines standing and undone, whatever their numbers, and of as many the last can be undone
pub record AreSame (one other : State) : Type 0 where
  pub standing : lines_of one.standing ≡ lines_of other.standing
  pub undone : lines_of one.undone ≡ lines_of other.undone
  pub kept : one.kept ≡ other.kept

pub same-refl : (m : State) → AreSame m m
same-refl m = record { standing = refl; undone = refl; kept = refl }

fold-lines : (base : TimetableView) (records : List Numbered) → fold after_record base records ≡ fold after_line base (lines_of records)
fold-lines base [] = refl
fold-lines base (r ∷ records) = fold-lines (after_record base r) records

-- the same timetable stands
pub same-timetable : (base : TimetableView) (one other : State) → AreSame one other → timetable_at base one ≡ timetable_at base other
same-timetable base one other same = fold-lines base one.standing ∙ ap (fold after_line base) same.standing
    ∙ sym (fold-lines base other.standing)

lines-but_last : (records : List Numbered) → lines_of (all_but_last records) ≡ all_but_last (lines_of records)
lines-but_last records = sym (take-map (λ (r : Numbered). r.line) (length records - 1) records)
    ∙ ap (λ n. take (n - 1) (lines_of records)) (sym (length-map records (λ (r : Numbered). r.line)))

lines-last : (records : List Numbered) → lines_of (last_alone records) ≡ last_alone (lines_of records)
lines-last records = sym (drop-map (λ (r : Numbered). r.line) (length records - 1) records)
    ∙ ap (λ n. drop (n - 1) (lines_of records)) (sym (length-map records (λ (r : Numbered). r.line)))

-- the results of two steps have the same lines
abbrev StaySame : State → State → Result State EditFault → Result State EditFault → Type 0
StaySame one other a b = AreSame (or_stays one a) (or_stays other b)

module _ (one other : State) (same : AreSame one other) where
  same-length : length one.undone ≡ length other.undone
  same-length = sym (length-map one.undone (λ (r : Numbered). r.line)) ∙ ap length same.undone
      ∙ length-map other.undone (λ (r : Numbered). r.line)

  same-undo : StaySame one other
      (if one.kept == 0 then Err fault.NothingToUndo
      else Ok (record one { standing = all_but_last one.standing; undone = one.undone ++ last_alone one.standing; kept = one.kept - 1 }))
      (if other.kept == 0 then Err fault.NothingToUndo
      else Ok (record other {
        standing = all_but_last other.standing;
        undone = other.undone ++ last_alone other.standing;
        kept = other.kept - 1;
      }))
  same-undo = by (one.kept == 0) (other.kept == 0) (ap (λ n. n == 0) same.kept)
    where
      by : (a b : Bool) → a ≡ b → StaySame one other
          (if a then Err fault.NothingToUndo
          else Ok (record one {
            standing = all_but_last one.standing;
            undone = one.undone ++ last_alone one.standing;
            kept = one.kept - 1;
          }))
          (if b then Err fault.NothingToUndo
          else Ok (record other {
            standing = all_but_last other.standing;
            undone = other.undone ++ last_alone other.standing;
            kept = other.kept - 1;
          }))
      by true true e = same
      by true false e = absurd (true≢false e)
      by false true e = absurd (false≢true e)
      by false false e = record {
        standing = lines-but_last one.standing ∙ ap all_but_last same.standing ∙ sym (lines-but_last other.standing);
        undone = map-append (λ (r : Numbered). r.line) one.undone (last_alone one.standing)
            ∙ (λ i. same.undone i ++ (lines-last one.standing ∙ ap last_alone same.standing ∙ sym (lines-last other.standing)) i)
            ∙ sym (map-append (λ (r : Numbered). r.line) other.undone (last_alone other.standing));
        kept = ap (λ n. n - 1) same.kept;
      }

  same-redo : StaySame one other
      (if length one.undone == 0 then Err fault.NothingToRedo
      else Ok (record one { standing = one.standing ++ last_alone one.undone; undone = all_but_last one.undone; kept = one.kept + 1 }))
      (if length other.undone == 0 then Err fault.NothingToRedo
      else Ok (record other {
        standing = other.standing ++ last_alone other.undone;
        undone = all_but_last other.undone;
        kept = other.kept + 1;
      }))
  same-redo = by (length one.undone == 0) (length other.undone == 0) (ap (λ n. n == 0) same-length)
    where
      by : (a b : Bool) → a ≡ b → StaySame one other
          (if a then Err fault.NothingToRedo
          else Ok (record one { standing = one.standing ++ last_alone one.undone; undone = all_but_last one.undone; kept = one.kept + 1 }))
          (if b then Err fault.NothingToRedo
          else Ok (record other {
            standing = other.standing ++ last_alone other.undone;
            undone = all_but_last other.undone;
            kept = other.kept + 1;
          }))
      by true true e = same
      by true false e = absurd (true≢false e)
      by false true e = absurd (false≢true e)
      by false false e = record {
        standing = map-append (λ (r : Numbered). r.line) one.standing (last_alone one.undone)
            ∙ (λ i. same.standing i ++ (lines-last one.undone ∙ ap last_alone same.undone ∙ sym (lines-last other.undone)) i)
            ∙ sym (map-append (λ (r : Numbered). r.line) other.standing (last_alone other.undone));
        undone = lines-but_last one.undone ∙ ap all_but_last same.undone ∙ sym (lines-but_last other.undone);
        kept = ap (λ n. n + 1) same.kept;
      }

  -- an edit of a trip
  same-trip : (r s : Numbered) → r.line ≡ s.line → (due : Result TimetableView EditFault)
      → StaySame one other (if_accepted one r due) (if_accepted other s due)
  same-trip r s alike (Err refused) = same
  same-trip r s alike (Ok changed) = record {
    standing = map-append (λ (r : Numbered). r.line) one.standing (r ∷ []) ∙ (λ i. same.standing i ++ alike i ∷ [])
        ∙ sym (map-append (λ (r : Numbered). r.line) other.standing (s ∷ []));
    undone = refl;
    kept = ap (λ n. min (n + 1) UNDO_DEPTH) same.kept;
  }

  -- a show changes no lines
  show-stays : (b : Bool) → AreSame (or_stays one (if b then Ok (record one { shows = one.shows + 1 }) else Err fault.TooManyShows)) other
  show-stays true = record { standing = same.standing; undone = same.undone; kept = same.kept }
  show-stays false = same

  shows-stay : (a b : Bool) → AreSame (or_stays one (if a then Ok (record one { shows = one.shows + 1 }) else Err fault.TooManyShows))
      (or_stays other (if b then Ok (record other { shows = other.shows + 1 }) else Err fault.TooManyShows))
  shows-stay true true = record { standing = same.standing; undone = same.undone; kept = same.kept }
  shows-stay true false = record { standing = same.standing; undone = same.undone; kept = same.kept }
  shows-stay false true = record { standing = same.standing; undone = same.undone; kept = same.kept }
  shows-stay false false = same

  module _ (base : TimetableView) where
    abbrev pub due : State → Numbered → Line → Result State EditFault
    due m r l = state_by (timetable_at base m) m r l

    trip-steps : (r s : Numbered) (edit : Edit) → r.line ≡ s.line
        → StaySame one other (if_accepted one r (edited (timetable_at base one) edit))
        (if_accepted other s (edited (timetable_at base other) edit))
    trip-steps r s edit alike =
        subst (λ t. StaySame one other (if_accepted one r (edited t edit)) (if_accepted other s (edited (timetable_at base other) edit)))
        (sym (same-timetable base one other same))
        (same-trip r s alike (edited (timetable_at base other) edit))

    step-by : (r s : Numbered) → r.line ≡ s.line → (l : Line) → StaySame one other (due one r l) (due other s l)
    step-by r s alike line.NotAnEdit = same
    step-by r s alike (line.Edit Undo) = same-undo
    step-by r s alike (line.Edit Redo) = same-redo
    step-by r s alike (line.Edit Show) = shows-stay (nat_lt one.shows MOST_SHOWS) (nat_lt other.shows MOST_SHOWS)
    step-by r s alike (line.Edit (Shift trip by)) = trip-steps r s (Shift trip by) alike
    step-by r s alike (line.Edit (Cancel trip)) = trip-steps r s (Cancel trip) alike
    step-by r s alike (line.Edit (Restore trip)) = trip-steps r s (Restore trip) alike
    step-by r s alike (line.Edit (Extra trip from to departs arrives)) = trip-steps r s (Extra trip from to departs arrives) alike

    -- a step of records of one line
    pub step-same : (r s : Numbered) → r.line ≡ s.line → AreSame (with_record base one r) (with_record base other s)
    step-same r s alike = subst (λ l. AreSame (with_record base one r) (or_stays other (due other s l))) alike (step-by r s alike r.line)

    -- a show, accepted or not
    pub show-same : (r : Numbered) → AreSame (or_stays one (due one r (line.Edit Show))) other
    show-same r = show-stays (nat_lt one.shows MOST_SHOWS)
