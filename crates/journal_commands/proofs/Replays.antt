-- The journal that `keep` leaves, replayed alone.
use Rattle.std.proofs.Common.{◌≡◌, ℕ, zero, suc, ◌+◌, ◌≤◌, Bool, true, false, List, [], ◌∷◌, ◌++◌, All, length, fold, take, map, Option}
use Rattle.std.proofs.Common.{None, Some, Result, Ok, Err, refl, sym, ap, subst, ◌∙◌, arith}
use Rattle.std.specs.Prelude.{nat_le}
use Rattle.std.proofs.lemmas.Bool.{false≢true}
use Rattle.std.proofs.lemmas.Grind.{fold-append}
use Rattle.std.proofs.lemmas.List.{append-nil, append_assoc, map-append, take_all, take_more}
use Rattle.std.proofs.lemmas.List.Elements.{All-append, All-cons, All-head, All-nil, All-tail}
use Rattle.gtfs_tables.specs.Reading.{provided}
use Rattle.gtfs_tables.specs.Records.{records}
use Rattle.gtfs_tables.specs.declared.fault.FeedFault.{FeedFault}
use Rattle.gtfs_tables.specs.declared.fault.FeedFault.TheVariants as feed_fault
use Rattle.gtfs_tables.specs.declared.paper.Paper.TheVariants as paper
use Rattle.gtfs_tables.specs.declared.paper.TheConstants.{MOST_RECORDS}
use Rattle.trip_model.specs.Timetable.{TimetableView}
use Rattle.edit_script.specs.declared.edit.Edit.{Edit}
use Rattle.edit_script.specs.declared.edit.Edit.TheVariants.{Shift, Cancel, Restore, Extra, Undo, Redo, Show}
use Rattle.edit_script.specs.declared.edit.Line.{Line}
use Rattle.edit_script.specs.declared.edit.Line.TheVariants as line
use Rattle.edit_script.specs.declared.fault.EditFault.{EditFault}
use Rattle.edit_script.specs.Forms.{line_of}
use Rattle.edit_script.specs.Laws.{EditReadsBack}
use Rattle.edit_script.specs.Machine.{Numbered, State, begun, machine, or_stays, state_after, with_record}
use Rattle.desk_feed.specs.Script.{line_at, numbered, refusal_in}
use Rattle.journal_commands.specs.declared.replay.Source.TheVariants as source
use Rattle.journal_commands.specs.Journal.{canonical_line, journal_text}
use Rattle.journal_commands.specs.Keep.{IsWritable, IsWritableLine, Replays, kept_lines}
use Rattle.journal_commands.specs.Replay.{all_records, kept_line, kept_to, records_from, refusal_at}
use Rattle.journal_commands.proofs.Canonical.{script-canonical}
use Rattle.journal_commands.proofs.Dropped.{AreSame, due, lines_of, same-refl, same-timetable, show-same, step-same}
use Rattle.journal_commands.proofs.ReplayLemmas.{kept-next, kept-none, records-next, records-none}

same-sym : (one other : State) → AreSame one other → AreSame other one
same-sym one other same = record { standing = sym same.standing; undone = sym same.undone; kept = sym same.kept }

same-trans : (one middle other : State) → AreSame one middle → AreSame middle other → AreSame one other
same-trans one middle other first second =
    record { standing = first.standing ∙ second.standing; undone = first.undone ∙ second.undone; kept = first.kept ∙ second.kept }

-- the edit of an accepted record that is no show
abbrev edit_if : Edit → Option EditFault → List Edit
edit_if edit None = edit ∷ []
edit_if edit (Some refused) = []

abbrev edit_kept : Line → Option EditFault → List Edit
edit_kept line.NotAnEdit refusal = []
edit_kept (line.Edit Show) refusal = []
edit_kept (line.Edit Undo) refusal = edit_if Undo refusal
edit_kept (line.Edit Redo) refusal = edit_if Redo refusal
edit_kept (line.Edit (Shift trip by)) refusal = edit_if (Shift trip by) refusal
edit_kept (line.Edit (Cancel trip)) refusal = edit_if (Cancel trip) refusal
edit_kept (line.Edit (Restore trip)) refusal = edit_if (Restore trip) refusal
edit_kept (line.Edit (Extra trip from to departs arrives)) refusal = edit_if (Extra trip from to departs arrives) refusal

kept-edit : (l : Line) (refusal : Option EditFault) → kept_line source.Edits l refusal ≡ map canonical_line (edit_kept l refusal)
kept-edit line.NotAnEdit refusal = refl
kept-edit (line.Edit Show) refusal = refl
kept-edit (line.Edit Undo) None = refl
kept-edit (line.Edit Undo) (Some refused) = refl
kept-edit (line.Edit Redo) None = refl
kept-edit (line.Edit Redo) (Some refused) = refl
kept-edit (line.Edit (Shift trip by)) None = refl
kept-edit (line.Edit (Shift trip by)) (Some refused) = refl
kept-edit (line.Edit (Cancel trip)) None = refl
kept-edit (line.Edit (Cancel trip)) (Some refused) = refl
kept-edit (line.Edit (Restore trip)) None = refl
kept-edit (line.Edit (Restore trip)) (Some refused) = refl
kept-edit (line.Edit (Extra trip from to departs arrives)) None = refl
kept-edit (line.Edit (Extra trip from to departs arrives)) (Some refused) = refl

written-if : (edit : Edit) (refusal : Option EditFault) → IsWritable edit → All IsWritable (edit_if edit refusal)
written-if edit None is = All-cons IsWritable edit [] is (All-nil IsWritable)
written-if edit (Some refused) is = All-nil IsWritable

written-kept : (l : Line) (refusal : Option EditFault) → IsWritableLine l → All IsWritable (edit_kept l refusal)
written-kept line.NotAnEdit refusal is = All-nil IsWritable
written-kept (line.Edit Show) refusal is = All-nil IsWritable
written-kept (line.Edit Undo) refusal is = written-if Undo refusal is
written-kept (line.Edit Redo) refusal is = written-if Redo refusal is
written-kept (line.Edit (Shift trip by)) refusal is = written-if (Shift trip by) refusal is
written-kept (line.Edit (Cancel trip)) refusal is = written-if (Cancel trip) refusal is
written-kept (line.Edit (Restore trip)) refusal is = written-if (Restore trip) refusal is
written-kept (line.Edit (Extra trip from to departs arrives)) refusal is = written-if (Extra trip from to departs arrives) refusal is

written-at : (lines : List Line) (n : ℕ) → All IsWritableLine lines → IsWritableLine (line_at lines n)
written-at [] n all = tt
written-at (l ∷ lines) zero all = All-head IsWritableLine l lines all
written-at (l ∷ lines) (suc n) all = written-at lines n (All-tail IsWritableLine l lines all)

-- lines without numbers, through the edit machine
module _ (base : TimetableView) where
  abbrev with_line : State → Line → State
  with_line m l = with_record base m (numbered 0 l)

  -- a record leaves what its kept edit leaves
  if-kept : (one other : State) (r : Numbered) (edit : Edit) → AreSame one other → (result : Result State EditFault)
      → AreSame (or_stays one result) (with_record base other (numbered 0 (line.Edit edit)))
      → AreSame (or_stays one result) (fold with_line other (map line.Edit (edit_if edit (refusal_in result))))
  if-kept one other r edit same (Ok m) step = step
  if-kept one other r edit same (Err refused) step = same

  module _ (one other : State) (same : AreSame one other) (before : ℕ) where
    edit-kept : (edit : Edit) → AreSame (or_stays one (due one other same base one (numbered before (line.Edit edit)) (line.Edit edit)))
        (fold with_line other (map line.Edit
        (edit_if edit (refusal_in (due one other same base one (numbered before (line.Edit edit)) (line.Edit edit))))))
    edit-kept edit = if-kept one other (numbered before (line.Edit edit)) edit same
        (due one other same base one (numbered before (line.Edit edit)) (line.Edit edit))
        (step-same one other same base (numbered before (line.Edit edit)) (numbered 0 (line.Edit edit)) refl)

    record-kept : (l : Line) → AreSame (with_record base one (numbered before l))
        (fold with_line other (map line.Edit (edit_kept l (refusal_in (state_after base one (numbered before l))))))
    record-kept line.NotAnEdit = same
    record-kept (line.Edit Show) = show-same one other same base (numbered before (line.Edit Show))
    record-kept (line.Edit Undo) = edit-kept Undo
    record-kept (line.Edit Redo) = edit-kept Redo
    record-kept (line.Edit (Shift trip by)) = edit-kept (Shift trip by)
    record-kept (line.Edit (Cancel trip)) = edit-kept (Cancel trip)
    record-kept (line.Edit (Restore trip)) = edit-kept (Restore trip)
    record-kept (line.Edit (Extra trip from to departs arrives)) = edit-kept (Extra trip from to departs arrives)

  -- records and their lines alone
  records-lines : (records : List Numbered) (one other : State) → AreSame one other
      → AreSame (fold (with_record base) one records) (fold with_line other (lines_of records))
  records-lines [] one other same = same
  records-lines (r ∷ records) one other same =
      records-lines records (with_record base one r) (with_line other r.line) (step-same one other same base r (numbered 0 r.line) refl)

  lines-same : (lines : List Line) (one other : State) → AreSame one other → AreSame (fold with_line one lines) (fold with_line other lines)
  lines-same [] one other same = same
  lines-same (l ∷ lines) one other same =
      lines-same lines (with_line one l) (with_line other l) (step-same one other same base (numbered 0 l) (numbered 0 l) refl)

  module _ (first : List Numbered) (before : ℕ) (lines : List Line) where
    -- the edits that are kept of so many lines
    abbrev edits_to : ℕ → List Edit
    edits_to zero = []
    edits_to (suc n) = edits_to n ++ edit_kept (line_at lines n) (refusal_at base first source.Edits before lines n)

    kept-edits : (n : ℕ) → kept_to base first source.Edits before lines n ≡ map canonical_line (edits_to n)
    kept-edits zero = kept-none base first source.Edits before lines
    kept-edits (suc n) =
        kept-next base first source.Edits before lines n
        ∙ (λ i. kept-edits n i ++ kept-edit (line_at lines n) (refusal_at base first source.Edits before lines n) i)
        ∙ sym (map-append canonical_line (edits_to n) (edit_kept (line_at lines n) (refusal_at base first source.Edits before lines n)))

    written-edits : (n : ℕ) → All IsWritableLine lines → All IsWritable (edits_to n)
    written-edits zero all = All-nil IsWritable
    written-edits (suc n) all =
        All-append IsWritable (edits_to n) (edit_kept (line_at lines n) (refusal_at base first source.Edits before lines n))
        (written-edits n all)
        (written-kept (line_at lines n) (refusal_at base first source.Edits before lines n) (written-at lines n all))

    state-none : machine base (first ++ records_from before lines 0) ≡ machine base first
    state-none = ap (machine base) (ap (λ rs. first ++ rs) (records-none before lines) ∙ append-nil first)

    state-next : (n : ℕ) → machine base (first ++ records_from before lines (suc n)) ≡ with_record base
        (machine base (first ++ records_from before lines n)) (numbered (before + (n + 1)) (line_at lines n))
    state-next n =
        let r = numbered (before + (n + 1)) (line_at lines n) in
        ap (machine base) (ap (λ rs. first ++ rs) (records-next before lines n)
        ∙ sym (append_assoc first (records_from before lines n) (r ∷ [])))
        ∙ fold-append (with_record base) begun (first ++ records_from before lines n) (r ∷ [])

    edits-next : (n : ℕ) (m : State) → fold with_line m (map line.Edit (edits_to (suc n)))
        ≡ fold with_line (fold with_line m (map line.Edit (edits_to n)))
        (map line.Edit (edit_kept (line_at lines n) (refusal_at base first source.Edits before lines n)))
    edits-next n m =
        let kept = edit_kept (line_at lines n) (refusal_at base first source.Edits before lines n) in
        ap (fold with_line m) (map-append line.Edit (edits_to n) kept)
        ∙ fold-append with_line m (map line.Edit (edits_to n)) (map line.Edit kept)

    -- what the kept edits alone leave is what all records leave
    dropped : (n : ℕ) → AreSame (machine base (first ++ records_from before lines n))
        (fold with_line (machine base first) (map line.Edit (edits_to n)))
    dropped zero = subst (λ m. AreSame m (machine base first)) (sym state-none) (same-refl (machine base first))
    dropped (suc n) =
        let full = machine base (first ++ records_from before lines n) in
        let few = fold with_line (machine base first) (map line.Edit (edits_to n)) in
        subst (λ m. AreSame m (fold with_line (machine base first) (map line.Edit (edits_to (suc n))))) (sym (state-next n))
        (subst (AreSame (with_record base full (numbered (before + (n + 1)) (line_at lines n)))) (sym (edits-next n (machine base first)))
        (record-kept full few (dropped n) (before + (n + 1)) (line_at lines n)))

-- the lines of numbered records
lines-first : (before : ℕ) (lines : List Line) (n : ℕ) → n ≤ length lines → lines_of (records_from before lines n) ≡ take n lines
lines-first before lines zero le = ap lines_of (records-none before lines)
lines-first before lines (suc n) le =
    let r = numbered (before + (n + 1)) (line_at lines n) in
    ap lines_of (records-next before lines n) ∙ map-append (λ (r : Numbered). r.line) (records_from before lines n) (r ∷ [])
    ∙ ap (λ ls. ls ++ line_at lines n ∷ []) (lines-first before lines n (omega (arith, le))) ∙ sym (more)
  where
    more : take (suc n) lines ≡ take n lines ++ line_at lines n ∷ []
    more = let on : suc n ≡ n + 1 = omega arith in ap (λ k. take k lines) on ∙ take_more lines n line.NotAnEdit (omega (arith, le))

lines-all : (before : ℕ) (lines : List Line) → lines_of (all_records before lines) ≡ lines
lines-all before lines = lines-first before lines (length lines) (omega arith) ∙ take_all (length lines) lines (omega arith)

given : {X : Type 0} (b : Bool) (refused : FeedFault) (result : Result X FeedFault) (x : X) → provided b refused result ≡ Ok x
    → result ≡ Ok x
given true refused result x is = is
given false refused result x is = absurd (false≢true (ap is-ok is))
  where
    is-ok : {X : Type 0} → Result X FeedFault → Bool
    is-ok (Ok x) = true
    is-ok (Err refused) = false

value-of : {X : Type 0} (x y : X) (result : Result X FeedFault) → result ≡ Ok x → result ≡ Ok y → x ≡ y
value-of x y result one other = ap (or x) (sym one ∙ other)
  where
    or : {X : Type 0} → X → Result X FeedFault → X
    or d (Ok x) = x
    or d (Err refused) = d

pub replays : EditReadsBack → (base : TimetableView) (lines : List Line) → Replays base lines
replays reads base lines stored script written all is =
    let journal = map line.Edit stored in
    let first = all_records 0 journal in
    let before = length journal in
    let kept = edits_to base first before lines (length lines) in
    let new : map canonical_line stored ++ kept_lines base journal lines ≡ map canonical_line (stored ++ kept) =
    ap (λ ks. map canonical_line stored ++ ks) (kept-edits base first before lines (length lines))
    ∙ sym (map-append canonical_line stored kept) in
    let text = journal_text (map canonical_line stored ++ kept_lines base journal lines) in
    let read = given (nat_le (length (map canonical_line stored) + length (kept_lines base journal lines)) MOST_RECORDS)
    (feed_fault.TooManyRecords paper.Journal) _ script is in
    let lines_read : map line_of (records text) ≡ script =
    value-of (map line_of (records text)) script (Ok (map line_of (records text))) refl
    (given (nat_le (length (records text)) MOST_RECORDS) (feed_fault.TooManyRecords paper.Journal) (Ok (map line_of (records text)))
    script read) in
    let both : script ≡ journal ++ map line.Edit kept =
    sym lines_read ∙ ap (λ ks. map line_of (records (journal_text ks))) new
    ∙ script-canonical reads (stored ++ kept)
    (All-append IsWritable stored kept written (written-edits base first before lines (length lines) all))
    ∙ map-append line.Edit stored kept in
    let alone = subst (λ ls. AreSame (machine base (all_records 0 script)) (fold (with_line base) begun ls)) (lines-all 0 script ∙ both)
    (records-lines base (all_records 0 script) begun begun (same-refl begun)) in
    let split = subst (AreSame (machine base (all_records 0 script))) (fold-append (with_line base) begun journal (map line.Edit kept))
    alone in
    let begins = subst (λ ls. AreSame (machine base first) (fold (with_line base) begun ls)) (lines-all 0 journal)
    (records-lines base first begun begun (same-refl begun)) in
    let after = lines-same base (map line.Edit kept) (machine base first) (fold (with_line base) begun journal) begins in
    let full = machine base (first ++ all_records before lines) in
    let few = fold (with_line base) (machine base first) (map line.Edit kept) in
    same-timetable base (machine base (all_records 0 script)) full
    (same-trans (machine base (all_records 0 script)) few full
    (same-trans (machine base (all_records 0 script)) (fold (with_line base) (fold (with_line base) begun journal) (map line.Edit kept))
    few split
    (same-sym few (fold (with_line base) (fold (with_line base) begun journal) (map line.Edit kept)) after))
    (same-sym full few (dropped base first before lines (length lines))))
