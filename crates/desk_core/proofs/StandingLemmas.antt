-- At moments with equal standing lists a desk has the same timetable and the same plan.
use Rattle.std.proofs.Common.{◌≡◌, ℕ, zero, suc, ◌+◌, ◌-◌, ◌<◌, ◌≤◌, List, [], ◌∷◌, ◌++◌, length, take, drop, reverse, slice_get, All}
use Rattle.std.proofs.Common.{Some, refl, sym, ap, subst, ◌∙◌, ⊎_elim, arith}
use Rattle.std.specs.Prelude.{Bool, true, false, nat_lt, Ok, Err, if◌then◌else◌}
use Rattle.std.proofs.lemmas.Bool.{cases_lt}
use Rattle.std.proofs.lemmas.List.{append_assoc, append-nil, length-append, length-drop, length-reverse, length-take-le, reverse-append}
use Rattle.std.proofs.lemmas.List.{take-append-le, take-append-drop}
use Rattle.std.proofs.lemmas.List.Elements.{All-append, All-cons, All-head, All-nil, All-tail, All-weaker}
use Rattle.std.proofs.lemmas.Option.{same_Some}
use Rattle.std.proofs.Math.Seq.{take-length, take-append_seam}
use Rattle.deadhead_matrix.specs.Matrix.{MatrixView}
use Rattle.assignment_model.specs.Prices.{Plan}
use Rattle.edit_script.specs.Script.{ScriptView, IsNext, all_but_last, last_alone, numbers_along, if_shown, with_edit}
use Rattle.edit_script.specs.Edits.{EditsTrip}
use Rattle.edit_script.specs.declared.edit.Edit.{Edit}
use Rattle.edit_script.specs.declared.edit.Edit.TheVariants.{Shift, Cancel, Restore, Extra, Undo, Redo, Show}
use Rattle.edit_script.specs.declared.fault.EditFault.TheVariants as fault
use Rattle.trip_model.specs.Timetable.{TimetableView}
use Rattle.undo_log.specs.Log.{latest_items}
use Rattle.undo_log.proofs.LastItem.{take_last_item}
use Rattle.desk_core.specs.Computed.{PlansView}
use Rattle.desk_core.specs.Desk.{DeskView, IsDone, plans_of}
use Rattle.desk_core.specs.Standing.{IsLed, IsOpened}
use Rattle.desk_core.proofs.PlansLemmas.{IsKept, IsRedone, IsUndone, get-middle, kept-of, redone-of, undone-of}
use Rattle.desk_core.proofs.DeskLemmas.{IsEdited, IsStepBack, IsStepForth, edited-any, stepped-undo, stepped-redo}

-- what lies before, what stands, and what was undone, of which the newest comes first
abbrev pub along : {X : Type 0} → List X → X → List X → List X
along earlier x later = earlier ++ x ∷ reverse later

-- an undo and a redo leave the whole
along-back : {X : Type 0} (earlier later : List X) (x y : X) → along earlier x (later ++ y ∷ []) ≡ along (earlier ++ x ∷ []) y later
along-back earlier later x y = ap (λ rest. earlier ++ x ∷ rest) (reverse-append later (y ∷ []))
    ∙ sym (append_assoc earlier (x ∷ []) (y ∷ reverse later))

short-reverse : {X : Type 0} (xs : List X) → length xs ≤ 1 → reverse xs ≡ xs
short-reverse [] short = refl
short-reverse (x ∷ []) short = refl
short-reverse (x ∷ y ∷ xs) short = absurd (omega arith)

length-last_alone : {X : Type 0} (xs : List X) → length (last_alone xs) ≤ 1
length-last_alone xs = omega (arith, length-drop (length xs - 1) xs)

numbers-moved : (front back undone : List ℕ) → length back ≤ 1 → numbers_along front (undone ++ back) ≡ numbers_along (front ++ back) undone
numbers-moved front back undone short =
    ap (λ rest. front ++ rest) (reverse-append undone back ∙ ap (λ b. b ++ reverse undone) (short-reverse back short))
    ∙ sym (append_assoc front back (reverse undone))

-- items of lists
get-left : {X : Type 0} (xs ys : List X) (i : ℕ) → i < length xs → slice_get (xs ++ ys) i ≡ slice_get xs i
get-left [] ys i h = absurd (omega arith)
get-left (x ∷ xs) ys zero h = refl
get-left (x ∷ xs) ys (suc i) h = get-left xs ys i (omega arith)

get-drop : {X : Type 0} (n : ℕ) (xs : List X) (i j : ℕ) → j ≡ n + i → slice_get (drop n xs) i ≡ slice_get xs j
get-drop zero xs i j e = ap (slice_get xs) (let k : i ≡ j = omega (arith, e) in k)
get-drop (suc n) [] i j e = refl
get-drop (suc n) (x ∷ xs) i zero e = absurd (omega (arith, e))
get-drop (suc n) (x ∷ xs) i (suc j) e = get-drop n xs i j (omega (arith, e))

get-within : {X : Type 0} (xs : List X) (i : ℕ) (x : X) → slice_get xs i ≡ Some x → i < length xs
get-within [] i x e = absurd (cc)
get-within (y ∷ xs) zero x e = omega arith
get-within (y ∷ xs) (suc i) x e = let h = get-within xs i x e in omega (arith, h)

-- the newest of what lies before are where they were
get-latest : {X : Type 0} (earlier later : List X) (x y : X) (i : ℕ) → i < length (latest_items (earlier ++ x ∷ []))
    → slice_get (along (latest_items (earlier ++ x ∷ [])) y []) i ≡ slice_get (along earlier x later) (length (earlier ++ x ∷ []) - 256 + i)
get-latest earlier later x y i h =
    let n = length (earlier ++ x ∷ []) - 256 in
    let within : n + i < length (earlier ++ x ∷ []) = omega (arith, h, length-drop n (earlier ++ x ∷ [])) in
    get-left (latest_items (earlier ++ x ∷ [])) (y ∷ []) i h
    ∙ (get-drop n (earlier ++ x ∷ []) i (n + i) refl
    ∙ (sym (get-left (earlier ++ x ∷ []) (reverse later) (n + i) within)
    ∙ ap (λ xs. slice_get xs (n + i)) (append_assoc earlier (x ∷ []) (reverse later))))

-- what is said of each of two lists together
All-left : (P : ℕ → Type 0) (xs ys : List ℕ) → All P (xs ++ ys) → All P xs
All-left P [] ys all = All-nil P
All-left P (x ∷ xs) ys all = All-cons P x xs (All-head P x (xs ++ ys) all) (All-left P xs ys (All-tail P x (xs ++ ys) all))

All-right : (P : ℕ → Type 0) (xs ys : List ℕ) → All P (xs ++ ys) → All P ys
All-right P [] ys all = all
All-right P (x ∷ xs) ys all = All-right P xs ys (All-tail P x (xs ++ ys) all)

-- the numbers that stand and that were undone, and the timetables and plans of a desk
abbrev numbers : DeskView → List ℕ
numbers d = numbers_along d.script.standing d.script.undone

abbrev timetables : DeskView → List TimetableView
timetables d = along d.script.earlier d.script.timetable d.script.later

abbrev plans : DeskView → List Plan
plans d = along d.earlier d.plan d.later

-- as many plans as timetables, as many as edits, and `base` edits that can no longer be undone; no number is above the last
record IsSound (d : DeskView) : Type 0 where
  pub base : ℕ
  pub standing : base + length d.script.earlier ≡ length d.script.standing
  pub undone : length d.script.undone ≡ length d.script.later
  pub earlier : length d.earlier ≡ length d.script.earlier
  pub later : length d.later ≡ length d.script.later
  pub most : All (λ n. n ≤ d.script.last) (numbers d)

-- Desk d comes after a: no number that stood in a is above the last of d, and where edits of d that stand or may stand again are
-- those that stood in a, d has there the timetable and the plan of a.
record IsAfter (a d : DeskView) : Type 0 where
  pub sound : IsSound d
  pub past : All (λ n. n ≤ d.script.last) a.script.standing
  pub agreed : (i : ℕ) (t : TimetableView) (p : Plan) → slice_get (timetables d) i ≡ Some t → slice_get (plans d) i ≡ Some p
      → take (sound.base + i) (numbers d) ≡ a.script.standing
      → (t ≡ a.script.timetable) × (p ≡ a.plan)

-- a desk comes after itself
after-self : (d : DeskView) → IsSound d → IsAfter d d
after-self d sound = record {
  sound = sound;
  past = All-left (λ n. n ≤ d.script.last) d.script.standing (reverse d.script.undone) sound.most;
  agreed = λ i t p ti pi same.
      let within = get-within (timetables d) i t ti in
      let here : i ≡ length d.script.earlier =
      omega (
        arith,
        sound.standing,
        sound.undone,
        within,
        ap length same,
        length-append d.script.earlier (d.script.timetable ∷ reverse d.script.later),
        length-reverse d.script.later,
        length-append d.script.standing (reverse d.script.undone),
        length-reverse d.script.undone,
        length-take-le (sound.base + i) (numbers d)
            (omega (
              arith,
              sound.standing,
              sound.undone,
              within,
              length-append d.script.earlier
                  (d.script.timetable ∷ reverse d.script.later),
              length-reverse d.script.later,
              length-append d.script.standing
                  (reverse d.script.undone),
              length-reverse d.script.undone,
            )),
      ) in (
        same_Some t d.script.timetable
            (sym ti ∙ (ap (slice_get (timetables d)) here ∙ get-middle d.script.earlier d.script.timetable (reverse d.script.later))),
        same_Some p d.plan (sym pi ∙ (ap (slice_get (plans d)) (here ∙ sym sound.earlier) ∙ get-middle d.earlier d.plan (reverse d.later))),
      );
}

-- a desk whose numbers, timetables and plans are the same ones along
after-same : (a d e : DeskView) (is : IsAfter a d) → is.sound.base + length e.script.earlier ≡ length e.script.standing
    → length e.script.undone ≡ length e.script.later
    → length e.earlier ≡ length e.script.earlier → length e.later ≡ length e.script.later
    → numbers e ≡ numbers d → timetables e ≡ timetables d → plans e ≡ plans d → e.script.last ≡ d.script.last → IsAfter a e
after-same a d e is standing undone earlier later same_numbers same_timetables same_plans same_last =
    let P : ℕ → List ℕ → Type 0 = λ m ns. All (λ n. n ≤ m) ns in
    record {
      sound = record {
        base = is.sound.base;
        standing = standing;
        undone = undone;
        earlier = earlier;
        later = later;
        most = subst (λ m. P m (numbers e)) (sym same_last) (subst (P d.script.last) (sym same_numbers) is.sound.most);
      };
      past = subst (λ m. P m a.script.standing) (sym same_last) is.past;
      agreed = λ i t p ti pi same.
          is.agreed i t p (ap (λ ts. slice_get ts i) (sym same_timetables) ∙ ti) (ap (λ ps. slice_get ps i) (sym same_plans) ∙ pi)
          (ap (take (is.sound.base + i)) (sym same_numbers) ∙ same);
    }

after-shown : (a d e : DeskView) → IsAfter a d → (shows : ℕ) → e.script ≡ record d.script { shows = shows } → plans_of e ≡ plans_of d
    → IsAfter a e
after-shown a d e is shows script shown =
    after-same a d e is
    (ap (λ (s : ScriptView). is.sound.base + length s.earlier) script
    ∙ (is.sound.standing ∙ sym (ap (λ (s : ScriptView). length s.standing) script)))
    (ap (λ (s : ScriptView). length s.undone) script ∙ (is.sound.undone ∙ sym (ap (λ (s : ScriptView). length s.later) script)))
    (ap (λ (p : PlansView). length p.earlier) shown ∙ (is.sound.earlier ∙ sym (ap (λ (s : ScriptView). length s.earlier) script)))
    (ap (λ (p : PlansView). length p.later) shown ∙ (is.sound.later ∙ sym (ap (λ (s : ScriptView). length s.later) script)))
    (ap (λ (s : ScriptView). numbers_along s.standing s.undone) script)
    (ap (λ (s : ScriptView). along s.earlier s.timetable s.later) script)
    (ap (λ (p : PlansView). along p.earlier p.plan p.later) shown)
    (ap (λ (s : ScriptView). s.last) script)

-- an undo
after-undone : (a d e : DeskView) → IsAfter a d → IsStepBack d.script e.script → IsUndone (plans_of d) (plans_of e) → IsAfter a e
after-undone a d e is back undone =
    let s = d.script in
    let whole : all_but_last s.earlier ++ back.timetable ∷ [] ≡ s.earlier = take_last_item s.earlier back.timetable back.last in
    let front : length (all_but_last s.earlier) + 1 ≡ length s.earlier =
    omega (arith, ap length whole, length-append (all_but_last s.earlier) (back.timetable ∷ [])) in
    let left : length (all_but_last s.standing) ≡ length s.standing - 1 = length-take-le (length s.standing - 1) s.standing (omega arith) in
    let one = length-drop (length s.standing - 1) s.standing in
    after-same a d e is
    (omega (arith, is.sound.standing, front, left, ap length back.earlier, ap length back.standing))
    (omega (
      arith,
      is.sound.standing,
      is.sound.undone,
      front,
      one,
      ap length back.undone,
      ap length back.later,
      length-append s.undone
          (last_alone s.standing),
      length-append s.later (s.timetable ∷ []),
    ))
    (omega (arith, is.sound.earlier, front, ap length back.earlier, ap length undone.earlier, length-append e.earlier (e.plan ∷ [])))
    (omega (
      arith,
      is.sound.later,
      ap length back.later,
      ap length undone.later,
      length-append s.later (s.timetable ∷ []),
      length-append
          d.later (d.plan ∷ []),
    ))
    ((λ i. numbers_along (back.standing i) (back.undone i))
    ∙ (numbers-moved (all_but_last s.standing) (last_alone s.standing) s.undone (length-last_alone s.standing)
    ∙ ap (λ st. numbers_along st s.undone) (take-append-drop (length s.standing - 1) s.standing)))
    ((λ i. along (back.earlier i) (back.stands i) (back.later i))
    ∙ (along-back (all_but_last s.earlier) s.later back.timetable s.timetable ∙ ap (λ ts. along ts s.timetable s.later) whole))
    (ap (along e.earlier e.plan) undone.later
    ∙ (along-back e.earlier d.later e.plan d.plan ∙ ap (λ ps. along ps d.plan d.later) (sym undone.earlier)))
    back.greatest

-- a redo
after-redone : (a d e : DeskView) → IsAfter a d → IsStepForth d.script e.script → IsRedone (plans_of d) (plans_of e) → IsAfter a e
after-redone a d e is forth redone =
    let s = d.script in
    let whole : all_but_last s.later ++ forth.timetable ∷ [] ≡ s.later = take_last_item s.later forth.timetable forth.last in
    let front : length (all_but_last s.later) + 1 ≡ length s.later =
    omega (arith, ap length whole, length-append (all_but_last s.later) (forth.timetable ∷ [])) in
    let left : length (all_but_last s.undone) ≡ length s.undone - 1 = length-take-le (length s.undone - 1) s.undone (omega arith) in
    let one = length-drop (length s.undone - 1) s.undone in
    after-same a d e is
    (omega (
      arith,
      is.sound.standing,
      is.sound.undone,
      front,
      one,
      ap length forth.earlier,
      ap length forth.standing,
      length-append
          s.standing (last_alone s.undone),
      length-append s.earlier (s.timetable ∷ []),
    ))
    (omega (arith, is.sound.undone, front, left, ap length forth.undone, ap length forth.later))
    (omega (
      arith,
      is.sound.earlier,
      ap length forth.earlier,
      ap length redone.earlier,
      length-append s.earlier (s.timetable ∷ []),
      length-append d.earlier (d.plan ∷ []),
    ))
    (omega (arith, is.sound.later, front, ap length forth.later, ap length redone.later, length-append e.later (e.plan ∷ [])))
    ((λ i. numbers_along (forth.standing i) (forth.undone i))
    ∙ (sym (numbers-moved s.standing (last_alone s.undone) (all_but_last s.undone) (length-last_alone s.undone))
    ∙ ap (numbers_along s.standing) (take-append-drop (length s.undone - 1) s.undone)))
    ((λ i. along (forth.earlier i) (forth.stands i) (forth.later i))
    ∙ (sym (along-back s.earlier (all_but_last s.later) s.timetable forth.timetable) ∙ ap (along s.earlier s.timetable) whole))
    (ap (λ ps. along ps e.plan e.later) redone.earlier
    ∙ (sym (along-back d.earlier e.later d.plan e.plan) ∙ ap (along d.earlier d.plan) (sym redone.later)))
    forth.greatest

-- an edit of a trip, whose number is above all before it
edited-due : (a d : DeskView) (number : ℕ) (t : TimetableView) (m : MatrixView) (plan : Plan) → IsAfter a d → d.script.last < number
    → IsAfter a (record {
      script = with_edit d.script number t;
      matrix = m;
      plan = plan;
      earlier = latest_items (d.earlier ++ d.plan ∷ []);
      later = [];
    })
edited-due a d number t m plan is above =
    let s = d.script in
    let n = length (s.earlier ++ s.timetable ∷ []) - 256 in
    let whole : length (s.earlier ++ s.timetable ∷ []) ≡ length s.earlier + 1 = length-append s.earlier (s.timetable ∷ []) in
    let whole_plans : length (d.earlier ++ d.plan ∷ []) ≡ length d.earlier + 1 = length-append d.earlier (d.plan ∷ []) in
    let kept : length (latest_items (s.earlier ++ s.timetable ∷ [])) ≡ length (s.earlier ++ s.timetable ∷ []) - n =
    length-drop n (s.earlier ++ s.timetable ∷ []) in
    let kept_plans : length (latest_items (d.earlier ++ d.plan ∷ [])) ≡ length
    (d.earlier ++ d.plan ∷ []) - (length (d.earlier ++ d.plan ∷ []) - 256) =
    length-drop (length (d.earlier ++ d.plan ∷ []) - 256) (d.earlier ++ d.plan ∷ []) in
    let stood : All (λ k. k ≤ s.last) s.standing = All-left (λ k. k ≤ s.last) s.standing (reverse s.undone) is.sound.most in
    let stand : length (s.standing ++ number ∷ []) ≡ length s.standing + 1 = length-append s.standing (number ∷ []) in
    record {
      sound = record {
        base = is.sound.base + n;
        standing = omega (arith, is.sound.standing, whole, kept, stand);
        undone = refl;
        earlier = omega (arith, is.sound.earlier, whole, whole_plans, kept, kept_plans);
        later = refl;
        most = subst (All (λ k. k ≤ number)) (sym (append-nil (s.standing ++ number ∷ [])))
            (All-append (λ k. k ≤ number) s.standing (number ∷ [])
            (All-weaker (λ k. k ≤ s.last) (λ k. k ≤ number) (λ k h. omega arith) s.standing stood)
            (All-cons (λ k. k ≤ number) number [] (omega arith) (All-nil (λ k. k ≤ number))));
      };
      past = All-weaker (λ k. k ≤ s.last) (λ k. k ≤ number) (λ k h. omega arith) a.script.standing is.past;
      agreed = λ i u p ui pi same. ⊎_elim
          (λ (h : i < length (latest_items (s.earlier ++ s.timetable ∷ []))).
          is.agreed (n + i) u p
          (sym (get-latest s.earlier s.later s.timetable t i h) ∙ ui)
          (ap (slice_get (plans d)) (let k : n + i ≡ length (d.earlier ++ d.plan ∷ []) - 256 + i = omega
          (arith, is.sound.earlier, whole, whole_plans) in k)
          ∙ (sym (get-latest d.earlier d.later d.plan plan i (omega (arith, h, is.sound.earlier, whole, whole_plans, kept, kept_plans)))
          ∙ pi))
          (ap (λ k. take k (numbers d)) (let k : is.sound.base + (n + i) ≡ is.sound.base + n + i = omega arith in k)
          ∙ (take-append-le (is.sound.base + n + i) s.standing (reverse s.undone) (omega (arith, h, is.sound.standing, whole, kept))
          ∙ (sym (take-append-le (is.sound.base + n + i) s.standing (number ∷ []) (omega (arith, h, is.sound.standing, whole, kept)))
          ∙ (ap (take (is.sound.base + n + i)) (sym (append-nil (s.standing ++ number ∷ []))) ∙ same)))))
          (λ (h : length (latest_items (s.earlier ++ s.timetable ∷ [])) ≤ i).
          let within = get-within (along (latest_items (s.earlier ++ s.timetable ∷ [])) t []) i u ui in
          let all : is.sound.base + n + i ≡ length (s.standing ++ number ∷ []) =
          omega (
            arith,
            h,
            within,
            is.sound.standing,
            whole,
            kept,
            stand,
            length-append (latest_items (s.earlier ++ s.timetable ∷ []))
                (t ∷ []),
          ) in
          let stands : s.standing ++ number ∷ [] ≡ a.script.standing =
          sym (take-length (s.standing ++ number ∷ []))
          ∙ (ap (λ k. take k (s.standing ++ number ∷ [])) (sym all)
          ∙ (ap (take (is.sound.base + n + i)) (sym (append-nil (s.standing ++ number ∷ []))) ∙ same)) in
          let low : number ≤ s.last = All-head (λ k. k ≤ s.last) number []
          (All-right (λ k. k ≤ s.last) s.standing (number ∷ []) (subst (All (λ k. k ≤ s.last)) (sym stands) is.past)) in
          absurd (omega (arith, low, above)))
          (cases_lt i (length (latest_items (s.earlier ++ s.timetable ∷ []))));
    }

after-edited : (a d e : DeskView) (number : ℕ) → IsAfter a d → d.script.last < number → IsEdited d.script e.script number
    → IsKept (plans_of d) (plans_of e) → IsAfter a e
after-edited a d e number is above edited kept =
    let s = d.script in
    let t = edited.timetable in
    let due : DeskView = record {
      script = with_edit s number t;
      matrix = e.matrix;
      plan = e.plan;
      earlier = latest_items (d.earlier ++ d.plan ∷ []);
      later = [];
    } in
    let same : due ≡ e = λ i. record {
      script = sym edited.is i;
      matrix = e.matrix;
      plan = e.plan;
      earlier = sym kept.earlier i;
      later = sym kept.later i;
    } in
    subst (IsAfter a) same (edited-due a d number t e.matrix e.plan is above)

-- a show counts up
stepped-show : (s next : ScriptView) → if_shown s ≡ Ok next → (shows : ℕ) × (next ≡ record s { shows = shows })
stepped-show s next e = by (nat_lt s.shows 64) e
  where
    by : (few : Bool) → (if few then Ok (record s { shows = s.shows + 1 }) else Err fault.TooManyShows) ≡ Ok next
        → (shows : ℕ) × (next ≡ record s { shows = shows })
    by true e = (s.shows + 1, cc)
    by false e = absurd (cc)

-- an edit of a trip keeps the plan before it
kept-by : (d e : DeskView) (number : ℕ) (edit : Edit) → EditsTrip edit → IsDone number edit d e → IsKept (plans_of d) (plans_of e)
kept-by d e number edit trips done = kept-of edit d.script.timetable e.script.timetable d.matrix (plans_of d) (plans_of e) trips done.plans

after-done : (a d e : DeskView) (number : ℕ) (edit : Edit) → IsAfter a d → IsNext d.script number edit → IsDone number edit d e
    → IsAfter a e
after-done a d e number (Shift trip by) is next done =
    after-edited a d e number is next (edited-any d.script e.script number _ done.script) (kept-by d e number (Shift trip by) tt done)
after-done a d e number (Cancel trip) is next done =
    after-edited a d e number is next (edited-any d.script e.script number _ done.script) (kept-by d e number (Cancel trip) tt done)
after-done a d e number (Restore trip) is next done =
    after-edited a d e number is next (edited-any d.script e.script number _ done.script) (kept-by d e number (Restore trip) tt done)
after-done a d e number (Extra trip from to departs arrives) is next done =
    after-edited a d e number is next (edited-any d.script e.script number _ done.script)
    (kept-by d e number (Extra trip from to departs arrives) tt done)
after-done a d e number Undo is next done =
    let back = stepped-undo d.script e.script number done.script in
    let within = get-within d.script.earlier (length d.script.earlier - 1) back.timetable back.last in
    after-undone a d e is back (undone-of (plans_of d) (plans_of e) done.plans (omega (arith, within, is.sound.earlier)))
after-done a d e number Redo is next done =
    let forth = stepped-redo d.script e.script number Redo refl done.script in
    let within = get-within d.script.later (length d.script.later - 1) forth.timetable forth.last in
    after-redone a d e is forth (redone-of (plans_of d) (plans_of e) done.plans (omega (arith, within, is.sound.later)))
after-done a d e number Show is next done = let to = stepped-show d.script e.script done.script in after-shown a d e is to.0 to.1 done.plans

-- and all that follows
after-led : (a d e : DeskView) (moments : List DeskView) → IsAfter a d → IsLed d moments e → IsAfter a e
after-led a d e [] is led = subst (IsAfter a) (sym led) is
after-led a d e (next ∷ moments) is led =
    after-led a next e moments (after-done a d next led.0.number led.0.edit is led.0.next led.0.done) led.1

-- a desk to which nothing was done
sound-opened : (d : DeskView) → IsOpened d → IsSound d
sound-opened d is = record {
  base = 0;
  standing = ap (λ (s : ScriptView). 0 + length s.earlier) is.script ∙ sym (ap (λ (s : ScriptView). length s.standing) is.script);
  undone = ap (λ (s : ScriptView). length s.undone) is.script ∙ sym (ap (λ (s : ScriptView). length s.later) is.script);
  earlier = ap length is.earlier ∙ sym (ap (λ (s : ScriptView). length s.earlier) is.script);
  later = ap length is.later ∙ sym (ap (λ (s : ScriptView). length s.later) is.script);
  most = subst (λ (s : ScriptView). All (λ n. n ≤ s.last) (numbers_along s.standing s.undone)) (sym is.script) (All-nil (λ n. n ≤ 0));
}

-- equal standing lists give equal timetables and plans
pub standing-equal : (start one two : DeskView) (before between : List DeskView) → IsOpened start → IsLed start before one
    → IsLed one between two → one.script.standing ≡ two.script.standing
    → (one.script.timetable ≡ two.script.timetable) × (one.plan ≡ two.plan)
standing-equal start one two before between opened led further same =
    let first = after-led start start one before (after-self start (sound-opened start opened)) led in
    let last = after-led one one two between (after-self one first.sound) further in
    let k = length two.script.earlier in
    let agreed = last.agreed k two.script.timetable two.plan (get-middle two.script.earlier two.script.timetable (reverse two.script.later))
    (ap (slice_get (plans two)) (sym last.sound.earlier) ∙ get-middle two.earlier two.plan (reverse two.later))
    (ap (λ n. take n (numbers two)) last.sound.standing ∙ (take-append_seam two.script.standing (reverse two.script.undone) ∙ sym same)) in
    (sym agreed.0, sym agreed.1)
