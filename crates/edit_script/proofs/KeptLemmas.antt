-- What a script is seen as after a change is made, undone and redone.
use Rattle.std.proofs.Common.{◌≡◌, ℕ, zero, suc, ◌-◌, ◌<◌, ◌≤◌, List, [], ◌∷◌, ◌++◌, length, get_or, take, drop, reverse, All, AllPairs}
use Rattle.std.proofs.Common.{Ok, Some, refl, sym, ap, subst, ◌∙◌, arith}
use Rattle.std.proofs.Math.ListN.{get_or-append}
use Rattle.std.proofs.lemmas.List.{append-nil, length-append, map-append, reverse-append, append_assoc}
use Rattle.std.proofs.lemmas.List.Elements.{All-push, All-weaker}
use Rattle.std.proofs.lemmas.List.Quantifiers.{all_pairs_push}
use Rattle.trip_model.specs.Timetable.{TimetableView}
use Rattle.undo_log.specs.Log.{LogView, last_item, latest_items}
use Rattle.undo_log.specs.declared.log.TheConstants.{UNDO_DEPTH}
use Rattle.edit_script.specs.declared.changes.Change.{Change}
use Rattle.edit_script.specs.Kept.{IsKept, numbers, script_seen}
use Rattle.edit_script.specs.Made.{MayMake, WasMade, with_change, without_change}
use Rattle.edit_script.specs.Script.{IsRising, ScriptView, all_but_last, if_redone, if_undone, last_alone, numbers_along, with_edit}
use Rattle.edit_script.specs.Timetables.{FitAlong, timetables_past}
use Rattle.edit_script.proofs.TimetablesLemmas.{FitAlong-drop, FitAlong-last, FitAlong-push, all_but_last-push, last_alone-push}
use Rattle.edit_script.proofs.TimetablesLemmas.{last_item-push, length-timetables_past, timetables_past-drop, timetables_past-push}
use Rattle.edit_script.proofs.TimetablesLemmas.{take-drop-front}

numbers-push : (changes : List Change) (change : Change) → numbers (changes ++ change ∷ []) ≡ numbers changes ++ change.number ∷ []
numbers-push changes change = map-append (λ (c : Change). c.number) changes (change ∷ [])

All-front : {X : Type 0} (P : X → Type 0) (xs ys : List X) → All P (xs ++ ys) → All P xs
All-front P xs ys all = λ i d within. subst P (get_or-append xs ys d i within) (all i d (omega (arith, length-append xs ys)))

AllPairs-front : {X : Type 0} (R : X → X → Type 0) (xs ys : List X) → AllPairs R (xs ++ ys) → AllPairs R xs
AllPairs-front R xs ys pairs = λ i j d first within.
    subst (λ x. R x (get_or xs j d)) (get_or-append xs ys d i (omega arith))
    (subst (R (get_or (xs ++ ys) i d)) (get_or-append xs ys d j within) (pairs i j d first (omega (arith, length-append xs ys))))

drop-map : (n : ℕ) (changes : List Change) → numbers (drop n changes) ≡ drop n (numbers changes)
drop-map zero changes = refl
drop-map (suc n) [] = refl
drop-map (suc n) (change ∷ changes) = drop-map n changes

-- the numbers of the newest changes stand last
numbered-drop : (standing front : List ℕ) (changes : List Change) (n : ℕ) → standing ≡ front ++ numbers changes
    → (more : List ℕ) × (standing ≡ more ++ numbers (drop n changes))
numbered-drop standing front changes n is = (
  front ++ take n (numbers changes),
  is ∙ take-drop-front front (numbers changes) n
      ∙ ap (λ rest. (front ++ take n (numbers changes)) ++ rest) (sym (drop-map n changes)),
)

-- a number moves from those that were undone to those that stand
numbers_along-moved : (standing undone : List ℕ) (number : ℕ)
    → numbers_along (standing ++ number ∷ []) undone ≡ numbers_along standing (undone ++ number ∷ [])
numbers_along-moved standing undone number = append_assoc standing (number ∷ []) (reverse undone)
    ∙ ap (λ numbers. standing ++ numbers) (sym (reverse-append undone (number ∷ [])))

-- numbers rise as a greater one stands, and nothing is undone
IsRising-pushed : (standing undone : List ℕ) (last number : ℕ) → last < number → IsRising last (numbers_along standing undone)
    → IsRising number (numbers_along (standing ++ number ∷ []) [])
IsRising-pushed standing undone last number next rising =
    let below : All (λ n. n < number) standing =
    All-weaker (λ n. n ≤ last) (λ n. n < number) (λ n most. omega arith) standing
    (All-front (λ n. n ≤ last) standing (reverse undone) rising.most) in
    subst (IsRising number) (sym (append-nil (standing ++ number ∷ []))) (record {
      rises = all_pairs_push (λ x y. x < y) standing number (AllPairs-front (λ x y. x < y) standing (reverse undone) rising.rises)
          (λ k d within. below k d within);
      most = All-push (λ n. n ≤ number) standing number
          (All-weaker (λ n. n < number) (λ n. n ≤ number) (λ n less. omega arith) standing below) (omega arith);
    })

-- a new change is kept
pub IsKept-made : (old now : TimetableView) (log : LogView Change) (standing : List ℕ) (last : ℕ) (change : Change)
    → last < change.number → IsKept old log standing last → without_change now change ≡ old → WasMade now change
    → IsKept now (record { kept = latest_items (log.kept ++ change ∷ []); undone = [] }) (standing ++ change.number ∷ []) change.number
IsKept-made old now log standing last change next kept back was = record {
  made = FitAlong-drop without_change WasMade now (log.kept ++ change ∷ []) _
      (FitAlong-push without_change WasMade now log.kept change was
      (subst (λ t. FitAlong without_change WasMade t log.kept) (sym back) kept.made));
  undone = tt;
  numbered = numbered-drop _ kept.numbered.0 (log.kept ++ change ∷ []) _
      (ap (λ numbers. numbers ++ change.number ∷ []) kept.numbered.1 ∙ append_assoc kept.numbered.0 (numbers log.kept) (change.number ∷ [])
      ∙ ap (λ numbers. kept.numbered.0 ++ numbers) (sym (numbers-push log.kept change)));
  rising = IsRising-pushed standing (numbers log.undone) last change.number next kept.rising;
}

-- and the timetable before it
earlier-made : (old now : TimetableView) (changes : List Change) (change : Change) → without_change now change ≡ old
    → timetables_past without_change now (latest_items (changes ++ change ∷ [])) ≡ latest_items
    (timetables_past without_change old changes ++ old ∷ [])
earlier-made old now changes change back =
    let pushed : timetables_past without_change now (changes ++ change ∷ []) ≡ timetables_past without_change old changes ++ old ∷ [] =
    timetables_past-push without_change now changes change ∙ ap (λ t. timetables_past without_change t changes ++ t ∷ []) back in
    timetables_past-drop without_change now (changes ++ change ∷ []) (length (changes ++ change ∷ []) - UNDO_DEPTH)
    ∙ ap (λ n. drop (n - UNDO_DEPTH) (timetables_past without_change now (changes ++ change ∷ [])))
    (sym (length-timetables_past without_change now (changes ++ change ∷ [])))
    ∙ ap latest_items pushed

pub script_seen-made : (old now : TimetableView) (log : LogView Change) (standing : List ℕ) (last shows : ℕ) (change : Change)
    → without_change now change ≡ old
    → script_seen now (record { kept = latest_items (log.kept ++ change ∷ []); undone = [] }) (standing ++ change.number ∷ [])
    change.number shows
    ≡ with_edit (script_seen old log standing last shows) change.number now
script_seen-made old now log standing last shows change back =
    ap (λ earlier. record (with_edit (script_seen old log standing last shows) change.number now) { earlier = earlier })
    (earlier-made old now log.kept change back)

-- the numbers that stand, where the newest change is one more
numbered-push : (standing front : List ℕ) (kept : List Change) (change : Change) → standing ≡ front ++ numbers (kept ++ change ∷ [])
    → standing ≡ (front ++ numbers kept) ++ change.number ∷ []
numbered-push standing front kept change is = is ∙ ap (λ numbers. front ++ numbers) (numbers-push kept change)
    ∙ sym (append_assoc front (numbers kept) (change.number ∷ []))

-- the newest kept change was made
pub WasMade-newest : (t : TimetableView) (kept undone : List Change) (standing : List ℕ) (last : ℕ) (change : Change)
    → IsKept t (record { kept = kept ++ change ∷ []; undone = undone }) standing last → WasMade t change
WasMade-newest t kept undone standing last change is = (FitAlong-last without_change WasMade t kept change is.made).0

-- the newest undone change can be made again
pub MayMake-newest : (t : TimetableView) (kept undone : List Change) (standing : List ℕ) (last : ℕ) (change : Change)
    → IsKept t (record { kept = kept; undone = undone ++ change ∷ [] }) standing last → MayMake t change
MayMake-newest t kept undone standing last change is = (FitAlong-last with_change MayMake t undone change is.undone).0

-- a change is undone
pub IsKept-undone : (t : TimetableView) (kept undone : List Change) (standing : List ℕ) (last : ℕ) (change : Change)
    → IsKept t (record { kept = kept ++ change ∷ []; undone = undone }) standing last
    → IsKept (without_change t change) (record { kept = kept; undone = undone ++ change ∷ [] }) (all_but_last standing) last
IsKept-undone t kept undone standing last change is =
    let newest = FitAlong-last without_change WasMade t kept change is.made in
    let stands = numbered-push standing is.numbered.0 kept change is.numbered.1 in
    record {
      made = newest.1;
      undone = FitAlong-push with_change MayMake (without_change t change) undone change newest.0.makes
          (subst (λ u. FitAlong with_change MayMake u undone) (sym newest.0.again) is.undone);
      numbered = (is.numbered.0, ap all_but_last stands ∙ all_but_last-push (is.numbered.0 ++ numbers kept) change.number);
      rising = subst (IsRising last)
          (ap (λ standing. numbers_along standing (numbers undone)) stands
          ∙ numbers_along-moved (is.numbered.0 ++ numbers kept) (numbers undone) change.number
          ∙ λ i. numbers_along (sym (ap all_but_last stands ∙ all_but_last-push (is.numbered.0 ++ numbers kept) change.number) i)
          (sym (numbers-push undone change) i))
          is.rising;
    }

pub if_undone-is : (t : TimetableView) (kept undone : List Change) (standing : List ℕ) (last shows : ℕ) (change : Change)
    → IsKept t (record { kept = kept ++ change ∷ []; undone = undone }) standing last
    → if_undone (script_seen t (record { kept = kept ++ change ∷ []; undone = undone }) standing last shows)
    (last_item (timetables_past without_change t (kept ++ change ∷ [])))
    ≡ Ok (script_seen (without_change t change) (record { kept = kept; undone = undone ++ change ∷ [] }) (all_but_last standing) last shows)
if_undone-is t kept undone standing last shows change is =
    let was = WasMade-newest t kept undone standing last change is in
    let stands = numbered-push standing is.numbered.0 kept change is.numbered.1 in
    let pushed = timetables_past-push without_change t kept change in
    let numbers_are : numbers undone ++ last_alone standing ≡ numbers (undone ++ change ∷ []) =
    ap (λ alone. numbers undone ++ alone) (ap last_alone stands ∙ last_alone-push (is.numbered.0 ++ numbers kept) change.number)
    ∙ sym (numbers-push undone change) in
    let earlier_is : all_but_last (timetables_past without_change t (kept ++ change ∷ [])) ≡ timetables_past without_change
    (without_change t change) kept =
    ap all_but_last pushed ∙ all_but_last-push (timetables_past without_change (without_change t change) kept) (without_change t change) in
    let later_is : timetables_past with_change t undone ++ t
    ∷ [] ≡ timetables_past with_change (without_change t change) (undone ++ change ∷ []) =
    sym (timetables_past-push with_change (without_change t change) undone change
    ∙ ap (λ u. timetables_past with_change u undone ++ u ∷ []) was.again) in
    ap (if_undone (script_seen t (record { kept = kept ++ change ∷ []; undone = undone }) standing last shows))
    (ap last_item pushed ∙ last_item-push (timetables_past without_change (without_change t change) kept) (without_change t change))
    ∙ λ i. Ok (record {
      timetable = without_change t change;
      standing = all_but_last standing;
      undone = numbers_are i;
      last = last;
      shows = shows;
      earlier = earlier_is i;
      later = later_is i;
    })

-- a change is made again
pub IsKept-redone : (t now : TimetableView) (kept undone : List Change) (standing : List ℕ) (last : ℕ) (change : Change)
    → IsKept t (record { kept = kept; undone = undone ++ change ∷ [] }) standing last
    → now ≡ with_change t change → without_change now change ≡ t → WasMade now change
    → IsKept now (record { kept = kept ++ change ∷ []; undone = undone }) (standing ++ change.number ∷ []) last
IsKept-redone t now kept undone standing last change is made back was = record {
  made = FitAlong-push without_change WasMade now kept change was (subst (λ u. FitAlong without_change WasMade u kept) (sym back) is.made);
  undone = subst (λ u. FitAlong with_change MayMake u undone) (sym made) (FitAlong-last with_change MayMake t undone change is.undone).1;
  numbered = (
    is.numbered.0,
    ap (λ numbers. numbers ++ change.number ∷ []) is.numbered.1
        ∙ append_assoc is.numbered.0 (numbers kept) (change.number ∷ [])
        ∙ ap (λ numbers. is.numbered.0 ++ numbers) (sym (numbers-push kept change)),
  );
  rising = subst (IsRising last)
      (ap (numbers_along standing) (numbers-push undone change) ∙ sym (numbers_along-moved standing (numbers undone) change.number))
      is.rising;
}

pub if_redone-is : (t now : TimetableView) (kept undone : List Change) (standing : List ℕ) (last shows : ℕ) (change : Change)
    → now ≡ with_change t change → without_change now change ≡ t
    → if_redone (script_seen t (record { kept = kept; undone = undone ++ change ∷ [] }) standing last shows)
    (last_item (timetables_past with_change t (undone ++ change ∷ [])))
    ≡ Ok (script_seen now (record { kept = kept ++ change ∷ []; undone = undone }) (standing ++ change.number ∷ []) last shows)
if_redone-is t now kept undone standing last shows change made back =
    let pushed = timetables_past-push with_change t undone change in
    let are : numbers (undone ++ change ∷ []) ≡ numbers undone ++ change.number ∷ [] = numbers-push undone change in
    let stands : standing ++ last_alone (numbers (undone ++ change ∷ [])) ≡ standing ++ change.number ∷ [] =
    ap (λ alone. standing ++ alone) (ap last_alone are ∙ last_alone-push (numbers undone) change.number) in
    let undone_are : all_but_last (numbers (undone ++ change ∷ [])) ≡ numbers undone = ap all_but_last are
    ∙ all_but_last-push (numbers undone) change.number in
    let earlier_is : timetables_past without_change t kept ++ t ∷ [] ≡ timetables_past without_change now (kept ++ change ∷ []) =
    sym (timetables_past-push without_change now kept change ∙ ap (λ u. timetables_past without_change u kept ++ u ∷ []) back) in
    let later_is : all_but_last (timetables_past with_change t (undone ++ change ∷ [])) ≡ timetables_past with_change now undone =
    ap all_but_last pushed ∙ all_but_last-push (timetables_past with_change (with_change t change) undone) (with_change t change)
    ∙ ap (λ u. timetables_past with_change u undone) (sym made) in
    ap (if_redone (script_seen t (record { kept = kept; undone = undone ++ change ∷ [] }) standing last shows))
    (ap last_item pushed ∙ last_item-push (timetables_past with_change (with_change t change) undone) (with_change t change))
    ∙ λ i. Ok (record {
      timetable = sym made i;
      standing = stands i;
      undone = undone_are i;
      last = last;
      shows = shows;
      earlier = earlier_is i;
      later = later_is i;
    })

-- the same, of what the calls gave
pub IsKept-changed : (old now : TimetableView) (log new : LogView Change) (standing more : List ℕ) (last : ℕ) (change : Change)
    → last < change.number → IsKept old log standing last → without_change now change ≡ old → WasMade now change
    → new ≡ record { kept = latest_items (log.kept ++ change ∷ []); undone = [] } → more ≡ standing ++ change.number ∷ []
    → IsKept now new more change.number
IsKept-changed old now log new standing more last change next kept back was log_is standing_is =
    subst (λ stands. IsKept now new stands change.number) (sym standing_is)
    (subst (λ log. IsKept now log (standing ++ change.number ∷ []) change.number) (sym log_is)
    (IsKept-made old now log standing last change next kept back was))

pub script_seen-changed : (s : ScriptView) (old now : TimetableView) (log new : LogView Change) (standing more : List ℕ) (last shows : ℕ)
    (change : Change)
    → script_seen old log standing last shows ≡ s → now ≡ with_change old change → without_change now change ≡ old
    → new ≡ record { kept = latest_items (log.kept ++ change ∷ []); undone = [] } → more ≡ standing ++ change.number ∷ []
    → script_seen now new more change.number shows ≡ with_edit s change.number (with_change s.timetable change)
script_seen-changed s old now log new standing more last shows change view made back log_is standing_is =
    (λ i. script_seen now (log_is i) (standing_is i) change.number shows)
    ∙ script_seen-made old now log standing last shows change back
    ∙ λ i. with_edit (view i) change.number (made_at i)
  where
    made_at : now ≡ with_change s.timetable change
    made_at = made ∙ ap (λ (s : ScriptView). with_change s.timetable change) view

pub IsKept-taken_back : (t now : TimetableView) (log taken new : LogView Change) (standing fewer : List ℕ) (last : ℕ) (change : Change)
    → IsKept t log standing last → log ≡ record taken { kept = taken.kept ++ change ∷ [] } → now ≡ without_change t change
    → new ≡ record taken { undone = taken.undone ++ change ∷ [] } → fewer ≡ all_but_last standing
    → IsKept now new fewer last
IsKept-taken_back t now log taken new standing fewer last change kept log_is now_is new_is fewer_are =
    let at : IsKept t (record taken { kept = taken.kept ++ change ∷ [] }) standing last =
    subst (λ log. IsKept t log standing last) log_is kept in
    subst (λ u. IsKept u new fewer last) (sym now_is)
    (subst (λ log. IsKept (without_change t change) log fewer last) (sym new_is)
    (subst (λ stands. IsKept (without_change t change) (record taken { undone = taken.undone ++ change ∷ [] }) stands last)
    (sym fewer_are)
    (IsKept-undone t taken.kept taken.undone standing last change at)))

pub if_undone-taken_back : (s : ScriptView) (t now : TimetableView) (log taken new : LogView Change) (standing fewer : List ℕ)
    (last shows : ℕ) (change : Change)
    → script_seen t log standing last shows ≡ s → IsKept t log standing last → log ≡ record taken { kept = taken.kept ++ change ∷ [] }
    → now ≡ without_change t change → new ≡ record taken { undone = taken.undone ++ change ∷ [] } → fewer ≡ all_but_last standing
    → if_undone s (last_item s.earlier) ≡ Ok (script_seen now new fewer last shows)
if_undone-taken_back s t now log taken new standing fewer last shows change view kept log_is now_is new_is fewer_are =
    let at : IsKept t (record taken { kept = taken.kept ++ change ∷ [] }) standing last =
    subst (λ log. IsKept t log standing last) log_is kept in
    ap (λ (s : ScriptView). if_undone s (last_item s.earlier)) (sym view ∙ ap (λ log. script_seen t log standing last shows) log_is)
    ∙ if_undone-is t taken.kept taken.undone standing last shows change at
    ∙ λ i. Ok (script_seen (sym now_is i) (sym new_is i) (sym fewer_are i) last shows)

pub IsKept-taken_forth : (t now : TimetableView) (log taken new : LogView Change) (standing more : List ℕ) (last : ℕ) (change : Change)
    → IsKept t log standing last → log ≡ record taken { undone = taken.undone ++ change ∷ [] } → now ≡ with_change t change
    → without_change now change ≡ t → WasMade now change → new ≡ record taken { kept = taken.kept ++ change ∷ [] }
    → more ≡ standing ++ change.number ∷ [] → IsKept now new more last
IsKept-taken_forth t now log taken new standing more last change kept log_is made back was new_is more_are =
    let at : IsKept t (record taken { undone = taken.undone ++ change ∷ [] }) standing last =
    subst (λ log. IsKept t log standing last) log_is kept in
    subst (λ log. IsKept now log more last) (sym new_is)
    (subst (λ stands. IsKept now (record taken { kept = taken.kept ++ change ∷ [] }) stands last) (sym more_are)
    (IsKept-redone t now taken.kept taken.undone standing last change at made back was))

pub if_redone-taken_forth : (s : ScriptView) (t now : TimetableView) (log taken new : LogView Change) (standing more : List ℕ)
    (last shows : ℕ) (change : Change)
    → script_seen t log standing last shows ≡ s → log ≡ record taken { undone = taken.undone ++ change ∷ [] } → now ≡ with_change t change
    → without_change now change ≡ t → new ≡ record taken { kept = taken.kept ++ change ∷ [] }
    → more ≡ standing ++ change.number ∷ [] → if_redone s (last_item s.later) ≡ Ok (script_seen now new more last shows)
if_redone-taken_forth s t now log taken new standing more last shows change view log_is made back new_is more_are =
    ap (λ (s : ScriptView). if_redone s (last_item s.later)) (sym view ∙ ap (λ log. script_seen t log standing last shows) log_is)
    ∙ if_redone-is t now taken.kept taken.undone standing last shows change made back
    ∙ λ i. Ok (script_seen now (sym new_is i) (sym more_are i) last shows)

-- of what is undone there is a timetable after it
pub later-there : (s : ScriptView) (t : TimetableView) (log taken : LogView Change) (standing : List ℕ) (last shows : ℕ) (change : Change)
    → script_seen t log standing last shows ≡ s → log ≡ record taken { undone = taken.undone ++ change ∷ [] }
    → last_item s.later ≡ Some (with_change t change)
later-there s t log taken standing last shows change view log_is =
    ap (λ (s : ScriptView). last_item s.later) (sym view ∙ ap (λ log. script_seen t log standing last shows) log_is)
    ∙ ap last_item (timetables_past-push with_change t taken.undone change)
    ∙ last_item-push (timetables_past with_change (with_change t change) taken.undone) (with_change t change)
