-- What stays along a list of changes or edits as one more joins it, or the oldest go.
use Rattle.std.proofs.Common.{◌≡◌, ℕ, zero, suc, ◌-◌, List, [], ◌∷◌, ◌++◌, length, take, drop, fold, Some, refl, sym, ap, subst, ◌∙◌}
use Rattle.std.proofs.Common.{arith, slice_get}
use Rattle.std.proofs.Math.Seq.{take-append_seam, drop-append_seam}
use Rattle.std.proofs.lemmas.List.{length-append, take-append-drop, append_assoc}
use Rattle.trip_model.specs.Timetable.{TimetableView}
use Rattle.undo_log.specs.Log.{last_item}
use Rattle.edit_script.specs.Script.{all_but_last, last_alone}
use Rattle.edit_script.specs.Timetables.{FitAlong, timetables_before, timetables_past, timetable_past}

pub length-push : {X : Type 0} (xs : List X) (x : X) → length (xs ++ x ∷ []) - 1 ≡ length xs
length-push xs x = omega (arith, length-append xs (x ∷ []))

-- a list with one more item, without it, and that item
pub all_but_last-push : {X : Type 0} (xs : List X) (x : X) → all_but_last (xs ++ x ∷ []) ≡ xs
all_but_last-push xs x = ap (λ n. take n (xs ++ x ∷ [])) (length-push xs x) ∙ take-append_seam xs (x ∷ [])

pub last_alone-push : {X : Type 0} (xs : List X) (x : X) → last_alone (xs ++ x ∷ []) ≡ x ∷ []
last_alone-push xs x = ap (λ n. drop n (xs ++ x ∷ [])) (length-push xs x) ∙ drop-append_seam xs (x ∷ [])

pub slice_get-push : {X : Type 0} (xs : List X) (x : X) → slice_get (xs ++ x ∷ []) (length xs) ≡ Some x
slice_get-push [] x = refl
slice_get-push (y ∷ xs) x = slice_get-push xs x

pub last_item-push : {X : Type 0} (xs : List X) (x : X) → last_item (xs ++ x ∷ []) ≡ Some x
last_item-push xs x = ap (slice_get (xs ++ x ∷ [])) (length-push xs x) ∙ slice_get-push xs x

-- the oldest items move to what lies before them
pub take-drop-front : {X : Type 0} (front xs : List X) (n : ℕ) → front ++ xs ≡ (front ++ take n xs) ++ drop n xs
take-drop-front front xs n = ap (λ l. front ++ l) (sym (take-append-drop n xs)) ∙ sym (append_assoc front (take n xs) (drop n xs))

pub timetable_past-push : {A : Type 0} (f : TimetableView → A → TimetableView) (t : TimetableView) (items : List A) (a : A)
    → timetable_past f t (items ++ a ∷ []) ≡ timetable_past f (f t a) items
timetable_past-push f t [] a = refl
timetable_past-push f t (b ∷ items) a = ap (λ u. f u b) (timetable_past-push f t items a)

pub timetables_past-push : {A : Type 0} (f : TimetableView → A → TimetableView) (t : TimetableView) (items : List A) (a : A)
    → timetables_past f t (items ++ a ∷ []) ≡ timetables_past f (f t a) items ++ f t a ∷ []
timetables_past-push f t [] a = refl
timetables_past-push f t (b ∷ items) a = λ i. f (timetable_past-push f t items a i) b ∷ timetables_past-push f t items a i

pub timetables_past-drop : {A : Type 0} (f : TimetableView → A → TimetableView) (t : TimetableView) (items : List A) (n : ℕ)
    → timetables_past f t (drop n items) ≡ drop n (timetables_past f t items)
timetables_past-drop f t items zero = refl
timetables_past-drop f t [] (suc n) = refl
timetables_past-drop f t (a ∷ items) (suc n) = timetables_past-drop f t items n

pub length-timetables_past : {A : Type 0} (f : TimetableView → A → TimetableView) (t : TimetableView) (items : List A)
    → length (timetables_past f t items) ≡ length items
length-timetables_past f t [] = refl
length-timetables_past f t (a ∷ items) = ap suc (length-timetables_past f t items)

pub FitAlong-push : {A : Type 0} (f : TimetableView → A → TimetableView) (P : TimetableView → A → Type 0) (t : TimetableView)
    (items : List A) (a : A) → P t a → FitAlong f P (f t a) items → FitAlong f P t (items ++ a ∷ [])
FitAlong-push f P t [] a here along = (here, tt)
FitAlong-push f P t (b ∷ items) a here along =
    (subst (λ u. P u b) (sym (timetable_past-push f t items a)) along.0, FitAlong-push f P t items a here along.1)

pub FitAlong-last : {A : Type 0} (f : TimetableView → A → TimetableView) (P : TimetableView → A → Type 0) (t : TimetableView)
    (items : List A) (a : A) → FitAlong f P t (items ++ a ∷ []) → P t a × FitAlong f P (f t a) items
FitAlong-last f P t [] a along = (along.0, tt)
FitAlong-last f P t (b ∷ items) a along =
    let rest = FitAlong-last f P t items a along.1 in
    (rest.0, (subst (λ u. P u b) (timetable_past-push f t items a) along.0, rest.1))

pub FitAlong-drop : {A : Type 0} (f : TimetableView → A → TimetableView) (P : TimetableView → A → Type 0) (t : TimetableView)
    (items : List A) (n : ℕ) → FitAlong f P t items → FitAlong f P t (drop n items)
FitAlong-drop f P t items zero along = along
FitAlong-drop f P t [] (suc n) along = along
FitAlong-drop f P t (a ∷ items) (suc n) along = FitAlong-drop f P t items n along.1

pub timetables_before-push : {A : Type 0} (f : TimetableView → A → TimetableView) (t : TimetableView) (items : List A) (a : A)
    → timetables_before f t (items ++ a ∷ []) ≡ timetables_before f t items ++ fold f t items ∷ []
timetables_before-push f t [] a = refl
timetables_before-push f t (b ∷ items) a = ap (λ rest. t ∷ rest) (timetables_before-push f (f t b) items a)

pub length-timetables_before : {A : Type 0} (f : TimetableView → A → TimetableView) (t : TimetableView) (items : List A)
    → length (timetables_before f t items) ≡ length items
length-timetables_before f t [] = refl
length-timetables_before f t (b ∷ items) = ap suc (length-timetables_before f (f t b) items)
