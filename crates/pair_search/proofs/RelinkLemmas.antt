-- Linking rows anew on the way back keeps links matched, and moves next trips along a path.
use Rattle.std.proofs.Common.{◌≡◌, ◌≢◌, ℕ, ◌+◌, ◌<◌, ◌≤◌, Bool, true, false, List, [], ◌∷◌, length, set, Option, None, Some, refl, sym, ap}
use Rattle.std.proofs.Common.{subst, ◌∙◌, ⊎_elim, inl, inr, ◌⊎◌, arith}
use Rattle.std.specs.Prelude.{IsSome, IfSome}
use Rattle.std.specs.List.{AllByRecursion}
use Rattle.std.proofs.lemmas.Bool.{both_ways, cases_eq}
use Rattle.std.proofs.lemmas.List.{get_or-set_same, get_or-set_other}
use Rattle.std.proofs.lemmas.Option.{none-some, same_Some}
use Rattle.assignment_model.specs.Paths.{IsNoneOf, IsPassedOn, IsPath}
use Rattle.assignment_model.specs.Prices.{price}
use Rattle.trip_model.specs.Links.{next_of, before_of, AreApart}
use Rattle.pair_search.specs.Assignment.{IsMatched}
use Rattle.pair_search.specs.Relinking.{LeadsBack, IsTightBack, IsPassing, IsPassedTo, IsRowAfter, IsRelinked}
use Rattle.pair_search.specs.Search.{at}

-- the row at a place is none of those after it
outside : (next : List (Option ℕ)) (parent rows : List ℕ) (top t s : ℕ) → LeadsBack next parent rows top → s ≤ t → (path : List ℕ)
    → AllByRecursion (IsRowAfter rows t top) path
    → IsNoneOf path (at rows s)
outside next parent rows top t s leads le [] after = tt
outside next parent rows top t s leads le (r ∷ path) after = (
  λ e. leads.apart s after.0.place (omega (arith, after.0.after)) after.0.upto (sym e ∙ sym after.0.is),
  outside next parent rows top t
      s leads le path after.1,
)

-- rows after a place are rows after every place before it
after-less : (rows : List ℕ) (t s top : ℕ) → s < t → (path : List ℕ) → AllByRecursion (IsRowAfter rows t top) path
    → AllByRecursion (IsRowAfter rows s top) path
after-less rows t s top lt [] after = tt
after-less rows t s top lt (r ∷ path) after = (
  record { place = after.0.place; after = omega (arith, after.0.after); upto = after.0.upto; is = after.0.is },
  after-less rows t s top
      lt path after.1,
)

-- what is passed on along a path depends on what its slots are given alone
passed-same : (had had_by given given' : ℕ → Option ℕ) (s : ℕ) (path : List ℕ) → given' s ≡ given s
    → AllByRecursion (λ r. given' r ≡ given r) path
    → IsPassedOn had had_by given s path → IsPassedOn had had_by given' s path
passed-same had had_by given given' s [] same rest passed = subst (λ v. IfSome v (λ t. had_by t ≡ None)) (sym same) passed
passed-same had had_by given given' s (r ∷ path) same rest passed =
    (same ∙ passed.0, passed.1, passed-same had had_by given given' r path rest.0 rest.1 passed.2)

-- slots other than the row keep what they had
kept : (cur : List (Option ℕ)) (row : ℕ) (to : Option ℕ) (path : List ℕ) → IsNoneOf path row
    → AllByRecursion (λ r. next_of (set cur row to) r ≡ next_of cur r) path
kept cur row to [] none = tt
kept cur row to (r ∷ path) none = (get_or-set_other cur row r to None none.0, kept cur row to path none.1)

-- a row that is given what the path passes to it stands before it
passed-on : (had had_by : ℕ → Option ℕ) (cur : List (Option ℕ)) (row : ℕ) (to : Option ℕ) (path : List ℕ) → row < length cur
    → IsNoneOf path row
    → IsPassedTo had had_by (next_of cur) to path → IsPassedOn had had_by (next_of (set cur row to)) row path
passed-on had had_by cur row to [] within none passed =
    subst (λ v. IfSome v (λ t. had_by t ≡ None)) (sym (get_or-set_same cur row to None within)) passed
passed-on had had_by cur row to (r ∷ path) within none passed = (
  get_or-set_same cur row to None within ∙ passed.0,
  passed.1,
  passed-same had had_by (next_of cur) (next_of (set cur row to)) r path (get_or-set_other cur row r to None none.0)
      (kept cur row to path none.1) passed.2,
)

-- the row at the place has what it had at first
pub row-kept : (old cur : List (Option ℕ)) (parent rows : List ℕ) (top t : ℕ) (to : Option ℕ) → LeadsBack old parent rows top
    → IsRelinked old cur rows top t to
    → next_of cur (at rows t) ≡ next_of old (at rows t)
row-kept old cur parent rows top t to leads moved =
    moved.others (at rows t) (outside old parent rows top t t leads (omega arith) moved.path moved.after)

-- a row that had no next stands at the first place
first-place : (old cur : List (Option ℕ)) (parent rows : List ℕ) (top t : ℕ) (to : Option ℕ) → LeadsBack old parent rows top → t ≤ top
    → IsRelinked old cur rows top t to
    → next_of cur (at rows t) ≡ None → t ≡ 0
first-place old cur parent rows top t to leads upto moved none = ⊎_elim
    (λ (e : t ≡ 0). e)
    (λ (ne : t ≡ 0 → ⊥).
    let had = row-kept old cur parent rows top t to leads moved in
    let some = subst IsSome (sym had ∙ none) (leads.linked t (omega arith) upto) in cc some)
    (cases_eq t 0)

-- the column that the row had leads to a place before
pub place-before : (old cur : List (Option ℕ)) (parent rows : List ℕ) (top t j : ℕ) (to : Option ℕ) → LeadsBack old parent rows top
    → t ≤ top → IsRelinked old cur rows top t to
    → next_of cur (at rows t) ≡ Some j → (j < length parent) × (at parent j < t)
place-before old cur parent rows top t j to leads upto moved had =
    leads.back t j upto (sym (row-kept old cur parent rows top t to leads moved) ∙ had)

-- the links with a row more of the way back
pub IsRelinked-more : (old cur : List (Option ℕ)) (parent rows : List ℕ) (top t j : ℕ) (to : Option ℕ) → LeadsBack old parent rows top
    → t ≤ top → length cur ≡ length old → IsRelinked old cur rows top t to
    → next_of cur (at rows t) ≡ Some j → IsRelinked old (set cur (at rows t) to) rows top (at parent j) (Some j)
IsRelinked-more old cur parent rows top t j to leads upto len moved had =
    let row = at rows t in
    let was : next_of old row ≡ Some j = sym (row-kept old cur parent rows top t to leads moved) ∙ had in
    let none = outside old parent rows top t t leads (omega arith) moved.path moved.after in
    let less = (leads.back t j upto was).1 in
    record {
      path = row ∷ moved.path;
      distinct = (none, moved.distinct);
      after = (record { place = t; after = less; upto = upto; is = refl }, after-less rows t (at parent j) top less moved.path moved.after);
      passed = (
        sym was,
        subst IsSome (sym was) refl,
        passed-on (next_of old) (before_of old) cur row to moved.path (omega (arith, leads.within t upto, len)) none moved.passed,
      );
      others = λ s away. get_or-set_other cur row s to None (λ e. away.0 (sym e)) ∙ moved.others s away.1;
    }

-- and at the first row the path is whole
pub IsPath-relinked : (old cur : List (Option ℕ)) (parent rows : List ℕ) (top t : ℕ) (to : Option ℕ) → LeadsBack old parent rows top
    → t ≤ top → length cur ≡ length old → IsRelinked old cur rows top t to
    → next_of cur (at rows t) ≡ None → IsPath (next_of old) (before_of old) (next_of (set cur (at rows t) to)) (at rows 0)
IsPath-relinked old cur parent rows top t to leads upto len moved had =
    let row = at rows t in
    let none = outside old parent rows top t t leads (omega arith) moved.path moved.after in
    subst (IsPath (next_of old) (before_of old) (next_of (set cur row to)))
    (ap (at rows) (first-place old cur parent rows top t to leads upto moved had))
    (record {
      path = moved.path;
      distinct = (none, moved.distinct);
      passed = passed-on (next_of old) (before_of old) cur row to moved.path (omega (arith, leads.within t upto, len)) none moved.passed;
      others = λ s away. get_or-set_other cur row s to None (λ e. away.0 (sym e)) ∙ moved.others s away.1;
    })

-- a link after the row was given this is that one or an old one
now : (cur : List (Option ℕ)) (row : ℕ) (to : Option ℕ) → row < length cur → (i j : ℕ) → next_of (set cur row to) i ≡ Some j
    → ((i ≡ row) × (to ≡ Some j)) ⊎ ((i ≢ row) × (next_of cur i ≡ Some j))
now cur row to within i j e = ⊎_elim
    (λ (same : i ≡ row). inl (same, sym (get_or-set_same cur row to None within) ∙ ap (next_of (set cur row to)) (sym same) ∙ e))
    (λ (ne : i ≡ row → ⊥). inr (ne, sym (get_or-set_other cur row i to None ne) ∙ e))
    (cases_eq i row)

-- a slot without a next is the row, that was given none, or it had none
lacks : (cur : List (Option ℕ)) (row : ℕ) (to : Option ℕ) → row < length cur → (i : ℕ) → next_of (set cur row to) i ≡ None
    → ((i ≡ row) × (to ≡ None)) ⊎ ((i ≢ row) × (next_of cur i ≡ None))
lacks cur row to within i e = ⊎_elim
    (λ (same : i ≡ row). inl (same, sym (get_or-set_same cur row to None within) ∙ ap (next_of (set cur row to)) (sym same) ∙ e))
    (λ (ne : i ≡ row → ⊥). inr (ne, sym (get_or-set_other cur row i to None ne) ∙ e))
    (cases_eq i row)

passed-once : (w : ℕ → ℕ → Option ℕ) (out : ℕ → Bool) (a : ℕ) (b : Option ℕ) (cur : List (Option ℕ)) (leave enter : List ℕ) (row : ℕ)
    (to : Option ℕ) → row < length cur
    → IsPassing w out a b cur leave enter row to → AreApart (set cur row to)
passed-once w out a b cur leave enter row to within p h i j e f = ⊎_elim
    (λ (x : (h ≡ row) × (to ≡ Some j)). ⊎_elim
    (λ (y : (i ≡ row) × (to ≡ Some j)). x.0 ∙ sym y.0)
    (λ (y : (i ≢ row) × (next_of cur i ≡ Some j)). absurd ((p.column j x.1).1 i y.1))
    (now cur row to within i j f))
    (λ (x : (h ≢ row) × (next_of cur h ≡ Some j)). ⊎_elim
    (λ (y : (i ≡ row) × (to ≡ Some j)). absurd ((p.column j y.1).1 h x.1))
    (λ (y : (i ≢ row) × (next_of cur i ≡ Some j)). p.once h i j x.1 y.1)
    (now cur row to within i j f))
    (now cur row to within h j e)

passed-tight : (w : ℕ → ℕ → Option ℕ) (out : ℕ → Bool) (a : ℕ) (b : Option ℕ) (cur : List (Option ℕ)) (leave enter : List ℕ) (row : ℕ)
    (to : Option ℕ) → row < length cur
    → IsPassing w out a b cur leave enter row to → (i j : ℕ) → next_of (set cur row to) i ≡ Some j
    → w i j ≡ Some (price leave i + price enter j)
passed-tight w out a b cur leave enter row to within p i j e = ⊎_elim
    (λ (x : (i ≡ row) × (to ≡ Some j)). subst (λ r. w r j ≡ Some (price leave r + price enter j)) (sym x.0) (p.column j x.1).0)
    (λ (x : (i ≢ row) × (next_of cur i ≡ Some j)). p.tight i j x.1)
    (now cur row to within i j e)

passed-left : (w : ℕ → ℕ → Option ℕ) (out : ℕ → Bool) (a : ℕ) (b : Option ℕ) (cur : List (Option ℕ)) (leave enter : List ℕ) (row : ℕ)
    (to : Option ℕ) → out row ≡ false
    → IsPassing w out a b cur leave enter row to → (i : ℕ) → out i ≡ true → next_of (set cur row to) i ≡ None
passed-left w out a b cur leave enter row to in-tree p i left = ⊎_elim
    (λ (same : i ≡ row). absurd (both_ways (out row) in-tree (ap out (sym same) ∙ left)))
    (λ (ne : i ≡ row → ⊥). get_or-set_other cur row i to None ne ∙ p.left i left)
    (cases_eq i row)

passed-enter : (w : ℕ → ℕ → Option ℕ) (out : ℕ → Bool) (a : ℕ) (b : Option ℕ) (cur : List (Option ℕ)) (leave enter : List ℕ) (row : ℕ)
    (to : Option ℕ) → row < length cur
    → IsPassing w out a b cur leave enter row to → (j : ℕ) → next_of cur row ≢ Some j → b ≢ Some j
    → ((i : ℕ) → next_of (set cur row to) i ≢ Some j) → price enter j ≡ 0
passed-enter w out a b cur leave enter row to within p j had other none =
    p.enter_zero j other (λ e. none row (get_or-set_same cur row to None within ∙ e))
    (λ i e. ⊎_elim
    (λ (same : i ≡ row). had (ap (next_of cur) (sym same) ∙ e))
    (λ (ne : i ≡ row → ⊥). none i (get_or-set_other cur row i to None ne ∙ e))
    (cases_eq i row))

-- a row of the way back is linked to what it is given, and what it had is passed on
pub IsPassing-more : (w : ℕ → ℕ → Option ℕ) (out : ℕ → Bool) (a : ℕ) (b : Option ℕ) (old cur : List (Option ℕ))
    (leave enter parent rows : List ℕ) (top t j : ℕ) (to : Option ℕ)
    → LeadsBack old parent rows top → t ≤ top → length cur ≡ length old → IsRelinked old cur rows top t to
    → next_of cur (at rows t) ≡ Some j → IsTightBack w out old leave enter parent rows top
    → IsPassing w out a b cur leave enter (at rows t) to
    → IsPassing w out a b (set cur (at rows t) to) leave enter (at rows (at parent j)) (Some j)
IsPassing-more w out a b old cur leave enter parent rows top t j to leads upto len moved had tight p =
    let row = at rows t in
    let within : row < length cur = omega (arith, leads.within t upto, len) in
    let was : next_of old row ≡ Some j = sym (row-kept old cur parent rows top t to leads moved) ∙ had in
    record {
      once = passed-once w out a b cur leave enter row to within p;
      tight = passed-tight w out a b cur leave enter row to within p;
      left = passed-left w out a b cur leave enter row to (tight.inside t upto) p;
      last = p.last;
      leave_zero = λ i other none. ⊎_elim
          (λ (x : (i ≡ row) × (to ≡ None)). ap (price leave) x.0 ∙ p.alone x.1)
          (λ (x : (i ≢ row) × (next_of cur i ≡ None)). p.leave_zero i other x.1)
          (lacks cur row to within i none);
      enter_zero = λ h other differs none. passed-enter w out a b cur leave enter row to within p h (λ e. differs (sym had ∙ e)) other none;
      alone = λ e. absurd (none-some j (sym e));
      column = λ h e.
          let same : j ≡ h = same_Some j h e in (
            subst (λ c. w (at rows (at parent j)) c ≡ Some (price leave (at rows (at parent j)) + price enter c)) same
                (tight.tight t j upto was),
            λ i next. ⊎_elim
                (λ (x : (i ≡ row) × (to ≡ Some h)). (p.column h x.1).1 row (had ∙ e))
                (λ (x : (i ≢ row) × (next_of cur i ≡ Some h)). x.0 (p.once i row h x.1 (had ∙ e)))
                (now cur row to within i h next),
          );
    }

-- at the first row all links are matched
pub IsMatched-passed : (w : ℕ → ℕ → Option ℕ) (out : ℕ → Bool) (b : Option ℕ) (old cur : List (Option ℕ))
    (leave enter parent rows : List ℕ) (top t : ℕ) (to : Option ℕ)
    → LeadsBack old parent rows top → t ≤ top → length cur ≡ length old → IsRelinked old cur rows top t to → next_of cur (at rows t) ≡ None
    → IsTightBack w out old leave enter parent rows top
    → IsPassing w out (at rows 0) b cur leave enter (at rows t) to → IsMatched w out None b (set cur (at rows t) to) leave enter
IsMatched-passed w out b old cur leave enter parent rows top t to leads upto len moved had tight p =
    let row = at rows t in
    let within : row < length cur = omega (arith, leads.within t upto, len) in
    let first : row ≡ at rows 0 = ap (at rows) (first-place old cur parent rows top t to leads upto moved had) in
    record {
      once = passed-once w out (at rows 0) b cur leave enter row to within p;
      tight = passed-tight w out (at rows 0) b cur leave enter row to within p;
      left = passed-left w out (at rows 0) b cur leave enter row to (tight.inside t upto) p;
      first = λ i e. absurd (none-some i e);
      last = p.last;
      leave_zero = λ i other none. ⊎_elim
          (λ (x : (i ≡ row) × (to ≡ None)). ap (price leave) x.0 ∙ p.alone x.1)
          (λ (x : (i ≢ row) × (next_of cur i ≡ None)). p.leave_zero i (λ e. x.0 (e ∙ sym first)) x.1)
          (lacks cur row to within i none);
      enter_zero = λ j other none. passed-enter w out (at rows 0) b cur leave enter row to within p j (λ e. none-some j (sym had ∙ e))
          other none;
    }
