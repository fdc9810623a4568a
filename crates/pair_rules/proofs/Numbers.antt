-- Names with their marks, and what a map of them finds.
use Rattle.std.proofs.Common.{◌≡◌, ℕ, ◌+◌, ◌<◌, Bool, true, false, cond, not, ◌&&◌, ◌||◌, List, [], ◌∷◌, ◌++◌, map, length, get_or}
use Rattle.std.proofs.Common.{slice_get, position, Some, None, option_map, unwrap_or, refl, sym, ap, ◌∙◌, nat_lt}
use Rattle.std.proofs.Common.{String, string_bytes}
use Rattle.std.specs.Prelude.{string_eq}
use Rattle.std.specs.List.{position_or_len, prefix_len}
use Rattle.std.specs.Map.{keys_of, lookup}
use Rattle.std.specs.Str.{bytes_eq}
use Rattle.std.proofs.Math.Bool.{or-false}
use Rattle.std.proofs.lemmas.Bool.{or_parts, or_from, and_right}
use Rattle.std.proofs.lemmas.Cmp.{nat_list_eq_equiv}
use Rattle.std.proofs.lemmas.List.{length-map}
use Rattle.std.proofs.lemmas.List.Folds.{list_any-append}
use Rattle.std.proofs.lemmas.Option.{slice_get-map, slice_get-get_or}
use Rattle.std.proofs.lemmas.Slice.Eq.{bytes_eq-Decides}
use Rattle.indexmap.specs.IndexMap.{insert_entry}
use Rattle.pair_rules.specs.declared.marks.Marks.{Marks}
use Rattle.pair_rules.specs.Rules.{PairRule, is_keep, with_name, with_names, names_of, names_first, names_second, keeps_first, keeps_second}
use Rattle.pair_rules.specs.Marks.{no_marks, marks_of, marks_before, marks_after, joined, with_marks, names_in, marked_in}
use Rattle.pair_rules.proofs.Names.{is_named, with_name-cons, is_named-with_name, AreOnce, AreOnce-with_name, AreOnce-names_of, unnamed}
use Rattle.pair_rules.proofs.Names.{names_of-push}

-- names, each with what f has of it
abbrev pub each_with : (List ℕ → Marks) → List (List ℕ) → List (List ℕ × Marks)
each_with f names = map (λ name. (name, f name)) names

names-each_with : (f : List ℕ → Marks) (names : List (List ℕ)) → map (λ (m : List ℕ × Marks). m.0) (each_with f names) ≡ names
names-each_with f [] = refl
names-each_with f (n ∷ names) = ap (λ ns. n ∷ ns) (names-each_with f names)

names-marked_in : {Y : Type 0} (es : List (String Y × Marks)) → map (λ (m : List ℕ × Marks). m.0) (marked_in es) ≡ names_in es
names-marked_in [] = refl
names-marked_in (e ∷ es) = ap (λ ns. string_bytes e.0 ∷ ns) (names-marked_in es)

-- the names that a map holds, where it holds names with what f has of each
pub names_in-each_with : {Y : Type 0} (es : List (String Y × Marks)) (f : List ℕ → Marks) (names : List (List ℕ))
    → marked_in es ≡ each_with f names → names_in es ≡ names
names_in-each_with es f names marked =
    sym (names-marked_in es) ∙ ap (map (λ (m : List ℕ × Marks). m.0)) marked ∙ names-each_with f names

prefix_len-names_in : {Y : Type 0} (p : List ℕ → Bool) (es : List (String Y × Marks))
    → prefix_len p (names_in es) ≡ prefix_len (λ k. p (string_bytes k)) (keys_of es)
prefix_len-names_in p [] = refl
prefix_len-names_in p (e ∷ es) = ap (λ n. cond (p (string_bytes e.0)) (1 + n) 0) (prefix_len-names_in p es)

length-names_in : {Y : Type 0} (es : List (String Y × Marks)) → length (keys_of es) ≡ length (names_in es)
length-names_in es = length-map es (λ e. e.0) ∙ sym (length-map es (λ e. string_bytes e.0))

-- the place of a key, found or not, is that of its name
pub place-names_in : {Y : Type 0} (p : List ℕ → Bool) (es : List (String Y × Marks))
    → position_or_len (λ k. p (string_bytes k)) (keys_of es) ≡ position_or_len p (names_in es)
place-names_in p es = sym (prefix_len-names_in (λ n. not (p n)) es)

pub position-names_in : {Y : Type 0} (p : List ℕ → Bool) (es : List (String Y × Marks))
    → position (λ k. p (string_bytes k)) (keys_of es) ≡ position p (names_in es)
position-names_in p es = λ i. cond (nat_lt (place-names_in p es i) (length-names_in es i)) (Some (place-names_in p es i)) None

-- the marks that a map has at a number
pub marks-at : {Y : Type 0} (es : List (String Y × Marks)) (f : List ℕ → Marks) (names : List (List ℕ)) (i : ℕ) (e : String Y × Marks)
    → marked_in es ≡ each_with f names → slice_get es i ≡ Some e → i < length names → e.1 ≡ f (get_or names i [])
marks-at es f names i e marked at lt =
    let here : Some (string_bytes e.0, e.1) ≡ slice_get (marked_in es) i =
    sym (slice_get-map (λ e. (string_bytes e.0, e.1)) es i ∙ ap (option_map (λ e. (string_bytes e.0, e.1))) at) in
    let there : slice_get (each_with f names) i ≡ Some (get_or names i [], f (get_or names i [])) =
    slice_get-map (λ name. (name, f name)) names i ∙ ap (option_map (λ name. (name, f name))) (slice_get-get_or names i [] lt) in
    let both : Some (string_bytes e.0, e.1) ≡ Some (get_or names i [], f (get_or names i [])) =
    here ∙ ap (λ m. slice_get m i) marked ∙ there in
    let parts : (string_bytes e.0, e.1) ≡ (get_or names i [], f (get_or names i [])) = cc in
    ap (λ (m : List ℕ × Marks). m.1) parts

-- a map of texts finds and keeps what a list of their bytes does
pub lookup-marked_in : {Y : Type 0} (name : List ℕ) (es : List (String Y × Marks))
    → lookup (λ k. bytes_eq name (string_bytes k)) es ≡ lookup (bytes_eq name) (marked_in es)
lookup-marked_in name [] = refl
lookup-marked_in name (e ∷ es) = ap (λ found. cond (bytes_eq name (string_bytes e.0)) (Some e.1) found) (lookup-marked_in name es)

pub insert-marked_in : {Y : Type 0} (es : List (String Y × Marks)) (k : String Y) (m : Marks)
    → marked_in (insert_entry string_eq es k m) ≡ insert_entry bytes_eq (marked_in es) (string_bytes k) m
insert-marked_in [] k m = refl
insert-marked_in (e ∷ es) k m = by (bytes_eq (string_bytes k) (string_bytes e.0)) (insert-marked_in es k m)
  where
    by : (b : Bool) → marked_in (insert_entry string_eq es k m) ≡ insert_entry bytes_eq (marked_in es) (string_bytes k) m
        → marked_in (cond b ((e.0, m) ∷ es) (e ∷ insert_entry string_eq es k m))
        ≡ cond b ((string_bytes e.0, m) ∷ marked_in es) ((string_bytes e.0, e.1) ∷ insert_entry bytes_eq (marked_in es) (string_bytes k) m)
    by true rest = refl
    by false rest = ap (λ r. (string_bytes e.0, e.1) ∷ r) rest

-- the marks that are found of a name
found-each_with : (f : List ℕ → Marks) (names : List (List ℕ)) (a : List ℕ)
    → lookup (bytes_eq a) (each_with f names) ≡ cond (is_named a names) (Some (f a)) None
found-each_with f [] a = refl
found-each_with f (n ∷ names) a = by (bytes_eq a n) refl (found-each_with f names a)
  where
    by : (b : Bool) → bytes_eq a n ≡ b → lookup (bytes_eq a) (each_with f names) ≡ cond (is_named a names) (Some (f a)) None
        → cond b (Some (f n)) (lookup (bytes_eq a) (each_with f names)) ≡ cond (b || is_named a names) (Some (f a)) None
    by true is rest = ap (λ x. Some (f x)) (sym ((bytes_eq-Decides a n).0 is))
    by false is rest = rest

known-marks : (f : List ℕ → Marks) (names : List (List ℕ)) (a : List ℕ) → (is_named a names ≡ false → f a ≡ no_marks)
    → unwrap_or (lookup (bytes_eq a) (each_with f names)) no_marks ≡ f a
known-marks f names a new = ap (λ o. unwrap_or o no_marks) (found-each_with f names a) ∙ by (is_named a names) refl
  where
    by : (b : Bool) → is_named a names ≡ b → unwrap_or (cond b (Some (f a)) None) no_marks ≡ f a
    by true is = refl
    by false is = sym (new is)

-- where another name alone changes its marks
unchanged : (f g : List ℕ → Marks) (a : List ℕ) → ((n : List ℕ) → bytes_eq a n ≡ false → g n ≡ f n) → (names : List (List ℕ))
    → is_named a names ≡ false → each_with f names ≡ each_with g names
unchanged f g a same [] none = refl
unchanged f g a same (n ∷ names) none =
    let parts = or_parts (bytes_eq a n) (is_named a names) none in
    λ i. (n, sym (same n parts.0) i) ∷ unchanged f g a same names parts.1 i

inserted : (f g : List ℕ → Marks) (a : List ℕ) → ((n : List ℕ) → bytes_eq a n ≡ false → g n ≡ f n) → (names : List (List ℕ))
    → AreOnce names → insert_entry bytes_eq (each_with f names) a (g a) ≡ each_with g (with_name names a)
inserted f g a same [] once = refl
inserted f g a same (n ∷ names) once =
    by (bytes_eq a n) refl (inserted f g a same names once.1) ∙ sym (ap (each_with g) (with_name-cons n names a))
  where
    by : (b : Bool) → bytes_eq a n ≡ b → insert_entry bytes_eq (each_with f names) a (g a) ≡ each_with g (with_name names a)
        → cond b ((n, g a) ∷ each_with f names) ((n, f n) ∷ insert_entry bytes_eq (each_with f names) a (g a))
        ≡ each_with g (cond (bytes_eq a n) (n ∷ names) (n ∷ with_name names a))
    by true is rest =
        let names_is : a ≡ n = (bytes_eq-Decides a n).0 is in
        (λ i. (n, g (names_is i)) ∷ unchanged f g a same names (ap (λ x. is_named x names) names_is ∙ once.0) i)
        ∙ sym (ap (λ b. each_with g (cond b (n ∷ names) (n ∷ with_name names a))) is)
    by false is rest =
        (λ i. (n, sym (same n is) i) ∷ rest i)
        ∙ sym (ap (λ b. each_with g (cond b (n ∷ names) (n ∷ with_name names a))) is)

-- marks for one name alone
abbrev only : Bool → Marks → Marks
only b m = record { first = b && m.first; second = b && m.second; keeps_first = b && m.keeps_first; keeps_second = b && m.keeps_second }

abbrev with_more : (List ℕ → Marks) → List ℕ → Marks → List ℕ → Marks
with_more f a m n = joined (f n) (only (bytes_eq n a) m)

joined-none : (x : Marks) → joined x no_marks ≡ x
joined-none x = λ i. record {
  first = or-false x.first i;
  second = or-false x.second i;
  keeps_first = or-false x.keeps_first i;
  keeps_second = or-false x.keeps_second i;
}

-- a name that gets more marks
pub with_marks-each : (f : List ℕ → Marks) (names : List (List ℕ)) (a : List ℕ) (m : Marks) → AreOnce names
    → (is_named a names ≡ false → f a ≡ no_marks)
    → with_marks (each_with f names) a m ≡ each_with (with_more f a m) (with_name names a)
with_marks-each f names a m once new =
    let own : with_more f a m a ≡ joined (f a) m = ap (λ b. joined (f a) (only b m)) ((bytes_eq-Decides a a).1 refl) in
    ap (λ k. insert_entry bytes_eq (each_with f names) a (joined k m)) (known-marks f names a new)
    ∙ ap (insert_entry bytes_eq (each_with f names) a) (sym own)
    ∙ inserted f (with_more f a m) a
    (λ n is. ap (λ b. joined (f n) (only b m)) (nat_list_eq_equiv.symm n a ∙ is) ∙ joined-none (f n)) names once

-- the marks that a rule adds to those of a name
first-more : (x b c : Bool) → ((x || (b && true)) || (c && false)) ≡ (x || (b || false))
first-more true b c = refl
first-more false true c = refl
first-more false false true = refl
first-more false false false = refl

second-more : (x b c : Bool) → ((x || (b && false)) || (c && true)) ≡ (x || (c || false))
second-more true b c = refl
second-more false true true = refl
second-more false true false = refl
second-more false false true = refl
second-more false false false = refl

keeps_first-more : (k x b c : Bool) → ((x || (b && k)) || (c && false)) ≡ (x || ((k && b) || false))
keeps_first-more k true b c = refl
keeps_first-more true false true c = refl
keeps_first-more false false true true = refl
keeps_first-more false false true false = refl
keeps_first-more true false false true = refl
keeps_first-more true false false false = refl
keeps_first-more false false false true = refl
keeps_first-more false false false false = refl

keeps_second-more : (k x b c : Bool) → ((x || (b && false)) || (c && k)) ≡ (x || ((k && c) || false))
keeps_second-more k true b c = refl
keeps_second-more true false true true = refl
keeps_second-more true false true false = refl
keeps_second-more true false false true = refl
keeps_second-more true false false false = refl
keeps_second-more false false true true = refl
keeps_second-more false false true false = refl
keeps_second-more false false false true = refl
keeps_second-more false false false false = refl

marks-push : (rules : List PairRule) (rule : PairRule) (n : List ℕ)
    → with_more (with_more (marks_of rules) rule.before (marks_before rule.kind)) rule.after (marks_after rule.kind) n
    ≡ marks_of (rules ++ rule ∷ []) n
marks-push rules rule n =
    let b = bytes_eq n rule.before in
    let c = bytes_eq n rule.after in
    let k = is_keep rule.kind in
    let first = first-more (names_first rules n) b c ∙ sym (list_any-append (λ r. bytes_eq n r.before) rules (rule ∷ [])) in
    let second = second-more (names_second rules n) b c ∙ sym (list_any-append (λ r. bytes_eq n r.after) rules (rule ∷ [])) in
    let keeps_first = keeps_first-more k (keeps_first rules n) b c
    ∙ sym (list_any-append (λ r. is_keep r.kind && bytes_eq n r.before) rules (rule ∷ [])) in
    let keeps_second = keeps_second-more k (keeps_second rules n) b c
    ∙ sym (list_any-append (λ r. is_keep r.kind && bytes_eq n r.after) rules (rule ∷ [])) in
    λ i. record { first = first i; second = second i; keeps_first = keeps_first i; keeps_second = keeps_second i }

-- a name of no rule has no marks
unkept_first : (rules : List PairRule) (a : List ℕ) → names_first rules a ≡ false → keeps_first rules a ≡ false
unkept_first [] a none = refl
unkept_first (rule ∷ rules) a none =
    let parts = or_parts (bytes_eq a rule.before) (names_first rules a) none in
    or_from _ _ (and_right (is_keep rule.kind) (bytes_eq a rule.before) parts.0) (unkept_first rules a parts.1)

unkept_second : (rules : List PairRule) (b : List ℕ) → names_second rules b ≡ false → keeps_second rules b ≡ false
unkept_second [] b none = refl
unkept_second (rule ∷ rules) b none =
    let parts = or_parts (bytes_eq b rule.after) (names_second rules b) none in
    or_from _ _ (and_right (is_keep rule.kind) (bytes_eq b rule.after) parts.0) (unkept_second rules b parts.1)

pub marks_of-unnamed : (rules : List PairRule) (name : List ℕ) → is_named name (names_of rules) ≡ false → marks_of rules name ≡ no_marks
marks_of-unnamed rules name none =
    let parts = unnamed name rules none in
    let first = unkept_first rules name parts.0 in
    let second = unkept_second rules name parts.1 in
    λ i. record { first = parts.0 i; second = parts.1 i; keeps_first = first i; keeps_second = second i }

-- what a map has after the first name of a rule was marked, and after the second
pub marked-first : (marked : List (List ℕ × Marks)) (rules : List PairRule) (rule : PairRule)
    → marked ≡ each_with (marks_of rules) (names_of rules)
    → with_marks marked rule.before (marks_before rule.kind)
    ≡ each_with (with_more (marks_of rules) rule.before (marks_before rule.kind)) (with_name (names_of rules) rule.before)
marked-first marked rules rule held =
    ap (λ m. with_marks m rule.before (marks_before rule.kind)) held
    ∙ with_marks-each (marks_of rules) (names_of rules) rule.before (marks_before rule.kind) (AreOnce-names_of rules)
    (marks_of-unnamed rules rule.before)

pub marked-both : (marked : List (List ℕ × Marks)) (rules : List PairRule) (rule : PairRule)
    → marked ≡ each_with (marks_of rules) (names_of rules)
    → with_marks (with_marks marked rule.before (marks_before rule.kind)) rule.after (marks_after rule.kind)
    ≡ each_with (marks_of (rules ++ rule ∷ [])) (names_of (rules ++ rule ∷ []))
marked-both marked rules rule held =
    let f = with_more (marks_of rules) rule.before (marks_before rule.kind) in
    let names = with_name (names_of rules) rule.before in
    let new : is_named rule.after names ≡ false → f rule.after ≡ no_marks = λ none.
    let parts = or_parts (is_named rule.after (names_of rules)) (bytes_eq rule.after rule.before)
    (sym (is_named-with_name rule.after (names_of rules) rule.before) ∙ none) in
    λ i. joined (marks_of-unnamed rules rule.after parts.0 i) (only (parts.1 i) (marks_before rule.kind)) in
    ap (λ m. with_marks m rule.after (marks_after rule.kind)) (marked-first marked rules rule held)
    ∙ with_marks-each f names rule.after (marks_after rule.kind)
    (AreOnce-with_name (names_of rules) rule.before (AreOnce-names_of rules)) new
    ∙ (λ i. each_with (λ n. marks-push rules rule n i) (with_names (names_of rules) rule))
    ∙ ap (each_with (marks_of (rules ++ rule ∷ []))) (sym (names_of-push rules rule))
