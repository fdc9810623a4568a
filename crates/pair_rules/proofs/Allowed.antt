-- What rules allow, by the kind of a pair's own rule and by the keeps of its trips.
use Rattle.std.proofs.Common.{◌≡◌, ◌≢◌, ℕ, suc, ◌+◌, ◌<◌, Bool, true, false, cond, not, ◌&&◌, ◌||◌, List, [], ◌∷◌, ◌++◌, length}
use Rattle.std.proofs.Common.{get_or, slice_get, take}
use Rattle.std.proofs.Common.{Option, Some, None, is_some, refl, sym, ap, ◌∙◌, arith}
use Rattle.std.specs.List.{AllPairs, list_any}
use Rattle.std.specs.Str.{bytes_eq}
use Rattle.std.proofs.lemmas.Bool.{false≢true, true≢false, or_parts, and_parts, both_ways, false_from_ne_true}
use Rattle.std.proofs.lemmas.Cmp.{nat_list_eq_equiv}
use Rattle.std.proofs.lemmas.List.{length-append, length-take, get_or-take, take_more}
use Rattle.std.proofs.lemmas.List.Elements.{All-push}
use Rattle.std.proofs.lemmas.List.Folds.{list_any_none, list_any_at}
use Rattle.std.proofs.lemmas.List.Quantifiers.{all_pairs_push}
use Rattle.std.proofs.lemmas.Option.{slice_get_within, get_or_from_slice_get}
use Rattle.std.proofs.lemmas.Slice.Eq.{bytes_eq-Decides}
use Rattle.pair_rules.specs.declared.kind.RuleKind.{RuleKind}
use Rattle.pair_rules.specs.declared.kind.RuleKind.TheVariants.{Keep, Never}
use Rattle.pair_rules.specs.Rules.{PairRule, ArePairRules, is_allowed, follows, allows, is_keep, names_first, names_second, keeps_first}
use Rattle.pair_rules.specs.Rules.{keeps_second, is_of, clash, clashes}
use Rattle.pair_rules.specs.Marks.{kind_of, allowed_by}

-- a pair whose first trip is none of a rule's
unnamed-first : (k : RuleKind) (p q rest y : Bool) → p ≡ false → rest ≡ not y
    → (is_allowed k p q && rest) ≡ not ((is_keep k && q) || y)
unnamed-first k true q rest y p same = absurd (false≢true (sym p))
unnamed-first Keep false true rest y p same = refl
unnamed-first Keep false false rest y p same = same
unnamed-first Never false q rest y p same = same

pub allows-unnamed_first : (rules : List PairRule) (a b : List ℕ) → names_first rules a ≡ false
    → allows rules a b ≡ not (keeps_second rules b)
allows-unnamed_first [] a b none = refl
allows-unnamed_first (rule ∷ rules) a b none =
    let parts = or_parts (bytes_eq a rule.before) (names_first rules a) none in
    unnamed-first rule.kind (bytes_eq a rule.before) (bytes_eq b rule.after) (allows rules a b) (keeps_second rules b) parts.0
    (allows-unnamed_first rules a b parts.1)

-- a pair whose second trip is none of a rule's
unnamed-second : (k : RuleKind) (p q rest x : Bool) → q ≡ false → rest ≡ not x
    → (is_allowed k p q && rest) ≡ not ((is_keep k && p) || x)
unnamed-second k p true rest x q same = absurd (false≢true (sym q))
unnamed-second Keep true false rest x q same = refl
unnamed-second Keep false false rest x q same = same
unnamed-second Never true false rest x q same = same
unnamed-second Never false false rest x q same = same

pub allows-unnamed_second : (rules : List PairRule) (a b : List ℕ) → names_second rules b ≡ false
    → allows rules a b ≡ not (keeps_first rules a)
allows-unnamed_second [] a b none = refl
allows-unnamed_second (rule ∷ rules) a b none =
    let parts = or_parts (bytes_eq b rule.after) (names_second rules b) none in
    unnamed-second rule.kind (bytes_eq a rule.before) (bytes_eq b rule.after) (allows rules a b) (keeps_first rules a) parts.0
    (allows-unnamed_second rules a b parts.1)

-- no rule clashes with a later one
abbrev AreApart : List PairRule → Type 0
AreApart [] = Unit {0}
AreApart (rule ∷ rules) = (list_any (clash rule) rules ≡ false) × AreApart rules

apart-from : (rules : List PairRule) → AllPairs (λ earlier rule. clash earlier rule ≡ false) rules → AreApart rules
apart-from [] apart = tt
apart-from (rule ∷ rules) apart = (
  list_any_none (clash rule) rules (λ k d lt. apart 0 (suc k) d (omega arith) (omega arith)),
  apart-from rules (λ i j d less lt. apart (suc i) (suc j) d (omega arith) (omega arith)),
)

-- of two rules that do not clash one allows the pair of the other, where that is a keep
allowed-apart : (k : RuleKind) (p q : Bool) → ((p && q) || (is_keep k && (p || q))) ≡ false → is_allowed k p q ≡ true
allowed-apart Keep true true apart = absurd (true≢false apart)
allowed-apart Keep true false apart = absurd (true≢false apart)
allowed-apart Keep false true apart = absurd (true≢false apart)
allowed-apart Keep false false apart = refl
allowed-apart Never true true apart = absurd (true≢false apart)
allowed-apart Never true false apart = refl
allowed-apart Never false q apart = refl

-- the names of a pair are those of its rule
is_of-names : (rule : PairRule) (a b : List ℕ) → is_of rule a b ≡ true → (a ≡ rule.before) × (b ≡ rule.after)
is_of-names rule a b is =
    let parts = and_parts (bytes_eq a rule.before) (bytes_eq b rule.after) is in
    ((bytes_eq-Decides a rule.before).0 parts.0, (bytes_eq-Decides b rule.after).0 parts.1)

-- a later rule allows the pair of an earlier keep
later-follows : (earlier rule : PairRule) (a b : List ℕ) → earlier.kind ≡ Keep → is_of earlier a b ≡ true → clash earlier rule ≡ false
    → follows rule a b ≡ true
later-follows earlier rule a b keep is apart =
    let names = is_of-names earlier a b is in
    let p = bytes_eq rule.before earlier.before in
    let q = bytes_eq rule.after earlier.after in
    (λ i. is_allowed rule.kind (bytes_eq (names.0 i) rule.before) (bytes_eq (names.1 i) rule.after))
    ∙ (λ i. is_allowed rule.kind (nat_list_eq_equiv.symm earlier.before rule.before i) (nat_list_eq_equiv.symm earlier.after rule.after i))
    ∙ allowed-apart rule.kind p q (sym (ap (λ k. (p && q) || (is_keep k && (is_keep rule.kind && (p || q)))) keep) ∙ apart)

all-follow : (earlier : PairRule) (a b : List ℕ) → earlier.kind ≡ Keep → is_of earlier a b ≡ true → (rules : List PairRule)
    → list_any (clash earlier) rules ≡ false → allows rules a b ≡ true
all-follow earlier a b keep is [] apart = refl
all-follow earlier a b keep is (rule ∷ rules) apart =
    let parts = or_parts (clash earlier rule) (list_any (clash earlier) rules) apart in
    (λ i. later-follows earlier rule a b keep is parts.0 i && all-follow earlier a b keep is rules parts.1 i)

-- an earlier rule allows the pair of a later keep
earlier-follows : (earlier rule : PairRule) (a b : List ℕ) → rule.kind ≡ Keep → is_of rule a b ≡ true → clash earlier rule ≡ false
    → follows earlier a b ≡ true
earlier-follows earlier rule a b keep is apart =
    let names = is_of-names rule a b is in
    let p = bytes_eq rule.before earlier.before in
    let q = bytes_eq rule.after earlier.after in
    (λ i. is_allowed earlier.kind (bytes_eq (names.0 i) earlier.before) (bytes_eq (names.1 i) earlier.after))
    ∙ allowed-apart earlier.kind p q (sym (ap (λ k. (p && q) || (is_keep earlier.kind && (is_keep k && (p || q)))) keep) ∙ apart)

kept-follows : (earlier : PairRule) (a b : List ℕ) (rules : List PairRule) → list_any (clash earlier) rules ≡ false
    → kind_of rules a b ≡ Some Keep → follows earlier a b ≡ true
kept-follows earlier a b [] apart kept = cc
kept-follows earlier a b (rule ∷ rules) apart kept =
    by (is_of rule a b) refl
    (kept-follows earlier a b rules (or_parts (clash earlier rule) (list_any (clash earlier) rules) apart).1)
  where
    by : (is : Bool) → is_of rule a b ≡ is → (kind_of rules a b ≡ Some Keep → follows earlier a b ≡ true) → follows earlier a b ≡ true
    by true is rest =
        let kind : Some rule.kind ≡ Some Keep = sym (ap (λ c. cond c (Some rule.kind) (kind_of rules a b)) is) ∙ kept in
        let keep : rule.kind ≡ Keep = cc in
        earlier-follows earlier rule a b keep is (or_parts (clash earlier rule) (list_any (clash earlier) rules) apart).0
    by false is rest = rest (sym (ap (λ c. cond c (Some rule.kind) (kind_of rules a b)) is) ∙ kept)

-- one rule before others
with-rule : (k : RuleKind) (p q rest x y : Bool) (o : Option RuleKind) → rest ≡ allowed_by o x y
    → (k ≡ Keep → (p && q) ≡ true → rest ≡ true) → (o ≡ Some Keep → is_allowed k p q ≡ true)
    → (is_allowed k p q && rest) ≡ allowed_by (cond (p && q) (Some k) o) ((is_keep k && p) || x) ((is_keep k && q) || y)
with-rule Keep true true rest x y o same kept later = kept refl refl
with-rule Keep true false rest x y (Some Keep) same kept later = absurd (false≢true (later refl))
with-rule Keep true false rest x y (Some Never) same kept later = refl
with-rule Keep true false rest x y None same kept later = refl
with-rule Keep false true rest x y (Some Keep) same kept later = absurd (false≢true (later refl))
with-rule Keep false true rest x y (Some Never) same kept later = refl
with-rule Keep false true rest true y None same kept later = refl
with-rule Keep false true rest false y None same kept later = refl
with-rule Keep false false rest x y o same kept later = same
with-rule Never true true rest x y o same kept later = refl
with-rule Never true false rest x y o same kept later = same
with-rule Never false q rest x y o same kept later = same

allowed : (rules : List PairRule) (a b : List ℕ) → AreApart rules
    → allows rules a b ≡ allowed_by (kind_of rules a b) (keeps_first rules a) (keeps_second rules b)
allowed [] a b apart = refl
allowed (rule ∷ rules) a b apart =
    with-rule rule.kind (bytes_eq a rule.before) (bytes_eq b rule.after) (allows rules a b) (keeps_first rules a) (keeps_second rules b)
    (kind_of rules a b) (allowed rules a b apart.1)
    (λ keep is. all-follow rule a b keep is rules apart.0)
    (λ kept. kept-follows rule a b rules apart.0 kept)

pub allows-by_kind : (rules : List PairRule) (a b : List ℕ) → ArePairRules rules
    → allows rules a b ≡ allowed_by (kind_of rules a b) (keeps_first rules a) (keeps_second rules b)
allows-by_kind rules a b valid = allowed rules a b (apart-from rules valid.apart)

-- one rule before others that a new rule may clash with
clash-step : (kept k : RuleKind) (p q x y : Bool) (o : Option RuleKind) (rest : Bool)
    → rest ≡ (is_some o || (is_keep k && (x || y)))
    → (((p && q) || (is_keep kept && (is_keep k && (p || q)))) || rest)
    ≡ (is_some (cond (p && q) (Some kept) o) || (is_keep k && (((is_keep kept && p) || x) || ((is_keep kept && q) || y))))
clash-step kept k true true x y o rest same = refl
clash-step Keep Keep true false x y None rest same = refl
clash-step Keep Keep true false x y (Some kind) rest same = refl
clash-step Keep Keep false true true y None rest same = refl
clash-step Keep Keep false true false y None rest same = refl
clash-step Keep Keep false true x y (Some kind) rest same = refl
clash-step Keep Keep false false x y o rest same = same
clash-step Keep Never true false x y o rest same = same
clash-step Keep Never false q x y o rest same = same
clash-step Never Keep true false x y o rest same = same
clash-step Never Keep false q x y o rest same = same
clash-step Never Never true false x y o rest same = same
clash-step Never Never false q x y o rest same = same

-- a rule clashes where its pair has one, or where it is a keep and a trip of it is kept
pub clashes-by_kind : (rules : List PairRule) (rule : PairRule)
    → clashes rules rule
    ≡ (is_some (kind_of rules rule.before rule.after)
    || (is_keep rule.kind && (keeps_first rules rule.before || keeps_second rules rule.after)))
clashes-by_kind [] rule = by rule.kind
  where
    by : (k : RuleKind) → false ≡ (is_keep k && false)
    by Keep = refl
    by Never = refl
clashes-by_kind (kept ∷ rules) rule =
    clash-step kept.kind rule.kind (bytes_eq rule.before kept.before) (bytes_eq rule.after kept.after) (keeps_first rules rule.before)
    (keeps_second rules rule.after) (kind_of rules rule.before rule.after) (clashes rules rule) (clashes-by_kind rules rule)

none_from : {X : Type 0} (o : Option X) → is_some o ≡ false → o ≡ None
none_from None is = refl
none_from (Some x) is = cc

-- a rule that clashes with none is the first of its pair
pub kind_of-new : (rules : List PairRule) (rule : PairRule) → clashes rules rule ≡ false → kind_of rules rule.before rule.after ≡ None
kind_of-new rules rule apart =
    none_from (kind_of rules rule.before rule.after)
    (or_parts (is_some (kind_of rules rule.before rule.after)) _ (sym (clashes-by_kind rules rule) ∙ apart)).0

-- rules stay valid with one more that clashes with none
pub ArePairRules-push : (rules : List PairRule) (rule : PairRule) → ArePairRules rules → rule.before ≢ rule.after
    → clashes rules rule ≡ false → length rules < 32768 → ArePairRules (rules ++ rule ∷ [])
ArePairRules-push rules rule valid two apart room =
    record {
      each = All-push (λ r. r.before ≢ r.after) rules rule valid.each two;
      apart = all_pairs_push (λ earlier r. clash earlier r ≡ false) rules rule valid.apart
          (λ k d lt. false_from_ne_true (clash (get_or rules k d) rule)
          (λ is. both_ways (clashes rules rule) apart (list_any_at (λ earlier. clash earlier rule) rules k d lt is)));
      count = omega (arith, length-append rules (rule ∷ []), room);
    }

-- the rules before another, with which that one does not clash, and with it
pub take-apart : (rules : List PairRule) (n : ℕ) (rule : PairRule) → ArePairRules rules → slice_get rules n ≡ Some rule
    → clashes (take n rules) rule ≡ false
take-apart rules n rule valid at =
    let lt = slice_get_within rules n rule at in
    list_any_none (λ earlier. clash earlier rule) (take n rules)
    (λ k d less. let before : k < n = omega (arith, simp length-take at less) in
    (λ t. clash (get_or-take n rules k d before t) (sym (get_or_from_slice_get rules n rule d at) t)) ∙ valid.apart k n d before lt)

pub take-push : (rules copy : List PairRule) (n : ℕ) (rule : PairRule) → slice_get rules n ≡ Some rule → copy ≡ take n rules
    → copy ++ rule ∷ [] ≡ take (n + 1) rules
take-push rules copy n rule at is =
    (λ t. is t ++ sym (get_or_from_slice_get rules n rule rule at) t ∷ [])
    ∙ sym (take_more rules n rule (slice_get_within rules n rule at))
