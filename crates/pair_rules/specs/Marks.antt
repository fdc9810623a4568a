-- How rules of pairs are held: names with their marks, and the kinds of pairs of numbers.
use Rattle.std.specs.Prelude.{◌≡◌, ℕ, ◌<◌, Bool, true, false, not, ◌&&◌, ◌||◌, if◌then◌else◌, List, [], ◌∷◌, map, length}
use Rattle.std.specs.Prelude.{slice_index_or, Option, Some, None, unwrap_or, All, String, string_bytes}
use Rattle.std.specs.Map.{lookup}
use Rattle.std.specs.Str.{bytes_eq}
use Rattle.indexmap.specs.IndexMap.{insert_entry}
use Rattle.pair_rules.specs.declared.kind.RuleKind.{RuleKind}
use Rattle.pair_rules.specs.declared.kind.RuleKind.TheVariants.{Keep, Never}
use Rattle.pair_rules.specs.declared.marks.Marks.{Marks}
use Rattle.pair_rules.specs.Rules.{PairRule, ArePairRules, is_keep, is_of, names_first, names_second, keeps_first, keeps_second, names_of}

-- the marks of a name that no rule has
abbrev pub no_marks : Marks
no_marks = record { first = false; second = false; keeps_first = false; keeps_second = false }

-- what the rules have of a name
abbrev pub marks_of : List PairRule → List ℕ → Marks
marks_of rules name = record {
  first = names_first rules name;
  second = names_second rules name;
  keeps_first = keeps_first rules name;
  keeps_second = keeps_second rules name;
}

-- the marks of a rule's first trip
abbrev pub marks_before : RuleKind → Marks
marks_before kind = record { first = true; second = false; keeps_first = is_keep kind; keeps_second = false }

-- the marks of a rule's second trip
abbrev pub marks_after : RuleKind → Marks
marks_after kind = record { first = false; second = true; keeps_first = false; keeps_second = is_keep kind }

-- the marks that one or the other has
abbrev pub joined : Marks → Marks → Marks
joined one other = record {
  first = one.first || other.first;
  second = one.second || other.second;
  keeps_first = one.keeps_first || other.keeps_first;
  keeps_second = one.keeps_second || other.keeps_second;
}

-- the names with their marks, where one of them gets more
abbrev pub with_marks : List (List ℕ × Marks) → List ℕ → Marks → List (List ℕ × Marks)
with_marks marked name marks =
    insert_entry bytes_eq marked name (joined (unwrap_or (lookup (bytes_eq name) marked) no_marks) marks)

-- the kind of the rule of two trips
abbrev pub kind_of : List PairRule → List ℕ → List ℕ → Option RuleKind
kind_of [] a b = None
kind_of (rule ∷ rules) a b = if is_of rule a b then Some rule.kind else kind_of rules a b

-- what rules allow of a pair, by the kind of its own rule and by whether its trips are kept with others
abbrev pub allowed_by : Option RuleKind → Bool → Bool → Bool
allowed_by (Some Keep) kept_first kept_second = true
allowed_by (Some Never) kept_first kept_second = false
allowed_by None kept_first kept_second = not kept_first && not kept_second

-- the names that a map holds in order
abbrev pub names_in : {Y : Type 0} → List (String Y × Marks) → List (List ℕ)
names_in entries = map (λ e. string_bytes e.0) entries

-- the names with their marks
abbrev pub marked_in : {Y : Type 0} → List (String Y × Marks) → List (List ℕ × Marks)
marked_in entries = map (λ e. (string_bytes e.0, e.1)) entries

-- the rule of two numbers of names
abbrev pub rule_of : List (List ℕ) → (ℕ × ℕ) × RuleKind → PairRule
rule_of names entry = record {
  before = slice_index_or names entry.0.0 [];
  after = slice_index_or names entry.0.1 [];
  kind = entry.1;
}

-- the rules that two maps hold
abbrev pub rules_in : {Y : Type 0} → List (String Y × Marks) → List ((ℕ × ℕ) × RuleKind) → List PairRule
rules_in names entries = map (rule_of (names_in names)) entries

-- The rules are valid, the names are theirs with their marks, and each number is of a name.
pub record AreHeld {Y : Type 0} (names : List (String Y × Marks)) (entries : List ((ℕ × ℕ) × RuleKind)) : Type 0 where
  pub valid : ArePairRules (rules_in names entries)
  pub marked : marked_in names
      ≡ map (λ name. (name, marks_of (rules_in names entries) name)) (names_of (rules_in names entries))
  pub within : All (λ e. (e.0.0 < length names) × (e.0.1 < length names)) entries
