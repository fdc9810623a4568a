-- Rules of pairs of trips, and which pairs they allow. Trips go by their names.
use Rattle.std.specs.Prelude.{◌≢◌, ◌≡◌, ℕ, ◌≤◌, Bool, true, false, not, ◌&&◌, ◌||◌, if◌then◌else◌, List, [], ◌∷◌, ◌++◌, fold, length}
use Rattle.std.specs.Prelude.{Option, position, All, AllPairs}
use Rattle.std.specs.Bool.{beq}
use Rattle.std.specs.List.{list_all, list_any}
use Rattle.std.specs.Str.{bytes_eq}
use Rattle.pair_rules.specs.declared.limits.TheConstants.{MOST_RULES}
use Rattle.pair_rules.specs.declared.kind.RuleKind.{RuleKind}
use Rattle.pair_rules.specs.declared.kind.RuleKind.TheVariants.{Keep, Never}

-- what a planner says of two trips, by their names
pub record PairRule : Type 0 where
  pub before : List ℕ
  pub after : List ℕ
  pub kind : RuleKind

-- what a kind allows of two trips, where the first is that of the rule or not, and the second is that of the rule or not
abbrev pub is_allowed : RuleKind → Bool → Bool → Bool
is_allowed Keep first second = beq first second
is_allowed Never first second = not (first && second)

-- rule: what a rule of a pair allows
-- A vehicle may make b straight after a, for all that one rule says. A keep allows both of its trips or none of them, so neither
-- has another neighbour there. A never allows all but its own pair.
abbrev pub follows : PairRule → List ℕ → List ℕ → Bool
follows rule a b = is_allowed rule.kind (bytes_eq a rule.before) (bytes_eq b rule.after)

-- word: allowed pair = fixed and forbidden connections
-- a vehicle may make b straight after a, for all that the rules say
abbrev pub allows : List PairRule → List ℕ → List ℕ → Bool
allows rules a b = list_all (λ rule. follows rule a b) rules

-- a kind keeps its two trips together
abbrev pub is_keep : RuleKind → Bool
is_keep Keep = true
is_keep Never = false

-- some rule has the trip as its first
abbrev pub names_first : List PairRule → List ℕ → Bool
names_first rules a = list_any (λ rule. bytes_eq a rule.before) rules

-- some rule has the trip as its second
abbrev pub names_second : List PairRule → List ℕ → Bool
names_second rules b = list_any (λ rule. bytes_eq b rule.after) rules

-- some keep has the trip as its first
abbrev pub keeps_first : List PairRule → List ℕ → Bool
keeps_first rules a = list_any (λ rule. is_keep rule.kind && bytes_eq a rule.before) rules

-- some keep has the trip as its second
abbrev pub keeps_second : List PairRule → List ℕ → Bool
keeps_second rules b = list_any (λ rule. is_keep rule.kind && bytes_eq b rule.after) rules

-- the rule is of these two trips
abbrev pub is_of : PairRule → List ℕ → List ℕ → Bool
is_of rule a b = bytes_eq a rule.before && bytes_eq b rule.after

-- rule: when two rules of pairs clash
-- Two rules clash where they are of one pair. Two keeps clash where they have the same first trip, or the same second.
abbrev pub clash : PairRule → PairRule → Bool
clash earlier rule = is_of earlier rule.before rule.after
    || (is_keep earlier.kind && (is_keep rule.kind && (bytes_eq rule.before earlier.before || bytes_eq rule.after earlier.after)))

-- the rule clashes with one of the rules
abbrev pub clashes : List PairRule → PairRule → Bool
clashes rules rule = list_any (λ earlier. clash earlier rule) rules

-- names, with one more at the end if it is new
abbrev pub with_name : List (List ℕ) → List ℕ → List (List ℕ)
with_name names name = if list_any (bytes_eq name) names then names else names ++ name ∷ []

-- the names, with those of a rule
abbrev pub with_names : List (List ℕ) → PairRule → List (List ℕ)
with_names names rule = with_name (with_name names rule.before) rule.after

-- each name of the rules once, in the order in which they name them
abbrev pub names_of : List PairRule → List (List ℕ)
names_of rules = fold with_names [] rules

-- the number of a name that the rules have
abbrev pub number_of : List PairRule → List ℕ → Option ℕ
number_of rules name = position (bytes_eq name) (names_of rules)

-- at most 32,768 rules, each of two trips, none of which clashes with one before it
pub record ArePairRules (rules : List PairRule) : Type 0 where
  pub each : All (λ rule. rule.before ≢ rule.after) rules
  pub apart : AllPairs (λ earlier rule. clash earlier rule ≡ false) rules
  pub count : length rules ≤ MOST_RULES
