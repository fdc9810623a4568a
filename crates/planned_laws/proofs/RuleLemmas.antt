-- The rules of pairs of an accepted feed are valid.
use Rattle.std.proofs.Common.{◌≢◌, ℕ, not, true, List, [], length, sym, ap, ◌∙◌, arith}
use Rattle.std.specs.Prelude.{IfOk, nat_lt}
use Rattle.std.specs.Option.{ok_or}
use Rattle.std.specs.Str.{bytes_eq}
use Rattle.std.proofs.lemmas.Bool.{false≢true, ltb-true, not-true}
use Rattle.std.proofs.lemmas.Slice.Eq.{bytes_eq-Decides}
use Rattle.desk_io.specs.declared.shelf.Found.{Found}
use Rattle.gtfs_tables.specs.Reading.{field_at, filled_in, text_in}
use Rattle.gtfs_tables.specs.declared.fault.FeedFault.TheVariants as fault
use Rattle.gtfs_tables.specs.declared.paper.Column.TheVariants as column
use Rattle.gtfs_tables.specs.declared.paper.Paper.TheVariants as paper
use Rattle.pair_rules.specs.declared.limits.TheConstants.{MOST_RULES}
use Rattle.pair_rules.specs.Reading.{columns_in, kind_in, rule_in, rules_of, with_row, with_rule}
use Rattle.pair_rules.specs.Rules.{PairRule, ArePairRules, clashes}
use Rattle.pair_rules.proofs.Allowed.{ArePairRules-push}
use Rattle.planned_laws.proofs.ReadLemmas.{optional-kept, read-next, read-provided, read-then}

-- the two trips of a rule differ
abbrev AreTwo : PairRule → Type 0
AreTwo rule = rule.before ≢ rule.after

rule-read : (columns : _) (number : ℕ) (fields : List (List ℕ)) → IfOk (rule_in columns number fields) AreTwo
unfolding rule_in
rule-read columns number fields =
    read-then AreTwo (text_in paper.Pairs number column.Before (field_at fields columns.before)) _
    (λ before. read-then AreTwo (text_in paper.Pairs number column.After (field_at fields columns.after)) _
    (λ after. read-then AreTwo (text_in paper.Pairs number column.Rule (field_at fields columns.rule)) _
    (λ rule. read-then AreTwo (filled_in paper.Pairs number column.Before before) _
    (λ _. read-then AreTwo (filled_in paper.Pairs number column.After after) _
    (λ _. read-then AreTwo (filled_in paper.Pairs number column.Rule rule) _
    (λ _. read-then AreTwo (ok_or (kind_in rule) (fault.BadRule number)) _
    (λ kind. read-provided AreTwo (not (bytes_eq before after)) (fault.SameTrip number) _
    (λ two same. false≢true (sym (ap not ((bytes_eq-Decides before after).1 same)) ∙ two)))))))))

-- a rule that clashes with none is added to others
rules-kept : (columns : _) (number : ℕ) (before : List PairRule) (fields : List (List ℕ)) → ArePairRules before
    → IfOk (with_row columns number before fields) ArePairRules
rules-kept columns number before fields valid =
    read-next AreTwo ArePairRules (rule_in columns number fields) (with_rule number before) (rule-read columns number fields)
    (λ rule two. read-provided ArePairRules (not (clashes before rule)) (fault.DuplicateRow paper.Pairs number) _
    (λ apart. read-provided ArePairRules (nat_lt (length before) MOST_RULES) (fault.TooManyRecords paper.Pairs) _
    (λ room. ArePairRules-push before rule valid two (not-true (clashes before rule) apart)
    (ltb-true (length before) MOST_RULES room))))

pub rules-read : (found : Found) → IfOk (rules_of found) ArePairRules
rules-read = optional-kept ArePairRules paper.Pairs columns_in with_row [] rules-kept (record {
  each = λ i d lt. absurd (omega (arith, lt));
  apart = λ i j d before lt. absurd (omega (arith, lt));
  count = omega arith;
})
