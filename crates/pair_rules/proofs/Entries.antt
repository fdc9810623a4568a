-- Rules as pairs of numbers with their kinds.
use Rattle.std.proofs.Common.{◌≡◌, ◌≢◌, ℕ, ◌+◌, ◌*◌, ◌<◌, ◌≤◌, false, cond, ◌&&◌, List, [], ◌∷◌, ◌++◌, map, length, get_or}
use Rattle.std.proofs.Common.{Some, None, All, option_map, slice_get, refl, sym, ap, subst, ◌∙◌, String, string_bytes, nat_eq, arith}
use Rattle.std.specs.List.{position_or_len}
use Rattle.std.specs.Map.{lookup}
use Rattle.std.specs.Str.{bytes_eq}
use Rattle.std.proofs.lemmas.Bool.{or_parts, and_left, and_right}
use Rattle.std.proofs.lemmas.List.{length-map, map-append}
use Rattle.std.proofs.lemmas.List.Elements.{All-head, All-tail, All-push, All-weaker}
use Rattle.std.proofs.lemmas.Option.{slice_get-map, get_or_from_slice_get}
use Rattle.indexmap.specs.IndexMap.{IndexMap, insert_entry}
use Rattle.indexmap.proofs.CallerLemmas.{insert_entry-new}
use Rattle.pair_rules.specs.declared.kind.RuleKind.{RuleKind}
use Rattle.pair_rules.specs.declared.marks.Marks.{Marks}
use Rattle.pair_rules.specs.Rules.{PairRule, ArePairRules, clashes, with_name, with_names, names_of, number_of, names_first, names_second}
use Rattle.pair_rules.specs.Marks.{marks_of, marks_before, marks_after, with_marks, kind_of, names_in, marked_in, rule_of, rules_in}
use Rattle.pair_rules.specs.Marks.{AreHeld}
use Rattle.pair_rules.proofs.Allowed.{kind_of-new, ArePairRules-push}
use Rattle.pair_rules.proofs.Names.{AreOnce, AreOnce-names_of, get_or-with_name, length-with_name, number-with_name, length-names_of}
use Rattle.pair_rules.proofs.Names.{names_of-push, number_of-Some, eq-by_name}
use Rattle.pair_rules.proofs.Numbers.{names_in-each_with, marked-first, marked-both}

-- both numbers are of names
abbrev Within : ℕ → (ℕ × ℕ) × RuleKind → Type 0
Within count entry = (entry.0.0 < count) × (entry.0.1 < count)

-- rules stay as they are while names join
rules-kept : (names more : List (List ℕ)) → ((i : ℕ) (d : List ℕ) → i < length names → get_or more i d ≡ get_or names i d)
    → (entries : List ((ℕ × ℕ) × RuleKind)) → All (Within (length names)) entries → map (rule_of more) entries ≡ map (rule_of names) entries
rules-kept names more kept [] within = refl
rules-kept names more kept (e ∷ entries) within =
    let here = All-head (Within (length names)) e entries within in
    let rest = rules-kept names more kept entries (All-tail (Within (length names)) e entries within) in
    λ i. record { before = kept e.0.0 [] here.0 i; after = kept e.0.1 [] here.1 i; kind = e.1 } ∷ rest i

-- the kind that is found for two numbers is that of the rule of their names
pub found-kind : (names : List (List ℕ)) → AreOnce names → (i j : ℕ) → i < length names → j < length names
    → (entries : List ((ℕ × ℕ) × RuleKind)) → All (Within (length names)) entries
    → lookup (λ k. nat_eq i k.0 && nat_eq j k.1) entries ≡ kind_of (map (rule_of names) entries) (get_or names i []) (get_or names j [])
found-kind names once i j first second [] within = refl
found-kind names once i j first second (e ∷ entries) within =
    let here = All-head (Within (length names)) e entries within in
    let rest = found-kind names once i j first second entries (All-tail (Within (length names)) e entries within) in
    λ t. cond (eq-by_name names once i e.0.0 [] first here.0 t && eq-by_name names once j e.0.1 [] second here.1 t) (Some e.1) (rest t)

-- a pair whose first trip, or whose second, no rule has there has no rule
pub kind_of-unnamed_first : (rules : List PairRule) (a b : List ℕ) → names_first rules a ≡ false → kind_of rules a b ≡ None
kind_of-unnamed_first [] a b none = refl
kind_of-unnamed_first (rule ∷ rules) a b none =
    let parts = or_parts (bytes_eq a rule.before) (names_first rules a) none in
    ap (λ c. cond c (Some rule.kind) (kind_of rules a b)) (and_left (bytes_eq a rule.before) (bytes_eq b rule.after) parts.0)
    ∙ kind_of-unnamed_first rules a b parts.1

pub kind_of-unnamed_second : (rules : List PairRule) (a b : List ℕ) → names_second rules b ≡ false → kind_of rules a b ≡ None
kind_of-unnamed_second [] a b none = refl
kind_of-unnamed_second (rule ∷ rules) a b none =
    let parts = or_parts (bytes_eq b rule.after) (names_second rules b) none in
    ap (λ c. cond c (Some rule.kind) (kind_of rules a b)) (and_right (bytes_eq a rule.before) (bytes_eq b rule.after) parts.0)
    ∙ kind_of-unnamed_second rules a b parts.1

-- the names that are held are those of the rules
pub names-held : {Y : Type 0} (names : List (String Y × Marks)) (entries : List ((ℕ × ℕ) × RuleKind)) → AreHeld names entries
    → names_in names ≡ names_of (rules_in names entries)
names-held names entries held =
    names_in-each_with names (marks_of (rules_in names entries)) (names_of (rules_in names entries)) held.marked

pub count-held : {Y : Type 0} (names : List (String Y × Marks)) (entries : List ((ℕ × ℕ) × RuleKind)) → AreHeld names entries
    → (length names ≡ length (names_of (rules_in names entries))) × (length names ≤ 2 * length entries) × (length entries ≤ 32768)
count-held names entries held =
    let rules = rules_in names entries in
    let same : length names ≡ length (names_of rules) = sym (length-map names _) ∙ ap length (names-held names entries held) in
    let count : length rules ≡ length entries = length-map entries (rule_of (names_in names)) in
    (same, omega (arith, same, length-names_of rules, count), omega (arith, held.valid.count, count))

-- the kind that is found for the numbers of two names
pub kind-held : {Y : Type 0} (names : List (String Y × Marks)) (entries : List ((ℕ × ℕ) × RuleKind)) → AreHeld names entries
    → (i j : ℕ) → i < length (names_of (rules_in names entries)) → j < length (names_of (rules_in names entries))
    → lookup (λ k. nat_eq i k.0 && nat_eq j k.1) entries
    ≡ kind_of (rules_in names entries) (get_or (names_of (rules_in names entries)) i []) (get_or (names_of (rules_in names entries)) j [])
kind-held names entries held i j first second =
    let all = names-held names entries held in
    let same = (count-held names entries held).0 in
    found-kind (names_of (rules_in names entries)) (AreOnce-names_of (rules_in names entries)) i j first second entries
    (All-weaker (Within (length names)) (Within (length (names_of (rules_in names entries))))
    (λ e w. (omega (arith, w.0, same), omega (arith, w.1, same))) entries held.within)
    ∙ ap (λ ns. kind_of (map (rule_of ns) entries) (get_or (names_of (rules_in names entries)) i [])
    (get_or (names_of (rules_in names entries)) j [])) (sym all)

-- the kind that is found for the numbers of two names is that of their rule
pub kind-found : {Y : Type 0} (names : List (String Y × Marks)) (entries : List ((ℕ × ℕ) × RuleKind)) (rules : List PairRule)
    (a b : List ℕ) (i j : ℕ) → AreHeld names entries → rules_in names entries ≡ rules → number_of rules a ≡ Some i
    → number_of rules b ≡ Some j
    → lookup (λ k. nat_eq i k.0 && nat_eq j k.1) entries ≡ kind_of rules a b
kind-found names entries rules a b i j held view first second =
    let at_first = number_of-Some (rules_in names entries) a i (ap (λ r. number_of r a) view ∙ first) in
    let at_second = number_of-Some (rules_in names entries) b j (ap (λ r. number_of r b) view ∙ second) in
    kind-held names entries held i j at_first.0 at_second.0
    ∙ (λ t. kind_of (view t) (at_first.1 t) (at_second.1 t))

-- the name that a map has at a number
name-at : {Y : Type 0} (names : List (String Y × Marks)) (i : ℕ) (e : String Y × Marks) → slice_get names i ≡ Some e
    → get_or (names_in names) i [] ≡ string_bytes e.0
name-at names i e at =
    get_or_from_slice_get (names_in names) i (string_bytes e.0) []
    (slice_get-map (λ e. string_bytes e.0) names i ∙ ap (option_map (λ e. string_bytes e.0)) at)

-- the rule that is held at a number
pub rule-at : {Y : Type 0} (names : List (String Y × Marks)) (entries : List ((ℕ × ℕ) × RuleKind)) (n i j : ℕ) (kind : RuleKind)
    (first second : String Y × Marks) → slice_get entries n ≡ Some ((i, j), kind) → slice_get names i ≡ Some first
    → slice_get names j ≡ Some second
    → slice_get (rules_in names entries) n ≡ Some (record { before = string_bytes first.0; after = string_bytes second.0; kind = kind })
rule-at names entries n i j kind first second at at_first at_second =
    slice_get-map (rule_of (names_in names)) entries n
    ∙ ap (option_map (rule_of (names_in names))) at
    ∙ (λ t. Some (record { before = name-at names i first at_first t; after = name-at names j second at_second t; kind = kind }))

-- the names that are held after the first name of a rule was marked
pub names-first : {Y : Type 0} (names first : List (String Y × Marks)) (entries : List ((ℕ × ℕ) × RuleKind)) (rule : PairRule)
    → AreHeld names entries → marked_in first ≡ with_marks (marked_in names) rule.before (marks_before rule.kind)
    → names_in first ≡ with_name (names_of (rules_in names entries)) rule.before
names-first names first entries rule held marked =
    names_in-each_with first _ (with_name (names_of (rules_in names entries)) rule.before)
    (marked ∙ marked-first (marked_in names) (rules_in names entries) rule held.marked)

pub count-first : {Y : Type 0} (names first : List (String Y × Marks)) (entries : List ((ℕ × ℕ) × RuleKind)) (rule : PairRule)
    → AreHeld names entries → marked_in first ≡ with_marks (marked_in names) rule.before (marks_before rule.kind)
    → length first ≤ length names + 1
count-first names first entries rule held marked =
    omega (
      arith,
      sym (length-map first _) ∙ ap length (names-first names first entries rule held marked),
      (count-held names entries held).0,
      (length-with_name (names_of (rules_in names entries)) rule.before).1,
    )

-- what is held after a rule that clashes with none was added
pub held-push : {Y S : Type 0} (names first both : List (String Y × Marks)) (m new : IndexMap (ℕ × ℕ) RuleKind S) (rule : PairRule)
    (i j : ℕ)
    → AreHeld names m.entries → rule.before ≢ rule.after → clashes (rules_in names m.entries) rule ≡ false
    → length m.entries < 32768
    → marked_in first ≡ with_marks (marked_in names) rule.before (marks_before rule.kind)
    → marked_in both ≡ with_marks (marked_in first) rule.after (marks_after rule.kind)
    → i ≡ position_or_len (bytes_eq rule.before) (names_in names)
    → j ≡ position_or_len (bytes_eq rule.after) (names_in first)
    → new.entries ≡ insert_entry (λ a b. nat_eq a.0 b.0 && nat_eq a.1 b.1) m.entries (i, j) rule.kind
    → (rules_in both new.entries ≡ rules_in names m.entries ++ rule ∷ []) × AreHeld both new.entries
held-push {Y} {S} names first both m new rule i j held two apart room marked_first marked_both i_is j_is put =
    let rules = rules_in names m.entries in
    let old = names_of rules in
    let one = with_name old rule.before in
    let all = with_names old rule in
    let old_is : names_in names ≡ old = names-held names m.entries held in
    let one_is : names_in first ≡ one = names-first names first m.entries rule held marked_first in
    let marked : marked_in both ≡ map (λ n. (n, marks_of (rules ++ rule ∷ []) n)) (names_of (rules ++ rule ∷ [])) =
    marked_both ∙ ap (λ x. with_marks x rule.after (marks_after rule.kind)) marked_first
    ∙ marked-both (marked_in names) rules rule held.marked in
    let all_is : names_in both ≡ all =
    names_in-each_with both (marks_of (rules ++ rule ∷ [])) (names_of (rules ++ rule ∷ [])) marked ∙ names_of-push rules rule in
    let place_first : i ≡ position_or_len (bytes_eq rule.before) old = i_is ∙ ap (position_or_len (bytes_eq rule.before)) old_is in
    let place_second : j ≡ position_or_len (bytes_eq rule.after) one = j_is ∙ ap (position_or_len (bytes_eq rule.after)) one_is in
    let at_first = number-with_name old rule.before [] in
    let at_second = number-with_name one rule.after [] in
    let longer = length-with_name one rule.after in
    let i_lt_one : i < length one = omega (arith, place_first, at_first.0) in
    let i_lt : i < length all = omega (arith, i_lt_one, longer.0) in
    let j_lt : j < length all = omega (arith, place_second, at_second.0) in
    let first_name : get_or all i [] ≡ rule.before =
    get_or-with_name one rule.after i [] i_lt_one ∙ ap (λ k. get_or one k []) place_first ∙ at_first.1 in
    let second_name : get_or all j [] ≡ rule.after = ap (λ k. get_or all k []) place_second ∙ at_second.1 in
    let count = (count-held names m.entries held).0 in
    let older = length-with_name old rule.before in
    let within_old : All (Within (length old)) m.entries =
    All-weaker (Within (length names)) (Within (length old)) (λ e w. (omega (arith, w.0, count), omega (arith, w.1, count))) m.entries
    held.within in
    let within_all : All (Within (length all)) m.entries =
    All-weaker (Within (length old)) (Within (length all))
    (λ e w. (omega (arith, w.0, older.0, longer.0), omega (arith, w.1, older.0, longer.0))) m.entries within_old in
    let kept : map (rule_of all) m.entries ≡ rules =
    rules-kept old all
    (λ k d lt. get_or-with_name one rule.after k d (omega (arith, lt, older.0)) ∙ get_or-with_name old rule.before k d lt)
    m.entries within_old
    ∙ ap (λ ns. map (rule_of ns) m.entries) (sym old_is) in
    let once : AreOnce all = subst AreOnce (names_of-push rules rule) (AreOnce-names_of (rules ++ rule ∷ [])) in
    let absent : lookup (λ k. nat_eq i k.0 && nat_eq j k.1) m.entries ≡ None =
    found-kind all once i j i_lt j_lt m.entries within_all
    ∙ (λ t. kind_of (kept t) (first_name t) (second_name t))
    ∙ kind_of-new rules rule apart in
    let added : new.entries ≡ m.entries ++ ((i, j), rule.kind) ∷ [] =
    put ∙ insert_entry-new (λ a b. nat_eq a.0 b.0 && nat_eq a.1 b.1) m (i, j) rule.kind absent in
    let is : rules_in both new.entries ≡ rules ++ rule ∷ [] =
    (λ t. map (rule_of (all_is t)) (added t))
    ∙ map-append (rule_of all) m.entries (((i, j), rule.kind) ∷ [])
    ∙ (λ t. kept t ++ record { before = first_name t; after = second_name t; kind = rule.kind } ∷ []) in
    let count_both : length both ≡ length all = sym (length-map both _) ∙ ap length all_is in
    let count_rules : length rules ≡ length m.entries = length-map m.entries (rule_of (names_in names)) in (
      is,
      record {
        valid = subst ArePairRules (sym is) (ArePairRules-push rules rule held.valid two apart (omega (arith, room, count_rules)));
        marked = marked ∙ (λ t. map (λ n. (n, marks_of (sym is t) n)) (names_of (sym is t)));
        within = subst (λ es. All (λ e. (e.0.0 < length both) × (e.0.1 < length both)) es) (sym added)
            (All-push (λ e. (e.0.0 < length both) × (e.0.1 < length both)) m.entries ((i, j), rule.kind)
            (All-weaker (Within (length all)) (λ e. (e.0.0 < length both) × (e.0.1 < length both))
            (λ e w. (omega (arith, w.0, count_both), omega (arith, w.1, count_both))) m.entries within_all)
            (omega (arith, i_lt, count_both), omega (arith, j_lt, count_both)));
      },
    )
