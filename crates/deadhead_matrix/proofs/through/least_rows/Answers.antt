use Rattle.std.proofs.Common.{◌≡◌, List, ℕ, length, take, subst, sym, ap, ◌∙◌}
use Rattle.deadhead_matrix.specs.Rows.{AreDistances, AreThrough, AreFirstRows}
use Rattle.deadhead_matrix.proofs.TurnLemmas.{AreThrough-first, AreLeastRows-through}
use Rattle.deadhead_matrix.proofs.WaysLemmas.{given-back}
use Rattle.deadhead_matrix.proofs.through.least_rows.Goals as goal

pub returns-clause-least : goal.returns-clause-least
returns-clause-least c =
    let entries = c.args.entries.now in
    let ways = c.args.ways.now in
    let n = c.places_among.result in
    let first = c.in_ok-rows.rows.items in
    let all = c.turns.new.rows in
    let among = c.places_among.ensures.among in
    let told = c.requires.told in
    let begun = subst (λ m. AreFirstRows m ways first) c.from-count.ensures c.in_ok-rows.ensures in
    let lent = c.deref_mut.ensures.value in
    let count : length c.deref_mut.result.now ≡ n = ap length lent ∙ begun.count in
    let are = subst (λ m. AreDistances m all) count c.in_ok-turns.ensures.distances in
    let through = subst (λ m. AreThrough entries m all) count (c.in_ok-turns.ensures.through entries
    (subst (λ (rows : List (List ℕ)). AreThrough entries 0 rows) (sym lent) (AreThrough-first entries n ways first begun told among))) in
    let back = given-back c.in_ok-rows.rows.len all first (are.count ∙ sym begun.count) (ap length (sym lent) ∙ c.deref_mut.ensures.len) in
    AreLeastRows-through entries n c.args.places ways c.truncate.new.self.items all told among c.places_among.ensures.few
    c.places_among.ensures.least are through
    (c.truncate.ensures.items ∙ (λ i. take (c.from.ensures i) (back i)))
