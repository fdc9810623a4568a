use Rattle.std.proofs.Common.{◌≡◌, ◌≢◌, ⊎_elim, get_or, ap, ◌∙◌, arith}
use Rattle.std.proofs.lemmas.Bool.{cases_eq}
use Rattle.std.proofs.lemmas.List.{get_or_default}
use Rattle.std.proofs.lemmas.List.Elements.{Contains-get_or}
use Rattle.deadhead_matrix.specs.declared.entry.Entry.{Entry}
use Rattle.deadhead_matrix.proofs.through.places_among.Goals as goal

abbrev none : Entry
none = record { from = 0; to = 0; minutes = 0 }

pub overflow_add-entry : goal.overflow_add-entry
overflow_add-entry c =
    let in_row = (c.requires.among _ (Contains-get_or c.args.entries.now c.loop-n.n none c.loop-n-test.true)).0 in omega arith

pub overflow_add-entry-in-loop-n : goal.overflow_add-entry-in-loop-n
overflow_add-entry-in-loop-n c =
    let in_row = (c.requires.among _ (Contains-get_or c.args.entries.now c.loop-n.n none c.loop-n-test.true)).1 in omega arith

pub loop-n-preserved : goal.loop-n-preserved
loop-n-preserved c =
    let entries = c.args.entries.now in
    let n = c.loop-n.n in
    let here = get_or entries n none in
    let at : (e : Entry) → get_or entries n e ≡ here = λ e. get_or_default entries n e none c.loop-n-test.true in
    let within = c.requires.among here (Contains-get_or entries n none c.loop-n-test.true) in
    record {
      least = omega (arith, c.loop-n.invariant.least, c.max.ensures, c.max-count.ensures);
      few = omega (arith, c.loop-n.invariant.few, c.max.ensures, c.max-count.ensures, within.0, within.1);
      from = λ e i lt. ⊎_elim
          (λ (same : i ≡ n). let is = ap (λ (x : Entry). x.from) (ap (λ k. get_or entries k e) same ∙ at e) in
          omega (arith, is, c.max.ensures, c.max-count.ensures))
          (λ (differs : i ≢ n). let old = c.loop-n.invariant.from e i (omega (arith, lt, differs)) in
          omega (arith, old, c.max.ensures, c.max-count.ensures))
          (cases_eq i n);
      to = λ e i lt. ⊎_elim
          (λ (same : i ≡ n). let is = ap (λ (x : Entry). x.to) (ap (λ k. get_or entries k e) same ∙ at e) in
          omega (arith, is, c.max.ensures, c.max-count.ensures))
          (λ (differs : i ≢ n). let old = c.loop-n.invariant.to e i (omega (arith, lt, differs)) in
          omega (arith, old, c.max.ensures, c.max-count.ensures))
          (cases_eq i n);
    }
