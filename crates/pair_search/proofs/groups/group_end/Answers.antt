use Rattle.std.proofs.Common.{◌≡◌, ◌-◌, ◌<◌, ◌≤◌, ⊎_elim, get_or, length, None, ap, ◌∙◌, arith}
use Rattle.std.proofs.lemmas.Bool.{cases_eq, cases_lt}
use Rattle.std.proofs.lemmas.List.{get_or_default}
use Rattle.pair_search.specs.declared.order.Column.{Column}
use Rattle.pair_search.proofs.GroupLemmas.{same-post}
use Rattle.pair_search.proofs.groups.group_end.Goals as goal

pub loop-to-preserved : goal.loop-to-preserved
loop-to-preserved c =
    let to = c.loop-to.to in
    let from = c.args.from in
    let columns = c.args.columns.now in
    let none : Column = record { post = None; minute = 0; slot = 0 } in
    let start : from < length columns = omega (arith, c.requires) in
    let same : (get_or columns to none).post ≡ (get_or columns from none).post =
    same-post (get_or columns to none).post (get_or columns from none).post c.if-eq.ensures in
    record {
      after = omega (arith, c.loop-to.invariant.after);
      within = omega (arith, c.loop-to-test.true);
      posts = λ k d after before. ⊎_elim
          (λ (lt : k < to). c.loop-to.invariant.posts k d after lt)
          (λ (le : to ≤ k).
          let here : k ≡ to = omega (arith, le, before) in
          ap (λ m. (get_or columns m d).post) here
          ∙ ap (λ (x : Column). x.post) (get_or_default columns to d none c.loop-to-test.true)
          ∙ same
          ∙ ap (λ (x : Column). x.post) (get_or_default columns from none d start))
          (cases_lt k to);
      rise = λ h k d after le before. ⊎_elim
          (λ (lt : k < to). c.loop-to.invariant.rise h k d after le lt)
          (λ (last : to ≤ k).
          let here : k ≡ to = omega (arith, last, before) in
          let new : (get_or columns k d).minute ≡ (get_or columns to none).minute =
          ap (λ m. (get_or columns m d).minute) here
          ∙ ap (λ (x : Column). x.minute) (get_or_default columns to d none c.loop-to-test.true) in
          ⊎_elim
          (λ (e : h ≡ k). omega (arith, ap (λ m. (get_or columns m d).minute) e))
          (λ (ne : h ≡ k → ⊥).
          let old : (get_or columns (to - 1) d).minute ≡ (get_or columns (to - 1) none).minute =
          ap (λ (x : Column). x.minute) (get_or_default columns (to - 1) d none (omega (arith, c.loop-to-test.true))) in
          omega (
            arith,
            new,
            old,
            c.if-columns-to.true,
            c.loop-to.invariant.rise h (to - 1) d after (omega (arith, here, le, ne, c.loop-to.invariant.after))
                (omega (arith, c.loop-to.invariant.after)),
          ))
          (cases_eq h k))
          (cases_lt k to);
    }
