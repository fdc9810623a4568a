use Rattle.std.proofs.Common.{◌≡◌, ℕ, ◌<◌, ◌-◌, ◌∷◌, ◌+◌, List, Option, None, length, get_or, set, option_and_then, drop, sym, ap}
use Rattle.std.proofs.Common.{◌∙◌, arith}
use Rattle.std.proofs.lemmas.List.{drop_more, length-set}
use Rattle.std.proofs.lemmas.List.FromFn.{fill_by_all}
use Rattle.feed_likings.specs.Numbered.{first_numbered, next_numbered, number_at}
use Rattle.feed_likings.proofs.NumberedLemmas.{first-count, first-more, next-more}
use Rattle.feed_likings.proofs.nexts.nexts_numbered.Goals as goal

pub loop-left-preserved : goal.loop-left-preserved
loop-left-preserved c =
    let numbers = c.args.numbers.now in
    let order = c.args.order.now in
    let before = c.loop-left.left - 1 in
    let slot = get_or order before 0 in
    let rest = drop c.loop-left.left order in
    let invariant = c.loop-left.invariant in
    let lt : before < length order = omega (arith, c.loop-left-test.true, invariant.0) in
    let one : before + 1 ≡ c.loop-left.left = omega (arith, c.loop-left-test.true) in
    let here : drop before order ≡ slot ∷ rest = drop_more order before 0 lt ∙ ap (λ k. slot ∷ drop k order) one in
    let inside : slot < length numbers = c.requires.within before 0 lt in
    let number = ap (λ k. number_at numbers k) c.from.ensures in
    let nexts = c.note.ensures.nexts in
    let firsts = c.note.ensures.firsts in
    let count = first-count c.loop-left.firsts.items c.note.new.firsts.items slot _ firsts in (
      omega (arith, invariant.0),
      ap (λ (xs : List (Option ℕ)). length xs) nexts ∙ length-set c.loop-left.nexts.items slot _ ∙ invariant.1,
      count ∙ invariant.2,
      (λ s within.
          ap (λ (xs : List (Option ℕ)). get_or xs s None)
          (nexts ∙ ap (λ o. set c.loop-left.nexts.items slot (option_and_then (number_at c.loop-left.firsts.items) o)) number)
          ∙ next-more numbers rest c.loop-left.nexts.items c.loop-left.firsts.items slot (omega (arith, inside, invariant.1))
          (λ b is. c.requires.numbers slot b is) invariant.3 invariant.4 s within
          ∙ ap (λ xs. next_numbered numbers xs s) (sym here)),
      (λ b within.
          first-more numbers rest c.loop-left.firsts.items c.note.new.firsts.items slot _ (sym number)
          (λ n is. let lt = c.requires.numbers slot n (sym number ∙ is) in omega (arith, lt, invariant.2))
          invariant.4 firsts b within
          ∙ ap (λ xs. first_numbered numbers b xs) (sym here)),
    )

pub returns : goal.returns
returns c =
    let numbers = c.args.numbers.now in
    let order = c.args.order.now in
    let none : c.loop-left.left ≡ 0 = omega (arith, c.loop-left-test.false) in
    fill_by_all (next_numbered numbers order) c.loop-left.nexts.items (length numbers) None c.loop-left.invariant.1
    (λ s within. c.loop-left.invariant.3 s within ∙ ap (λ k. next_numbered numbers (drop k order) s) none)
