-- The names that records state, one record after the other.
use Rattle.std.proofs.Common.{◌≡◌, ℕ, suc, ◌+◌, ◌-◌, ◌<◌, ◌≤◌, Bool, List, Result, Ok, sym, ap, ◌∙◌, arith}
use Rattle.gtfs_tables.specs.declared.fault.FeedFault.{FeedFault}
use Rattle.gtfs_tables.specs.Reading.{◌>>=◌, Fails}
use Rattle.gtfs_tables.specs.Table.{TableView}
use Rattle.gtfs_tables.proofs.ReadingLemmas.{Fails->>=, Fails-equal}
use Rattle.feed_naming.specs.Naming.{stated_from, with_stated}

module _ (trips : TableView) (chosen : List Bool) (n before : ℕ) (names : List (List ℕ)) where
  -- what is read from a record on, after the names before it
  abbrev rest : ℕ → List (List ℕ) → Result (List (List ℕ)) FeedFault
  rest from names = stated_from trips chosen (n - from) from names

  next : before < n → rest before names ≡ (with_stated trips chosen before names >>= rest (before + 1))
  next low =
      let e : n - before ≡ suc (n - (before + 1)) = omega (arith, low) in
      ap (λ left. stated_from trips chosen left before names) e

  module _ (whole : Result (List (List ℕ)) FeedFault) (so_far : rest before names ≡ whole) where
    pub stated-more : (more : List (List ℕ)) → before < n → with_stated trips chosen before names ≡ Ok more → rest (before + 1) more ≡ whole
    stated-more more low is = sym (ap (λ here. here >>= rest (before + 1)) is) ∙ sym (next low) ∙ so_far

    pub stated-fails : (refused : FeedFault) → before < n → Fails refused (with_stated trips chosen before names) → Fails refused whole
    stated-fails refused low due =
        Fails-equal refused (with_stated trips chosen before names >>= rest (before + 1)) whole (sym (next low) ∙ so_far)
        (Fails->>= refused (with_stated trips chosen before names) (rest (before + 1)) due)

    pub stated-all : n ≤ before → whole ≡ Ok names
    stated-all all =
        let e : n - before ≡ 0 = omega (arith, all) in
        sym so_far ∙ ap (λ left. stated_from trips chosen left before names) e
