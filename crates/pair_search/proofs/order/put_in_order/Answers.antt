use Rattle.std.proofs.Common.{◌≡◌, ℕ, ◌<◌, List, length, refl, sym, subst, arith}
use Rattle.std.proofs.lemmas.List.Sorted.{All-permutation, length_permutation}
use Rattle.pair_search.specs.Arranged.{AreInOrder, IsRank}
use Rattle.pair_search.specs.declared.order.Column.{Column}
use Rattle.pair_search.specs.Order.{slot_at, place_of}
use Rattle.pair_search.proofs.OrderLemmas.{AreColumns, IsOrder-sorted}
use Rattle.pair_search.proofs.RankLemmas.{AreColumns-own, AreColumns-ranked, AreInOrder-sorted}
use Rattle.pair_search.proofs.order.put_in_order.Goals as goal

pub list_columns-requires-clause-within : goal.list_columns-requires-clause-within
list_columns-requires-clause-within c =
    All-permutation IsRank c.args.ranks.now c.sort.new.ranks c.sort.ensures.permutation c.requires.within

pub number_places-requires-clause-within : goal.number_places-requires-clause-within
number_places-requires-clause-within c =
    let n = length c.args.ranks.now in
    let are = AreColumns-own n (slot_at n c.args.columns.now) (place_of n c.args.places.now) c.requires.renaming c.args.ranks.now
    c.sort.new.ranks refl c.sort.ensures.permutation c.requires.slots in
    subst (λ m. (k : ℕ) → k < m → slot_at m c.list_columns.new.columns k < m) (sym c.requires.places)
    (subst (λ (l : List Column). (k : ℕ) → k < n → slot_at n l k < n)
    (sym c.list_columns.ensures) are.within)

pub number_places-requires-clause-apart : goal.number_places-requires-clause-apart
number_places-requires-clause-apart c =
    let n = length c.args.ranks.now in
    let are = AreColumns-own n (slot_at n c.args.columns.now) (place_of n c.args.places.now) c.requires.renaming c.args.ranks.now
    c.sort.new.ranks refl c.sort.ensures.permutation c.requires.slots in
    subst (λ m. (h k : ℕ) → h < m → k < m → slot_at m c.list_columns.new.columns h ≡ slot_at m c.list_columns.new.columns k → h ≡ k)
    (sym c.requires.places)
    (subst (λ (l : List Column). (h k : ℕ) → h < n → k < n → slot_at n l h ≡ slot_at n l k → h ≡ k) (sym c.list_columns.ensures) are.apart)

pub returns-clause-numbered : goal.returns-clause-numbered
returns-clause-numbered c = λ minute post each.
    let n = length c.args.ranks.now in
    IsOrder-sorted n minute post c.list_columns.new.columns c.number_places.new.places
    (subst (AreColumns n minute post) (sym c.list_columns.ensures)
    (AreColumns-ranked n (slot_at n c.args.columns.now) (place_of n c.args.places.now) c.requires.renaming c.args.ranks.now
    c.sort.new.ranks refl c.sort.ensures.permutation minute post each))
    (omega (arith, c.number_places.auto.places, c.requires.places))
    (subst (λ m. (k : ℕ) → k < m → place_of m c.number_places.new.places (slot_at m c.list_columns.new.columns k) ≡ k)
    c.requires.places c.number_places.ensures)

pub returns-clause-sorted : goal.returns-clause-sorted
returns-clause-sorted c =
    let n = length c.args.ranks.now in
    let are = AreColumns-own n (slot_at n c.args.columns.now) (place_of n c.args.places.now) c.requires.renaming c.args.ranks.now
    c.sort.new.ranks refl c.sort.ensures.permutation c.requires.slots in
    subst (AreInOrder n) (sym c.list_columns.ensures)
    (AreInOrder-sorted n c.sort.new.ranks (length_permutation c.args.ranks.now c.sort.new.ranks c.sort.ensures.permutation)
    are.apart c.sort.ensures.sorted)
