-- The last item of a list, and the items before it.
use Rattle.std.proofs.Common.{◌≡◌, ◌-◌, suc, List, [], ◌∷◌, ◌++◌, length, take, slice_get, Some, None, refl, arith, ap, sym, ◌∙◌}

module _ {X : Type 0} where
  length-one_less : (y z : X) (xs : List X) → length (y ∷ z ∷ xs) - 1 ≡ suc (length (z ∷ xs) - 1)
  length-one_less y z xs = omega arith

  last_item-cons : (y z : X) (xs : List X) → slice_get (y ∷ z ∷ xs) (length (y ∷ z ∷ xs) - 1) ≡ slice_get (z ∷ xs) (length (z ∷ xs) - 1)
  last_item-cons y z xs = rw (length-one_less y z xs) refl

  -- a list is the items before its last, and then that one
  pub take_last_item : (xs : List X) (x : X) → slice_get xs (length xs - 1) ≡ Some x → take (length xs - 1) xs ++ x ∷ [] ≡ xs
  take_last_item [] x is = cc
  take_last_item (y ∷ []) x is = cc
  take_last_item (y ∷ z ∷ xs) x is =
      rw (length-one_less y z xs) (ap (λ (l : List X). y ∷ l) (take_last_item (z ∷ xs) x (sym (last_item-cons y z xs) ∙ is)))

  -- only an empty list has no last item
  pub last_item_none : (xs : List X) → slice_get xs (length xs - 1) ≡ None → xs ≡ []
  last_item_none [] is = refl
  last_item_none (y ∷ []) is = cc
  last_item_none (y ∷ z ∷ xs) is = let none : z ∷ xs ≡ [] = last_item_none (z ∷ xs) (sym (last_item-cons y z xs) ∙ is) in cc
