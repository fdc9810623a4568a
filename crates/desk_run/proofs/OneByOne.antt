-- Calls that are made one after the other, one for each item of a list.
use Rattle.std.proofs.Common.{◌≡◌, ℕ, ◌+◌, ◌<◌, ◌≤◌, List, [], ◌∷◌, ◌++◌, length, take, drop, get_or, map, sym, ap, ◌∙◌, append_assoc}
use Rattle.std.proofs.lemmas.List.{map-append, take-append-drop, take_all, take_more}
use Rattle.desk_io.specs.History.{Call, ComeFirst}

module _ {X : Type 0} (call : X → Call) (xs : List X) (before now next : List Call) (i : ℕ) (x d : X)
    (far : now ≡ before ++ map call (take i xs)) (noted : next ≡ now ++ call x ∷ []) (lt : i < length xs) (is : x ≡ get_or xs i d) where
  pub one_more : next ≡ before ++ map call (take (i + 1) xs)
  one_more =
      noted ∙ ap (λ calls. calls ++ call x ∷ []) far ∙ append_assoc before (map call (take i xs)) (call x ∷ [])
      ∙ ap (λ calls. before ++ calls)
      (sym (ap (map call) (take_more xs i d lt) ∙ map-append call (take i xs) (get_or xs i d ∷ [])
      ∙ ap (λ y. map call (take i xs) ++ call y ∷ []) (sym is)))

  -- the call failed, or what follows on it
  pub stopped : ComeFirst (map call xs) before next
  stopped = record {
    made = map call (take (i + 1) xs);
    left = map call (drop (i + 1) xs);
    order = ap (map call) (sym (take-append-drop (i + 1) xs)) ∙ map-append call (take (i + 1) xs) (drop (i + 1) xs);
    came = one_more;
  }

pub all_made : {X : Type 0} (call : X → Call) (xs : List X) (before now : List Call) (i : ℕ) → now ≡ before ++ map call (take i xs)
    → length xs ≤ i → now ≡ before ++ map call xs
all_made call xs before now i far all = far ∙ ap (λ ys. before ++ map call ys) (take_all i xs all)
