-- Preferences of which none comes twice.
use Rattle.std.proofs.Common.{◌≡◌, ◌&&◌, ◌||◌, Bool, true, false, not, List, [], ◌∷◌, ◌++◌, refl, ap, ◌∙◌}
use Rattle.std.proofs.lemmas.Bool.{and_parts, or_parts}
use Rattle.std.proofs.lemmas.List.Folds.{list_any-append}
use Rattle.desk_settings.specs.Prefer.{has, is_same, none_twice}
use Rattle.desk_settings.specs.declared.prefer.Preference.{Preference}
use Rattle.desk_settings.specs.declared.prefer.Preference.TheVariants.{Stated, Line, Waiting}

same-turned : (p q : Preference) → is_same q p ≡ is_same p q
same-turned Stated Stated = refl
same-turned Stated Line = refl
same-turned Stated Waiting = refl
same-turned Line Stated = refl
same-turned Line Line = refl
same-turned Line Waiting = refl
same-turned Waiting Stated = refl
same-turned Waiting Line = refl
same-turned Waiting Waiting = refl

-- one that is none of them may come behind them
pub none_twice_pushed : (order : List Preference) (p : Preference) → none_twice order ≡ true → has p order ≡ false
    → none_twice (order ++ p ∷ []) ≡ true
none_twice_pushed [] p once new = refl
none_twice_pushed (q ∷ order) p once new =
    let parts = and_parts (not (has q order)) (none_twice order) once in
    let apart = or_parts (is_same p q) (has p order) new in
    let behind : has q (order ++ p ∷ []) ≡ has q order || false = list_any-append (is_same q) order (p ∷ [])
    ∙ ap (λ b. has q order || (b || false)) (same-turned p q ∙ apart.0) in
    ap (λ b. not b && none_twice (order ++ p ∷ [])) behind
    ∙ ap (λ b. not (has q order || false) && b) (none_twice_pushed order p parts.1 apart.1)
    ∙ kept (has q order) parts.0
  where
    kept : (b : Bool) → not b ≡ true → (not (b || false) && true) ≡ true
    kept true e = e
    kept false e = refl
