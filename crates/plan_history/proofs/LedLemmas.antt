-- To which plans items lead, with one more item or without the oldest.
use Rattle.std.proofs.Common.{◌≡◌, ℕ, zero, suc, List, [], ◌∷◌, ◌++◌, length, drop, refl, sym, ap, subst, ◌∙◌}
use Rattle.assignment_model.specs.Prices.{Plan}
use Rattle.plan_history.specs.Items.{led, plans_along, AreAlong}
use Rattle.plan_history.specs.declared.item.Item.{Item}

pub led-last : (step : Plan → Item → Plan) (plan : Plan) (items : List Item) (item : Item)
    → led step plan (items ++ item ∷ []) ≡ led step (step plan item) items
led-last step plan [] item = refl
led-last step plan (x ∷ items) item = ap (λ (p : Plan). step p x) (led-last step plan items item)

pub plans-last : (step : Plan → Item → Plan) (plan : Plan) (items : List Item) (item : Item)
    → plans_along step plan (items ++ item ∷ []) ≡ plans_along step (step plan item) items ++ step plan item ∷ []
plans-last step plan [] item = refl
plans-last step plan (x ∷ items) item =
    ap (λ (p : Plan). step p x ∷ plans_along step plan (items ++ item ∷ [])) (led-last step plan items item)
    ∙ ap (λ (ps : List Plan). step (led step (step plan item) items) x ∷ ps) (plans-last step plan items item)

pub length-plans : (step : Plan → Item → Plan) (plan : Plan) (items : List Item) → length (plans_along step plan items) ≡ length items
length-plans step plan [] = refl
length-plans step plan (x ∷ items) = ap suc (length-plans step plan items)

pub plans-drop : (step : Plan → Item → Plan) (plan : Plan) (k : ℕ) (items : List Item)
    → plans_along step plan (drop k items) ≡ drop k (plans_along step plan items)
plans-drop step plan zero items = refl
plans-drop step plan (suc k) [] = refl
plans-drop step plan (suc k) (x ∷ items) = plans-drop step plan k items

pub plans-none : (step : Plan → Item → Plan) (plan : Plan) (items : List Item) → plans_along step plan items ≡ [] → items ≡ []
plans-none step plan [] e = refl
plans-none step plan (x ∷ items) e = cc

pub along-last : (step : Plan → Item → Plan) (Leads : Plan → Item → Type 0) (plan : Plan) (items : List Item) (item : Item)
    → Leads plan item → AreAlong step Leads (step plan item) items → AreAlong step Leads plan (items ++ item ∷ [])
along-last step Leads plan [] item leads along = (leads, tt)
along-last step Leads plan (x ∷ items) item leads along =
    let P : Plan → Type 0 = λ p. Leads p x in
    (subst P (sym (led-last step plan items item)) along.0, along-last step Leads plan items item leads along.1)

pub last-along : (step : Plan → Item → Plan) (Leads : Plan → Item → Type 0) (plan : Plan) (items : List Item) (item : Item)
    → AreAlong step Leads plan (items ++ item ∷ []) → Leads plan item × AreAlong step Leads (step plan item) items
last-along step Leads plan [] item along = (along.0, tt)
last-along step Leads plan (x ∷ items) item along =
    let P : Plan → Type 0 = λ p. Leads p x in
    let rest : Leads plan item × AreAlong step Leads (step plan item) items = last-along step Leads plan items item along.1 in
    (rest.0, (subst P (led-last step plan items item) along.0, rest.1))

pub along-drop : (step : Plan → Item → Plan) (Leads : Plan → Item → Type 0) (plan : Plan) (k : ℕ) (items : List Item)
    → AreAlong step Leads plan items → AreAlong step Leads plan (drop k items)
along-drop step Leads plan zero items along = along
along-drop step Leads plan (suc k) [] along = along
along-drop step Leads plan (suc k) (x ∷ items) along = along-drop step Leads plan k items along.1
