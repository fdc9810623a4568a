-- What an item writes over the newer plan gives the older one, and over the older one the newer.
use Rattle.std.proofs.Common.{◌≡◌, ◌≢◌, ℕ, zero, suc, ◌+◌, ◌<◌, ◌≤◌, Bool, true, false, cond, List, [], ◌∷◌, ◌++◌, length, get_or, Option}
use Rattle.std.proofs.Common.{None, Some, refl, sym, ap, subst, ◌∙◌, ⊎_elim, arith}
use Rattle.std.specs.Prelude.{slice_get, IfSome}
use Rattle.std.specs.List.{All}
use Rattle.std.proofs.lemmas.Bool.{cases_lt}
use Rattle.std.proofs.lemmas.List.Elements.{All-append}
use Rattle.std.proofs.lemmas.Option.{none-some, same_Some}
use Rattle.assignment_model.specs.Prices.{Plan}
use Rattle.price_assign.specs.Plans.{with_slots}
use Rattle.trip_model.specs.Links.{next_of}
use Rattle.plan_history.specs.Items.{with_stand, stood_before, stood_after, written, HasRoomFor, undone_by, redone_by, IsWhole, IsItem}
use Rattle.plan_history.specs.Stands.{stand_at, stands, same_stand, changed_at, changes_upto, differences}
use Rattle.plan_history.specs.declared.item.Item.{Item}
use Rattle.plan_history.specs.declared.stand.Stand.{Stand}
use Rattle.plan_history.specs.declared.stand.Changed.{Changed}
use Rattle.plan_history.proofs.WriteLemmas.{changes_more, same-stand, stands-within, stands-past, IsOf, plan_same, IsOf-with_slots}
use Rattle.plan_history.proofs.WriteLemmas.{stand-with_slots, IsOf-with_stand, stand-written, stand-other, written-append}

-- the change of a slot, if it is one
abbrev change_at : List Stand → Plan → ℕ → Changed
change_at was new n = record { slot = n; before = slice_get was n; after = stand_at new n }

IsOf-changed : (part : Changed → Option Stand) (n : ℕ) (plan : Plan) (same : Bool) (c : Changed) → IsOf n plan
    → IsOf n (written part plan (cond same [] (c ∷ [])))
IsOf-changed part n plan true c of = of
IsOf-changed part n plan false c of = IsOf-with_stand n plan c.slot (part c) of

other-changed : (part : Changed → Option Stand) (plan : Plan) (same : Bool) (c : Changed) (i : ℕ) → i ≢ c.slot
    → stand_at (written part plan (cond same [] (c ∷ []))) i ≡ stand_at plan i
other-changed part plan true c i other = refl
other-changed part plan false c i other = stand-other plan c.slot (part c) i other

one_more : (n : ℕ) → suc n ≡ n + 1
one_more n = omega arith

-- the changes of one slot more are written over what those before it gave
written_more : (part : Changed → Option Stand) (plan : Plan) (was : List Stand) (new : Plan) (n : ℕ)
    → written part plan (changes_upto was new (suc n)) ≡ written part (written part plan (changes_upto was new n)) (changed_at was new n)
written_more part plan was new n =
    ap (λ (m : ℕ). written part plan (changes_upto was new m)) (one_more n)
    ∙ (ap (written part plan) (changes_more was new n) ∙ written-append part plan (changes_upto was new n) (changed_at was new n))

IsOf-upto : (part : Changed → Option Stand) (slots : ℕ) (plan : Plan) (was : List Stand) (new : Plan) → IsOf slots plan → (n : ℕ)
    → IsOf slots (written part plan (changes_upto was new n))
IsOf-upto part slots plan was new of zero = of
IsOf-upto part slots plan was new of (suc n) =
    let P : Plan → Type 0 = λ p. IsOf slots p in
    subst P (sym (written_more part plan was new n))
    (IsOf-changed part slots (written part plan (changes_upto was new n)) (same_stand (slice_get was n) (stand_at new n))
    (change_at was new n) (IsOf-upto part slots plan was new of n))

-- slots from a number on have what they had
later-upto : (part : Changed → Option Stand) (plan : Plan) (was : List Stand) (new : Plan) (n i : ℕ) → n ≤ i
    → stand_at (written part plan (changes_upto was new n)) i ≡ stand_at plan i
later-upto part plan was new zero i h = refl
later-upto part plan was new (suc n) i h =
    ap (λ (p : Plan). stand_at p i) (written_more part plan was new n)
    ∙ (other-changed part (written part plan (changes_upto was new n)) (same_stand (slice_get was n) (stand_at new n))
    (change_at was new n) i (λ e. omega (arith, h, e))
    ∙ later-upto part plan was new n i (omega (arith, h)))

-- over the newer plan what stood before gives those below it what the older one has
before-upto : (old new : Plan) → IsOf (length new.next) new → (n : ℕ) → n ≤ length new.next → (i : ℕ) → i < n → i < length old.next
    → stand_at (written stood_before new (changes_upto (stands old) new n)) i ≡ stand_at old i
before-upto old new of zero le i lt inside = absurd (omega (arith, lt))
before-upto old new of (suc n) le i lt inside =
    ap (λ (p : Plan). stand_at p i) (written_more stood_before new (stands old) new n)
    ∙ ⊎_elim
    (λ (l : i < n). other-changed stood_before q (same_stand (slice_get (stands old) n) (stand_at new n)) (change_at (stands old) new n) i
    (λ e. omega (arith, l, e))
    ∙ before-upto old new of n (omega (arith, le)) i l inside)
    (λ (l : n ≤ i). here (omega (arith, l, lt)))
    (cases_lt i n)
  where
    q : Plan
    q = written stood_before new (changes_upto (stands old) new n)

    at : n < length old.next → (same : Bool) → same_stand (slice_get (stands old) n) (stand_at new n) ≡ same
        → stand_at (written stood_before q (cond same [] (change_at (stands old) new n ∷ []))) n ≡ stand_at old n
    at h true e =
        later-upto stood_before new (stands old) new n n (omega arith)
        ∙ same_Some (stand_at new n) (stand_at old n)
        (sym (same-stand (slice_get (stands old) n) (stand_at new n) e) ∙ stands-within old n h)
    at h false e =
        ap (λ (s : Option Stand). stand_at (with_stand q n s) n) (stands-within old n h)
        ∙ stand-written (length new.next) q n (stand_at old n) (IsOf-upto stood_before (length new.next) new (stands old) new of n)
        (omega (arith, le))

    here : i ≡ n → stand_at (written stood_before q (changed_at (stands old) new n)) i ≡ stand_at old i
    here e =
        let P : ℕ → Type 0 = λ k. stand_at (written stood_before q (changed_at (stands old) new n)) k ≡ stand_at old k in
        subst P (sym e) (at (omega (arith, e, inside)) (same_stand (slice_get (stands old) n) (stand_at new n)) refl)

-- over a plan that has what the older one has, what stood after gives those below it what the newer one has
after-upto : (old new p : Plan) → IsOf (length new.next) p → ((s : ℕ) → s < length new.next → stand_at p s ≡ stand_at old s) → (n : ℕ)
    → n ≤ length new.next → (i : ℕ) → i < n
    → stand_at (written stood_after p (changes_upto (stands old) new n)) i ≡ stand_at new i
after-upto old new p of has zero le i lt = absurd (omega (arith, lt))
after-upto old new p of has (suc n) le i lt =
    ap (λ (r : Plan). stand_at r i) (written_more stood_after p (stands old) new n)
    ∙ ⊎_elim
    (λ (l : i < n). other-changed stood_after q (same_stand (slice_get (stands old) n) (stand_at new n)) (change_at (stands old) new n) i
    (λ e. omega (arith, l, e))
    ∙ after-upto old new p of has n (omega (arith, le)) i l)
    (λ (l : n ≤ i). here (omega (arith, l, lt)))
    (cases_lt i n)
  where
    q : Plan
    q = written stood_after p (changes_upto (stands old) new n)

    stays : (same_stand (slice_get (stands old) n) (stand_at new n) ≡ true) → stand_at old n ≡ stand_at new n
    stays e =
        let had : slice_get (stands old) n ≡ Some (stand_at new n) = same-stand (slice_get (stands old) n) (stand_at new n) e in
        ⊎_elim
        (λ (l : n < length old.next). same_Some (stand_at old n) (stand_at new n) (sym (stands-within old n l) ∙ had))
        (λ (l : length old.next ≤ n). absurd (none-some (stand_at new n) (sym (stands-past old n l) ∙ had)))
        (cases_lt n (length old.next))

    at : (same : Bool) → same_stand (slice_get (stands old) n) (stand_at new n) ≡ same
        → stand_at (written stood_after q (cond same [] (change_at (stands old) new n ∷ []))) n ≡ stand_at new n
    at true e = later-upto stood_after p (stands old) new n n (omega arith) ∙ (has n (omega (arith, le)) ∙ stays e)
    at false e = stand-written (length new.next) q n (stand_at new n) (IsOf-upto stood_after (length new.next) p (stands old) new of n)
        (omega (arith, le))

    here : i ≡ n → stand_at (written stood_after q (changed_at (stands old) new n)) i ≡ stand_at new i
    here e =
        let P : ℕ → Type 0 = λ k. stand_at (written stood_after q (changed_at (stands old) new n)) k ≡ stand_at new k in
        subst P (sym e) (at (same_stand (slice_get (stands old) n) (stand_at new n)) refl)

IsOf-whole : (plan : Plan) → IsWhole plan → IsOf (length plan.next) plan
IsOf-whole plan whole = record { nexts = refl; leaves = whole.leaves; enters = whole.enters }

-- an item leads from the newer plan back to the older one
pub undone-item : (old new : Plan) (item : Item) → IsItem old new item → undone_by new item ≡ old
undone-item old new item is =
    ap (λ (changes : List Changed). with_slots (written stood_before new changes) item.before) is.changes
    ∙ (ap (with_slots (written stood_before new (differences old new))) is.before
    ∙ plan_same (length old.next) (with_slots (written stood_before new (differences old new)) (length old.next)) old
    (IsOf-with_slots (written stood_before new (differences old new)) (length old.next)) (IsOf-whole old is.older)
    (λ s h. stand-with_slots (written stood_before new (differences old new)) (length old.next) s h
    ∙ before-upto old new (IsOf-whole new is.newer) (length new.next) (omega arith) s (omega (arith, h, is.fewer)) h))

-- and from the older plan forth to the newer one
pub redone-item : (old new : Plan) (item : Item) → IsItem old new item → redone_by old item ≡ new
redone-item old new item is =
    ap (λ (changes : List Changed). written stood_after (with_slots old item.after) changes) is.changes
    ∙ (ap (λ (slots : ℕ). written stood_after (with_slots old slots) (differences old new)) is.after
    ∙ plan_same (length new.next) (written stood_after (with_slots old (length new.next)) (differences old new)) new
    (IsOf-upto stood_after (length new.next) (with_slots old (length new.next)) (stands old) new (IsOf-with_slots old (length new.next))
    (length new.next)) (IsOf-whole new is.newer)
    (λ s h. after-upto old new (with_slots old (length new.next)) (IsOf-with_slots old (length new.next))
    (λ i lt. stand-with_slots old (length new.next) i lt) (length new.next) (omega arith) s h))

-- what may be written: each slot and its next trip are among those of the newer plan
if_some : (o : Option ℕ) (P : ℕ → Type 0) → ((j : ℕ) → o ≡ Some j → P j) → IfSome o P
if_some None P h = tt
if_some (Some j) P h = h j refl

RoomFor-change : (slots : ℕ) (part : Changed → Option Stand) (same : Bool) (c : Changed) → HasRoomFor slots c.slot (part c)
    → All (λ (x : Changed). HasRoomFor slots x.slot (part x)) (cond same [] (c ∷ []))
RoomFor-change slots part true c room = λ k d h. absurd (omega (arith, h))
RoomFor-change slots part false c room = λ k d h. one k d (omega (arith, h))
  where
    one : (k : ℕ) (d : Changed) → k ≡ 0 → HasRoomFor slots (get_or (c ∷ []) k d).slot (part (get_or (c ∷ []) k d))
    one k d e = let P : ℕ → Type 0 = λ n. HasRoomFor slots (get_or (c ∷ []) n d).slot (part (get_or (c ∷ []) n d)) in subst P (sym e) room

RoomFor-upto : (slots : ℕ) (part : Changed → Option Stand) (was : List Stand) (new : Plan)
    → ((n : ℕ) → n < slots → HasRoomFor slots n (part (change_at was new n)))
    → (n : ℕ) → n ≤ slots → All (λ (x : Changed). HasRoomFor slots x.slot (part x)) (changes_upto was new n)
RoomFor-upto slots part was new room zero le = λ k d h. absurd (omega (arith, h))
RoomFor-upto slots part was new room (suc n) le =
    let P : Changed → Type 0 = λ x. HasRoomFor slots x.slot (part x) in
    let Q : List Changed → Type 0 = λ xs. All P xs in
    let more : changes_upto was new (suc n) ≡ changes_upto was new n ++ changed_at was new n = ap (changes_upto was new) (one_more n)
    ∙ changes_more was new n in
    subst Q (sym more)
    (All-append P (changes_upto was new n) (changed_at was new n) (RoomFor-upto slots part was new room n (omega (arith, le)))
    (RoomFor-change slots part (same_stand (slice_get was n) (stand_at new n)) (change_at was new n) (room n (omega (arith, le)))))

pub RoomFor-before : (old new : Plan) (item : Item) → IsItem old new item
    → All (λ (x : Changed). HasRoomFor (length new.next) x.slot (stood_before x)) item.changes.items
RoomFor-before old new item is =
    let Q : List Changed → Type 0 = λ xs. All (λ (x : Changed). HasRoomFor (length new.next) x.slot (stood_before x)) xs in
    subst Q (sym is.changes) (RoomFor-upto (length new.next) stood_before (stands old) new room (length new.next) (omega arith))
  where
    room : (n : ℕ) → n < length new.next → HasRoomFor (length new.next) n (slice_get (stands old) n)
    room n h =
        let P : Option Stand → Type 0 = λ o. HasRoomFor (length new.next) n o in
        ⊎_elim
        (λ (l : n < length old.next). subst P (sym (stands-within old n l))
        (h, if_some (next_of old.next n) (λ j. j < length new.next) (λ j e. omega (arith, is.older.within n j e, is.fewer))))
        (λ (l : length old.next ≤ n). subst P (sym (stands-past old n l)) tt)
        (cases_lt n (length old.next))

pub RoomFor-after : (old new : Plan) (item : Item) → IsItem old new item
    → All (λ (x : Changed). HasRoomFor (length new.next) x.slot (stood_after x)) item.changes.items
RoomFor-after old new item is =
    let Q : List Changed → Type 0 = λ xs. All (λ (x : Changed). HasRoomFor (length new.next) x.slot (stood_after x)) xs in
    subst Q (sym is.changes) (RoomFor-upto (length new.next) stood_after (stands old) new
    (λ n h. (h, if_some (next_of new.next n) (λ j. j < length new.next) (λ j e. is.newer.within n j e))) (length new.next)
    (omega arith))
