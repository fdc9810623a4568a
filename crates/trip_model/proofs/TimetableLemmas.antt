-- Names and their numbers, and what a push keeps of a timetable.
use Rattle.std.proofs.Common.{◌≡◌, ◌≢◌, ℕ, ◌+◌, ◌<◌, Bool, true, false, cond, not, List, [], ◌∷◌, ◌++◌, map, length, get_or, take}
use Rattle.std.proofs.Common.{slice_get, position, Some, None, Contains, All, if◌then◌else◌, refl, sym, ap, subst, ◌∙◌, nat_lt, arith}
use Rattle.std.specs.Prelude.{String, string_bytes, string_eq}
use Rattle.std.specs.List.{prefix_len}
use Rattle.std.specs.Str.{bytes_eq}
use Rattle.std.specs.Map.{keys_of}
use Rattle.std.proofs.Math.ListN.{get_or-append, get_or-map}
use Rattle.std.proofs.lemmas.Bool.{false≢true}
use Rattle.std.proofs.lemmas.Slice.Eq.{bytes_eq-Decides}
use Rattle.std.specs.Option.{option_map}
use Rattle.std.proofs.lemmas.Option.{slice_get-get_or, slice_get-map, slice_get_within, get_or_from_slice_get}
use Rattle.std.proofs.lemmas.List.{length-map, length-append, length-take, map-append, take-map, get_or-take, get_or_default}
use Rattle.std.proofs.lemmas.List.Elements.{All-push, All-weaker, Contains-append_right}
use Rattle.std.proofs.lemmas.List.Quantifiers.{position-Some, all_pairs_push}
use Rattle.indexmap.specs.IndexMap.{insert_entry}
use Rattle.trip_model.specs.declared.trip.Trip.{Trip}
use Rattle.trip_model.specs.Trip.{IsValidTrip}
use Rattle.trip_model.proofs.BeforeLemmas.{position-None}
use Rattle.trip_model.specs.declared.timetable.Post.{Post}
use Rattle.trip_model.specs.Place.{Place, IsPlace, class_of, terminal_place}
use Rattle.trip_model.specs.Timetable.{TimetableView, Slot, IsTimetable, AreDistinct, place_names, slot_names, number_of, place_from}
use Rattle.trip_model.specs.Timetable.{places_of, slots_of, timetable_of}

prefix_len-map : {A B : Type 0} (p : B → Bool) (f : A → B) (xs : List A) → prefix_len p (map f xs) ≡ prefix_len (λ x. p (f x)) xs
prefix_len-map p f [] = refl
prefix_len-map p f (x ∷ xs) = ap (λ n. cond (p (f x)) (1 + n) 0) (prefix_len-map p f xs)

-- the first place of a mapped list that passes
position-map : {A B : Type 0} (p : B → Bool) (f : A → B) (xs : List A) → position p (map f xs) ≡ position (λ x. p (f x)) xs
position-map p f xs =
    λ i. cond (nat_lt (prefix_len-map (λ x. not (p x)) f xs i) (length-map xs f i)) (Some (prefix_len-map (λ x. not (p x)) f xs i)) None

-- the names of the places that a map holds are its keys
pub names-places_of : {Y : Type 0} (es : List (String Y × Post)) → map (λ p. p.name) (places_of es) ≡ map string_bytes (keys_of es)
names-places_of [] = refl
names-places_of (e ∷ es) = ap (λ ns. string_bytes e.0 ∷ ns) (names-places_of es)

pub names-slots_of : {Y : Type 0} (es : List (String Y × Trip)) → map (λ s. s.name) (slots_of es) ≡ map string_bytes (keys_of es)
names-slots_of [] = refl
names-slots_of (e ∷ es) = ap (λ ns. string_bytes e.0 ∷ ns) (names-slots_of es)

-- a timetable has as many places and slots as its maps have entries
pub places-count : {Y : Type 0} (classed : Bool) (es : List (String Y × Post)) (ts : List (String Y × Trip)) (early late : ℕ)
    (t : TimetableView) → timetable_of classed es ts early late ≡ t → length es ≡ length t.places
places-count classed es ts early late t view = sym (length-map es place_from) ∙ ap (λ (u : TimetableView). length u.places) view

pub slots-count : {Y : Type 0} (classed : Bool) (es : List (String Y × Post)) (ts : List (String Y × Trip)) (early late : ℕ)
    (t : TimetableView) → timetable_of classed es ts early late ≡ t → length ts ≡ length t.slots
slots-count classed es ts early late t view = sym (length-map ts _) ∙ ap (λ (u : TimetableView). length u.slots) view

-- a name's number is the index of its key
pub number_of-keys : {Y : Type 0} (names : List (List ℕ)) (ks : List (String Y)) (name : List ℕ) → names ≡ map string_bytes ks
    → position (λ k. bytes_eq name (string_bytes k)) ks ≡ number_of names name
number_of-keys names ks name e =
    sym (ap (λ ns. number_of ns name) e ∙ position-map (bytes_eq name) string_bytes ks)

-- the number of a name is where it stands
pub number_of-Some : (names : List (List ℕ)) (name : List ℕ) (p : ℕ) → number_of names name ≡ Some p → slice_get names p ≡ Some name
number_of-Some names name p e =
    let h = position-Some (bytes_eq name) names p [] e in
    slice_get-get_or names p [] h.0 ∙ ap Some (sym ((bytes_eq-Decides name (get_or names p [])).0 h.1))

-- a name without a number stands nowhere
pub number_of-None : (names : List (List ℕ)) (name : List ℕ) → number_of names name ≡ None → ¬ Contains names name
number_of-None names name none there =
    false≢true (sym (position-None (bytes_eq name) names there.0 name none there.1)
    ∙ (bytes_eq-Decides name (get_or names there.0 name)).1 (sym there.2))

-- a key with a new name goes last
pub insert_entry-new_name : {Y X : Type 0} (es : List (String Y × X)) (k : String Y) (v : X)
    → ¬ Contains (map string_bytes (keys_of es)) (string_bytes k)
    → insert_entry string_eq es k v ≡ es ++ (k, v) ∷ []
insert_entry-new_name [] k v new = refl
insert_entry-new_name (e ∷ es) k v new =
    by (insert_entry-new_name es k v
    (λ there. new (Contains-append_right (string_bytes e.0 ∷ []) (map string_bytes (keys_of es)) (string_bytes k) there)))
    (bytes_eq (string_bytes k) (string_bytes e.0)) refl
  where
    by : insert_entry string_eq es k v ≡ es ++ (k, v) ∷ [] → (b : Bool) → bytes_eq (string_bytes k) (string_bytes e.0) ≡ b
        → insert_entry string_eq (e ∷ es) k v ≡ (e ∷ es) ++ (k, v) ∷ []
    by rest true same = absurd (new (0, omega arith, sym ((bytes_eq-Decides (string_bytes k) (string_bytes e.0)).0 same)))
    by rest false other = ap (λ b. if b then (e.0, v) ∷ es else e ∷ insert_entry string_eq es k v) other ∙ ap (λ r. e ∷ r) rest

-- a new name after distinct names
AreDistinct-push : (names : List (List ℕ)) (name : List ℕ) → AreDistinct names → ¬ Contains names name → AreDistinct (names ++ name ∷ [])
AreDistinct-push names name distinct new =
    all_pairs_push (λ x y. x ≢ y) names name distinct (λ k d h e. new (k, h, get_or_default names k name d h ∙ e))

-- of distinct names that of an item is none of those before it
pub new_after_front : {X : Type 0} (name_of : X → List ℕ) (xs : List X) (i : ℕ) (d : X) (known : List (List ℕ)) (name : List ℕ)
    → AreDistinct (map name_of xs) → i < length xs
    → known ≡ map name_of (take i xs) → name ≡ name_of (get_or xs i d) → ¬ Contains known name
new_after_front name_of xs i d known name distinct lt known_is name_is there =
    let names = map name_of xs in
    let in_front : Contains (take i names) name = subst (λ ns. Contains ns name) (known_is ∙ sym (take-map name_of i xs)) there in
    let k = in_front.0 in
    let before : k < i = omega (arith, simp length-take at in_front.1) in
    let lt_names : i < length names = omega (arith, length-map xs name_of) in
    distinct k i name before lt_names
    (sym (get_or-take i names k name before) ∙ in_front.2 ∙ name_is ∙ sym (get_or-map name_of xs i d)
    ∙ get_or_default names i (name_of d) name lt_names)

-- a place keeps its class as one more is pushed
class_of-push : (places : List Place) (p : Place) (i : ℕ) → i < length places → class_of (places ++ p ∷ []) i ≡ class_of places i
unfolding class_of
class_of-push places p i lt = ap (λ (q : Place). q.class) (get_or-append places (p ∷ []) (terminal_place [] 0) i lt)

-- a valid trip stays one as a place is pushed
IsValidTrip-push : (places : List Place) (p : Place) (trip : Trip) → IsValidTrip places trip → IsValidTrip (places ++ p ∷ []) trip
IsValidTrip-push places p trip valid =
    let longer = length-append places (p ∷ []) in
    record {
      from = omega (arith, valid.from, longer);
      to = omega (arith, valid.to, longer);
      one_class = class_of-push places p trip.from valid.from ∙ valid.one_class ∙ sym (class_of-push places p trip.to valid.to);
      forward = valid.forward;
      early = valid.early;
      late = valid.late;
      not_too_early = valid.not_too_early;
      not_too_late = valid.not_too_late;
      departs_from_midnight = valid.departs_from_midnight;
      departs_in_day = valid.departs_in_day;
      ends_in_day = valid.ends_in_day;
    }

-- a timetable stays one as a place is pushed
pub IsTimetable-push_place : (t : TimetableView) (p : Place) → IsTimetable t → ¬ Contains (place_names t) p.name → length t.places < 512
    → IsPlace t.classed p
    → IsTimetable (record t { places = t.places ++ p ∷ [] })
IsTimetable-push_place t p valid new room is =
    let longer = length-append t.places (p ∷ []) in
    record {
      place_names = subst AreDistinct (sym (map-append (λ q. q.name) t.places (p ∷ [])))
          (AreDistinct-push (place_names t) p.name valid.place_names new);
      slot_names = valid.slot_names;
      each = All-push (IsPlace t.classed) t.places p valid.each is;
      trips = All-weaker (λ s. IsValidTrip t.places s.trip) (λ s. IsValidTrip (t.places ++ p ∷ []) s.trip)
          (λ s. IsValidTrip-push t.places p s.trip) t.slots valid.trips;
      places = omega (arith, longer);
      slots = valid.slots;
      early = valid.early;
      late = valid.late;
    }

-- and as a trip is pushed
pub IsTimetable-push_slot : (t : TimetableView) (s : Slot) → IsTimetable t → ¬ Contains (slot_names t) s.name → length t.slots < 4096
    → IsValidTrip t.places s.trip
    → IsTimetable (record t { slots = t.slots ++ s ∷ [] })
IsTimetable-push_slot t s valid new room trip =
    let longer = length-append t.slots (s ∷ []) in
    record {
      place_names = valid.place_names;
      slot_names = subst AreDistinct (sym (map-append (λ q. q.name) t.slots (s ∷ [])))
          (AreDistinct-push (slot_names t) s.name valid.slot_names new);
      each = valid.each;
      trips = All-push (λ q. IsValidTrip t.places q.trip) t.slots s valid.trips trip;
      places = valid.places;
      slots = omega (arith, longer);
      early = valid.early;
      late = valid.late;
    }

-- what holds of each element holds of one that was read
All-slice_get : {X : Type 0} (P : X → Type 0) (xs : List X) (i : ℕ) (x : X) → All P xs → slice_get xs i ≡ Some x → P x
All-slice_get P xs i x all e = subst P (get_or_from_slice_get xs i x x e) (all i x (slice_get_within xs i x e))

-- the place and the trip that a map has at an index
pub place-valid : {Y : Type 0} (classed : Bool) (es : List (String Y × Post)) (i : ℕ) (e : String Y × Post)
    → All (IsPlace classed) (places_of es) → slice_get es i ≡ Some e → IsPlace classed (place_from e)
place-valid classed es i e all h =
    All-slice_get (IsPlace classed) (places_of es) i (place_from e) all (slice_get-map place_from es i ∙ ap (option_map place_from) h)

pub trip-valid : {Y : Type 0} (places : List Place) (es : List (String Y × Trip)) (i : ℕ) (e : String Y × Trip)
    → All (λ s. IsValidTrip places s.trip) (slots_of es) → slice_get es i ≡ Some e → IsValidTrip places e.1
trip-valid {Y} places es i e all h =
    let slot : (String Y × Trip) → Slot = λ e. record { name = string_bytes e.0; trip = e.1 } in
    All-slice_get (λ s. IsValidTrip places s.trip) (slots_of es) i (slot e) all (slice_get-map slot es i ∙ ap (option_map slot) h)

-- a new name is none of the keys
new_key : {Y : Type 0} (names : List (List ℕ)) (ks : List (String Y)) (k : String Y) → names ≡ map string_bytes ks
    → ¬ Contains names (string_bytes k) → ¬ Contains (map string_bytes ks) (string_bytes k)
new_key names ks k same new there = new (subst (λ ns. Contains ns (string_bytes k)) (sym same) there)

-- the timetable after a place was put into its map
pub pushed_place : {Y : Type 0} (classed : Bool) (es fs : List (String Y × Post)) (ts : List (String Y × Trip)) (early late : ℕ)
    (k : String Y) (v : Post) (t : TimetableView) (terminal class : List ℕ)
    → timetable_of classed es ts early late ≡ t → v.terminal ≡ terminal → v.class ≡ class → ¬ Contains (place_names t) (string_bytes k)
    → fs ≡ insert_entry string_eq es k v
    → timetable_of classed fs ts early late ≡ record t
    { places = t.places ++ record { name = string_bytes k; terminal = terminal; class = class; layover = v.layover } ∷ [] }
pushed_place classed es fs ts early late k v t terminal class view terminal_is class_is new put =
    let added : fs ≡ es ++ (k, v) ∷ [] = put
    ∙ insert_entry-new_name es k v (new_key (place_names t) (keys_of es) k (ap place_names (sym view) ∙ names-places_of es) new) in
    let now : places_of fs ≡ places_of es ++ places_of ((k, v) ∷ []) = ap places_of added ∙ map-append _ es ((k, v) ∷ []) in
    let all : places_of fs ≡ t.places ++ record { name = string_bytes k; terminal = terminal; class = class; layover = v.layover } ∷ [] =
    now ∙ (λ i. (view i).places ++ record { name = string_bytes k; terminal = terminal_is i; class = class_is i; layover = v.layover }
    ∷ []) in
    λ i. record { classed = (view i).classed; places = all i; slots = (view i).slots; early = (view i).early; late = (view i).late }

-- the timetable after a trip was put into its map
pub pushed_slot : {Y : Type 0} (classed : Bool) (es : List (String Y × Post)) (ts us : List (String Y × Trip)) (early late : ℕ)
    (k : String Y) (v : Trip) (t : TimetableView) (name : List ℕ)
    → timetable_of classed es ts early late ≡ t → string_bytes k ≡ name → ¬ Contains (slot_names t) name
    → us ≡ insert_entry string_eq ts k v
    → timetable_of classed es us early late ≡ record t { slots = t.slots ++ record { name = name; trip = v } ∷ [] }
pushed_slot classed es ts us early late k v t name view e new put =
    let slots : List Slot → List ℕ → List Slot = λ ss n. ss ++ record { name = n; trip = v } ∷ [] in
    let added : us ≡ ts ++ (k, v) ∷ [] = put
    ∙ insert_entry-new_name ts k v
    (new_key (slot_names t) (keys_of ts) k (ap slot_names (sym view) ∙ names-slots_of ts)
    (subst (λ n. ¬ Contains (slot_names t) n) (sym e) new)) in
    let now : slots_of us ≡ slots (slots_of ts) (string_bytes k) = ap slots_of added ∙ map-append _ ts ((k, v) ∷ []) in
    let all : slots_of us ≡ slots t.slots name = now ∙ (λ i. slots (view i).slots (e i)) in
    λ i. record { classed = (view i).classed; places = (view i).places; slots = all i; early = (view i).early; late = (view i).late }
