-- The name that a block takes, found by the numbers of names, is the name that it takes.
use Rattle.std.proofs.Common.{◌≡◌, ℕ, zero, suc, ◌+◌, ◌<◌, ◌==◌, not, Bool, true, false, cond, List, [], ◌∷◌, length, map}
use Rattle.std.proofs.Common.{filter, get_or, Option, Some, None, option_map, refl, sym, ap, ◌∙◌, arith}
use Rattle.std.specs.List.{range_with_len}
use Rattle.std.specs.Str.{bytes_eq}
use Rattle.std.proofs.lemmas.Bool.{eq-eqb, ne_eqb, true≢false}
use Rattle.std.proofs.lemmas.List.Elements.{All-from_get_or}
use Rattle.std.proofs.lemmas.List.Folds.{list_any_at, list_any_none}
use Rattle.std.proofs.lemmas.List.FromFn.{get_or-map-range_with_len}
use Rattle.std.proofs.lemmas.List.Quantifiers.{position-Some}
use Rattle.std.proofs.lemmas.Slice.Eq.{bytes_eq-Decides}
use Rattle.desk_settings.specs.Names.{each_once, is_among}
use Rattle.desk_settings.specs.Selected.{slot_field}
use Rattle.desk_settings.proofs.NamesLemmas.{among-once}
use Rattle.trip_model.specs.Links.{leads_to}
use Rattle.trip_model.specs.Timetable.{number_of}
use Rattle.trip_model.proofs.BeforeLemmas.{position-None}
use Rattle.block_names.specs.Names.{NamingView, asks_for, first_most, free_names, name_numbered, taken_by, trips_asking, trips_named}
use Rattle.block_names.specs.Numbered.{block_asked, free_from, number_at, number_of_name, slot_taken, trips_asking_by, trips_numbered}
use Rattle.block_names.proofs.TakenLemmas.{bytes-itself, field-past, positive}

-- the number of a name is where it stands
name-number : (names : List (List ℕ)) (name : List ℕ) (k : ℕ) → number_of_name names name ≡ Some k
    → (k < length names) × (name ≡ get_or names k [])
name-number names name k is = by (length name == 0) is
  where
    by : (empty : Bool) → cond empty None (number_of names name) ≡ Some k → (k < length names) × (name ≡ get_or names k [])
    by true is = absurd cc
    by false is =
        let at = position-Some (bytes_eq name) names k [] is in
        (at.0, (bytes_eq-Decides name (get_or names k [])).0 at.1)

-- two names have one number where they are one
leads-same : (names : List (List ℕ)) (x y : List ℕ) (k : ℕ) → number_of_name names x ≡ Some k
    → leads_to k (number_of_name names y) ≡ bytes_eq y x
leads-same names x y k is = by (bytes_eq y x) refl
  where
    other : (o : Option ℕ) → number_of_name names y ≡ o → bytes_eq y x ≡ false → leads_to k o ≡ false
    other None e apart = refl
    other (Some j) e apart = ne_eqb j k (λ same. true≢false (sym ((bytes_eq-Decides y x).1
        ((name-number names y j e).1 ∙ ap (λ n. get_or names n []) same ∙ sym (name-number names x k is).1)) ∙ apart))

    by : (same : Bool) → bytes_eq y x ≡ same → leads_to k (number_of_name names y) ≡ same
    by true e =
        ap (λ name. leads_to k (number_of_name names name)) ((bytes_eq-Decides y x).0 e) ∙ ap (leads_to k) is ∙ eq-eqb k k refl
    by false e = other (number_of_name names y) refl e

-- the numbers of fields, by slot
number-field : (names stated : List (List ℕ)) (s : ℕ)
    → number_at (map (number_of_name names) stated) s ≡ number_of_name names (slot_field stated s)
number-field names [] s = refl
number-field names (x ∷ stated) zero = refl
number-field names (x ∷ stated) (suc s) = number-field names stated s

none-among : (names : List (List ℕ)) (name : List ℕ) → number_of names name ≡ None → is_among name names ≡ false
none-among names name none = list_any_none (bytes_eq name) names
    (All-from_get_or (λ x. bytes_eq name x ≡ false) names [] (λ i lt. position-None (bytes_eq name) names i [] none lt))

module _ (stated blocks : List (List ℕ)) where
  abbrev pub numbers_in : List (Option ℕ)
  numbers_in = map (number_of_name (each_once stated)) stated

  abbrev pub asked_in : List (Option ℕ)
  asked_in = map (block_asked numbers_in blocks) (range_with_len 0 (length (each_once stated)))

  trips-same : (name : List ℕ) (k : ℕ) → number_of_name (each_once stated) name ≡ Some k → (block : List ℕ)
      → trips_numbered numbers_in k block ≡ trips_named stated name block
  trips-same name k is block =
      ap (λ (p : ℕ → Bool). length (filter p block))
      (λ i s. (ap (leads_to k) (number-field (each_once stated) stated s)
      ∙ leads-same (each_once stated) name (slot_field stated s) k is) i)

  asked-same : (name : List ℕ) (k : ℕ) → number_of_name (each_once stated) name ≡ Some k
      → number_at asked_in k ≡ asks_for stated blocks name
  asked-same name k is =
      get_or-map-range_with_len (block_asked numbers_in blocks) 0 (length (each_once stated)) k k None
      (name-number (each_once stated) name k is).0 (omega arith)
      ∙ ap (λ (count : ℕ → ℕ). first_most count (range_with_len 0 (length blocks)))
      (λ i b. trips-same name k is (get_or blocks b []) i)

  asking-same : (b s : ℕ)
      → trips_asking_by numbers_in asked_in b (get_or blocks b []) (number_at numbers_in s) ≡ trips_asking stated blocks b s
  asking-same b s =
      ap (trips_asking_by numbers_in asked_in b (get_or blocks b [])) (number-field (each_once stated) stated s)
      ∙ by (length (slot_field stated s) == 0) refl
    where
      name : List ℕ
      name = slot_field stated s

      number : (o : Option ℕ) → number_of (each_once stated) name ≡ o → number_of_name (each_once stated) name ≡ o → 0 < length name
          → trips_asking_by numbers_in asked_in b (get_or blocks b []) o
          ≡ cond (leads_to b (asks_for stated blocks name)) (trips_named stated name (get_or blocks b [])) 0
      number None none e filled =
          let within = field-past stated s filled in
          let among = list_any_at (bytes_eq name) stated s [] within (bytes-itself name) in
          absurd (true≢false (sym among ∙ sym (among-once name stated) ∙ none-among (each_once stated) name none))
      number (Some k) has e filled =
          (λ i. cond (leads_to b (asked-same name k e i)) (trips-same name k e (get_or blocks b []) i) 0)

      by : (empty : Bool) → (length name == 0) ≡ empty
          → trips_asking_by numbers_in asked_in b (get_or blocks b []) (cond empty None (number_of (each_once stated) name))
          ≡ cond empty 0 (cond (leads_to b (asks_for stated blocks name)) (trips_named stated name (get_or blocks b [])) 0)
      by true e = refl
      by false e = number (number_of (each_once stated) name) refl
          (ap (λ c. cond c None (number_of (each_once stated) name)) e) (positive (length name) e)

  -- the name of the slot that is found by numbers is the name that the block takes
  pub taken-same : (b : ℕ) → option_map (slot_field stated) (slot_taken numbers_in asked_in b (get_or blocks b [])) ≡ taken_by stated blocks b
  taken-same b =
      ap (λ (count : ℕ → ℕ). option_map (slot_field stated) (first_most count (get_or blocks b [])))
      (λ i s. asking-same b s i)

-- and so where these are what was made
pub taken-made : (stated blocks names : List (List ℕ)) (numbers asked : List (Option ℕ)) (b : ℕ) → names ≡ each_once stated
    → numbers ≡ map (number_of_name names) stated → asked ≡ map (block_asked numbers blocks) (range_with_len 0 (length names))
    → option_map (slot_field stated) (slot_taken numbers asked b (get_or blocks b [])) ≡ taken_by stated blocks b
taken-made stated blocks names numbers asked b names_are numbers_are asked_are =
    ap (λ n. option_map (slot_field stated) (slot_taken n asked b (get_or blocks b []))) numbers_in_are
    ∙ ap (λ a. option_map (slot_field stated) (slot_taken (numbers_in stated blocks) a b (get_or blocks b [])))
    (asked_are ∙ (λ i. map (block_asked (numbers_in_are i) blocks) (range_with_len 0 (length (names_are i)))))
    ∙ taken-same stated blocks b
  where
    numbers_in_are : numbers ≡ numbers_in stated blocks
    numbers_in_are = numbers_are ∙ ap (λ n. map (number_of_name n) stated) names_are

-- names are free by the names once each as by all
pub free-same : (naming : NamingView) (count : ℕ)
    → free_from naming.prefix (each_once naming.stated) 1 (count + length naming.stated) ≡ free_names naming count
free-same naming count =
    ap (λ (p : List ℕ → Bool). filter p (map (name_numbered naming.prefix) (range_with_len 1 (count + length naming.stated))))
    (λ i name. not (among-once name naming.stated i))
