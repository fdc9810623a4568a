-- Trips that are read of moved stop times are the trips of before, each moved with its slot.
use Rattle.std.proofs.Common.{◌≡◌, ℕ, ◌+◌, ◌<◌, ◌==◌, Bool, true, false, not, cond, List, [], ◌∷◌, ◌++◌, length, get_or, map, fold, Option}
use Rattle.std.proofs.Common.{Some, None, Result, Ok, ℤ, pos, ◌+ℤ◌, ◌≤ℤ◌, nat_le, nat_lt, refl, sym, ap, subst, ◌∙◌, arith, append_assoc}
use Rattle.std.specs.Prelude.{All, unsigned_abs, ⊤}
use Rattle.std.specs.Option.{ok_or, option_map}
use Rattle.std.proofs.lemmas.Bool.{eqb-true, lt-ltb, ltb-true}
use Rattle.std.proofs.lemmas.List.{append-nil, length-map}
use Rattle.std.proofs.lemmas.List.Elements.{All-cons, All-nil}
use Rattle.gtfs_tables.specs.declared.fault.FeedFault.{FeedFault}
use Rattle.gtfs_tables.specs.declared.fault.FeedFault.TheVariants as fault
use Rattle.gtfs_tables.specs.Reading.{◌>>=◌, each_record, provided}
use Rattle.gtfs_tables.specs.Times.{rounded_down, rounded_up}
use Rattle.gtfs_tables.specs.Entries.{Name}
use Rattle.desk_settings.specs.Settings.{SettingsView, layover_at, terminal_of, tolerance_of}
use Rattle.feed_read.specs.Base.{start_of}
use Rattle.feed_read.specs.FeedTrips.{first_stop_time, has_repeat, feed_trip_between, feed_trip_from, feed_trip_of, last_stop_time, later}
use Rattle.feed_read.specs.FeedTrips.{sequences, sooner, time_or, stop_times_of, with_feed_trip}
use Rattle.feed_read.specs.StopTimes.{StopTimeView}
use Rattle.block_writer.specs.StopTimes.{moved}
use Rattle.claim_files.proofs.EachRecord.{provided-parts, read-parts, same_Ok}
use Rattle.claim_files.proofs.FieldsBack.{then}
use Rattle.written_laws.proofs.Records.{TakenBy}
use Rattle.written_laws.proofs.Times.{moved-down, moved-forward, moved-up}
use Rattle.written_laws.proofs.StopTimes.{moved_stop_time, moved_stop_times}

-- a trip as the feed has it
abbrev pub FeedTrip : Type 0
FeedTrip = TakenBy start_of

-- a trip that is moved by so many minutes, which may be as far back as midnight
abbrev pub moved_feed_trip : ℤ → FeedTrip → FeedTrip
moved_feed_trip by feed_trip =
    record feed_trip { departs = unsigned_abs (pos feed_trip.departs +ℤ by); ends = unsigned_abs (pos feed_trip.ends +ℤ by) }

abbrev pub MayMove : ℤ → FeedTrip → Type 0
MayMove by feed_trip = pos 0 ≤ℤ (pos feed_trip.departs +ℤ by)

-- the trip of that name and class between two stop times, at these minutes
abbrev trip_at : SettingsView → Name → Name → StopTimeView → StopTimeView → ℕ → ℕ → FeedTrip
trip_at settings name class first last departs ends = record {
  name = name;
  class = class;
  from = terminal_of settings first.stop;
  to = terminal_of settings last.stop;
  departs = departs;
  ends = ends;
  early = (tolerance_of settings name).0;
  late = (tolerance_of settings name).1;
}

-- the stop times of a slot are moved alike
stop_times_of-moved : (offsets : ℕ → ℤ) (slot : ℕ) (stop_times : List StopTimeView)
    → stop_times_of slot (moved_stop_times offsets stop_times) ≡ map (moved_stop_time (offsets slot)) (stop_times_of slot stop_times)
stop_times_of-moved offsets slot [] = refl
stop_times_of-moved offsets slot (v ∷ stop_times) = by (v.trip == slot) refl (stop_times_of-moved offsets slot stop_times)
  where
    by : (b : Bool) → (v.trip == slot) ≡ b
        → stop_times_of slot (moved_stop_times offsets stop_times) ≡ map (moved_stop_time (offsets slot)) (stop_times_of slot stop_times)
        → cond b (moved_stop_time (offsets v.trip) v ∷ stop_times_of slot (moved_stop_times offsets stop_times))
        (stop_times_of slot (moved_stop_times offsets stop_times)) ≡ map (moved_stop_time (offsets slot))
        (cond b (v ∷ stop_times_of slot stop_times) (stop_times_of slot stop_times))
    by true is rest = let same = eqb-true v.trip slot is in λ i. moved_stop_time (offsets (same i)) v ∷ rest i
    by false is rest = rest

-- moved stop times of one trip have its numbers, and its first and its last stop time, moved
module _ (by : ℤ) where
  sequences-moved : (stop_times : List StopTimeView) → sequences (map (moved_stop_time by) stop_times) ≡ sequences stop_times
  sequences-moved [] = refl
  sequences-moved (v ∷ stop_times) = ap (λ numbers. v.sequence ∷ numbers) (sequences-moved stop_times)

  fold-moved : (f : Option StopTimeView → StopTimeView → Option StopTimeView)
      → ((o : Option StopTimeView) (v : StopTimeView)
      → f (option_map (moved_stop_time by) o) (moved_stop_time by v) ≡ option_map (moved_stop_time by) (f o v))
      → (o : Option StopTimeView) (stop_times : List StopTimeView)
      → fold f (option_map (moved_stop_time by) o) (map (moved_stop_time by) stop_times) ≡ option_map (moved_stop_time by)
      (fold f o stop_times)
  fold-moved f each o [] = refl
  fold-moved f each o (v ∷ stop_times) = ap (λ o. fold f o (map (moved_stop_time by) stop_times)) (each o v)
      ∙ fold-moved f each (f o v) stop_times

  either : (b : Bool) (one other : StopTimeView)
      → cond b (Some (moved_stop_time by one)) (Some (moved_stop_time by other)) ≡ option_map (moved_stop_time by)
      (cond b (Some one) (Some other))
  either true one other = refl
  either false one other = refl

  sooner-moved : (o : Option StopTimeView) (v : StopTimeView)
      → sooner (option_map (moved_stop_time by) o) (moved_stop_time by v) ≡ option_map (moved_stop_time by) (sooner o v)
  sooner-moved None v = refl
  sooner-moved (Some least) v = either (nat_lt v.sequence least.sequence) v least

  later-moved : (o : Option StopTimeView) (v : StopTimeView)
      → later (option_map (moved_stop_time by) o) (moved_stop_time by v) ≡ option_map (moved_stop_time by) (later o v)
  later-moved None v = refl
  later-moved (Some greatest) v = either (nat_lt greatest.sequence v.sequence) v greatest

  first-moved : (stop_times : List StopTimeView)
      → first_stop_time (map (moved_stop_time by) stop_times) ≡ option_map (moved_stop_time by) (first_stop_time stop_times)
  first-moved stop_times = fold-moved sooner sooner-moved None stop_times

  last-moved : (stop_times : List StopTimeView)
      → last_stop_time (map (moved_stop_time by) stop_times) ≡ option_map (moved_stop_time by) (last_stop_time stop_times)
  last-moved stop_times = fold-moved later later-moved None stop_times

  time-moved : (one other : Option ℕ) (name : Name) (seconds : ℕ) → ok_or (time_or one other) (fault.NoTime name) ≡ Ok seconds
      → ok_or (time_or (option_map (moved by) one) (option_map (moved by) other)) (fault.NoTime name) ≡ Ok (moved by seconds)
  time-moved (Some n) other name seconds e = ap (λ n. Ok (moved by n)) (same_Ok n seconds e)
  time-moved None (Some n) name seconds e = ap (λ n. Ok (moved by n)) (same_Ok n seconds e)
  time-moved None None name seconds e = absurd (cc)

  -- so its trip is that of before, moved
  between-moved : (settings : SettingsView) (name class : Name) (first last : StopTimeView) (feed_trip : FeedTrip) → MayMove by feed_trip
      → feed_trip_between settings name class first last ≡ Ok feed_trip
      → feed_trip_between settings name class (moved_stop_time by first) (moved_stop_time by last) ≡ Ok (moved_feed_trip by feed_trip)
  unfolding feed_trip_between
  between-moved settings name class first last feed_trip may e =
      let departure = read-parts (ok_or (time_or first.departure first.arrival) (fault.NoTime name)) _ feed_trip e in
      let arrival = read-parts (ok_or (time_or last.arrival last.departure) (fault.NoTime name)) _ feed_trip departure.2 in
      let forward = provided-parts (nat_lt departure.0 arrival.0) (fault.NotForward name) _ feed_trip arrival.2 in
      let same = same_Ok _ feed_trip forward.1 in
      let ahead : departure.0 < arrival.0 = ltb-true departure.0 arrival.0 forward.0 in
      let from : pos 0 ≤ℤ (pos (rounded_down departure.0) +ℤ by) = subst (λ (j : FeedTrip). MayMove by j) (sym same) may in
      let layover = layover_at settings (terminal_of settings last.stop) in
      then (ok_or (time_or (option_map (moved by) first.departure) (option_map (moved by) first.arrival)) (fault.NoTime name))
      (moved by departure.0) _ _ (time-moved first.departure first.arrival name departure.0 departure.1)
      (then (ok_or (time_or (option_map (moved by) last.arrival) (option_map (moved by) last.departure)) (fault.NoTime name))
      (moved by arrival.0) _ _ (time-moved last.arrival last.departure name arrival.0 arrival.1)
      (ap (λ b. provided b (fault.NotForward name)
      (Ok (trip_at settings name class first last (rounded_down (moved by departure.0)) (rounded_up (moved by arrival.0) + layover))))
      (lt-ltb (moved by departure.0) (moved by arrival.0) (moved-forward by departure.0 arrival.0 ahead from))
      ∙ (λ i. Ok (trip_at settings name class first last (moved-down by departure.0 from i)
      (moved-up by departure.0 arrival.0 layover ahead from i)))
      ∙ ap (λ (j : FeedTrip). Ok (moved_feed_trip by j)) same))

  from-moved : (settings : SettingsView) (name class : Name) (first last : Option StopTimeView) (feed_trip : FeedTrip)
      → MayMove by feed_trip → feed_trip_from settings name class first last ≡ Ok feed_trip
      → feed_trip_from settings name class (option_map (moved_stop_time by) first)
      (option_map (moved_stop_time by) last) ≡ Ok (moved_feed_trip by feed_trip)
  from-moved settings name class (Some first) (Some last) feed_trip may e = between-moved settings name class first last feed_trip may e
  from-moved settings name class None last feed_trip may e = absurd (cc)
  from-moved settings name class (Some first) None feed_trip may e = absurd (cc)

  of-moved : (settings : SettingsView) (name class : Name) (stop_times : List StopTimeView) (feed_trip : FeedTrip) → MayMove by feed_trip
      → feed_trip_of settings name class stop_times ≡ Ok feed_trip
      → feed_trip_of settings name class (map (moved_stop_time by) stop_times) ≡ Ok (moved_feed_trip by feed_trip)
  unfolding feed_trip_of
  of-moved settings name class stop_times feed_trip may e =
      let two = provided-parts (nat_le 2 (length stop_times)) (fault.TooFewStops name) _ feed_trip e in
      let once = provided-parts (not (has_repeat (sequences stop_times))) (fault.DuplicateSequence name) _ feed_trip two.1 in
      let between : Result FeedTrip FeedFault =
      feed_trip_from settings name class (option_map (moved_stop_time by) (first_stop_time stop_times))
      (option_map (moved_stop_time by) (last_stop_time stop_times)) in
      (λ i. provided (nat_le 2 (length-map stop_times (moved_stop_time by) i)) (fault.TooFewStops name)
      (provided (not (has_repeat (sequences-moved stop_times i))) (fault.DuplicateSequence name)
      (feed_trip_from settings name class (first-moved stop_times i) (last-moved stop_times i))))
      ∙ ap (λ b. provided b (fault.TooFewStops name)
      (provided (not (has_repeat (sequences stop_times))) (fault.DuplicateSequence name) between)) two.0
      ∙ ap (λ b. provided b (fault.DuplicateSequence name) between) once.0
      ∙ from-moved settings name class (first_stop_time stop_times) (last_stop_time stop_times) feed_trip may once.1

-- the trips of slots from this number on, each moved with its slot
abbrev pub moved_feed_trips : (ℕ → ℤ) → ℕ → List FeedTrip → List FeedTrip
moved_feed_trips offsets slot [] = []
moved_feed_trips offsets slot (feed_trip ∷ feed_trips) = moved_feed_trip (offsets slot) feed_trip
    ∷ moved_feed_trips offsets (slot + 1) feed_trips

abbrev pub MayEachMove : (ℕ → ℤ) → ℕ → List FeedTrip → Type 0
MayEachMove offsets slot [] = ⊤
MayEachMove offsets slot (feed_trip ∷ feed_trips) = MayMove (offsets slot) feed_trip × MayEachMove offsets (slot + 1) feed_trips

module _ (settings : SettingsView) (classes : List Name) where
  -- the trips of names are those of their stop times, slot by slot from this number on
  abbrev AreRead : List StopTimeView → ℕ → List Name → List FeedTrip → Type 0
  AreRead stop_times slot [] [] = ⊤
  AreRead stop_times slot [] (feed_trip ∷ feed_trips) = ⊥
  AreRead stop_times slot (name ∷ names) [] = ⊥
  AreRead stop_times slot (name ∷ names) (feed_trip ∷ feed_trips) =
      (feed_trip_of settings name (get_or classes slot []) (stop_times_of slot stop_times) ≡ Ok feed_trip)
      × AreRead stop_times (slot + 1) names feed_trips

  -- what reading names one after the other gives
  names-read : (stop_times : List StopTimeView) (slot : ℕ) (before after : List FeedTrip) (names : List Name)
      → each_record (with_feed_trip settings classes stop_times) slot before names ≡ Ok after
      → (feed_trips : List FeedTrip) × (before ++ feed_trips ≡ after) × AreRead stop_times slot names feed_trips
  names-read stop_times slot before after [] e = ([], append-nil before ∙ same_Ok before after e, tt)
  names-read stop_times slot before after (name ∷ names) e =
      let step = read-parts (with_feed_trip settings classes stop_times slot before name)
      (λ more. each_record (with_feed_trip settings classes stop_times) (slot + 1) more names) after e in
      let here = read-parts (feed_trip_of settings name (get_or classes slot []) (stop_times_of slot stop_times))
      (λ feed_trip. Ok (before ++ feed_trip ∷ [])) step.0 step.1 in
      let rest = names-read stop_times (slot + 1) step.0 after names step.2 in (
        here.0 ∷ rest.0,
        sym (append_assoc before (here.0 ∷ []) rest.0) ∙ ap (λ front. front ++ rest.0) (same_Ok (before ++ here.0 ∷ []) step.0 here.2)
            ∙ rest.1,
        (here.1, rest.2),
      )

  names-give : (stop_times : List StopTimeView) (slot : ℕ) (before : List FeedTrip) (names : List Name) (feed_trips : List FeedTrip)
      → AreRead stop_times slot names feed_trips
      → each_record (with_feed_trip settings classes stop_times) slot before names ≡ Ok (before ++ feed_trips)
  names-give stop_times slot before [] [] are = ap Ok (sym (append-nil before))
  names-give stop_times slot before [] (feed_trip ∷ feed_trips) are = absurd are
  names-give stop_times slot before (name ∷ names) [] are = absurd are
  names-give stop_times slot before (name ∷ names) (feed_trip ∷ feed_trips) are =
      ap (λ here. (here >>= λ feed_trip. Ok (before ++ feed_trip ∷ [])) >>= λ more. each_record
      (with_feed_trip settings classes stop_times) (slot + 1) more names) are.0
      ∙ names-give stop_times (slot + 1) (before ++ feed_trip ∷ []) names feed_trips are.1
      ∙ ap Ok (append_assoc before (feed_trip ∷ []) feed_trips)

  -- each is moved with its slot
  each-moved : (offsets : ℕ → ℤ) (stop_times : List StopTimeView) (slot : ℕ) (names : List Name) (feed_trips : List FeedTrip)
      → MayEachMove offsets slot feed_trips → AreRead stop_times slot names feed_trips
      → AreRead (moved_stop_times offsets stop_times) slot names (moved_feed_trips offsets slot feed_trips)
  each-moved offsets stop_times slot [] [] may are = tt
  each-moved offsets stop_times slot [] (feed_trip ∷ feed_trips) may are = absurd are
  each-moved offsets stop_times slot (name ∷ names) [] may are = absurd are
  each-moved offsets stop_times slot (name ∷ names) (feed_trip ∷ feed_trips) may are = (
    ap (feed_trip_of settings name (get_or classes slot [])) (stop_times_of-moved offsets slot stop_times)
        ∙ of-moved (offsets slot) settings name (get_or classes slot []) (stop_times_of slot stop_times) feed_trip may.0 are.0,
    each-moved offsets stop_times (slot + 1) names feed_trips may.1 are.1,
  )

  pub feed_trips-back : (offsets : ℕ → ℤ) (stop_times : List StopTimeView) (names : List Name) (feed_trips : List FeedTrip)
      → MayEachMove offsets 0 feed_trips
      → each_record (with_feed_trip settings classes stop_times) 0 [] names ≡ Ok feed_trips
      → each_record (with_feed_trip settings classes (moved_stop_times offsets stop_times)) 0 []
      names ≡ Ok (moved_feed_trips offsets 0 feed_trips)
  feed_trips-back offsets stop_times names feed_trips may e =
      let are = names-read stop_times 0 [] feed_trips names e in
      names-give (moved_stop_times offsets stop_times) 0 [] names (moved_feed_trips offsets 0 feed_trips)
      (each-moved offsets stop_times 0 names feed_trips may (subst (AreRead stop_times 0 names) are.1 are.2))

  -- and has the name of its slot
  between-named : (name class : Name) (first last : StopTimeView) (feed_trip : FeedTrip)
      → feed_trip_between settings name class first last ≡ Ok feed_trip → feed_trip.name ≡ name
  unfolding feed_trip_between
  between-named name class first last feed_trip e =
      let departure = read-parts (ok_or (time_or first.departure first.arrival) (fault.NoTime name)) _ feed_trip e in
      let arrival = read-parts (ok_or (time_or last.arrival last.departure) (fault.NoTime name)) _ feed_trip departure.2 in
      let forward = provided-parts (nat_lt departure.0 arrival.0) (fault.NotForward name) _ feed_trip arrival.2 in
      ap (λ (j : FeedTrip). j.name) (sym (same_Ok _ feed_trip forward.1))

  from-named : (name class : Name) (first last : Option StopTimeView) (feed_trip : FeedTrip)
      → feed_trip_from settings name class first last ≡ Ok feed_trip → feed_trip.name ≡ name
  from-named name class (Some first) (Some last) feed_trip e = between-named name class first last feed_trip e
  from-named name class None last feed_trip e = absurd (cc)
  from-named name class (Some first) None feed_trip e = absurd (cc)

  of-named : (name class : Name) (stop_times : List StopTimeView) (feed_trip : FeedTrip)
      → feed_trip_of settings name class stop_times ≡ Ok feed_trip → feed_trip.name ≡ name
  unfolding feed_trip_of
  of-named name class stop_times feed_trip e =
      let two = provided-parts (nat_le 2 (length stop_times)) (fault.TooFewStops name) _ feed_trip e in
      let once = provided-parts (not (has_repeat (sequences stop_times))) (fault.DuplicateSequence name) _ feed_trip two.1 in
      from-named name class (first_stop_time stop_times) (last_stop_time stop_times) feed_trip once.1

  each-named : (stop_times : List StopTimeView) (slot : ℕ) (names : List Name) (feed_trips : List FeedTrip)
      → AreRead stop_times slot names feed_trips → map (λ (j : FeedTrip). j.name) feed_trips ≡ names
  each-named stop_times slot [] [] are = refl
  each-named stop_times slot [] (feed_trip ∷ feed_trips) are = absurd are
  each-named stop_times slot (name ∷ names) [] are = absurd are
  each-named stop_times slot (name ∷ names) (feed_trip ∷ feed_trips) are =
      λ i. of-named name (get_or classes slot []) (stop_times_of slot stop_times) feed_trip are.0 i
      ∷ each-named stop_times (slot + 1) names feed_trips are.1 i

  pub feed_trips-named : (stop_times : List StopTimeView) (names : List Name) (feed_trips : List FeedTrip)
      → each_record (with_feed_trip settings classes stop_times) 0 [] names ≡ Ok feed_trips
      → map (λ (j : FeedTrip). j.name) feed_trips ≡ names
  feed_trips-named stop_times names feed_trips e =
      let are = names-read stop_times 0 [] feed_trips names e in
      each-named stop_times 0 names feed_trips (subst (AreRead stop_times 0 names) are.1 are.2)

  -- and ends after it departs
  between-forward : (name class : Name) (first last : StopTimeView) (feed_trip : FeedTrip)
      → feed_trip_between settings name class first last ≡ Ok feed_trip → feed_trip.departs < feed_trip.ends
  unfolding feed_trip_between
  between-forward name class first last feed_trip e =
      let departure = read-parts (ok_or (time_or first.departure first.arrival) (fault.NoTime name)) _ feed_trip e in
      let arrival = read-parts (ok_or (time_or last.arrival last.departure) (fault.NoTime name)) _ feed_trip departure.2 in
      let forward = provided-parts (nat_lt departure.0 arrival.0) (fault.NotForward name) _ feed_trip arrival.2 in
      let ahead : departure.0 < arrival.0 = ltb-true departure.0 arrival.0 forward.0 in
      let minutes : rounded_down departure.0 < rounded_up arrival.0 + layover_at settings (terminal_of settings last.stop) =
      omega (arith, ahead) in
      subst (λ (j : FeedTrip). j.departs < j.ends) (same_Ok _ feed_trip forward.1) minutes

  from-forward : (name class : Name) (first last : Option StopTimeView) (feed_trip : FeedTrip)
      → feed_trip_from settings name class first last ≡ Ok feed_trip → feed_trip.departs < feed_trip.ends
  from-forward name class (Some first) (Some last) feed_trip e = between-forward name class first last feed_trip e
  from-forward name class None last feed_trip e = absurd (cc)
  from-forward name class (Some first) None feed_trip e = absurd (cc)

  of-forward : (name class : Name) (stop_times : List StopTimeView) (feed_trip : FeedTrip)
      → feed_trip_of settings name class stop_times ≡ Ok feed_trip → feed_trip.departs < feed_trip.ends
  unfolding feed_trip_of
  of-forward name class stop_times feed_trip e =
      let two = provided-parts (nat_le 2 (length stop_times)) (fault.TooFewStops name) _ feed_trip e in
      let once = provided-parts (not (has_repeat (sequences stop_times))) (fault.DuplicateSequence name) _ feed_trip two.1 in
      from-forward name class (first_stop_time stop_times) (last_stop_time stop_times) feed_trip once.1

  each-forward : (stop_times : List StopTimeView) (slot : ℕ) (names : List Name) (feed_trips : List FeedTrip)
      → AreRead stop_times slot names feed_trips → All (λ (j : FeedTrip). j.departs < j.ends) feed_trips
  each-forward stop_times slot [] [] are = All-nil (λ (j : FeedTrip). j.departs < j.ends)
  each-forward stop_times slot [] (feed_trip ∷ feed_trips) are = absurd are
  each-forward stop_times slot (name ∷ names) [] are = absurd are
  each-forward stop_times slot (name ∷ names) (feed_trip ∷ feed_trips) are =
      All-cons (λ (j : FeedTrip). j.departs < j.ends) feed_trip feed_trips
      (of-forward name (get_or classes slot []) (stop_times_of slot stop_times) feed_trip are.0)
      (each-forward stop_times (slot + 1) names feed_trips are.1)

  pub feed_trips-forward : (stop_times : List StopTimeView) (names : List Name) (feed_trips : List FeedTrip)
      → each_record (with_feed_trip settings classes stop_times) 0 [] names ≡ Ok feed_trips
      → All (λ (j : FeedTrip). j.departs < j.ends) feed_trips
  feed_trips-forward stop_times names feed_trips e =
      let are = names-read stop_times 0 [] feed_trips names e in
      each-forward stop_times 0 names feed_trips (subst (AreRead stop_times 0 names) are.1 are.2)
