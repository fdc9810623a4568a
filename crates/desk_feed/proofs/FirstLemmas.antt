-- A refusal of a feed is the first.
use Rattle.std.proofs.Common.{◌≡◌, ◌↔◌, inl, inr, false, Result, Ok, Err, refl, sym, ap, subst, ◌∙◌}
use Rattle.std.specs.Prelude.{is_ok}
use Rattle.std.proofs.lemmas.Bool.{false≢true}
use Rattle.desk_io.specs.declared.shelf.Found.{Found}
use Rattle.gtfs_tables.specs.declared.fault.FeedFault.{FeedFault}
use Rattle.gtfs_tables.specs.declared.paper.Paper.{Paper}
use Rattle.gtfs_tables.specs.declared.paper.Paper.TheVariants as paper
use Rattle.gtfs_tables.specs.Reading.{◌>>=◌}
use Rattle.desk_settings.specs.Desk.{desk_of}
use Rattle.desk_settings.specs.Settings.{SettingsView, settings_of, settings_with, with_tables}
use Rattle.desk_settings.specs.Terminals.{terminals_of}
use Rattle.desk_settings.specs.Tolerances.{tolerances_of}
use Rattle.feed_read.specs.Base.{base_of, timetable_of}
use Rattle.feed_read.specs.FeedTrips.{feed_trips_in}
use Rattle.feed_read.specs.Trips.{trips_in}
use Rattle.trip_model.specs.Timetable.{TimetableView}
use Rattle.desk_feed.specs.Feed.{FeedView, deadheads_in, lines_in, pulls_in, rules_in, said_by, said_with, selection_in, settings_in}
use Rattle.desk_feed.specs.Feed.{timetable_in}
use Rattle.desk_feed.specs.First.{IsFirst, RefusedAt}

both : {A B C : Type 0} → A ↔ B → B ↔ C → A ↔ C
both one other = (λ a. other.0 (one.0 a), λ c. one.1 (other.1 c))

-- what is refused later may be said in another way
later : {A : Type 0} {P Q : A → Type 0} (file : Result A FeedFault) (refused : FeedFault) → ((said : A) → P said ↔ Q said)
    → RefusedAt file refused P ↔ RefusedAt file refused Q
later {A} {P} {Q} file refused same = (there, back)
  where
    there : RefusedAt file refused P → RefusedAt file refused Q
    there (inl due) = inl due
    there (inr (said, is, p)) = inr (said, is, (same said).0 p)

    back : RefusedAt file refused Q → RefusedAt file refused P
    back (inl due) = inl due
    back (inr (said, is, q)) = inr (said, is, (same said).1 q)

-- one part after the other is refused at the first, or at the second where the first is accepted
parted : {A B : Type 0} (file : Result A FeedFault) (next : A → Result B FeedFault) (refused : FeedFault)
    → ((file >>= next) ≡ Err refused) ↔ RefusedAt file refused (λ said. next said ≡ Err refused)
parted {A} {B} (Ok x) next refused = (λ due. inr (x, refl, due), back)
  where
    back : RefusedAt {A = A} (Ok x) refused (λ said. ◌≡◌ {A = Result B FeedFault} (next said) (Err refused))
        → ◌≡◌ {A = Result B FeedFault} (next x) (Err refused)
    back (inl due) = absurd (false≢true (sym (ap is_ok due)))
    back (inr (said, is, due)) = ap (λ (file : Result A FeedFault). file >>= next) is ∙ due
parted {A} {B} (Err fault) next refused = (λ due. inl (ap (λ (file : Result B FeedFault). file >>= refuses) due), back)
  where
    refuses : B → Result A FeedFault
    refuses _ = Err fault

    back : RefusedAt {A = A} (Err fault) refused (λ said. ◌≡◌ {A = Result B FeedFault} (next said) (Err refused))
        → ◌≡◌ {A = Result B FeedFault} (Err fault) (Err refused)
    back (inl due) = ap (λ (file : Result A FeedFault). file >>= next) due
    back (inr (said, is, due)) = absurd (false≢true (ap is_ok is))

-- and so where more comes behind both
nested : {A B : Type 0} (file : Result A FeedFault) (next : A → Result B FeedFault) (refused : FeedFault) (P : B → Type 0)
    → RefusedAt (file >>= next) refused P ↔ RefusedAt file refused (λ said. RefusedAt (next said) refused P)
nested {A} {B} (Ok x) next refused P = (λ at. inr (x, refl, at), back)
  where
    back : RefusedAt {A = A} (Ok x) refused (λ said. RefusedAt (next said) refused P) → RefusedAt (next x) refused P
    back (inl due) = absurd (false≢true (sym (ap is_ok due)))
    back (inr (said, is, at)) = subst (λ (file : Result B FeedFault). RefusedAt file refused P) (sym (ap (λ file. file >>= next) is)) at
nested {A} {B} (Err fault) next refused P = (there, back)
  where
    refuses : B → Result A FeedFault
    refuses _ = Err fault

    there : RefusedAt {A = B} (Err fault) refused P → RefusedAt {A = A} (Err fault) refused (λ said. RefusedAt (next said) refused P)
    there (inl due) = inl (ap (λ (file : Result B FeedFault). file >>= refuses) due)
    there (inr (said, is, p)) = absurd (false≢true (ap is_ok is))

    back : RefusedAt {A = A} (Err fault) refused (λ said. RefusedAt (next said) refused P) → RefusedAt {A = B} (Err fault) refused P
    back (inl due) = inl (ap (λ file. file >>= next) due)
    back (inr (said, is, at)) = absurd (false≢true (ap is_ok is))

-- what is accepted is not refused
accepted : {A : Type 0} (said : A) (refused : FeedFault) (P : A → Type 0) → RefusedAt (Ok said) refused P ↔ P said
accepted {A} said refused P = (there, λ p. inr (said, refl, p))
  where
    or_said : Result A FeedFault → A
    or_said (Ok x) = x
    or_said (Err fault) = said

    there : RefusedAt (Ok said) refused P → P said
    there (inl due) = absurd (false≢true (sym (ap is_ok due)))
    there (inr (x, is, p)) = subst P (sym (ap or_said is)) p

-- a part behind which nothing can be refused
last : {A B : Type 0} (file : Result A FeedFault) (made : A → B) (refused : FeedFault)
    → ((file >>= λ said. Ok (made said)) ≡ Err refused) ↔ (file ≡ Err refused)
last (Ok x) made refused = (λ due. absurd (false≢true (sym (ap is_ok due))), λ due. absurd (false≢true (sym (ap is_ok due))))
last {A} {B} (Err fault) made refused =
    (ap (λ (file : Result B FeedFault). file >>= refuses), ap (λ (file : Result A FeedFault). file >>= λ said. Ok (made said)))
  where
    refuses : B → Result A FeedFault
    refuses _ = Err fault

module _ (found : Paper → Found) (refused : FeedFault) where
  -- what is read behind the timetable
  abbrev read_behind : SettingsView → TimetableView → Result FeedView FeedFault
  read_behind settings timetable = deadheads_in found timetable >>= λ deadheads. pulls_in found deadheads.0 >>= λ pulls.
      rules_in found >>= λ rules. lines_in found >>= λ lines. Ok (said_with settings deadheads.0 deadheads.1 pulls rules lines)

  abbrev IsBehind : TimetableView → Type 0
  IsBehind timetable = RefusedAt (deadheads_in found timetable) refused λ deadheads.
      RefusedAt (pulls_in found deadheads.0) refused λ pulls. RefusedAt (rules_in found) refused λ rules. lines_in found ≡ Err refused

  refused-behind : (settings : SettingsView) (timetable : TimetableView)
      → (read_behind settings timetable ≡ Err refused) ↔ IsBehind timetable
  refused-behind settings timetable =
      both (parted (deadheads_in found timetable) (λ deadheads. pulls_in found deadheads.0 >>= λ pulls.
      rules_in found >>= λ rules. lines_in found >>= λ lines. Ok (said_with settings deadheads.0 deadheads.1 pulls rules lines)) refused)
      (later (deadheads_in found timetable) refused λ deadheads.
      both (parted (pulls_in found deadheads.0) (λ pulls.
      rules_in found >>= λ rules. lines_in found >>= λ lines. Ok (said_with settings deadheads.0 deadheads.1 pulls rules lines)) refused)
      (later (pulls_in found deadheads.0) refused λ pulls.
      both (parted (rules_in found) (λ rules.
      lines_in found >>= λ lines. Ok (said_with settings deadheads.0 deadheads.1 pulls rules lines)) refused)
      (later (rules_in found) refused λ rules.
      last (lines_in found) (λ lines. said_with settings deadheads.0 deadheads.1 pulls rules lines) refused)))

  -- the timetable and what is read behind it
  abbrev IsTimetableRefused : SettingsView → Type 0
  IsTimetableRefused settings = RefusedAt (trips_in settings (found paper.Trips)) refused λ selected.
      RefusedAt (feed_trips_in settings selected (found paper.StopTimes)) refused λ feed_trips.
      RefusedAt (timetable_of settings feed_trips) refused IsBehind

  refused-timetable : (settings : SettingsView)
      → ((timetable_in found settings >>= read_behind settings) ≡ Err refused) ↔ IsTimetableRefused settings
  unfolding base_of
  refused-timetable settings =
      let due = λ (timetable : TimetableView). read_behind settings timetable ≡ Err refused in
      both (parted (timetable_in found settings) (read_behind settings) refused)
      (both (nested (trips_in settings (found paper.Trips))
      (λ selected. feed_trips_in settings selected (found paper.StopTimes) >>= timetable_of settings) refused due)
      (later (trips_in settings (found paper.Trips)) refused λ selected.
      both (nested (feed_trips_in settings selected (found paper.StopTimes)) (timetable_of settings) refused due)
      (later (feed_trips_in settings selected (found paper.StopTimes)) refused λ feed_trips.
      later (timetable_of settings feed_trips) refused (refused-behind settings))))

  pub refused-first : (said_by found ≡ Err refused) ↔ IsFirst found refused
  unfolding said_by settings_of
  refused-first =
      let desk_found = found paper.Settings in
      let terminals_found = found paper.Terminals in
      let tolerances_found = found paper.Tolerances in
      let due = λ (settings : SettingsView). (timetable_in found settings >>= read_behind settings) ≡ Err refused in
      let selected = λ (settings : SettingsView). RefusedAt (selection_in found settings) refused due in
      both (parted (settings_in found) (λ settings. timetable_in found settings >>= read_behind settings) refused)
      (both (nested (settings_of desk_found terminals_found tolerances_found) (selection_in found) refused due)
      (both (nested (desk_of desk_found) (with_tables terminals_found tolerances_found) refused selected)
      (later (desk_of desk_found) refused λ desk.
      both (nested (terminals_of terminals_found)
      (λ terminals. tolerances_of tolerances_found >>= λ tolerances. Ok (settings_with desk terminals tolerances)) refused selected)
      (later (terminals_of terminals_found) refused λ terminals.
      both (nested (tolerances_of tolerances_found) (λ tolerances. Ok (settings_with desk terminals tolerances)) refused selected)
      (later (tolerances_of tolerances_found) refused λ tolerances.
      both (accepted (settings_with desk terminals tolerances) refused selected)
      (later (selection_in found (settings_with desk terminals tolerances)) refused refused-timetable))))))
