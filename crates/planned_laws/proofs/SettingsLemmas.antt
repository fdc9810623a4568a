-- What holds of the settings of an accepted feed: the minutes are few, classes have no `/`, and no preference is there twice.
use Rattle.std.proofs.Common.{◌≡◌, ℕ, ◌≤◌, true, false, not, List, [], ◌∷◌, ◌++◌, Option, Some, None}
use Rattle.std.proofs.Common.{option_and_then, Ok, refl, ℤ, pos, negsuc, arith}
use Rattle.std.specs.Option.{ok_or}
use Rattle.std.specs.Prelude.{All, IfOk, IfSome, codes, nat_le, unwrap_or}
use Rattle.std.specs.Str.{bytes_eq}
use Rattle.std.proofs.lemmas.Bool.{and_parts, leb-true, not-true}
use Rattle.std.proofs.lemmas.List.Elements.{All-map, All-nil, All-push}
use Rattle.std.proofs.lemmas.Map.Views.{IfSome-lookup_from_All}
use Rattle.desk_io.specs.declared.shelf.Found.{Found}
use Rattle.desk_feed.specs.Feed.{kept_on, selection_in, settings_in}
use Rattle.desk_settings.specs.Desk.{class_in, classes_in, count_from, date_in, desk_from, desk_of, document_in, entries_from, if_class}
use Rattle.desk_settings.specs.Desk.{is_class, keeps_names_in, layovers_in, minutes_in, names_in, prefix_in, standard_desk, with_key}
use Rattle.desk_settings.specs.Prefer.{added, has, none_twice, preference_named, preferences_from, preferences_in, with_preference}
use Rattle.desk_settings.specs.Settings.{SettingsView, class_of, layover_at, settings_of, settings_with, tolerance_of, with_services_kept}
use Rattle.desk_settings.specs.Settings.{with_tables}
use Rattle.desk_settings.specs.Terminals.{terminals_of}
use Rattle.desk_settings.specs.Tolerances.{columns_in, tolerance_in, tolerances_of, with_tolerance}
use Rattle.desk_settings.specs.declared.prefer.Preference.{Preference}
use Rattle.desk_settings.proofs.PreferLemmas.{none_twice_pushed}
use Rattle.gtfs_tables.specs.Entries.{Entries, Name, has_name, value_of, with_record}
use Rattle.gtfs_tables.specs.Numbers.{number_of}
use Rattle.gtfs_tables.specs.Reading.{◌>>=◌, at_most, field_at, filled_in, number_in, text_in}
use Rattle.gtfs_tables.specs.declared.fault.FeedFault.TheVariants as fault
use Rattle.gtfs_tables.specs.declared.paper.Column.{Column}
use Rattle.gtfs_tables.specs.declared.paper.Column.TheVariants as column
use Rattle.gtfs_tables.specs.declared.paper.Paper.{Paper}
use Rattle.gtfs_tables.specs.declared.paper.Paper.TheVariants as paper
use Rattle.service_days.specs.Services.{services_running}
use Rattle.toml.specs.Data.{Data, Items, no_items, item, Members, no_members, member, as_array, as_integer, as_str, as_table}
use Rattle.trip_model.specs.Place.{has_slash}
use Rattle.trip_model.specs.declared.limits.TheConstants.{MOST_LAYOVER, MOST_TOLERANCE}
use Rattle.planned_laws.proofs.ReadLemmas.{optional-is, optional-kept, read-next, read-or, read-provided, read-then}
use Rattle.planned_laws.proofs.ReadLemmas.{some-by, some-made, some-mapped, some-next, some-then}

-- each value of entries is such
abbrev pub AreValues : {X : Type 0} → (X → Type 0) → Entries X → Type 0
AreValues P entries = All (λ e. P e.1) entries

-- and so is the value of a name
pub value-is : {X : Type 0} (P : X → Type 0) (entries : Entries X) (name : Name) → AreValues P entries → IfSome (value_of name entries) P
value-is P entries name are = IfSome-lookup_from_All P (bytes_eq name) entries (All-map P (λ e. e.1) entries are)

-- or what there is in its place
pub value-or : {X : Type 0} (P : X → Type 0) (value : Option X) (other : X) → IfSome value P → P other → P (unwrap_or value other)
value-or P (Some x) other is else = is
value-or P None other is else = else

-- entries with that of one more record
pub record-kept : {X : Type 0} (P : X → Type 0) (paper : Paper) (number : ℕ) (before : Entries X) (entry : Name × X) → AreValues P before
    → P entry.1 → IfOk (with_record paper number before entry) (AreValues P)
record-kept P paper number before entry are is =
    read-provided (AreValues P) (not (has_name entry.0 before)) (fault.DuplicateRow paper number) (Ok (before ++ entry ∷ []))
    (λ _. All-push (λ e. P e.1) before entry are is)

-- a number that is read is no more than it may be
pub number-few : (paper : Paper) (number : ℕ) (column : Column) (digits most : ℕ) (text : List ℕ)
    → IfOk (number_in paper number column digits most text) (λ n. n ≤ most)
number-few paper number column digits most text =
    read-or (λ n. n ≤ most) (at_most most (number_of digits text)) (fault.BadNumber paper number column) (by (number_of digits text))
  where
    by : (value : Option ℕ) → IfSome (at_most most value) (λ n. n ≤ most)
    by (Some value) = some-by (λ n. n ≤ most) (nat_le value most) (Some value) None (λ few. leb-true value most few) (λ _. tt)
    by None = tt

-- a text has no `/`
abbrev pub IsPlain : Name → Type 0
IsPlain text = has_slash text ≡ false

-- tolerances are at most an hour
abbrev pub AreTolerances : ℕ × ℕ → Type 0
AreTolerances pair = (pair.0 ≤ MOST_TOLERANCE) × (pair.1 ≤ MOST_TOLERANCE)

-- what holds of settings by their parts
pub record AreParts (routes : Entries Name) (stay : ℕ) (places : Entries ℕ) (before after : ℕ) (order : List Preference)
    (trips : Entries (ℕ × ℕ)) : Type 0 where
  pub classes : AreValues IsPlain routes
  pub layover : stay ≤ MOST_LAYOVER
  pub layovers : AreValues (λ minutes. minutes ≤ MOST_LAYOVER) places
  pub early : before ≤ MOST_TOLERANCE
  pub late : after ≤ MOST_TOLERANCE
  pub prefer : none_twice order ≡ true
  pub tolerances : AreValues AreTolerances trips

abbrev pub AreSettings : SettingsView → Type 0
AreSettings s = AreParts s.classes s.layover s.layovers s.early s.late s.prefer s.tolerances

-- a value that is a number of minutes
minutes-few : (most : ℕ) (value : Data) → IfSome (minutes_in most value) (λ n. n ≤ most)
minutes-few most value = by (as_integer value)
  where
    by : (count : Option ℤ) → IfSome (count_from most count) (λ n. n ≤ most)
    by (Some (pos count)) = some-by (λ n. n ≤ most) (nat_le count most) (Some count) None (λ few. leb-true count most few) (λ _. tt)
    by (Some (negsuc count)) = tt
    by None = tt

-- the values of a table
entries-are : {X : Type 0} (P : X → Type 0) (value_in : Data → Option X) → ((value : Data) → IfSome (value_in value) P)
    → (before : Entries X) (members : Members) → AreValues P before → IfSome (entries_from value_in before members) (AreValues P)
entries-are P value_in is before no_members are = are
entries-are P value_in is before (member name value rest) are =
    some-next P (AreValues P) (λ x. entries_from value_in (before ++ (name, x) ∷ []) rest) (value_in value) (is value)
    (λ x now. entries-are P value_in is (before ++ (name, x) ∷ []) rest (All-push (λ e. P e.1) before (name, x) are now))

table-are : {X : Type 0} (P : X → Type 0) (value_in : Data → Option X) → ((value : Data) → IfSome (value_in value) P) → (value : Data)
    → IfSome (option_and_then (entries_from value_in []) (as_table value)) (AreValues P)
table-are P value_in is value =
    some-then (AreValues P) (entries_from value_in []) (as_table value)
    (λ members. entries-are P value_in is [] members (All-nil (λ e. P e.1)))

class-plain : (value : Data) → IfSome (class_in value) IsPlain
class-plain value =
    some-then IsPlain if_class (as_str value)
    (λ text. some-by IsPlain (is_class text) (Some text) None
    (λ is. not-true (has_slash text) (and_parts _ (not (has_slash text)) is).1) (λ _. tt))

-- no preference is there twice
abbrev IsOnce : List Preference → Type 0
IsOnce order = none_twice order ≡ true

preferences-once : (before : List Preference) (items : Items) → IsOnce before → IfSome (preferences_from before items) IsOnce
preferences-once before no_items once = once
preferences-once before (item value rest) once =
    some-next IsOnce IsOnce (λ more. preferences_from more rest) (with_preference before value)
    (some-then IsOnce (λ name. option_and_then (added before) (preference_named name)) (as_str value)
    (λ name. some-then IsOnce (added before) (preference_named name)
    (λ p. some-by IsOnce (has p before) None (Some (before ++ p ∷ [])) (λ _. tt) (λ new. none_twice_pushed before p once new))))
    (λ more now. preferences-once more rest now)

-- a key of the desk with its value, and all keys: the settings of a desk without its tables are such
key-kept : (desk : _) (key : Name) (value : Data) → AreSettings (settings_with desk [] [])
    → IfSome (with_key desk key value) (λ desk. AreSettings (settings_with desk [] []))
unfolding with_key
key-kept desk key value is =
    let IsDesk : _ → Type 0 = λ desk. AreSettings (settings_with desk [] []) in
    some-by IsDesk (bytes_eq key (codes "services")) _ _ (λ _. some-mapped IsDesk _ (names_in value) (λ names. is))
    (λ _. some-by IsDesk (bytes_eq key (codes "date")) _ _ (λ _. some-mapped IsDesk _ (date_in value) (λ date. is))
    (λ _. some-by IsDesk (bytes_eq key (codes "classes")) _ _
    (λ _. some-made (AreValues IsPlain) IsDesk _ (classes_in value) (table-are IsPlain class_in class-plain value)
    (λ classes now. record {
      classes = now;
      layover = is.layover;
      layovers = is.layovers;
      early = is.early;
      late = is.late;
      prefer = is.prefer;
      tolerances = is.tolerances;
    }))
    (λ _. some-by IsDesk (bytes_eq key (codes "layover")) _ _
    (λ _. some-made (λ minutes. minutes ≤ MOST_LAYOVER) IsDesk _ (minutes_in MOST_LAYOVER value) (minutes-few MOST_LAYOVER value)
    (λ layover now. record {
      classes = is.classes;
      layover = now;
      layovers = is.layovers;
      early = is.early;
      late = is.late;
      prefer = is.prefer;
      tolerances = is.tolerances;
    }))
    (λ _. some-by IsDesk (bytes_eq key (codes "layovers")) _ _
    (λ _. some-made (AreValues (λ minutes. minutes ≤ MOST_LAYOVER)) IsDesk _ (layovers_in value)
    (table-are (λ minutes. minutes ≤ MOST_LAYOVER) (minutes_in MOST_LAYOVER) (minutes-few MOST_LAYOVER) value)
    (λ layovers now. record {
      classes = is.classes;
      layover = is.layover;
      layovers = now;
      early = is.early;
      late = is.late;
      prefer = is.prefer;
      tolerances = is.tolerances;
    }))
    (λ _. some-by IsDesk (bytes_eq key (codes "early")) _ _
    (λ _. some-made (λ minutes. minutes ≤ MOST_TOLERANCE) IsDesk _ (minutes_in MOST_TOLERANCE value) (minutes-few MOST_TOLERANCE value)
    (λ early now. record {
      classes = is.classes;
      layover = is.layover;
      layovers = is.layovers;
      early = now;
      late = is.late;
      prefer = is.prefer;
      tolerances = is.tolerances;
    }))
    (λ _. some-by IsDesk (bytes_eq key (codes "late")) _ _
    (λ _. some-made (λ minutes. minutes ≤ MOST_TOLERANCE) IsDesk _ (minutes_in MOST_TOLERANCE value) (minutes-few MOST_TOLERANCE value)
    (λ late now. record {
      classes = is.classes;
      layover = is.layover;
      layovers = is.layovers;
      early = is.early;
      late = now;
      prefer = is.prefer;
      tolerances = is.tolerances;
    }))
    (λ _. some-by IsDesk (bytes_eq key (codes "block_prefix")) _ _ (λ _. some-mapped IsDesk _ (prefix_in value) (λ prefix. is))
    (λ _. some-by IsDesk (bytes_eq key (codes "block_names")) _ _ (λ _. some-mapped IsDesk _ (keeps_names_in value) (λ keeps. is))
    (λ _. some-by IsDesk (bytes_eq key (codes "prefer")) _ None
    (λ _. some-made IsOnce IsDesk _ (preferences_in value)
    (some-then IsOnce (preferences_from []) (as_array value) (λ items. preferences-once [] items refl))
    (λ prefer now. record {
      classes = is.classes;
      layover = is.layover;
      layovers = is.layovers;
      early = is.early;
      late = is.late;
      prefer = now;
      tolerances = is.tolerances;
    }))
    (λ _. tt))))))))))

keys-kept : (desk : _) (members : Members) → AreSettings (settings_with desk [] [])
    → IfOk (desk_from desk members) (λ desk. AreSettings (settings_with desk [] []))
keys-kept desk no_members is = is
keys-kept desk (member key value rest) is =
    let IsDesk : _ → Type 0 = λ desk. AreSettings (settings_with desk [] []) in
    read-next IsDesk IsDesk (ok_or (with_key desk key value) (fault.BadSettings key)) (λ more. desk_from more rest)
    (read-or IsDesk (with_key desk key value) (fault.BadSettings key) (key-kept desk key value is))
    (λ more now. keys-kept more rest now)

desk-read : (found : Found) → IfOk (desk_of found) (λ desk. AreSettings (settings_with desk [] []))
desk-read found =
    let IsDesk : _ → Type 0 = λ desk. AreSettings (settings_with desk [] []) in
    optional-is IsDesk paper.Settings standard_desk (λ bytes. document_in bytes >>= desk_from standard_desk) standard
    (λ bytes. read-then IsDesk (document_in bytes) (desk_from standard_desk) (λ members. keys-kept standard_desk members standard)) found
  where
    standard : AreSettings (settings_with standard_desk [] [])
    standard = record {
      classes = All-nil (λ e. IsPlain e.1);
      layover = omega arith;
      layovers = All-nil (λ e. e.1 ≤ MOST_LAYOVER);
      early = omega arith;
      late = omega arith;
      prefer = refl;
      tolerances = All-nil (λ e. AreTolerances e.1);
    }

-- a record of tolerances
tolerance-few : (columns : _) (number : ℕ) (fields : List (List ℕ))
    → IfOk (tolerance_in columns number fields) (λ entry. AreTolerances entry.1)
unfolding tolerance_in
tolerance-few columns number fields =
    let P : Name × (ℕ × ℕ) → Type 0 = λ entry. AreTolerances entry.1 in
    let few : (column : Column) (text : List ℕ) → IfOk (number_in paper.Tolerances number column 2 MOST_TOLERANCE text)
    (λ n. n ≤ MOST_TOLERANCE) = λ column text. number-few paper.Tolerances number column 2 MOST_TOLERANCE text in
    read-then P (text_in paper.Tolerances number column.TripId (field_at fields columns.trip)) _
    (λ trip. read-then P (text_in paper.Tolerances number column.Early (field_at fields columns.early)) _
    (λ early_text. read-then P (text_in paper.Tolerances number column.Late (field_at fields columns.late)) _
    (λ late_text. read-then P (filled_in paper.Tolerances number column.TripId trip) _
    (λ _. read-then P (filled_in paper.Tolerances number column.Early early_text) _
    (λ _. read-then P (filled_in paper.Tolerances number column.Late late_text) _
    (λ _. read-next (λ n. n ≤ MOST_TOLERANCE) P (number_in paper.Tolerances number column.Early 2 MOST_TOLERANCE early_text) _
    (few column.Early early_text)
    (λ early before. read-next (λ n. n ≤ MOST_TOLERANCE) P (number_in paper.Tolerances number column.Late 2 MOST_TOLERANCE late_text) _
    (few column.Late late_text) (λ late after. (before, after)))))))))

tolerances-read : (found : Found) → IfOk (tolerances_of found) (AreValues AreTolerances)
tolerances-read =
    optional-kept (AreValues AreTolerances) paper.Tolerances columns_in with_tolerance []
    (λ columns number before fields are. read-next (λ entry. AreTolerances entry.1) (AreValues AreTolerances)
    (tolerance_in columns number fields) (with_record paper.Tolerances number before) (tolerance-few columns number fields)
    (λ entry few. record-kept AreTolerances paper.Tolerances number before entry are few))
    (All-nil (λ e. AreTolerances e.1))

-- the settings of an accepted feed are such
pub settings-read : (found : Paper → Found) → IfOk (settings_in found) AreSettings
unfolding settings_of
settings-read found =
    read-next AreSettings AreSettings (settings_of (found paper.Settings) (found paper.Terminals) (found paper.Tolerances))
    (selection_in found)
    (read-next (λ desk. AreSettings (settings_with desk [] [])) AreSettings (desk_of (found paper.Settings))
    (with_tables (found paper.Terminals) (found paper.Tolerances))
    (desk-read (found paper.Settings))
    (λ desk is. read-then AreSettings (terminals_of (found paper.Terminals)) _
    (λ terminals. read-next (AreValues AreTolerances) AreSettings (tolerances_of (found paper.Tolerances)) _
    (tolerances-read (found paper.Tolerances))
    (λ tolerances few. record {
      classes = is.classes;
      layover = is.layover;
      layovers = is.layovers;
      early = is.early;
      late = is.late;
      prefer = is.prefer;
      tolerances = few;
    }))))
    (λ settings are. kept settings are settings.date)
  where
    kept : (settings : SettingsView) → AreSettings settings → (date : Option ℕ)
        → IfOk (kept_on (found paper.Calendar) (found paper.CalendarDates) settings date) AreSettings
    kept settings are None = are
    kept settings are (Some date) =
        read-then AreSettings (services_running date (found paper.Calendar) (found paper.CalendarDates))
        (λ running. Ok (with_services_kept settings running)) (λ running. are)

-- what the settings answer
pub layover-few : (settings : SettingsView) (place : Name) → AreSettings settings → layover_at settings place ≤ MOST_LAYOVER
layover-few settings place are =
    value-or (λ n. n ≤ MOST_LAYOVER) (value_of place settings.layovers) settings.layover
    (value-is (λ n. n ≤ MOST_LAYOVER) settings.layovers place are.layovers) are.layover

pub tolerance-most : (settings : SettingsView) (trip : Name) → AreSettings settings → AreTolerances (tolerance_of settings trip)
tolerance-most settings trip are =
    value-or AreTolerances (value_of trip settings.tolerances) (settings.early, settings.late)
    (value-is AreTolerances settings.tolerances trip are.tolerances) (are.early, are.late)

pub class_of-plain : (settings : SettingsView) (route : Name) → AreSettings settings → IsPlain (class_of settings route)
class_of-plain settings [] are = refl
class_of-plain settings (b ∷ route) are =
    value-or IsPlain (value_of (b ∷ route) settings.classes) [] (value-is IsPlain settings.classes (b ∷ route) are.classes) refl
