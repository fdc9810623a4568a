-- What `desk.toml` says. The members of its table are in the byte order of their keys.
use Rattle.std.specs.Prelude.{◌≡◌, ◌⊎◌, ℕ, ◌==◌, ◌&&◌, Bool, true, false, not, ⊤, ◌++◌, ℤ, pos, List, [], ◌∷◌, length, nat_le, Option}
use Rattle.std.specs.Prelude.{Some, None, is_some, option_map, option_and_then, Result, Ok, codes, if◌then◌else◌}
use Rattle.std.specs.Cmp.Lexicographic.{slice_cmp}
use Rattle.std.specs.Option.{ok_or}
use Rattle.std.specs.Ordering.{nat_cmp, is_lt}
use Rattle.std.specs.Str.{is_utf8, bytes_eq}
use Rattle.desk_io.specs.declared.shelf.Found.{Found}
use Rattle.trip_model.specs.declared.limits.TheConstants.{MOST_LAYOVER, MOST_TOLERANCE}
use Rattle.trip_model.specs.Place.{has_slash}
use Rattle.gtfs_tables.specs.declared.fault.FeedFault.{FeedFault}
use Rattle.gtfs_tables.specs.declared.fault.FeedFault.TheVariants as fault
use Rattle.gtfs_tables.specs.declared.paper.Paper.TheVariants as paper
use Rattle.gtfs_tables.specs.Reading.{◌>>=◌, provided, optional_in}
use Rattle.gtfs_tables.specs.Entries.{Name, Entries}
use Rattle.service_days.specs.Dates.{date_of}
use Rattle.toml.specs.Data.{Data, Items, no_items, item, Members, no_members, member, is_before, as_integer, as_str, as_array, as_table}
use Rattle.toml.specs.Parse.{parse_document}
use Rattle.desk_settings.specs.Names.{with_name}
use Rattle.desk_settings.specs.Prefer.{preferences_in, standard_preferences}
use Rattle.desk_settings.specs.declared.desk.DeskTable.{DeskTable}
use Rattle.desk_settings.specs.declared.desk.TheConstants.{MOST_CLASS, MOST_PREFIX}

-- an integer from 0 to `most`
abbrev pub count_from : ℕ → Option ℤ → Option ℕ
count_from most (Some (pos count)) = if nat_le count most then Some count else None
count_from most other = None

-- a value that is an integer from 0 to `most`
abbrev pub minutes_in : ℕ → Data → Option ℕ
minutes_in most value = count_from most (as_integer value)

-- a text of at most 32 bytes
abbrev pub short_text : List ℕ → Option (List ℕ)
short_text text = if nat_le (length text) MOST_PREFIX then Some text else None

-- a value that is a string of at most 32 bytes
abbrev pub prefix_in : Data → Option (List ℕ)
prefix_in value = option_and_then short_text (as_str value)

-- whether blocks keep the names that the feed states
abbrev pub keeps_names_named : List ℕ → Option Bool
keeps_names_named text =
    if bytes_eq text (codes "numbered") then Some false else if bytes_eq text (codes "stated") then Some true else None

-- a value that says so
abbrev pub keeps_names_in : Data → Option Bool
keeps_names_in value = option_and_then keeps_names_named (as_str value)

-- the strings of a list, each where it first comes, after the names before them
abbrev pub names_from : List Name → Items → Option (List Name)
names_from before no_items = Some before
names_from before (item value rest) = option_and_then (λ name. names_from (with_name before name) rest) (as_str value)

-- a value that is a list of strings
abbrev pub names_in : Data → Option (List Name)
names_in value = option_and_then (names_from []) (as_array value)

-- the names of a table with their values, each of a form, after those before them
abbrev pub entries_from : {X : Type 0} → (Data → Option X) → Entries X → Members → Option (Entries X)
entries_from value_in before no_members = Some before
entries_from value_in before (member name value rest) =
    option_and_then (λ x. entries_from value_in (before ++ (name, x) ∷ []) rest) (value_in value)

-- a value that is a table from places to minutes of layover
abbrev pub layovers_in : Data → Option (Entries ℕ)
layovers_in value = option_and_then (entries_from (minutes_in MOST_LAYOVER) []) (as_table value)

-- rule: which texts are vehicle classes
-- whether a text is a class of vehicles: 1 to 16 bytes without `/`
abbrev pub is_class : List ℕ → Bool
is_class text = nat_le 1 (length text) && nat_le (length text) MOST_CLASS && not (has_slash text)

-- a value that is a class
abbrev pub if_class : List ℕ → Option Name
if_class text = if is_class text then Some text else None

abbrev pub class_in : Data → Option Name
class_in value = option_and_then if_class (as_str value)

-- a value that is a table from routes to classes
abbrev pub classes_in : Data → Option (Entries Name)
classes_in value = option_and_then (entries_from class_in []) (as_table value)

-- a value that is a date: a string of its eight digits, without spaces
abbrev pub if_date : List ℕ → Option ℕ
if_date text = if length text == 8 then date_of text else None

abbrev pub date_in : Data → Option ℕ
date_in value = option_and_then if_date (as_str value)

-- rule: what holds without `desk.toml`
-- what holds where `desk.toml` does not say otherwise
abbrev pub standard_desk : DeskTable
standard_desk = record {
  services = None;
  date = None;
  classes = [];
  layover = 0;
  layovers = [];
  early = 0;
  late = 0;
  prefix = codes "B";
  keeps_names = false;
  prefer = standard_preferences;
}

-- the keys of members ascend in byte order
abbrev pub Ascend : Members → Type 0
Ascend no_members = ⊤
Ascend (member key value rest) = (is_before key rest ≡ true) × Ascend rest

-- rule: the keys of `desk.toml`, and which values they take
-- what the desk says with this key and its value; nothing where the key is unknown or its value of another form
unfoldable pub with_key : DeskTable → Name → Data → Option DeskTable
with_key desk key value =
    if bytes_eq key (codes "services") then option_map (λ names. record desk { services = Some names }) (names_in value)
    else if bytes_eq key (codes "date") then option_map (λ date. record desk { date = Some date }) (date_in value)
    else if bytes_eq key (codes "classes") then option_map (λ classes. record desk { classes = classes }) (classes_in value)
    else if bytes_eq key (codes "layover") then option_map (λ minutes. record desk { layover = minutes }) (minutes_in MOST_LAYOVER value)
    else if bytes_eq key (codes "layovers") then option_map (λ layovers. record desk { layovers = layovers }) (layovers_in value)
    else if bytes_eq key (codes "early") then option_map (λ minutes. record desk { early = minutes }) (minutes_in MOST_TOLERANCE value)
    else if bytes_eq key (codes "late") then option_map (λ minutes. record desk { late = minutes }) (minutes_in MOST_TOLERANCE value)
    else if bytes_eq key (codes "block_prefix") then option_map (λ prefix. record desk { prefix = prefix }) (prefix_in value)
    else if bytes_eq key (codes "block_names") then option_map (λ keeps. record desk { keeps_names = keeps }) (keeps_names_in value)
    else if bytes_eq key (codes "prefer") then option_map (λ prefer. record desk { prefer = prefer }) (preferences_in value)
    else None

-- whether the key is unknown or its value of another form
abbrev pub is_bad : Name → Data → Bool
is_bad key value = not (is_some (with_key standard_desk key value))

-- rule: the order of refusals within a file
-- the key is a bad one of the members
abbrev pub HasBad : Name → Members → Type 0
HasBad bad no_members = ⊥
HasBad bad (member key value rest) = ((key ≡ bad) × (is_bad key value ≡ true)) ⊎ HasBad bad rest

-- no bad key of the members comes before this one in byte order
abbrev pub NoBadBefore : Name → Members → Type 0
NoBadBefore first no_members = ⊤
NoBadBefore first (member key value rest) = (is_bad key value ≡ true → is_lt (slice_cmp nat_cmp key first) ≡ false) × NoBadBefore first rest

-- the keys one after the other, up to the first that is unknown or has a value of another form
abbrev pub desk_from : DeskTable → Members → Result DeskTable FeedFault
desk_from desk no_members = Ok desk
desk_from desk (member key value rest) = ok_or (with_key desk key value) (fault.BadSettings key) >>= λ more. desk_from more rest

-- the table of a TOML document, of whose bytes one leading byte-order mark is taken off
unfoldable pub document_in : List ℕ → Result Members FeedFault
document_in bytes = provided (is_utf8 bytes) fault.NotToml (ok_or (parse_document bytes) fault.NotToml)

-- what the file says; without one the standard holds
abbrev pub desk_of : Found → Result DeskTable FeedFault
desk_of found = optional_in paper.Settings standard_desk (λ bytes. document_in bytes >>= desk_from standard_desk) found
