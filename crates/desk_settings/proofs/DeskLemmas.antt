-- Reading the values of `desk.toml` one after the other, as a loop does.
use Rattle.std.proofs.Common.{◌≡◌, ℕ, Bool, true, false, cond, List, [], ◌∷◌, ◌++◌, Option, Some, Err, is_some, option_and_then, refl, sym}
use Rattle.std.proofs.Common.{ap, ◌∙◌, String, string_bytes, Global, Less, is_eq}
use Rattle.std.specs.Bool.{⊤}
use Rattle.std.specs.List.{AllByRecursion}
use Rattle.std.specs.Map.{keys_of}
use Rattle.std.specs.Option.{ok_or}
use Rattle.std.specs.Ordering.{ordering_reverse}
use Rattle.std.specs.Str.{IsUtf8, is_utf8, bytes_eq}
use Rattle.std.specs.String.{string_cmp}
use Rattle.std.proofs.lemmas.Bool.{false_from_ne_true, true≢false}
use Rattle.std.proofs.lemmas.Cmp.{nat_list_cmp_total}
use Rattle.std.proofs.lemmas.Map.Text.{is_eq-slice_cmp}
use Rattle.std.proofs.lemmas.Str.{IsUtf8-from_is_utf8, is_utf8-from_IsUtf8}
use Rattle.gtfs_tables.specs.declared.fault.FeedFault.TheVariants as fault
use Rattle.gtfs_tables.specs.Entries.{Name, Entries, value_of, has_name}
use Rattle.toml.specs.Parse.{parse_document}
use Rattle.toml.specs.View.{view, members_view}
use Rattle.toml.specs.declared.value.Value.{Value}
use Rattle.toml.specs.Data.{Data}
use Rattle.desk_settings.specs.Desk.{document_in, entries_from}

-- bytes that are UTF-8 are the document of their text
pub document_in-utf8 : (bytes text : List ℕ) → text ≡ bytes → IsUtf8 bytes → document_in bytes ≡ ok_or (parse_document text) fault.NotToml
unfolding document_in
document_in-utf8 bytes text same is =
    ap (λ b. cond b (ok_or (parse_document bytes) fault.NotToml) (Err fault.NotToml)) (is_utf8-from_IsUtf8 bytes is)
    ∙ ap (λ t. ok_or (parse_document t) fault.NotToml) (sym same)

-- other bytes are none
pub document_in-other : (bytes : List ℕ) → ¬ IsUtf8 bytes → document_in bytes ≡ Err fault.NotToml
unfolding document_in
document_in-other bytes is_not =
    ap (λ b. cond b (ok_or (parse_document bytes) fault.NotToml) (Err fault.NotToml))
    (false_from_ne_true (is_utf8 bytes) (λ is. is_not (IsUtf8-from_is_utf8 bytes is)))

-- a name with its value was read
pub entries_go_on : {X : Type 0} (value_in : Data → Option X) (before after : Entries X) (key : String Global) (value : Value)
    (es : List (String Global × Value)) (name : Name) (x : X) (all : Option (Entries X))
    → value_in (view value) ≡ Some x → name ≡ string_bytes key → after ≡ before ++ (name, x) ∷ []
    → entries_from value_in before (members_view ((key, value) ∷ es)) ≡ all → entries_from value_in after (members_view es) ≡ all
entries_go_on value_in before after key value es name x all is same pushed so_far =
    ap (λ entries. entries_from value_in entries (members_view es)) (pushed ∙ ap (λ bytes. before ++ (bytes, x) ∷ []) same)
    ∙ sym (ap (option_and_then (λ x. entries_from value_in (before ++ (string_bytes key, x) ∷ []) (members_view es))) is)
    ∙ so_far

-- none of these keys is among the entries
abbrev pub AreNew : {Y X V : Type 0} → Entries V → List (String Y × X) → Type 0
AreNew before [] = ⊤
AreNew before (e ∷ es) = (has_name (string_bytes e.0) before ≡ false) × AreNew before es

pub AreNew-none : {Y X : Type 0} (V : Type 0) (es : List (String Y × X)) → AreNew {V = V} [] es
AreNew-none V [] = tt
AreNew-none V (e ∷ es) = (refl, AreNew-none V es)

-- a key above another differs from it
above_differs : {Y : Type 0} (low high : String Y) → string_cmp low high ≡ Less → bytes_eq (string_bytes high) (string_bytes low) ≡ false
above_differs low high below =
    sym (is_eq-slice_cmp (string_bytes high) (string_bytes low))
    ∙ ap is_eq (nat_list_cmp_total.antisymm (string_bytes high) (string_bytes low) ∙ ap ordering_reverse below)

-- an entry of another name does not give a new name a value
has_name-push : {V : Type 0} (name other : Name) (value : V) (before : Entries V) → has_name name before ≡ false
    → bytes_eq name other ≡ false → has_name name (before ++ (other, value) ∷ []) ≡ false
has_name-push name other value [] none differs = rw differs
has_name-push name other value (e ∷ before) none differs =
    by (λ fresh. has_name-push name other value before fresh differs) (bytes_eq name e.0) refl
  where
    by : (has_name name before ≡ false → has_name name (before ++ (other, value) ∷ []) ≡ false) → (b : Bool) → bytes_eq name e.0 ≡ b
        → has_name name ((e ∷ before) ++ (other, value) ∷ []) ≡ false
    by rest true same = absurd (true≢false (sym (ap (λ b. is_some (cond b (Some e.1) (value_of name before))) same) ∙ none))
    by rest false apart =
        ap (λ b. is_some (cond b (Some e.1) (value_of name (before ++ (other, value) ∷ [])))) apart
        ∙ rest (sym (ap (λ b. is_some (cond b (Some e.1) (value_of name before))) apart) ∙ none)

-- keys above one that was read stay new
pub AreNew-push : {Y X V : Type 0} (before : Entries V) (key : String Y) (value : V) (es : List (String Y × X))
    → AllByRecursion (λ y. string_cmp key y ≡ Less) (keys_of es) → AreNew before es → AreNew (before ++ (string_bytes key, value) ∷ []) es
AreNew-push before key value [] above new = tt
AreNew-push before key value (e ∷ es) above new = (
  has_name-push (string_bytes e.0) (string_bytes key) value before new.0 (above_differs key e.0 above.0),
  AreNew-push before key value
      es above.1 new.1,
)
