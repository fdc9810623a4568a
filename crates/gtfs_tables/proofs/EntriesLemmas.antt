-- A name's value among the entries that a map holds.
use Rattle.std.proofs.Common.{◌≡◌, false, cond, List, [], ◌∷◌, ◌++◌, Option, Some, None, is_some, refl, sym, ap, ◌∙◌, String, string_bytes}
use Rattle.std.specs.Prelude.{string_eq}
use Rattle.std.specs.Map.{lookup}
use Rattle.std.specs.Str.{bytes_eq}
use Rattle.std.proofs.lemmas.List.{map-append}
use Rattle.indexmap.specs.IndexMap.{IndexMap, insert_entry}
use Rattle.indexmap.proofs.CallerLemmas.{insert_entry-new}
use Rattle.gtfs_tables.specs.Entries.{Name, Entries, value_of, has_name, entries_of}

-- a name has the value that the map finds
pub value_of-entries_of : {X Y : Type 0} (name : Name) (es : List (String Y × X))
    → value_of name (entries_of es) ≡ lookup (λ k. bytes_eq name (string_bytes k)) es
value_of-entries_of name [] = refl
value_of-entries_of name (e ∷ es) = ap (λ found. cond (bytes_eq name (string_bytes e.0)) (Some e.1) found) (value_of-entries_of name es)

none_from : {X : Type 0} (o : Option X) → is_some o ≡ false → o ≡ None
none_from None is = refl
none_from (Some x) is = cc

-- a new name goes last
pub pushed : {X Y S : Type 0} (m new : IndexMap (String Y) X S) (key : String Y) (value : X) (entries : Entries X) (name : Name)
    → entries_of m.entries ≡ entries → string_bytes key ≡ name → has_name name entries ≡ false
    → new.entries ≡ insert_entry string_eq m.entries key value
    → entries_of new.entries ≡ entries ++ (name, value) ∷ []
pushed m new key value entries name view same fresh put =
    let absent : lookup (string_eq key) m.entries ≡ None =
    ap (λ bs. lookup (λ k. bytes_eq bs (string_bytes k)) m.entries) same ∙ sym (value_of-entries_of name m.entries)
    ∙ ap (value_of name) view ∙ none_from (value_of name entries) fresh in
    ap entries_of (put ∙ insert_entry-new string_eq m key value absent)
    ∙ map-append _ m.entries ((key, value) ∷ [])
    ∙ (λ i. view i ++ (same i, value) ∷ [])
