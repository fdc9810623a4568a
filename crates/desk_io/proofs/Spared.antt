-- What was asked spares the files, and so does one call more.
use Rattle.std.proofs.Common.{◌≡◌, inl, ℕ, List, [], ◌∷◌, ◌++◌, Option, None, Result, Ok, Err, sym, ap, ◌∙◌, append_assoc}
use Rattle.std.specs.Prelude.{OnErr, OnOk}
use Rattle.std.proofs.lemmas.List.{append-nil}
use Rattle.std.proofs.lemmas.List.Elements.{All-append, All-cons, All-nil}
use Rattle.std.specs.Path.{path_join}
use Rattle.desk_io.specs.System.{Asked, CreateNew, Remove}
use Rattle.desk_io.specs.WholeFiles.{AsksToWrite, IsMadeBeside, IsReplaced, Spared, Spares, beside}
use Rattle.desk_io.specs.declared.system_call.Refusal.{Refusal}
use Rattle.desk_io.specs.declared.system_call.Refusal.TheVariants.{NotThere, Taken, Memory, Other}

pub none_asked : (folder name : List ℕ) (before : List Asked) → Spared folder name before before
none_asked folder name before = record { made = []; spares = All-nil _; asked = sym (append-nil before) }

module _ (folder name : List ℕ) (before now next : List Asked) (far : Spared folder name before now) where
  then : (asked : Asked) → next ≡ now ++ asked ∷ [] → next ≡ before ++ (far.made ++ asked ∷ [])
  then asked noted = noted ∙ ap (λ calls. calls ++ asked ∷ []) far.asked ∙ append_assoc before far.made (asked ∷ [])

  pub one_more_asked : (asked : Asked) → Spares folder name asked → next ≡ now ++ asked ∷ [] → Spared folder name before next
  one_more_asked asked spares noted = record {
    made = far.made ++ asked ∷ [];
    spares = All-append (Spares folder name) far.made (asked ∷ []) far.spares
        (All-cons (Spares folder name) asked [] spares (All-nil (Spares folder name)));
    asked = then asked noted;
  }

  -- after names that were taken one was free
  pub made_beside : (number : ℕ) (path : List ℕ) → path ≡ path_join folder (beside name number) → next ≡ now ++ CreateNew path None ∷ []
      → IsMadeBeside folder name path before next
  made_beside number path named noted =
      record { number = number; named = named; tried = far.made; spares = far.spares; asked = then (CreateNew path None) noted }

-- what spares the files, and then more that does
spared_both : (folder name : List ℕ) (before now next : List Asked) → Spared folder name before now → Spared folder name now next
    → Spared folder name before next
spared_both folder name before now next one other = record {
  made = one.made ++ other.made;
  spares = All-append (Spares folder name) one.made other.made one.spares other.spares;
  asked = other.asked ∙ ap (λ calls. calls ++ other.made) one.asked ∙ append_assoc before one.made other.made;
}

-- a file was made beside, its writing was refused, and it was removed
pub removed : (folder name path : List ℕ) (before between cut next : List Asked) (why : Option Refusal)
    → IsMadeBeside folder name path before between → Spared folder name between cut → next ≡ cut ++ Remove path why ∷ []
    → Spared folder name before next
removed folder name path before between cut next why made spared noted =
    let far : Spared folder name before between = record {
      made = made.tried ++ CreateNew path None ∷ [];
      spares = All-append (Spares folder name) made.tried (CreateNew path None ∷ []) made.spares
          (All-cons (Spares folder name) (CreateNew path None) [] (made.number, made.named) (All-nil (Spares folder name)));
      asked = made.asked;
    } in
    one_more_asked folder name before cut next (spared_both folder name before between cut far spared) (Remove path why)
    (made.number, made.named) noted

-- the name was looked at, and then the file was replaced or what is asked spares it
module _ (folder name bytes : List ℕ) (before now next : List Asked) (far : Spared folder name before now) where
  made_after : (path : List ℕ) (between : List Asked) → IsMadeBeside folder name path now between → IsMadeBeside folder name path before between
  made_after path between made = record {
    number = made.number;
    named = made.named;
    tried = far.made ++ made.tried;
    spares = All-append (Spares folder name) far.made made.tried far.spares made.spares;
    asked = made.asked ∙ ap (λ calls. calls ++ (made.tried ++ CreateNew path None ∷ [])) far.asked
        ∙ append_assoc before far.made (made.tried ++ CreateNew path None ∷ [])
        ∙ ap (λ calls. before ++ calls) (sym (append_assoc far.made made.tried (CreateNew path None ∷ [])));
  }

  pub replaced : (result : Result (Unit {0}) Refusal) → OnOk result (IsReplaced folder name bytes now next)
      → OnErr result (Spared folder name now next) → AsksToWrite folder name bytes result before next
  replaced (Ok done) is spared =
      inl (record { path = is.path; between = is.between; made = made_after is.path is.between is.made; asked = is.asked })
  replaced (Err NotThere) is spared = inl (spared_both folder name before now next far spared)
  replaced (Err Taken) is spared = inl (spared_both folder name before now next far spared)
  replaced (Err Memory) is spared = spared_both folder name before now next far spared
  replaced (Err Other) is spared = inl (spared_both folder name before now next far spared)
