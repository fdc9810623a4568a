-- The line of a record without its line end, and fields of text.
use Rattle.std.proofs.Common.{◌≡◌, ℕ, List, [], ◌∷◌, ◌++◌, All, cond, Result, Ok, Err, sym, ap, ◌∙◌}
use Rattle.std.specs.Prelude.{IfOk}
use Rattle.std.specs.Str.{IsUtf8}
use Rattle.std.proofs.lemmas.List.{append_assoc}
use Rattle.std.proofs.lemmas.List.Elements.{All-cons, All-nil}
use Rattle.csv.specs.Writing.{is_blank, row_body}
use Rattle.gtfs_tables.specs.Writing.{record_text, record_writer}

-- a record without its line end
abbrev pub front_of : List (List ℕ) → List ℕ
front_of fields = row_body record_writer fields ++ cond (is_blank record_writer fields) (34 ∷ 34 ∷ []) []

pub record-ends : (fields : List (List ℕ)) → record_text fields ≡ front_of fields ++ 10 ∷ []
record-ends fields = sym (append_assoc (row_body record_writer fields) (cond (is_blank record_writer fields) (34 ∷ 34 ∷ []) []) (10 ∷ []))

pub copied-line : {E : Type 0} (result : Result (List ℕ) E) (line text : List ℕ) → IfOk result (λ copy. copy ≡ line)
    → line ++ 10 ∷ [] ≡ text → IfOk result (λ copy. copy ++ 10 ∷ [] ≡ text)
copied-line (Ok copy) line text is whole = ap (λ l. l ++ 10 ∷ []) is ∙ whole
copied-line (Err e) line text is whole = tt

pub two-texts : (a b : List ℕ) → IsUtf8 a → IsUtf8 b → All IsUtf8 (a ∷ b ∷ [])
two-texts a b first second = All-cons IsUtf8 a (b ∷ []) first (All-cons IsUtf8 b [] second (All-nil IsUtf8))

pub three-texts : (a b c : List ℕ) → IsUtf8 a → IsUtf8 b → IsUtf8 c → All IsUtf8 (a ∷ b ∷ c ∷ [])
three-texts a b c first second third = All-cons IsUtf8 a (b ∷ c ∷ []) first (two-texts b c second third)

pub six-texts : (a b c d e f : List ℕ) → IsUtf8 a → IsUtf8 b → IsUtf8 c → IsUtf8 d → IsUtf8 e → IsUtf8 f
    → All IsUtf8 (a ∷ b ∷ c ∷ d ∷ e ∷ f ∷ [])
six-texts a b c d e f first second third fourth fifth sixth =
    All-cons IsUtf8 a (b ∷ c ∷ d ∷ e ∷ f ∷ []) first
    (All-cons IsUtf8 b (c ∷ d ∷ e ∷ f ∷ []) second (All-cons IsUtf8 c (d ∷ e ∷ f ∷ []) third (three-texts d e f fourth fifth sixth)))
