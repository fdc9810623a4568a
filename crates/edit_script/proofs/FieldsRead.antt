-- What the bytes of a field are read as.
use Rattle.std.proofs.Common.{◌≡◌, List, ℕ, cond, Some, None, ap}
use Rattle.std.specs.Str.{IsUtf8, is_utf8}
use Rattle.std.proofs.lemmas.Bool.{false_from_ne_true}
use Rattle.std.proofs.lemmas.Str.{IsUtf8-from_is_utf8, is_utf8-from_IsUtf8}
use Rattle.edit_script.specs.Forms.{text_in}

pub text-utf8 : (field : List ℕ) → IsUtf8 field → text_in field ≡ Some field
text-utf8 field is = ap (λ b. cond b (Some field) None) (is_utf8-from_IsUtf8 field is)

pub text-other : (field : List ℕ) → ¬ IsUtf8 field → text_in field ≡ None
text-other field is_not = ap (λ b. cond b (Some field) None)
    (false_from_ne_true (is_utf8 field) (λ is. is_not (IsUtf8-from_is_utf8 field is)))
