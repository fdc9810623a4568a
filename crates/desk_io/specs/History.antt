-- Which calls came to a shelf, a sink or a keeper, each with what it was given, and of a read or a load what it answered.
use Rattle.std.specs.Prelude.{◌≡◌, ℕ, ◌==◌, cond, List, [], ◌∷◌, ◌++◌, get_or, Option, None, Some, Result, Ok, Err, refl}
use Rattle.std.specs.Coded.{Coded, code_by, coded×, coded_ℕ, coded_list}
use Rattle.std.specs.Result.{result_ok}
use Rattle.desk_io.specs.declared.request.LoadAnswer.{LoadAnswer}
use Rattle.desk_io.specs.declared.request.LoadAnswer.TheVariants as answer
use Rattle.desk_io.specs.declared.request.Request.{Request}
use Rattle.desk_io.specs.declared.request.Request.TheVariants as request
use Rattle.desk_io.specs.declared.shelf.Found.{Found}
use Rattle.desk_io.specs.declared.shelf.Found.TheVariants as found

-- what a load answered: the whole journal, that it has too many lines, or a refusal
pub data Loading : Type 0 where
  Lines : List (List ℕ) → Loading
  TooLong : Loading
  Refused : Loading

-- A read of the file of this name, with what was found, or None where it was refused. A write of bytes under this name, a put of this
-- piece, a load with what it answered, an append of these lines.
pub data Call : Type 0 where
  Read : List ℕ → Option Found → Call
  Write : List ℕ → List ℕ → Call
  Put : List ℕ → Call
  Load : Loading → Call
  Append : List (List ℕ) → Call

-- what is noted of the answer to a load
abbrev pub loading_of : LoadAnswer → Loading
loading_of (answer.Lines lines) = Lines lines.now
loading_of answer.TooLong = TooLong
loading_of answer.Refused = Refused

-- the call of a request
abbrev pub call_of : Request → Call
call_of (request.Read name result) = Read name.now (result_ok result.now)
call_of (request.Write name bytes) = Write name.now bytes.now
call_of (request.Put piece) = Put piece.now
call_of (request.Load answer) = Load (loading_of answer)
call_of (request.Append lines) = Append lines.now

-- the first ones of these calls came, and no others
pub record ComeFirst (calls before after : List Call) : Type 0 where
  pub made : List Call
  pub left : List Call
  pub order : calls ≡ made ++ left
  pub came : after ≡ before ++ made

-- these calls came in their order: all of them, or where the answer is an error the first ones
abbrev pub Come : {T E : Type 0} → List Call → Result T E → List Call → List Call → Type 0
Come calls (Ok x) before after = after ≡ before ++ calls
Come calls (Err e) before after = ComeFirst calls before after

-- how the logic stores a call: its kind, with the kind of its answer, and what it was given and answered
abbrev Stored : Type 0
Stored = ℕ × List (List ℕ)

abbrev stored : Call → Stored
stored (Read name None) = (0, name ∷ [])
stored (Read name (Some (found.File bytes))) = (1, name ∷ bytes ∷ [])
stored (Read name (Some found.Missing)) = (2, name ∷ [])
stored (Read name (Some found.TooLong)) = (3, name ∷ [])
stored (Write name bytes) = (4, name ∷ bytes ∷ [])
stored (Put piece) = (5, piece ∷ [])
stored (Load (Lines lines)) = (6, lines)
stored (Load TooLong) = (7, [])
stored (Load Refused) = (8, [])
stored (Append lines) = (9, lines)

abbrev call_at : Stored → Call
call_at (kind, given) =
    let text = get_or given 0 [] in let bytes = get_or given 1 [] in
    cond (kind == 0) (Read text None) (cond (kind == 1) (Read text (Some (found.File bytes)))
    (cond (kind == 2) (Read text (Some found.Missing)) (cond (kind == 3) (Read text (Some found.TooLong))
    (cond (kind == 4) (Write text bytes) (cond (kind == 5) (Put text) (cond (kind == 6) (Load (Lines given))
    (cond (kind == 7) (Load TooLong) (cond (kind == 8) (Load Refused) (Append given)))))))))

pub call_at-stored : (call : Call) → call_at (stored call) ≡ call
call_at-stored (Read name None) = refl
call_at-stored (Read name (Some (found.File bytes))) = refl
call_at-stored (Read name (Some found.Missing)) = refl
call_at-stored (Read name (Some found.TooLong)) = refl
call_at-stored (Write name bytes) = refl
call_at-stored (Put piece) = refl
call_at-stored (Load (Lines lines)) = refl
call_at-stored (Load TooLong) = refl
call_at-stored (Load Refused) = refl
call_at-stored (Append lines) = refl

abbrev pub calls_code : Coded (List Call)
calls_code = coded_list (code_by Stored (coded× coded_ℕ (coded_list (coded_list coded_ℕ))) stored call_at call_at-stored)
