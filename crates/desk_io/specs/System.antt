-- What the system was asked of files and of standard output, each with what it was given and what it answered.
use Rattle.std.specs.Prelude.{◌≡◌, ℕ, Bool, true, false, ◌==◌, cond, List, [], ◌∷◌, get_or, Option, None, Some, Result, Ok, Err, refl}
use Rattle.std.specs.Coded.{Coded, code_by, coded×, coded_ℕ, coded_list}
use Rattle.desk_io.specs.declared.system_call.Refusal.{Refusal}
use Rattle.desk_io.specs.declared.system_call.Refusal.TheVariants.{NotThere, Taken, Memory, Other}
use Rattle.desk_io.specs.declared.system_call.SystemCall.{SystemCall}
use Rattle.desk_io.specs.declared.system_call.SystemCall.TheVariants as call

-- One call, as the variants of `SystemCall` say it. The last part is why it was refused, or None where it was done.
pub data Asked : Type 0 where
  Open : List ℕ → Option Refusal → Asked
  Read : ℕ → List ℕ → Option Refusal → Asked
  Look : List ℕ → Bool → Option Refusal → Asked
  Create : List ℕ → Option Refusal → Asked
  CreateNew : List ℕ → Option Refusal → Asked
  Write : List ℕ → Option Refusal → Asked
  Sync : Option Refusal → Asked
  Rename : List ℕ → List ℕ → Option Refusal → Asked
  Remove : List ℕ → Option Refusal → Asked
  Print : List ℕ → ℕ → Option Refusal → Asked

-- what is noted of a call
abbrev pub asked_of : SystemCall → Asked
asked_of (call.Open path refused) = Open path.now refused
asked_of (call.Read most bytes refused) = Read most bytes.now refused
asked_of (call.Look path plain refused) = Look path.now plain refused
asked_of (call.Create path refused) = Create path.now refused
asked_of (call.CreateNew path refused) = CreateNew path.now refused
asked_of (call.Write bytes refused) = Write bytes.now refused
asked_of (call.Sync refused) = Sync refused
asked_of (call.Rename path other refused) = Rename path.now other.now refused
asked_of (call.Remove path refused) = Remove path.now refused
asked_of (call.Print bytes count refused) = Print bytes.now count refused

-- why a call was refused, or None where it was done
abbrev pub refused_by : {T : Type 0} → Result T Refusal → Option Refusal
refused_by (Ok x) = None
refused_by (Err refusal) = Some refusal

-- the bytes that were read; none where that was refused
abbrev pub bytes_by : Result (List ℕ) Refusal → List ℕ
bytes_by (Ok bytes) = bytes
bytes_by (Err refusal) = []

-- whether a plain file was seen
abbrev pub plain_by : Result Bool Refusal → Bool
plain_by (Ok plain) = plain
plain_by (Err refusal) = false

-- how many bytes were taken
abbrev pub count_by : Result ℕ Refusal → ℕ
count_by (Ok count) = count
count_by (Err refusal) = 0

-- how the logic stores a call: its kind, a number, why it was refused, and the texts that it was given
abbrev Stored : Type 0
Stored = (ℕ × ℕ) × (ℕ × List (List ℕ))

abbrev number_of : Option Refusal → ℕ
number_of None = 0
number_of (Some NotThere) = 1
number_of (Some Taken) = 2
number_of (Some Memory) = 3
number_of (Some Other) = 4

abbrev refusal_at : ℕ → Option Refusal
refusal_at n =
    cond (n == 0) None (cond (n == 1) (Some NotThere) (cond (n == 2) (Some Taken) (cond (n == 3) (Some Memory) (Some Other))))

refusal_at-number : (refused : Option Refusal) → refusal_at (number_of refused) ≡ refused
refusal_at-number None = refl
refusal_at-number (Some NotThere) = refl
refusal_at-number (Some Taken) = refl
refusal_at-number (Some Memory) = refl
refusal_at-number (Some Other) = refl

abbrev flag_of : Bool → ℕ
flag_of true = 1
flag_of false = 0

flag-back : (b : Bool) → (flag_of b == 1) ≡ b
flag-back true = refl
flag-back false = refl

abbrev stored : Asked → Stored
stored (Open path refused) = ((0, 0), (number_of refused, path ∷ []))
stored (Read most bytes refused) = ((1, most), (number_of refused, bytes ∷ []))
stored (Look path plain refused) = ((2, flag_of plain), (number_of refused, path ∷ []))
stored (Create path refused) = ((3, 0), (number_of refused, path ∷ []))
stored (CreateNew path refused) = ((4, 0), (number_of refused, path ∷ []))
stored (Write bytes refused) = ((5, 0), (number_of refused, bytes ∷ []))
stored (Sync refused) = ((6, 0), (number_of refused, []))
stored (Rename path other refused) = ((7, 0), (number_of refused, path ∷ other ∷ []))
stored (Remove path refused) = ((8, 0), (number_of refused, path ∷ []))
stored (Print bytes count refused) = ((9, count), (number_of refused, bytes ∷ []))

abbrev call_at : Stored → Asked
call_at ((kind, number), (refused, given)) =
    let why = refusal_at refused in let text = get_or given 0 [] in
    cond (kind == 0) (Open text why) (cond (kind == 1) (Read number text why) (cond (kind == 2) (Look text (number == 1) why)
    (cond (kind == 3) (Create text why) (cond (kind == 4) (CreateNew text why) (cond (kind == 5) (Write text why)
    (cond (kind == 6) (Sync why) (cond (kind == 7) (Rename text (get_or given 1 []) why) (cond (kind == 8) (Remove text why)
    (Print text number why)))))))))

pub call_at-stored : (asked : Asked) → call_at (stored asked) ≡ asked
call_at-stored (Open path refused) = λ i. Open path (refusal_at-number refused i)
call_at-stored (Read most bytes refused) = λ i. Read most bytes (refusal_at-number refused i)
call_at-stored (Look path plain refused) = λ i. Look path (flag-back plain i) (refusal_at-number refused i)
call_at-stored (Create path refused) = λ i. Create path (refusal_at-number refused i)
call_at-stored (CreateNew path refused) = λ i. CreateNew path (refusal_at-number refused i)
call_at-stored (Write bytes refused) = λ i. Write bytes (refusal_at-number refused i)
call_at-stored (Sync refused) = λ i. Sync (refusal_at-number refused i)
call_at-stored (Rename path other refused) = λ i. Rename path other (refusal_at-number refused i)
call_at-stored (Remove path refused) = λ i. Remove path (refusal_at-number refused i)
call_at-stored (Print bytes count refused) = λ i. Print bytes count (refusal_at-number refused i)

abbrev pub trace_code : Coded (List Asked)
trace_code = coded_list (code_by Stored (coded× (coded× coded_ℕ coded_ℕ) (coded× coded_ℕ (coded_list (coded_list coded_ℕ)))) stored call_at
    call_at-stored)
