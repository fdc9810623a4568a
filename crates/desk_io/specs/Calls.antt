-- Which calls of an object in memory fail: those that are listed, counted from 1, and no others.
use Rattle.std.specs.Prelude.{ℕ, Bool, ◌==◌, List}
use Rattle.std.specs.List.{list_any}
use Rattle.desk_io.specs.Faults.{one_more}

-- which calls are to fail, how many were made, and how many faults were counted
pub record CallCount : Type 0 where
  pub listed : List ℕ
  pub made : ℕ
  pub faults : ℕ

abbrev pub calls_at_first : List ℕ → CallCount
calls_at_first listed = record { listed = listed; made = 0; faults = 0 }

-- the next call is listed
abbrev pub fails_next : CallCount → Bool
fails_next calls = list_any (λ number. number == one_more calls.made) calls.listed

abbrev pub after_call : CallCount → CallCount
after_call calls = record calls { made = one_more calls.made }

abbrev pub after_fault : CallCount → CallCount
after_fault calls = record calls { faults = one_more calls.faults }
