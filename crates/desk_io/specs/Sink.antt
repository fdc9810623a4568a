-- What a sink has taken and counted, and what its calls do to that.
use Rattle.std.specs.Prelude.{◌≡◌, ℕ, ◌<◌, ◌≤◌, List, [], ◌∷◌, take, drop, length, Option, Result}
use Rattle.std.specs.Io.KnownBytes.{append_known}
use Rattle.desk_io.specs.Faults.{Rose}
use Rattle.desk_io.specs.History.{Call, Put, Come}

-- what a sink has taken, where it tells that, and how many faults it has counted
pub record SinkState : Type 0 where
  pub written : Option (List ℕ)
  pub faults : ℕ

-- the sink with these bytes appended
abbrev pub put_bytes : List ℕ → SinkState → SinkState
put_bytes bytes sink = record sink { written = append_known sink.written bytes }

-- a put failed: its count rose, and nothing was appended
pub record PutFailed (before after : SinkState) : Type 0 where
  pub written : after.written ≡ before.written
  pub never_falls : before.faults ≤ after.faults
  pub rose : Rose before.faults after.faults

-- word: put = printed to standard output
-- a text was cut short: a prefix of it was appended, and the count rose
pub record PutsPrefix (bytes : List ℕ) (before after : SinkState) : Type 0 where
  pub count : ℕ
  pub within : count ≤ length bytes
  pub written : after.written ≡ append_known before.written (take count bytes)
  pub never_falls : before.faults ≤ after.faults
  pub rose : Rose before.faults after.faults

-- the puts of a text down to what is left of it: each is given all that is left, and takes some of that
abbrev pub ArePuts : List ℕ → List ℕ → List Call → Type 0
ArePuts text left [] = left ≡ text
ArePuts text left (call ∷ calls) = (call ≡ Put text) × (count : ℕ) × (0 < count) × ArePuts (drop count text) left calls

-- the puts of a whole text came: all of them, or where the answer is an error the first ones
pub record PutsCome {T E : Type 0} (text : List ℕ) (result : Result T E) (before after : List Call) : Type 0 where
  pub puts : List Call
  pub are : ArePuts text [] puts
  pub come : Come puts result before after
