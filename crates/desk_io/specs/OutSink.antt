-- What standard output is seen as: it tells nothing of what it has taken, counts its faults, and tells which calls came, and what was
-- asked of the system in each.
use Rattle.std.specs.Prelude.{◌≡◌, ℕ, nat_lt, List, [], ◌∷◌, ◌++◌, None, Result, Ok, Err, if◌then◌else◌}
use Rattle.desk_io.specs.History.{Call}
use Rattle.desk_io.specs.Sink.{SinkState}
use Rattle.desk_io.specs.System.{Asked, Print, count_by, refused_by}
use Rattle.desk_io.specs.declared.out_sink.OutSink.{OutSink}
use Rattle.desk_io.specs.declared.sink.SinkFault.{SinkFault}
use Rattle.desk_io.specs.declared.sink.SinkFault.TheVariants.{Failed}
use Rattle.desk_io.specs.declared.system_call.Refusal.{Refusal}

abbrev pub out_state_of : {Y File : Type 0} → OutSink Y File → SinkState
out_state_of sink = record { written = None; faults = sink.faults }

abbrev pub out_history_of : {Y File : Type 0} → OutSink Y File → List Call
out_history_of sink = sink.history.calls

-- the system that it asks
abbrev pub out_system_of : {Y File : Type 0} → OutSink Y File → Y
out_system_of sink = sink.system

-- what a put answers by what the system took: none is a fault
abbrev pub put_by : Result ℕ Refusal → Result ℕ SinkFault
put_by (Ok count) = if nat_lt 0 count then Ok count else Err Failed
put_by (Err why) = Err Failed

-- a put answers what the system answered, which was asked to print this piece, once
abbrev pub AsksToPut : List ℕ → Result ℕ SinkFault → List Asked → List Asked → Type 0
AsksToPut piece result before after =
    (answer : Result ℕ Refusal) × (after ≡ before ++ Print piece (count_by answer) (refused_by answer) ∷ []) × (result ≡ put_by answer)
