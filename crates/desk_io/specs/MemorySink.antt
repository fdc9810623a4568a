-- What a sink in memory has taken, and which of its puts fail.
use Rattle.std.specs.Prelude.{ℕ, min, Bool, ◌==◌, ◌||◌, List, length, Some}
use Rattle.desk_io.specs.Calls.{CallCount, fails_next}
use Rattle.desk_io.specs.History.{Call}
use Rattle.desk_io.specs.Sink.{SinkState}
use Rattle.desk_io.specs.declared.memory_sink.MemorySink.{MemorySink}

-- which puts are to fail, and how many came
abbrev pub puts_of : MemorySink → CallCount
puts_of sink = sink.puts

-- the most bytes that one put takes
abbrev pub chunk_of : MemorySink → ℕ
chunk_of sink = sink.chunk

-- how many bytes more can be taken
abbrev pub room_of : MemorySink → ℕ
room_of sink = sink.room

abbrev pub sink_state_of : MemorySink → SinkState
sink_state_of sink = record { written = Some sink.taken.items; faults = sink.puts.faults }

abbrev pub sink_history_of : MemorySink → List Call
sink_history_of sink = sink.history.calls

-- a put takes the least of the chunk, the piece and the room
abbrev pub taken_by_put : MemorySink → List ℕ → ℕ
taken_by_put sink piece = min (min sink.chunk (length piece)) sink.room

-- the next put fails: it is listed, or there is no room
abbrev pub fails_put : MemorySink → Bool
fails_put sink = fails_next sink.puts || (sink.room == 0)
