-- What the system of a runtime is seen as: what it was asked, and what it answered.
use Rattle.std.specs.Prelude.{List}
use Rattle.desk_io.specs.System.{Asked}
use Rattle.desk_io.specs.declared.system.Host.{Host}

abbrev pub host_trace_of : {R File Dir : Type 0} → Host R File Dir → List Asked
host_trace_of host = host.trace.asked
