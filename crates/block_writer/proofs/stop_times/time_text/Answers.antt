use Rattle.std.proofs.Common.{◌<◌, ◌^◌, ◌/◌, ◌%◌, arith}
use Rattle.gtfs_tables.proofs.TwoDigits.{styled-decimal}
use Rattle.block_writer.proofs.stop_times.time_text.Goals as goal

pub returns : goal.returns
returns c =
    let hours : c.args.seconds / 3600 < 2 ^ 64 = omega arith in
    let minutes : c.args.seconds / 60 % 60 < 2 ^ 64 = omega arith in
    let rest : c.args.seconds % 60 < 2 ^ 64 = omega arith in
    rw (
      c.wrap.ensures,
      c.in_ok-format.ensures.ok,
      c.laid_out.ensures,
      c.laid_out-2.ensures,
      c.laid_out-3.ensures,
      styled-decimal _ hours,
      styled-decimal _ minutes,
      styled-decimal _ rest,
    )
