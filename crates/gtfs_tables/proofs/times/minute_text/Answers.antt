use Rattle.std.proofs.Common.{◌<◌, ◌^◌, ◌/◌, ◌%◌, arith}
use Rattle.gtfs_tables.proofs.TwoDigits.{styled-decimal}
use Rattle.gtfs_tables.proofs.times.minute_text.Goals as goal

pub returns : goal.returns
returns c =
    let hours : c.args.minute / 60 < 2 ^ 64 = omega arith in
    let minutes : c.args.minute % 60 < 2 ^ 64 = omega arith in
    rw (
      c.wrap.ensures,
      c.in_ok-format.ensures.ok,
      c.laid_out.ensures,
      c.laid_out-2.ensures,
      styled-decimal _ hours,
      styled-decimal _
          minutes,
    )
