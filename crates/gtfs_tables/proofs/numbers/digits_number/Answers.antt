use Rattle.std.proofs.Common.{◌≤◌, length, take, arith, sym}
use Rattle.std.proofs.lemmas.List.{length-take}
use Rattle.gtfs_tables.proofs.Digits.{below-power, digit-more}
use Rattle.gtfs_tables.proofs.numbers.digits_number.Goals as goal

pub overflow_mul-number : goal.overflow_mul-number
overflow_mul-number c =
    let inv = c.loop-digit.invariant in
    let few : length (take c.loop-digit.digit-index c.args.digits.now) ≤ 17 =
    omega (arith, length-take c.loop-digit.digit-index c.args.digits.now) in
    omega (arith, below-power c.loop-digit.number 17 _ inv.0 inv.1 few)

pub overflow_add-number : goal.overflow_add-number
overflow_add-number c =
    let inv = c.loop-digit.invariant in
    let few : length (take c.loop-digit.digit-index c.args.digits.now) ≤ 17 =
    omega (arith, length-take c.loop-digit.digit-index c.args.digits.now) in
    omega (arith, below-power c.loop-digit.number 17 _ inv.0 inv.1 few, c.from.ensures, c.type_inv.digits c.loop-digit.digit-index)

pub loop-digit-preserved : goal.loop-digit-preserved
loop-digit-preserved c =
    let inv = c.loop-digit.invariant in
    digit-more c.args.digits.now c.loop-digit.digit-index c.loop-digit.number c.from.result c.loop-digit-test.true
    (sym c.if-not-is_ascii_digit.ensures.value) c.from.ensures inv.0 inv.1 inv.2

pub returns-clause-bound : goal.returns-clause-bound
returns-clause-bound c =
    let inv = c.loop-digit.invariant in
    let fits : length (take c.loop-digit.digit-index c.args.digits.now) ≤ c.args.most =
    omega (arith, length-take c.loop-digit.digit-index c.args.digits.now) in
    below-power c.loop-digit.number c.args.most _ inv.0 inv.1 fits
