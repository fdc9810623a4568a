use Rattle.std.proofs.Common.{◌≡◌, ◌+◌, ◌≤◌, ◌==◌, Bool, true, false, [], take, cond, length, refl, arith, add-one, get_or}
use Rattle.std.proofs.Math.Seq.{take-suc}
use Rattle.gtfs_tables.specs.Parts.{parts, parts_after}
use Rattle.gtfs_tables.proofs.PartLemmas.{parts-more}
use Rattle.gtfs_tables.proofs.parts.count_parts.Goals as goal

at-most-one : (b : Bool) → cond b 1 0 ≤ 1
at-most-one true = omega arith
at-most-one false = omega arith

pub loop-byte-init : goal.loop-byte-init
unfolding parts_after
loop-byte-init c = (refl, omega arith)

pub loop-byte-preserved : goal.loop-byte-preserved
loop-byte-preserved c =
    let line = c.args.line.now in
    let i = c.loop-byte.byte-index in
    let is_comma = get_or line i 0 == 44 in
    let one : c.comma_count-count.result ≡ cond is_comma 1 0 = c.comma_count-count.ensures in
    let more : length (parts (take (i + 1) line)) ≡ length (parts (take i line)) + cond is_comma 1 0 =
    rw (add-one i, take-suc line i 0 c.loop-byte-test.true) (parts-more [] (take i line) (get_or line i 0)) in
    (omega (arith, one, more, c.loop-byte.invariant.0), omega (arith, one, at-most-one is_comma, c.loop-byte.invariant.1))
