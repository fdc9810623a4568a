use Rattle.std.proofs.Common.{arith}
use Rattle.std.proofs.lemmas.Int.{ints}
use Rattle.shift_moves.proofs.search.room_of.Goals as goal

pub returns : goal.returns
returns c =
    let valid = c.requires.valid.1 in
    record {
      may_earlier = λ size h. record {
        not_too_early = omega (arith, ints, valid.not_too_early, valid.not_too_late);
        not_too_late = omega (arith, ints, valid.not_too_early, valid.not_too_late);
        departs = omega (arith, ints);
      };
      may_later = λ size h. record {
        not_too_early = omega (arith, ints, valid.not_too_early, valid.not_too_late);
        not_too_late = omega (arith, ints, valid.not_too_early, valid.not_too_late);
        departs = omega (arith, ints);
      };
      no_earlier = λ size may. omega (arith, ints, valid.not_too_early, valid.not_too_late, may.not_too_early, may.departs);
      no_later = λ size may. omega (arith, ints, valid.not_too_early, valid.not_too_late, may.not_too_late);
      most = omega (arith, ints, valid.not_too_early, valid.not_too_late, valid.early, valid.late);
    }
