use Rattle.std.proofs.Common.{◌≡◌, ap, ◌∙◌, arith}
use Rattle.desk_io.specs.MemoryShelf.{files_of}
use Rattle.desk_io.proofs.OthersStay.{others_stay}
use Rattle.desk_io.proofs.memory_shelf.MemoryShelfShelf.write.Goals as goal

pub returns-then-fails-2-clause-writes : goal.returns-then-fails-2-clause-writes
returns-then-fails-2-clause-writes c =
    let laid = c.in_ok-lay.ensures in
    let counted : c.lay.new.self.writes.faults ≡ c.args.self.now.writes.faults =
    ap (λ calls. calls.faults) (laid.writes ∙ c.enter-fails.ensures.counted) in
    let faults = ap (λ calls. calls.faults) c.fault.ensures.counted in
    record {
      others = others_stay c.args.name.now c.if-fails.kept.now (files_of c.args.self.now) (files_of c.lay.new.self)
          (ap (λ state. state.files) laid.laid);
      read_faults = ap (λ calls. calls.faults) laid.reads;
      never_falls = omega (arith, counted, c.fault.ensures.never_falls);
      rose = omega (arith, counted, faults);
    }
