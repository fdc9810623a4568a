use Rattle.std.proofs.Common.{take, length, Err, refl, arith, sym, ap, ◌∙◌, subst}
use Rattle.std.proofs.lemmas.List.{take_all}
use Rattle.std.proofs.lemmas.List.Sums.{fold_more}
use Rattle.std.proofs.lemmas.Option.{slice_get_read}
use Rattle.desk_io.specs.History.{Call, Write}
use Rattle.desk_io.specs.Shelf.{with_file, WriteFailed, Writes}
use Rattle.desk_run.specs.Becomes.{with_writing, with_writings}
use Rattle.desk_run.specs.declared.outcome.Writing.{Writing}
use Rattle.desk_run.proofs.OneByOne.{one_more, stopped}
use Rattle.desk_run.proofs.carrying.write_all.Goals as goal

abbrev write : Writing → Call
write writing = Write writing.name writing.bytes

pub loop-writing-preserved : goal.loop-writing-preserved
loop-writing-preserved g c =
    let i = c.loop-writing.writing-index in
    let before = g.S.Shelf.state c.args.shelf.now in
    let writing = c.writing-item.result in
    record {
      written = c.in-Ok.ensures.writes ∙ ap (with_file writing.name writing.bytes) c.loop-writing.invariant.written
          ∙ ap (with_writing (with_writings (take i c.args.writes.now) before)) c.writing-item.is
          ∙ sym (fold_more with_writing before c.args.writes.now i writing c.loop-writing-test.true);
      noted = one_more write c.args.writes.now _ _ _ i _ _ c.loop-writing.invariant.noted c.write_one.ensures.noted
          c.loop-writing-test.true c.writing-item.is;
    }

pub returns-in-Err-Failed-clause-writes : goal.returns-in-Err-Failed-clause-writes
returns-in-Err-Failed-clause-writes g c = record {
  count = c.loop-writing.writing-index;
  failed = c.writing-item.result;
  which = slice_get_read c.args.writes.now (length c.args.writes.now) c.loop-writing.writing-index c.writing-item.result refl
      c.loop-writing-test.true c.writing-item.is;
  shelf = subst (λ shelf. WriteFailed c.writing-item.result.name shelf (g.S.Shelf.state c.write_one.new.shelf))
      c.loop-writing.invariant.written
      (subst (λ fault. Writes {T = Unit {0}} c.writing-item.result.name c.writing-item.result.bytes (Err fault)
      (g.S.Shelf.state c.loop-writing.shelf) (g.S.Shelf.state c.write_one.new.shelf)) c.in-Err-Failed.field-0-is
      c.in-Err-Failed.ensures.writes);
}

pub returns-in-Err-Memory-clause-writes : goal.returns-in-Err-Memory-clause-writes
returns-in-Err-Memory-clause-writes g c = record {
  so = record {
    count = c.loop-writing.writing-index;
    shelf = subst (λ fault. Writes {T = Unit {0}} c.writing-item.result.name c.writing-item.result.bytes (Err fault)
        (g.S.Shelf.state c.loop-writing.shelf) (g.S.Shelf.state c.write_one.new.shelf)) c.in-Err-Memory.field-0-is
        c.in-Err-Memory.ensures.writes
        ∙ c.loop-writing.invariant.written;
  };
  more = c.loop-writing-test.true;
}

pub returns-clause-writes : goal.returns-clause-writes
returns-clause-writes g c =
    c.loop-writing.invariant.written
    ∙ ap (λ writes. with_writings writes (g.S.Shelf.state c.args.shelf.now))
    (take_all c.loop-writing.writing-index c.args.writes.now (omega (arith, c.loop-writing-test.false)))

pub returns-in-Err-Failed-clause-come : goal.returns-in-Err-Failed-clause-come
returns-in-Err-Failed-clause-come g c =
    stopped write c.args.writes.now _ _ _ c.loop-writing.writing-index _ _ c.loop-writing.invariant.noted c.write_one.ensures.noted
    c.loop-writing-test.true c.writing-item.is

pub returns-in-Err-Memory-clause-come : goal.returns-in-Err-Memory-clause-come
returns-in-Err-Memory-clause-come g c =
    stopped write c.args.writes.now _ _ _ c.loop-writing.writing-index _ _ c.loop-writing.invariant.noted c.write_one.ensures.noted
    c.loop-writing-test.true c.writing-item.is
