use Rattle.deadhead_matrix.proofs.NamedLemmas.{record-gained}
use Rattle.deadhead_matrix.proofs.read.ReadingTracedReader.record.Goals as goal

pub returns-in_err-tos-clause-changes : goal.returns-in_err-tos-clause-changes
returns-in_err-tos-clause-changes c =
    record-gained c.args.self.now.classes.items c.args.columns.now c.args.row.now c.in_ok-from.from.now c.in_ok-from.to.now
    c.args.self.now.timetable c.places_of.new.timetable c.places_of-2.new.timetable
    c.in_ok-from.ensures.from c.in_ok-from.ensures.to (rw c.deref.ensures.value at c.places_of.ensures.gained)
    (rw c.deref-2.ensures.value at c.places_of-2.ensures.gained)

pub returns-in_err-add_record-clause-changes : goal.returns-in_err-add_record-clause-changes
returns-in_err-add_record-clause-changes c =
    record-gained c.args.self.now.classes.items c.args.columns.now c.args.row.now c.in_ok-from.from.now c.in_ok-from.to.now
    c.args.self.now.timetable c.places_of.new.timetable c.places_of-2.new.timetable
    c.in_ok-from.ensures.from c.in_ok-from.ensures.to (rw c.deref.ensures.value at c.places_of.ensures.gained)
    (rw c.deref-2.ensures.value at c.places_of-2.ensures.gained)

pub returns-then-is_empty-clause-changes : goal.returns-then-is_empty-clause-changes
returns-then-is_empty-clause-changes c =
    record-gained c.args.self.now.classes.items c.args.columns.now c.args.row.now c.in_ok-from.from.now c.in_ok-from.to.now
    c.args.self.now.timetable c.places_of.new.timetable c.places_of-2.new.timetable
    c.in_ok-from.ensures.from c.in_ok-from.ensures.to (rw c.deref.ensures.value at c.places_of.ensures.gained)
    (rw c.deref-2.ensures.value at c.places_of-2.ensures.gained)

pub returns-clause-changes : goal.returns-clause-changes
returns-clause-changes c =
    record-gained c.args.self.now.classes.items c.args.columns.now c.args.row.now c.in_ok-from.from.now c.in_ok-from.to.now
    c.args.self.now.timetable c.places_of.new.timetable c.places_of-2.new.timetable
    c.in_ok-from.ensures.from c.in_ok-from.ensures.to (rw c.deref.ensures.value at c.places_of.ensures.gained)
    (rw c.deref-2.ensures.value at c.places_of-2.ensures.gained)
