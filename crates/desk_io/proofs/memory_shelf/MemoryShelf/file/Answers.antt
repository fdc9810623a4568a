use Rattle.std.proofs.Common.{ap, sym, ◌∙◌, Some}
use Rattle.std.specs.FinMap.{find, get-from_entries}
use Rattle.std.specs.Cmp.Lexicographic.{slice_cmp, nat_list_cmp_total}
use Rattle.std.specs.Ordering.{nat_cmp}
use Rattle.std.specs.Str.{bytes_eq}
use Rattle.std.specs.VecDeque.Iter.{deque_iter_rest}
use Rattle.desk_io.proofs.FoundFirst.{find-here, find-other}
use Rattle.desk_io.proofs.memory_shelf.MemoryShelf.file.Goals as goal

pub loop-key-init : goal.loop-key-init
loop-key-init c =
    get-from_entries nat_list_cmp_total _ _
    ∙ ap (find (slice_cmp nat_cmp) c.args.name.now) (sym c.iter-key-items.ensures.rest)
    ∙ ap (λ rest. find (slice_cmp nat_cmp) c.args.name.now (deque_iter_rest rest)) (sym c.into_iter-key-iterator.ensures.into_iter_gives)

pub returns-then-eq : goal.returns-then-eq
returns-then-eq c =
    let same = sym (ap (λ key. bytes_eq key c.args.name.now) c.as_str.ensures) ∙ sym c.eq.ensures ∙ c.if-eq.true in
    sym (c.loop-key.invariant ∙ ap (find (slice_cmp nat_cmp) c.args.name.now) c.in-Some.ensures.steps
    ∙ find-here c.args.name.now c.in-Some.field-0.now (deque_iter_rest c.next.new.self) same ∙ ap Some (sym c.as_slice.ensures))

pub loop-key-preserved : goal.loop-key-preserved
loop-key-preserved c =
    let other = sym (ap (λ key. bytes_eq key c.args.name.now) c.as_str.ensures) ∙ sym c.eq.ensures ∙ c.if-eq.false in
    c.loop-key.invariant ∙ ap (find (slice_cmp nat_cmp) c.args.name.now) c.in-Some.ensures.steps
    ∙ find-other c.args.name.now c.in-Some.field-0.now (deque_iter_rest c.next.new.self) other
