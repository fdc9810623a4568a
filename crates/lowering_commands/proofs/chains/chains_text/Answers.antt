use Rattle.std.proofs.Common.{◌≡◌, ◌+◌, ◌≤◌, ◌++◌, length, Ok, sym, ap, subst, ◌∙◌, arith}
use Rattle.std.specs.Prelude.{codes, string_bytes}
use Rattle.std.proofs.lemmas.Int.{ints}
use Rattle.std.proofs.lemmas.List.{append_assoc, length-append}
use Rattle.trip_model.specs.Deficit.{live_moves}
use Rattle.dh_chains.specs.Chains.{deadheads, moves_of}
use Rattle.dh_chains.specs.Lines.{chain_text}
use Rattle.lowering_commands.specs.Chains.{IsChainsText, with_chain}
use Rattle.lowering_commands.specs.Step.{sum_kept}
use Rattle.lowering_commands.specs.Fleet.{total_line}
use Rattle.lowering_commands.proofs.ChainsLemmas.{chain-before, deadheads-few, no-chain, sum-moves}
use Rattle.lowering_commands.proofs.FleetLemmas.{fleet-few, live-few}
use Rattle.lowering_commands.proofs.chains.chains_text.Goals as goal

pub loop-text-init : goal.loop-text-init
loop-text-init g c =
    let t = c.args.timetable.now in
    let deficits = c.args.deficits.now in
    let valid = c.places-places.ensures.valid in
    let sum = c.total-sum.result in
    let few = fleet-few (live_moves t.slots) (length deficits) sum
    (sum-moves c.held_law.ensures.total deficits (live_moves t.slots) sum valid c.requires.held c.total-sum.ensures) in
    let live = live-few t.slots in
    record {
      moves = live_moves t.slots;
      held = c.requires.held;
      valid = valid;
      rows = c.requires.rows;
      sum = sum;
      sum_is = c.total-sum.ensures;
      few = omega (arith, few, live, c.slots-slots.ensures.valid.slots);
      number = omega (arith, few, live);
      counted = omega (arith, few, live);
      text = λ rest is. subst (λ text. IsChainsText t c.args.matrix.now (live_moves t.slots) 0 (text ++ rest))
          (sym c.new-text.ensures.bytes) is;
    }

pub returns-in_err-put_next-clause-counted : goal.returns-in_err-put_next-clause-counted
returns-in_err-put_next-clause-counted g c = omega (arith, c.loop-text.invariant.counted, c.put_next.ensures.counted)

pub loop-text-preserved : goal.loop-text-preserved
loop-text-preserved g c =
    let t = c.args.timetable.now in
    let matrix = c.args.matrix.now in
    let inv = c.loop-text.invariant in
    let put = c.in_ok-put_next.ensures.some (ap Ok c.if-branch.true) in
    let fell : put.sum + 1 ≡ inv.sum = omega (arith, ints, put.sum_is, inv.sum_is, put.fell) in
    let long : length (with_chain inv.moves put.chain) ≤ length inv.moves + 3 =
    omega (arith, length-append inv.moves (moves_of (deadheads put.chain)), deadheads-few put.chain) in
    record {
      moves = with_chain inv.moves put.chain;
      held = put.held inv.moves inv.held;
      valid = c.in_ok-put_next.ensures.after;
      rows = put.places ∙ inv.rows;
      sum = put.sum;
      sum_is = put.sum_is;
      few = omega (arith, inv.few, long, fell);
      number = omega (arith, inv.number, fell);
      counted = omega (arith, inv.counted, c.in_ok-put_next.ensures.counted, fell);
      text = λ rest is.
          let line = chain_text t (c.loop-text.number + 1) put.chain put.sum in
          subst (IsChainsText t matrix (live_moves t.slots) 0)
          (sym (append_assoc (string_bytes c.loop-text.text) line rest) ∙ ap (λ text. text ++ rest) (sym put.put))
          (inv.text (line ++ rest)
          (chain-before c.held_law.ensures.total c.chain_law.ensures.held t matrix inv.moves c.loop-text.number c.loop-text.deficits
          c.put_next.new.deficits
          (string_bytes c.loop-text.text) (string_bytes c.put_next.new.text) rest c.requires.places inv.rows inv.valid
          c.in_ok-put_next.ensures.after inv.held put is));
    }

pub returns-in_err-writeln-clause-counted : goal.returns-in_err-writeln-clause-counted
returns-in_err-writeln-clause-counted g c = omega (arith, c.loop-text.invariant.counted, c.in_ok-put_next.ensures.counted)

pub returns-clause-text : goal.returns-clause-text
returns-clause-text g c =
    let t = c.args.timetable.now in
    let matrix = c.args.matrix.now in
    let inv = c.loop-text.invariant in
    let none = c.in_ok-put_next.ensures.none (ap Ok c.if-branch.false) in
    let same = c.in_ok-put_next.ensures.unchanged (ap Ok c.if-branch.false) in
    subst (IsChainsText t matrix (live_moves t.slots) 0)
    (sym (c.wrap.ensures ∙ c.in_ok-writeln.ensures.bytes
    ∙ ap (λ text. text ++ total_line (codes "chains ") c.loop-text.number c.total.result) same.1))
    (inv.text (total_line (codes "chains ") c.loop-text.number c.total.result)
    (no-chain c.held_law.ensures.total c.chain_law.ensures.held t matrix inv.moves c.loop-text.number c.total.result c.loop-text.deficits
    c.requires.places inv.rows inv.valid inv.held none
    (c.total.ensures ∙ ap sum_kept same.0)))

pub returns-clause-counted : goal.returns-clause-counted
returns-clause-counted g c = omega (arith, c.loop-text.invariant.counted, c.in_ok-put_next.ensures.counted)
