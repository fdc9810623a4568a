use Rattle.std.proofs.Common.{◌≡◌, ◌++◌, get_or, sym, ap, ◌∙◌, append_assoc, arith}
use Rattle.std.proofs.lemmas.List.{append-nil}
use Rattle.std.specs.Prelude.{string_bytes}
use Rattle.deadhead_matrix.specs.Matrix.{walk}
use Rattle.trip_model.specs.Timetable.{slot_at}
use Rattle.block_build.specs.Lines.{joint, trip_text}
use Rattle.block_build.proofs.LinesWritten.{joint-after, joint-first, trips-more, trips-written}
use Rattle.block_build.proofs.lines.push_trips.Goals as goal
use Rattle.block_build.proofs.lines.push_trips.Goals.{then-n-gt0+in_ok-push_joint, else-n-gt0}

pub loop-n-preserved : goal.loop-n-preserved
loop-n-preserved c =
    let t = c.args.timetable.now in
    let walks = walk c.args.matrix.now in
    let block = c.args.block.now in
    let joined : string_bytes c.if-n-gt0.text ≡ string_bytes c.loop-n.text ++ joint t walks block c.loop-n.n = elim c.if-n-gt0.branch [
      | then-n-gt0+in_ok-push_joint w ↦
          ap string_bytes w.text-is ∙ w.in_ok-push_joint.ensures
          ∙ ap (λ xs. string_bytes c.loop-n.text ++ xs) (sym (joint-after t walks block c.loop-n.n w.if-n-gt0.true))
      | else-n-gt0 w ↦
          ap string_bytes w.text-is ∙ sym (append-nil (string_bytes c.loop-n.text))
          ∙ ap (λ xs. string_bytes c.loop-n.text ++ xs) (sym (joint-first t walks block c.loop-n.n w.if-n-gt0.false))
    ] in
    trips-more t walks block (string_bytes c.args.text.now) (string_bytes c.loop-n.text) (string_bytes c.push_trip.new.text) c.loop-n.n
    c.loop-n.invariant
    (c.in_ok-push_trip.ensures ∙ ap (λ xs. xs ++ trip_text (slot_at t (get_or block c.loop-n.n 0))) joined
    ∙ append_assoc (string_bytes c.loop-n.text) (joint t walks block c.loop-n.n) (trip_text (slot_at t (get_or block c.loop-n.n 0))))

pub returns : goal.returns
returns c =
    trips-written c.args.timetable.now (walk c.args.matrix.now) c.args.block.now (string_bytes c.args.text.now)
    (string_bytes c.loop-n.text) c.loop-n.n (omega arith) c.loop-n.invariant
