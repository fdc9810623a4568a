use Rattle.std.proofs.Common.{◌+◌, ◌∷◌, ◌++◌, [], sym, ap, subst, ◌∙◌, arith}
use Rattle.std.proofs.lemmas.List.FromFn.{map-range_with_len_more}
use Rattle.feed_likings.specs.Alike.{first_alike, noted_number, with_slot}
use Rattle.feed_likings.proofs.AlikeLemmas.{AreNoted, noted-more, number-noted}
use Rattle.feed_likings.proofs.alike.first_alike.Goals as goal

pub loop-slot-preserved : goal.loop-slot-preserved
loop-slot-preserved c =
    let fields = c.args.fields.now in
    let s = c.loop-slot.slot in
    let field = c.at.ensures in
    let noted = c.in_ok-note.ensures.noted ∙ ap (λ f. with_slot c.loop-slot.firsts f s) field in
    let so_far = subst (AreNoted fields (s + 1)) (sym noted) (noted-more fields s c.loop-slot.firsts c.loop-slot.invariant.1) in
    let number = c.in_ok-note.ensures.number ∙ ap (noted_number c.note.new.self) field
    ∙ number-noted fields s c.note.new.self so_far in (
      c.in_ok-push.ensures.items
          ∙ (λ i. c.loop-slot.invariant.0 i ++ number i ∷ [])
          ∙ sym (map-range_with_len_more (first_alike fields) 0 s s (omega arith)),
      so_far,
    )
