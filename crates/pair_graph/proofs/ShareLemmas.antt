-- What the pairs of a column share tells what each of them saves.
use Rattle.std.proofs.Common.{◌≡◌, ℕ, ◌+◌, ◌-◌, ◌<◌, ◌≤◌, nat_le, Bool, true, false, cond, Option, None, Some, refl, sym, ap, ◌∙◌, ⊎_elim}
use Rattle.std.proofs.Common.{arith}
use Rattle.std.specs.Option.{option_map}
use Rattle.std.proofs.lemmas.Bool.{cases_lt, le-leb, lt-leb}
use Rattle.trip_model.specs.declared.trip.Move.{Move}
use Rattle.deadhead_matrix.specs.Fitting.{in_time}
use Rattle.pair_graph.specs.declared.share.Share.{Share}
use Rattle.pair_graph.specs.Shares.{saved_along}

-- seen backward, a walk fits where it fits seen forward
fits-backward : (arrives leaves ready walk : ℕ) → arrives ≤ 8191 → leaves ≤ 8191 → ready ≡ 8191 - leaves
    → nat_le (arrives + walk) leaves ≡ nat_le (ready + walk) (8191 - arrives)
fits-backward arrives leaves ready walk ends begins is = ⊎_elim
    (λ (late : leaves < arrives + walk). lt-leb (arrives + walk) leaves late
    ∙ sym (lt-leb (ready + walk) (8191 - arrives) (omega (arith, late, is, ends, begins))))
    (λ (in-time : arrives + walk ≤ leaves). le-leb (arrives + walk) leaves in-time
    ∙ sym (le-leb (ready + walk) (8191 - arrives) (omega (arith, in-time, is, ends, begins))))
    (cases_lt leaves (arrives + walk))

-- what is saved along a walk to a column
pub saved-entering : (before after : Move) (share : Share) (home out : ℕ) (walk : Option ℕ) → before.arrives ≤ 8191 → after.leaves ≤ 8191
    → share.ready ≡ 8191 - after.leaves → share.saved ≡ 67108864 + out
    → option_map (λ minutes. 67108864 + home + out - minutes) (in_time before after walk)
    ≡ saved_along share home walk (8191 - before.arrives)
saved-entering before after share home out None ends begins ready saved = refl
saved-entering before after share home out (Some minutes) ends begins ready saved =
    mapped (nat_le (before.arrives + minutes) after.leaves)
    ∙ ap (λ b. cond b (Some (share.saved + home - minutes)) None)
    (fits-backward before.arrives after.leaves share.ready minutes ends begins ready)
  where
    mapped : (b : Bool) → option_map (λ m. 67108864 + home + out - m) (cond b (Some minutes) None)
        ≡ cond b (Some (share.saved + home - minutes)) None
    mapped true = ap Some (omega (arith, saved))
    mapped false = refl
