use Rattle.std.proofs.Common.{◌≡◌, ℕ, ◌+◌, ◌<◌, ◌^◌, [], List, None, length, map, get_or, option_map, sym, ap, subst}
use Rattle.std.proofs.Common.{◌∙◌, arith}
use Rattle.std.specs.Prelude.{All, IsUtf8}
use Rattle.std.specs.List.{range_with_len}
use Rattle.std.proofs.lemmas.List.FromFn.{get_or-map-range_with_len, length-map-range_with_len}
use Rattle.desk_settings.specs.Names.{each_once}
use Rattle.desk_settings.specs.Selected.{slot_field}
use Rattle.block_build.specs.Names.{AreBlockNames}
use Rattle.block_names.specs.Names.{NamingView, taken_by}
use Rattle.block_names.specs.Numbered.{block_asked, number_of_name, slot_taken}
use Rattle.block_names.proofs.NumberedLemmas.{taken-made}
use Rattle.block_names.proofs.StepLemmas.{names-all, names-more}
use Rattle.block_names.proofs.naming.Naming.names.Goals as goal

pub loop-number-preserved : goal.loop-number-preserved
loop-number-preserved c =
    let stated = c.args.self.now.stated in
    let blocks = c.args.blocks.now in
    let k = c.loop-number.number in
    let n = length blocks in
    let view = ap (λ (n : NamingView). n.stated) c.self.view_is in
    let held = c.deref-in-loop-number-3.ensures.value ∙ view in
    let prefix = c.text_of-prefix.ensures.same ∙ ap (λ (n : NamingView). n.prefix) c.self.view_is in
    let lt : k < n = omega (arith, c.loop-number-test.true, c.len-number-end.ensures.count) in
    let long = length-map-range_with_len (taken_by stated blocks) 0 n in
    let names = c.in_ok-stated.ensures.names ∙ ap each_once (c.deref.ensures.value ∙ view) in
    let numbers : c.in_ok-numbers.numbers.items ≡ map (number_of_name c.in_ok-stated.stated) stated =
    c.in_ok-numbers.ensures ∙ ap (map (number_of_name c.in_ok-stated.stated)) (c.deref-2.ensures.value ∙ view) in
    let asked : c.in_ok-asked.asked.items
    ≡ map (block_asked c.in_ok-numbers.numbers.items blocks) (range_with_len 0 (length c.in_ok-stated.stated)) =
    c.in_ok-asked.ensures
    ∙ (λ i. map (block_asked (c.deref-3.ensures.value i) blocks) (range_with_len 0 (c.len.ensures.count i))) in
    let found : c.slot_taken-taken.result ≡ slot_taken c.in_ok-numbers.numbers.items c.in_ok-asked.asked.items k (get_or blocks k []) =
    c.slot_taken-taken.ensures
    ∙ (λ i. slot_taken (c.deref-in-loop-number.ensures.value i) (c.deref-in-loop-number-2.ensures.value i) k (c.block.ensures i)) in
    let takes : option_map (slot_field stated) c.slot_taken-taken.result
    ≡ get_or (map (taken_by stated blocks) (range_with_len 0 n)) k None =
    ap (option_map (slot_field stated)) found
    ∙ taken-made stated blocks c.in_ok-stated.stated c.in_ok-numbers.numbers.items c.in_ok-asked.asked.items k names numbers asked
    ∙ sym (get_or-map-range_with_len (taken_by stated blocks) 0 n k k None lt (omega arith)) in
    record {
      told = names-more c.in_ok-stated.stated stated _ c.loop-number.names.items _ _ c.args.self.now.prefix _ c.in_ok-name.name
          c.loop-number.untried.number c.loop-number.untried.left _ _ k c.slot_taken-taken.result
          (map (taken_by stated blocks) (range_with_len 0 n))
          prefix held (omega (arith, lt, long)) takes c.loop-number.invariant.told c.in_ok-name.ensures.name c.in_ok-push.ensures.items;
      room = c.next_name.ensures.room ∙ c.loop-number.invariant.room;
    }

pub returns-clause-names : goal.returns-clause-names
returns-clause-names c =
    let naming = c.args.self.now in
    let view = ap (λ (n : NamingView). n.stated) c.self.view_is in
    let names = c.in_ok-stated.ensures.names ∙ ap each_once (c.deref.ensures.value ∙ view) in
    let end : c.loop-number.number ≡ length c.args.blocks.now =
    omega (arith, c.loop-number-test.false, c.loop-number.auto.number-end, c.len-number-end.ensures.count) in
    c.of.ensures
    ∙ names-all naming c.args.blocks.now c.in_ok-stated.stated c.loop-number.names.items _ c.loop-number.number names end
    c.loop-number.invariant.told

pub returns-clause-valid : goal.returns-clause-valid
returns-clause-valid c =
    let naming = c.args.self.now in
    let blocks = c.args.blocks.now in
    let stated : c.deref.result.now ≡ naming.stated = c.deref.ensures.value ∙ ap (λ (n : NamingView). n.stated) c.self.view_is in
    let texts : All IsUtf8 naming.stated = subst (All IsUtf8) stated c.in_ok-stated.ensures.text in
    let prefix : IsUtf8 naming.prefix = subst IsUtf8 (ap (λ (n : NamingView). n.prefix) c.self.view_is) c.text_of-prefix.ensures.text in
    let long = ap (λ (xs : List (List ℕ)). length xs) stated in
    let small : length blocks + length naming.stated < 10 ^ 64 = omega (arith, c.len-2.ensures.count, long) in
    subst (AreBlockNames (length blocks)) (sym (returns-clause-names c)) (c.naming_law.ensures naming blocks prefix texts small)
