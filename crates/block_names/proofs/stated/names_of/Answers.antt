use Rattle.std.proofs.Common.{◌≡◌, ◌+◌, fold, get_or, drop, subst, sym, ap, ◌∙◌}
use Rattle.std.specs.Prelude.{All, IsUtf8}
use Rattle.std.proofs.lemmas.List.{drop_more, take_all}
use Rattle.std.proofs.lemmas.List.Elements.{All-more}
use Rattle.desk_settings.specs.Names.{with_name}
use Rattle.block_names.proofs.stated.names_of.Goals as goal

pub loop-name-preserved : goal.loop-name-preserved
loop-name-preserved c =
    let stated = c.args.stated.now in
    let i = c.loop-name.name-index in
    let item = c.name-item.result in
    let same : c.text_of.result.now ≡ get_or stated i item = c.text_of.ensures.same ∙ c.name-item.is in
    let text : IsUtf8 (get_or stated i item) = subst IsUtf8 c.name-item.is c.text_of.ensures.text in (
      ap (λ names. fold with_name names (drop (i + 1) stated)) (c.in_ok-add.ensures.added ∙ ap (with_name c.loop-name.names) same)
          ∙ sym (ap (fold with_name c.loop-name.names) (drop_more stated i item c.loop-name-test.true))
          ∙ c.loop-name.invariant.0,
      All-more IsUtf8 stated i item c.loop-name-test.true c.loop-name.invariant.1 text,
    )

pub returns-clause-text : goal.returns-clause-text
returns-clause-text c =
    subst (All IsUtf8) (take_all c.loop-name.name-index c.args.stated.now c.loop-name-test.false) c.loop-name.invariant.1
