use Rattle.std.proofs.Common.{◌≡◌, ℕ, List, Option, [], ◌∷◌, ◌++◌, map, sym, ap, subst, ◌∙◌, arith}
use Rattle.std.specs.Prelude.{MatchOption, ◌≢◌}
use Rattle.std.specs.Borrow.{Bor}
use Rattle.std.proofs.lemmas.Str.Pattern.{strip_suffix_char}
use Rattle.gtfs_tables.specs.Writing.{record_text}
use Rattle.edit_script.proofs.LinesWritten.{front_of, record-ends, copied-line}
use Rattle.edit_script.proofs.writing.record_line.Goals as goal

pub unreachable-requires : goal.unreachable-requires
unfolding lib.Utf8.encode
unreachable-requires c =
    let fields = map (λ field. field.now) c.args.fields.now in
    let whole : c.as_str.result.now ≡ record_text fields = c.as_str.ensures ∙ c.in_ok-text.ensures.text ∙ c.in_ok-push.ensures.pushed
    ∙ ap (λ text. text ++ record_text fields) c.new-records.ensures in
    c.in-None.ensures.cases (front_of fields) (whole ∙ record-ends fields)

pub returns : goal.returns
returns c =
    let fields = map (λ field. field.now) c.args.fields.now in
    let bytes = c.as_str.result.now in
    let whole : bytes ≡ record_text fields = c.as_str.ensures ∙ c.in_ok-text.ensures.text ∙ c.in_ok-push.ensures.pushed
    ∙ ap (λ text. text ++ record_text fields) c.new-records.ensures in
    let cut : bytes ≡ c.in-Some.line.now ++ 10 ∷ [] =
    subst (λ (found : Option (Bor (List ℕ))). MatchOption found ((front : List ℕ) → bytes ≢ front ++ (10 ∷ []))
    (λ x. bytes ≡ x.now ++ (10 ∷ []))) c.in-Some.is
    (strip_suffix_char 10 bytes c.strip_suffix.result c.strip_suffix.ensures.cases (omega arith)) in
    copied-line c.of.result c.in-Some.line.now (record_text fields) c.of.ensures (sym cut ∙ whole)
