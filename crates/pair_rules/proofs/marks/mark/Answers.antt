use Rattle.std.proofs.Common.{unwrap_or, ap, ◌∙◌, string_bytes}
use Rattle.std.specs.Map.{lookup}
use Rattle.std.specs.Str.{bytes_eq}
use Rattle.indexmap.specs.IndexMap.{insert_entry}
use Rattle.pair_rules.specs.Marks.{no_marks, joined, marked_in}
use Rattle.pair_rules.proofs.Numbers.{insert-marked_in, place-names_in}
use Rattle.pair_rules.proofs.marks.mark.Goals as goal

pub returns-clause-marked : goal.returns-clause-marked
returns-clause-marked c =
    let put = rw c.unwrap-number.ensures at c.insert_full.ensures.entries in
    let known = c.marks_of.ensures
    ∙ ap (λ name. unwrap_or (lookup (bytes_eq name) (marked_in c.args.names.now.entries)) no_marks) c.as_str.ensures.value in
    ap marked_in put
    ∙ insert-marked_in c.args.names.now.entries c.args.name c.joined-marks.result
    ∙ ap (insert_entry bytes_eq (marked_in c.args.names.now.entries) (string_bytes c.args.name))
    (c.joined-marks.ensures ∙ ap (λ marks. joined marks c.args.marks) known)

pub returns-clause-number : goal.returns-clause-number
returns-clause-number c =
    let index = rw c.unwrap-number.ensures at c.insert_full.ensures.index in
    index ∙ place-names_in (bytes_eq (string_bytes c.args.name)) c.args.names.now.entries
