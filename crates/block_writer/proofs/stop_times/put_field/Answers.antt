use Rattle.std.proofs.Common.{map, set, ap, ◌∙◌}
use Rattle.std.proofs.lemmas.List.{map-set}
use Rattle.block_writer.proofs.stop_times.put_field.Goals as goal

pub returns-then-place-len : goal.returns-then-place-len
returns-then-place-len c =
    map-set (λ field. field.now) c.args.fields.now.items c.args.place c.as_bytes.result
    ∙ ap (λ field. set (map (λ field. field.now) c.args.fields.now.items) c.args.place field) c.as_bytes.ensures.value
