use Rattle.std.proofs.Common.{◌≡◌, ◌∷◌, [], ◌++◌, ap, ◌∙◌}
use Rattle.std.specs.Prelude.{string_bytes}
use Rattle.deadhead_matrix.specs.Pulls.{pull_at}
use Rattle.trip_model.specs.declared.trip.Trip.{Trip}
use Rattle.block_build.specs.Lines.{block_line, pull_in, pull_in_text, pull_out, pull_out_text}
use Rattle.block_build.specs.Names.{block_name}
use Rattle.block_build.proofs.LinesWritten.{line-written}
use Rattle.block_build.proofs.lines.push_block.Goals as goal

pub returns : goal.returns
returns c =
    let t = c.args.named.now.timetable.now in
    let m = c.args.named.now.matrix.now in
    let margin = c.args.margin.now in
    let name = block_name c.args.named.now.names.now c.args.number in
    let block = c.block-block.result.now in
    let out : c.pull_out.result ≡ pull_out t m.pulls block =
    c.pull_out.ensures.value ∙ ap (λ (trip : Trip). (pull_at m.pulls trip.from).pull_out) c.trip-first.ensures.value in
    let home : c.pull_in.result ≡ pull_in t m.pulls block =
    c.pull_in.ensures.value ∙ ap (λ (trip : Trip). (pull_at m.pulls trip.to).pull_in) c.trip-last.ensures.value in
    line-written t m margin name block (string_bytes c.args.text.now) (string_bytes c.write.new.self)
    (string_bytes c.push_pull_out.new.text) (string_bytes c.push_trips.new.text) (string_bytes c.push_pull_in.new.text)
    (string_bytes c.push_str.new.self)
    (c.in_ok-write.ensures.bytes ∙ ap (λ name. string_bytes c.args.text.now ++ (margin ++ (name ++ 58 ∷ 32 ∷ []))) c.name.ensures)
    (c.in_ok-push_pull_out.ensures
    ∙ ap (λ minutes. string_bytes c.write.new.self ++ pull_out_text minutes) out) c.in_ok-push_trips.ensures
    (c.in_ok-push_pull_in.ensures ∙ ap (λ minutes. string_bytes c.push_trips.new.text ++ pull_in_text minutes) home)
    c.in_ok-push_str.ensures.bytes
    ∙ ap (λ block. string_bytes c.args.text.now ++ block_line t m margin name block) c.block-block.ensures.block
