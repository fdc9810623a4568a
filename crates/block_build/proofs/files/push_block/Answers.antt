use Rattle.std.proofs.Common.{◌++◌, ◌∷◌, [], ap, ◌∙◌}
use Rattle.std.specs.Fmt.{decimal}
use Rattle.gtfs_tables.specs.Writing.{record_text}
use Rattle.block_build.specs.Files.{block_record}
use Rattle.block_build.specs.Names.{block_name}
use Rattle.block_build.proofs.FilesWritten.{record-more}
use Rattle.block_build.proofs.files.push_block.Goals as goal

pub loop-n-preserved : goal.loop-n-preserved
loop-n-preserved c =
    let named = c.args.named.now in
    let name = c.name-name.ensures in
    let minutes = c.deref.ensures ∙ c.in_ok-minutes.ensures.ok ∙ ap decimal c.minutes_before-minutes.ensures in
    record {
      written = record-more
          (block_record named.timetable.now named.matrix.now (block_name named.names.now c.args.number) c.block-block.result.now)
          c.args.records.now c.loop-n.records c.push_record.new.records c.loop-n.n
          c.loop-n.invariant.written
          (c.in_ok-push_record.ensures.written ∙ (λ i. c.loop-n.records ++ record_text (name i ∷ c.name-trip.ensures i ∷ minutes i ∷ [])));
      text = λ text. c.in_ok-push_record.ensures.text (c.loop-n.invariant.text text);
    }
