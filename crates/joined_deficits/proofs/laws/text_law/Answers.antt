use Rattle.std.proofs.Common.{arith}
use Rattle.trip_model.specs.Deficit.{deficit}
use Rattle.deficit_steps.specs.Changes.{value}
use Rattle.joined_deficits.proofs.LinesWritten.{text-agree}
use Rattle.joined_deficits.proofs.laws.text_law.Goals as goal

pub returns : goal.returns
returns c = λ names joined before moves trips blocks are were held stood len lens.
    text-agree names (value joined) (deficit moves) (value before) (deficit trips) blocks
    (λ k t h l. c.held_law.ensures.deficit joined moves k t are held (omega arith) l)
    (λ k t h l. c.held_law.ensures.deficit before trips k t were stood (omega arith) l)
