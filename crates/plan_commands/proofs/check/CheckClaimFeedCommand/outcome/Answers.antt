use Rattle.std.proofs.Common.{◌≡◌, ◌∙◌}
use Rattle.claim_files.specs.Claims.{claimed_of}
use Rattle.desk_feed.specs.Commands.{said_to}
use Rattle.plan_commands.specs.Check.{claim_in}
use Rattle.plan_commands.proofs.Given.{check-given}
use Rattle.plan_commands.proofs.ClaimPapers.{blocks-among, prices-among}
use Rattle.plan_commands.proofs.check.CheckClaimFeedCommand.outcome.Goals as goal

pub found-blocks-requires : goal.found-blocks-requires
found-blocks-requires g c = blocks-among c.args.said.read.now.pages c.requires.papers

pub found-prices-requires : goal.found-prices-requires
found-prices-requires g c = prices-among c.args.said.read.now.pages c.requires.papers

pub returns-clause-given : goal.returns-clause-given
returns-clause-given g c =
    let read = c.args.said.read.now in
    let said = said_to c.args.said in
    let edited = c.in_ok-edited.edited in
    let is = c.in_ok-edited.ensures.edited in
    let timetable = c.timetable-timetable.result.now in
    let stands = c.timetable-timetable.ensures ∙ is.timetable in
    let read_claim = claimed_of timetable c.found-blocks.result.now c.found-prices.result.now in
    let claim : read_claim ≡ claim_in read said =
    λ i. claimed_of (stands i) (c.found-blocks.ensures.found i) (c.found-prices.ensures.found i) in
    check-given read said timetable c.in_ok-matrix.matrix stands c.in_ok-matrix.ensures
    c.checked.result edited.refused is.refused
    read_claim claim c.checked.ensures.proved c.checked.ensures.done
