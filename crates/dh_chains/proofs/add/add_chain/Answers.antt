use Rattle.dh_chains.proofs.Adding.{moves-of-chain, total-falls}
use Rattle.dh_chains.proofs.add.add_chain.Goals as goal

pub add_deadheads-requires-clause-valid : goal.add_deadheads-requires-clause-valid
add_deadheads-requires-clause-valid g c = moves-of-chain c.args.deficits.now c.args.chain.now c.requires.chain

pub returns-clause-total : goal.returns-clause-total
returns-clause-total g c =
    total-falls c.args.deficits.now c.add_deadheads.new.deficits c.args.chain.now c.requires.few.0 c.places-before.ensures.valid
    c.places-after.ensures.valid c.add_deadheads.ensures.places
    c.requires.chain c.requires.few.1 (c.add_deadheads.ensures.held c.requires.few.0 c.requires.few.1)
