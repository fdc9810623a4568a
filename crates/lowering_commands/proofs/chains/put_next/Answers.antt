use Rattle.std.proofs.Common.{sym}
use Rattle.dh_chains.specs.Chains.{places_of}
use Rattle.lowering_commands.proofs.ChainsLemmas.{chain-between}
use Rattle.lowering_commands.proofs.chains.put_next.Goals as goal

pub chain_line-requires : goal.chain_line-requires
chain_line-requires g c =
    chain-between (places_of c.args.deficits.now c.args.matrix.now) _ c.in-Some.chain (sym c.requires.places) c.in-Some.ensures.first.chain
