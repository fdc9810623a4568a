use Rattle.fixed_fleet.proofs.Forerunners.{IsForerunner-forerunner}
use Rattle.fixed_fleet.proofs.PlainBlocks.{links-fifo, trips-fifo}
use Rattle.fixed_fleet.proofs.laws.rule_law.Goals as goal

pub returns-clause-links : goal.returns-clause-links
returns-clause-links c = links-fifo

pub returns-clause-count : goal.returns-clause-count
returns-clause-count c = trips-fifo

pub returns-clause-forerunner : goal.returns-clause-forerunner
returns-clause-forerunner c = IsForerunner-forerunner
