use Rattle.price_check.proofs.CertificateLemmas.{certificate-from}
use Rattle.price_check.proofs.ReasonLemmas.{reason-none}
use Rattle.price_check.proofs.laws.certificate_law.Goals as goal

pub returns-clause-certificate : goal.returns-clause-certificate
returns-clause-certificate c = certificate-from

pub returns-clause-reasonless : goal.returns-clause-reasonless
returns-clause-reasonless c = reason-none
