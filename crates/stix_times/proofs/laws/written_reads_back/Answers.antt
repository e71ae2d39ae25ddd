use Rattle.std.proofs.Common.{arith}
use Rattle.stix_times.proofs.laws.written_reads_back.Goals as goal

pub returns-clause-shortest : goal.returns-clause-shortest
returns-clause-shortest c = λ z s p. (p.0, p.1, (p.2.0, p.2.1))

pub returns-clause-digits : goal.returns-clause-digits
returns-clause-digits c = λ n z s p. (p.0, p.1, (p.2.0, p.2.1))

pub returns-clause-millis : goal.returns-clause-millis
returns-clause-millis c = λ n z s low high p. (p.0, p.1, (p.2.0, (omega (arith, p.2.2), omega (arith, p.2.2)), p.2.1))
