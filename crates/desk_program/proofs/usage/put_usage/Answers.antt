use Rattle.std.proofs.Common.{[], refl, sym, subst, arith}
use Rattle.std.proofs.lemmas.List.{append-nil}
use Rattle.desk_io.specs.Sink.{ArePuts}
use Rattle.desk_program.proofs.usage.put_usage.Goals as goal

pub returns-in-Ok-clause-order : goal.returns-in-Ok-clause-order
returns-in-Ok-clause-order g c =
    let put = c.in-Ok.ensures.come in
    record {
      puts = put.puts;
      are = subst (λ text. ArePuts text [] put.puts) c.as_bytes.ensures.value put.are;
      sink = record { made = put.puts; left = []; order = sym (append-nil put.puts); came = put.come };
      whole = λ is. refl;
      shelf = refl;
      keeper = refl;
    }

pub returns-in-Err-clause-order : goal.returns-in-Err-clause-order
returns-in-Err-clause-order g c =
    let put = c.in-Err.ensures.come in
    record {
      puts = put.puts;
      are = subst (λ text. ArePuts text [] put.puts) c.as_bytes.ensures.value put.are;
      sink = put.come;
      whole = λ is. absurd (omega (arith, is));
      shelf = refl;
      keeper = refl;
    }
