-- One put after another puts one prefix of the bytes after another.
use Rattle.std.proofs.Common.{◌≡◌, ℕ, ◌+◌, ◌-◌, List, ◌++◌, length, take, drop, Option, None, Some, sym, ap, refl, ◌∙◌, append_assoc}
use Rattle.std.proofs.Math.Seq.{take-add}
use Rattle.std.proofs.lemmas.List.{take_rest}
use Rattle.std.specs.Io.KnownBytes.{append_known}
use Rattle.desk_io.specs.Sink.{SinkState, put_bytes}

append_known-append : (known : Option (List ℕ)) (xs ys : List ℕ) → append_known (append_known known xs) ys ≡ append_known known (xs ++ ys)
append_known-append None xs ys = refl
append_known-append (Some known) xs ys = ap Some (append_assoc known xs ys)

pub put-put : (sink : SinkState) (xs ys : List ℕ) → put_bytes ys (put_bytes xs sink) ≡ put_bytes (xs ++ ys) sink
put-put sink xs ys = ap (λ known. record sink { written = known }) (append_known-append sink.written xs ys)

-- a put of the first bytes of all that is left
pub put_more : (bytes : List ℕ) (done count : ℕ) (first sink next : SinkState) → sink ≡ put_bytes (take done bytes) first
    → next ≡ put_bytes (take count (take (length bytes - done) (drop done bytes))) sink → next ≡ put_bytes (take (done + count) bytes) first
put_more bytes done count first sink next before put =
    put ∙ ap (λ rest. put_bytes (take count rest) sink) (take_rest bytes done) ∙ ap (put_bytes (take count (drop done bytes))) before
    ∙ put-put first (take done bytes) (take count (drop done bytes)) ∙ ap (λ xs. put_bytes xs first) (sym (take-add done count bytes))
