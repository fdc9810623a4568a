-- One put after another, each given all that is left of a text.
use Rattle.std.proofs.Common.{◌≡◌, ℕ, ◌+◌, ◌-◌, ◌<◌, ◌≤◌, List, [], ◌∷◌, ◌++◌, length, take, drop, Ok, Err, refl, sym, ap, subst, ◌∙◌}
use Rattle.std.proofs.Common.{append_assoc, length-drop, arith}
use Rattle.std.proofs.lemmas.List.{append-nil, drop-drop, drop_all, take_rest}
use Rattle.desk_io.specs.History.{Call, Put}
use Rattle.desk_io.specs.Sink.{ArePuts, PutsCome}

-- a put of all that is left
one_more : (text left : List ℕ) (calls : List Call) (count : ℕ) → 0 < count → ArePuts text left calls
    → ArePuts text (drop count left) (calls ++ Put left ∷ [])
one_more text left [] count some are = (ap Put are, count, some, ap (drop count) are)
one_more text left (call ∷ calls) count some (is, n, has, are) = (is, n, has, one_more (drop n text) left calls count some are)

-- the puts so far, which leave all but so many bytes
pub record PutSoFar (bytes : List ℕ) (done : ℕ) (before now : List Call) : Type 0 where
  pub calls : List Call
  pub are : ArePuts bytes (drop done bytes) calls
  pub came : now ≡ before ++ calls

pub none_yet : (bytes : List ℕ) (before : List Call) → PutSoFar bytes 0 before before
none_yet bytes before = record { calls = []; are = refl; came = sym (append-nil before) }

module _ (bytes : List ℕ) (done : ℕ) (before now next : List Call) (far : PutSoFar bytes done before now)
    (noted : next ≡ now ++ Put (take (length bytes - done) (drop done bytes)) ∷ []) where
  then : next ≡ before ++ (far.calls ++ Put (drop done bytes) ∷ [])
  then = noted ∙ ap (λ rest. now ++ Put rest ∷ []) (take_rest bytes done) ∙ ap (λ calls. calls ++ Put (drop done bytes) ∷ []) far.came
      ∙ append_assoc before far.calls (Put (drop done bytes) ∷ [])

  pub put_so_far : (count : ℕ) → 0 < count → PutSoFar bytes (done + count) before next
  put_so_far count some = record {
    calls = far.calls ++ Put (drop done bytes) ∷ [];
    are = subst (λ left. ArePuts bytes left (far.calls ++ Put (drop done bytes) ∷ []))
        (drop-drop count done bytes ∙ ap (λ n. drop n bytes) (omega arith)) (one_more bytes (drop done bytes) far.calls count some far.are);
    came = then;
  }

  -- a put failed
  pub put_failed : {T E : Type 0} (fault : E) → done < length bytes → PutsCome {T = T} bytes (Err fault) before next
  put_failed fault more = record {
    puts = far.calls ++ Put (drop done bytes) ∷ [];
    are = subst (λ left. ArePuts bytes left (far.calls ++ Put (drop done bytes) ∷ []))
        (drop_all (length bytes - done) (drop done bytes) (omega (arith, length-drop done bytes)))
        (one_more bytes (drop done bytes) far.calls (length bytes - done) (omega (arith, more)) far.are);
    come = record {
      made = far.calls ++ Put (drop done bytes) ∷ [];
      left = [];
      order = sym (append-nil (far.calls ++ Put (drop done bytes) ∷ []));
      came = then;
    };
  }

pub all_put : {T E : Type 0} (bytes : List ℕ) (done : ℕ) (before now : List Call) (x : T) → PutSoFar bytes done before now
    → length bytes ≤ done → PutsCome {E = E} bytes (Ok x) before now
all_put bytes done before now x far all = record {
  puts = far.calls;
  are = subst (λ left. ArePuts bytes left far.calls) (drop_all done bytes all) far.are;
  come = far.came;
}
