-- How much a link is liked at most.
use Rattle.std.proofs.Common.{◌≡◌, ℕ, ◌+◌, ◌-◌, ◌*◌, ◌≤◌, ◌==◌, ◌&&◌, Bool, true, false, cond, ap, arith, ◌∙◌}
use Rattle.std.proofs.lemmas.Bool.{and_parts, eqb-true}
use Rattle.std.proofs.lemmas.Nat.{mul-le}
use Rattle.trip_model.specs.Links.{next_of, leads_to}
use Rattle.plan_choice.specs.Likings.{LikingsView, likes_nothing, liking, line_of, is_same_line}

counted-most : (holds : Bool) (counts : ℕ) → cond holds counts 0 ≤ counts
counted-most true counts = omega arith
counted-most false counts = omega arith

-- minutes that a vehicle does not wait count no more than those of a whole day
pub waiting-most : (waiting wait : ℕ) → waiting * (8191 - wait) ≤ waiting * 8191
waiting-most waiting wait = mul-le waiting (8191 - wait) waiting 8191 (omega arith) (omega arith)

-- a link is liked no more than all that counts together
pub liking-most : (likings : LikingsView) (i j wait : ℕ)
    → liking likings i j wait ≤ likings.stated + likings.line + likings.waiting * 8191
liking-most likings i j wait =
    omega (
      arith,
      counted-most (leads_to j (next_of likings.nexts i)) likings.stated,
      counted-most (is_same_line (line_of likings.lines i) (line_of likings.lines j)) likings.line,
      waiting-most likings.waiting wait,
    )

zero-mul : (a b : ℕ) → a ≡ 0 → a * b ≡ 0
zero-mul a b e = ap (λ n. n * b) e ∙ omega arith

-- where nothing counts no link is liked
pub liking-nothing : (likings : LikingsView) → likes_nothing likings ≡ true → (i j wait : ℕ) → liking likings i j wait ≡ 0
liking-nothing likings nothing i j wait =
    let two = and_parts ((likings.stated == 0) && (likings.line == 0)) (likings.waiting == 0) nothing in
    let one = and_parts (likings.stated == 0) (likings.line == 0) two.0 in
    omega (
      arith,
      counted-most (leads_to j (next_of likings.nexts i)) likings.stated,
      counted-most (is_same_line (line_of likings.lines i) (line_of likings.lines j)) likings.line,
      eqb-true likings.stated 0 one.0,
      eqb-true likings.line 0 one.1,
      zero-mul likings.waiting (8191 - wait) (eqb-true likings.waiting 0 two.1),
    )
