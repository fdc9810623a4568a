-- Spaces, the bytes 20 hexadecimal, round a text. No other white space is one.
use Rattle.std.specs.Prelude.{ℕ, ◌==◌, List, [], ◌∷◌, reverse, if◌then◌else◌}

-- a text without the spaces at its front
abbrev pub after_spaces : List ℕ → List ℕ
after_spaces [] = []
after_spaces (byte ∷ text) = if byte == 32 then after_spaces text else byte ∷ text

-- a text without the spaces at its end
abbrev pub before_spaces : List ℕ → List ℕ
before_spaces text = reverse (after_spaces (reverse text))

-- rule: the spaces round a field
-- a text without the spaces at both ends
abbrev pub without_spaces : List ℕ → List ℕ
without_spaces text = before_spaces (after_spaces text)
