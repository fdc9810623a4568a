-- Texts that are written as they came: lines of as many fields each, with no byte that a reader or a writer treats apart.
use Rattle.std.specs.Prelude.{ℕ, ◌+◌, ◌==◌, ◌||◌, ◌&&◌, Bool, false, not, List, [], ◌∷◌, nat_lt, Option, Some, None, if◌then◌else◌}
use Rattle.csv.specs.Machine.{carriage_return, line_feed}
use Rattle.csv.specs.Writing.{comma, quote_mark}
use Rattle.desk_io.specs.declared.shelf.Found.{Found}
use Rattle.desk_io.specs.declared.shelf.Found.TheVariants.{File, Missing, TooLong}

-- whether a byte is ASCII, and neither a double quote nor a carriage return
abbrev pub is_bare : ℕ → Bool
is_bare b = nat_lt b 128 && not ((b == quote_mark) || (b == carriage_return))

-- The number of fields of the line at hand after one byte more, the first field counted from the start of the line. None where
-- a line ends that has not as many fields as it should, or where the byte is not bare.
abbrev pub fields_after : ℕ → ℕ → ℕ → Option ℕ
fields_after columns fields b =
    if b == line_feed then (if fields == columns then Some 1 else None)
    else if b == comma then Some (fields + 1)
    else if is_bare b then Some fields
    else None

-- whether these bytes after that last one complete lines of that many fields, of which the line at hand has so many
unfoldable pub are_lines : ℕ → Option ℕ → ℕ → List ℕ → Bool
are_lines columns None last text = false
are_lines columns (Some fields) last [] = last == line_feed
are_lines columns (Some fields) last (b ∷ rest) = are_lines columns (fields_after columns fields b) b rest

-- Whether a text has a line or more, each of that many bare fields, which are two or more, and ended by a line feed.
abbrev pub is_plain : ℕ → List ℕ → Bool
is_plain columns text = nat_lt 1 columns && are_lines columns (Some 1) 0 text

-- the bytes of a file whose text is plain
abbrev pub plain_bytes : ℕ → Found → Option (List ℕ)
plain_bytes columns (File bytes) = if is_plain columns bytes then Some bytes else None
plain_bytes columns Missing = None
plain_bytes columns TooLong = None
