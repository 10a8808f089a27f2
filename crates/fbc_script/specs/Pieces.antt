-- Bytes in pieces: the lines of a script, and the words of a line.
use Rattle.std.specs.Prelude.{ℕ, Bool, true, false, ◌==◌, ◌&&◌, not, nat_le, List, [], ◌∷◌, if◌then◌else◌}
use Rattle.std.specs.List.{onto_first, list_all}

-- The pieces that a separator ends; the last may lack it.
abbrev pub pieces_of : ℕ → List ℕ → List (List ℕ)
pieces_of separator [] = []
pieces_of separator (byte ∷ bytes) =
    if byte == separator then [] ∷ pieces_of separator bytes else onto_first byte (pieces_of separator bytes)

-- The lines of a script: each ends with a line feed (10).
abbrev pub split_lines : List ℕ → List (List ℕ)
split_lines bytes = pieces_of 10 bytes

-- The words of a line: spaces (32) stand between them.
abbrev pub words_of : List ℕ → List (List ℕ)
words_of line = pieces_of 32 line

-- Bytes that may stand in a line.
abbrev pub is_printable : ℕ → Bool
is_printable byte = nat_le 32 byte && nat_le byte 126

-- Whether spaces are single and none is at an end; `due` at the front and after a space, where a word is due.
abbrev pub has_single_spaces : Bool → List ℕ → Bool
has_single_spaces due [] = not due
has_single_spaces due (byte ∷ bytes) =
    if byte == 32 then not due && has_single_spaces true bytes else has_single_spaces false bytes

-- Whether a line is words of printable bytes with single spaces between them.
abbrev pub is_spaced : List ℕ → Bool
is_spaced line = list_all is_printable line && has_single_spaces true line

-- Whether a line is passed over: it is empty or begins with `#` (35).
abbrev pub is_passed_over : List ℕ → Bool
is_passed_over [] = true
is_passed_over (byte ∷ bytes) = byte == 35
