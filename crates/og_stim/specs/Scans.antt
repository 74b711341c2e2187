-- What the readers of the code find in a line: its name and the texts of its values, or nothing. Forms says by relations which
-- lines have which form, and a law ties the two.
use Rattle.std.specs.Prelude.{ℕ, zero, suc, ◌&&◌, ◌==◌, List, [], ◌∷◌, length, Option, Some, None, option_map, if◌then◌else◌}
use Rattle.std.specs.List.{list_all}
use Rattle.og_value.specs.Bytes.{is_blank}
use Rattle.og_value.specs.Scans.{Found, Reader, and_then, past_blanks, name_at, form_at, before}

-- a text, and what stands behind the comma behind it, or nothing where it is the last
abbrev pub Piece : Type 0
Piece = List ℕ × Option (List ℕ)

-- the text of a value in front
abbrev pub text_at : Reader (List ℕ)
text_at bytes = and_then (form_at 64 bytes) (λ _ rest. Some (before bytes rest, rest))

-- a text with what stands behind it and blanks
abbrev pub ended : List ℕ → List ℕ → Option Piece
ended text [] = None
ended text (b ∷ bs) = if b == 44 then Some (text, Some bs) else (if b == 41 && list_all is_blank bs then Some (text, None) else None)

abbrev pub piece_by : Found (List ℕ) → Option Piece
piece_by None = None
piece_by (Some p) = ended p.0 (past_blanks p.1)

-- a value of the list, behind blanks
unfoldable pub piece_in : List ℕ → Option Piece
piece_in bytes = piece_by (text_at (past_blanks bytes))

-- a text, with those behind its comma
abbrev pub texts_more : (List ℕ → Option (List (List ℕ))) → List ℕ → Option (List ℕ) → Option (List (List ℕ))
texts_more go text None = Some (text ∷ [])
texts_more go text (Some more) = option_map (λ texts. text ∷ texts) (go more)

abbrev pub texts_by : (List ℕ → Option (List (List ℕ))) → Option Piece → Option (List (List ℕ))
texts_by go None = None
texts_by go (Some p) = texts_more go p.0 p.1

-- the texts up to the closing bracket, which are at most so many
unfoldable pub texts_within : ℕ → List ℕ → Option (List (List ℕ))
texts_within zero bytes = None
texts_within (suc n) bytes = texts_by (texts_within n) (piece_in bytes)

-- behind the opening bracket
abbrev pub texts_in : List ℕ → Option (List (List ℕ))
texts_in bytes = texts_within (length bytes) bytes

-- behind the name and blanks: 40 is `(`
abbrev pub form_behind : List ℕ → List ℕ → Option (List ℕ × List (List ℕ))
form_behind name [] = Some (name, [])
form_behind name (b ∷ bs) = if b == 40 then option_map (λ texts. (name, texts)) (texts_in bs) else None

abbrev pub form_by : Found (List ℕ) → Option (List ℕ × List (List ℕ))
form_by None = None
form_by (Some p) = form_behind p.0 (past_blanks p.1)

-- the name of a line, and the texts of its values
unfoldable pub form_in : List ℕ → Option (List ℕ × List (List ℕ))
form_in line = form_by (name_at (past_blanks line))
