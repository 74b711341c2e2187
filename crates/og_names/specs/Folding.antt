-- Folded names, and the numbers that a table gives them. Names are compared without case, where Z.101 section 6.1 compares
-- some with case, and a hyphen of ASN.1 (X.680 section 12.3) counts as the underscore of SDL. The number of a name is the
-- place, counted from 0, at which its folded form came first.
use Rattle.std.specs.Prelude.{ℕ, suc, ◌+◌, List, [], ◌∷◌, ◌++◌, Option, Some, None, map, nat_le, nat_eq, ◌&&◌, is_some, if◌then◌else◌}
use Rattle.std.specs.Option.{option_map}
use Rattle.std.specs.Str.{bytes_eq}

-- A to Z become a to z, and a hyphen becomes an underscore
abbrev pub fold_byte : ℕ → ℕ
fold_byte b = if nat_le 65 b && nat_le b 90 then b + 32 else (if nat_eq b 45 then 95 else b)

-- the form of a name in which names are compared
abbrev pub folded : List ℕ → List ℕ
folded name = map fold_byte name

-- the number of a name in a list of names: the first place at which it stands
abbrev pub place_of : List (List ℕ) → List ℕ → Option ℕ
place_of [] name = None
place_of (known ∷ names) name = if bytes_eq name known then Some 0 else option_map suc (place_of names name)

-- the list after a name is added: a known name leaves it as it is, a new one stands at its end
abbrev pub with_name : List (List ℕ) → List ℕ → List (List ℕ)
with_name names name = if is_some (place_of names name) then names else names ++ name ∷ []
