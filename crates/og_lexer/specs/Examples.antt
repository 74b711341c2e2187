-- Worked examples of the definitions (Z.101 clause 6.1).
use Rattle.std.specs.Prelude.{◌≡◌, ℕ, ◌^◌, List, [], ◌∷◌, Err, codes}
use Rattle.og_base.specs.declared.Place.{Place}
use Rattle.og_base.specs.declared.Rule.TheVariants.{L1, L2, L4}
use Rattle.og_lexer.specs.declared.Keyword.TheVariants.{Nextstate}
use Rattle.og_lexer.specs.declared.Mark.TheVariants.{Assign, Colon, LessOrEqual, Minus, Solidus}
use Rattle.og_lexer.specs.declared.front.Shape.TheVariants.{Space, BlockComment, DashComment, LineComment, Name, Reserved, Digits, Quoted, Sign}
use Rattle.og_lexer.specs.Bytes.{number_of}
use Rattle.og_lexer.specs.Places.{place_at}
use Rattle.og_lexer.specs.Front.{found, front_of}

abbrev place : ℕ → ℕ → Place
place line column = record { file = 7; line = line; column = column }

-- a, line feed, b, line feed
abbrev two_lines : List ℕ
two_lines = 97 ∷ 10 ∷ 98 ∷ 10 ∷ []

-- a line feed belongs to the line that it ends
abbrev pub PlacesCount : Type 0
PlacesCount =
    (place_at 7 two_lines 0 ≡ place 1 1) × (place_at 7 two_lines 1 ≡ place 1 2) × (place_at 7 two_lines 2 ≡ place 2 1)
    × (place_at 7 two_lines 4 ≡ place 3 1) × (place_at 7 [] 0 ≡ place 1 1)

-- leading zeros are allowed
abbrev pub NumbersCount : Type 0
NumbersCount = (number_of (codes "0042") ≡ 42) × (number_of (codes "9223372036854775808") ≡ 2 ^ 63)

abbrev pub FrontsStand : Type 0
FrontsStand =
    (front_of (codes " x") ≡ found Space 1) × (front_of (codes "a_1 b") ≡ found Name 3) × (front_of (codes "nextState;") ≡ found (Reserved Nextstate) 9)
    × (front_of (codes "nextstates") ≡ found Name 10) × (front_of (codes "12ab") ≡ found Digits 2) × (front_of (codes "'it''s' x") ≡ found Quoted 7)
    × (front_of (codes ":=:") ≡ found (Sign Assign) 2) × (front_of (codes "::=") ≡ found (Sign Colon) 1) × (front_of (codes "<=-") ≡ found (Sign LessOrEqual) 2)
    × (front_of (codes "- -") ≡ found (Sign Minus) 1) × (front_of (codes "/-") ≡ found (Sign Solidus) 1)
    × (front_of (codes "/*/ a **/ b") ≡ found BlockComment 9) × (front_of (codes "--a---b") ≡ found DashComment 5) × (front_of (codes "--a- b") ≡ found LineComment 6)

abbrev pub ViolationsStand : Type 0
ViolationsStand =
    (front_of (codes "_a") ≡ Err L1) × (front_of (codes "/* a *") ≡ Err L2) × (front_of (codes "'a''b") ≡ Err L2)
    × (front_of (codes "9223372036854775809") ≡ Err L4)
