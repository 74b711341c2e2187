-- Names, comments and texts of ASN.1 (X.680 clause 12). A hyphen stands in a name between letters and digits alone. A comment
-- may hold further comments, each with its own end. A text ends at the first quote of its kind.
use Rattle.std.specs.Prelude.{◌≡◌, ℕ, Bool, true, false, not, ◌&&◌, ◌||◌, ◌⊎◌, List, [], ◌∷◌, ◌++◌, length, nat_lt, IsTrue, ◌==◌}
use Rattle.std.specs.List.{list_all}
use Rattle.og_lexer.specs.declared.words.Class.{Class}
use Rattle.og_lexer.specs.declared.words.Class.TheVariants.{Letter}
use Rattle.og_lexer.specs.Bytes.{class_of, begins}
use Rattle.og_lexer.specs.AsnBytes.{joins}

-- whether each byte is a letter or a digit, or a hyphen with one behind it
abbrev pub all_join : List ℕ → Bool
all_join [] = true
all_join (b ∷ bs) = joins b bs && all_join bs

-- a letter, then letters, digits and single hyphens, of which none is the last
abbrev pub IsHyphenated : List ℕ → Type 0
IsHyphenated [] = ⊥
IsHyphenated (b ∷ bs) = (class_of b ≡ Letter) × IsTrue (all_join bs)

abbrev pub is_letter_class : Class → Bool
is_letter_class Letter = true
is_letter_class _ = false

-- whether the bytes are spelt like a name, and are at most 64
abbrev pub is_asn_name : List ℕ → Bool
is_asn_name [] = false
is_asn_name (b ∷ bs) = is_letter_class (class_of b) && (all_join bs && nat_lt (length bs) 64)

-- whether the byte before these opens or closes a comment
abbrev pub opens_or_closes : ℕ → List ℕ → Bool
opens_or_closes b behind = ((b == 47) && begins 42 behind) || ((b == 42) && begins 47 behind)

-- What stands in a comment: bytes of which none begins a pair that opens or closes one, the closing one behind them counted,
-- and whole comments.
pub data IsInside : List ℕ → Type 0 where
  nothing : IsInside []
  byte : (b : ℕ) (more : List ℕ) → opens_or_closes b (more ++ 42 ∷ []) ≡ false → IsInside more → IsInside (b ∷ more)
  comment : (text inside more : List ℕ) → text ≡ 47 ∷ 42 ∷ (inside ++ 42 ∷ 47 ∷ more) → IsInside inside → IsInside more → IsInside text

-- the bytes are one comment, from its opening pair to the closing one that belongs to it
abbrev pub IsNested : List ℕ → Type 0
IsNested text = (inside : List ℕ) × (text ≡ 47 ∷ 42 ∷ (inside ++ 42 ∷ 47 ∷ [])) × IsInside inside

-- whether the byte is nowhere in the list
abbrev pub lacks : ℕ → List ℕ → Bool
lacks x bytes = list_all (λ b. not (b == x)) bytes

-- a text without a letter behind it, between quotes of this kind
abbrev pub IsBetween : ℕ → List ℕ → Type 0
IsBetween quote text = (inside : List ℕ) × (text ≡ quote ∷ (inside ++ quote ∷ [])) × IsTrue (lacks quote inside)

-- whether the byte is H or B
abbrev pub is_code : ℕ → Bool
is_code b = (b == 72) || (b == 66)

-- a text between apostrophes with H or B behind it
abbrev pub IsCoded : List ℕ → Type 0
IsCoded text = (inside : List ℕ) × (code : ℕ) × (text ≡ 39 ∷ (inside ++ 39 ∷ code ∷ [])) × IsTrue (lacks 39 inside) × IsTrue (is_code code)

-- which bytes are written for a text that holds these: they stand between quotes
abbrev pub IsQuotedAs : List ℕ → List ℕ → Type 0
IsQuotedAs inside text = ((text ≡ 34 ∷ (inside ++ 34 ∷ [])) × IsTrue (lacks 34 inside))
    ⊎ ((text ≡ 39 ∷ (inside ++ 39 ∷ [])) × IsTrue (lacks 39 inside)
    ⊎ ((code : ℕ) × (text ≡ 39 ∷ (inside ++ 39 ∷ code ∷ [])) × IsTrue (lacks 39 inside) × IsTrue (is_code code)))

-- a comment that does not end stands in front: its opening pair, and no comment
abbrev pub IsOpenNested : List ℕ → Type 0
IsOpenNested bytes = (inside : List ℕ) × (bytes ≡ 47 ∷ 42 ∷ inside) × ((text : List ℕ) (rest : List ℕ) → bytes ≡ text ++ rest → IsNested text → ⊥)

-- a text that does not end stands in front: a quote, and no second one
abbrev pub IsOpenBetween : ℕ → List ℕ → Type 0
IsOpenBetween quote bytes = (inside : List ℕ) × (bytes ≡ quote ∷ inside) × IsTrue (lacks quote inside)
