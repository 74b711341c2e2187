-- Worked examples of the definitions of ASN.1's pieces (X.680 clause 12).
use Rattle.std.specs.Prelude.{◌≡◌, ℕ, ◌+◌, Bool, true, false, not, ◌&&◌, ◌||◌, List, [], ◌∷◌, ◌++◌, IsTrue, Err, codes, nat_le, ◌==◌}
use Rattle.std.specs.List.{list_all}
use Rattle.og_base.specs.declared.Rule.TheVariants.{L1, L2, L3, L4}
use Rattle.og_lexer.specs.declared.AsnKeyword.TheVariants.{Sequence, Of}
use Rattle.og_lexer.specs.declared.AsnMark.TheVariants.{Assign, Range, Ellipsis, Colon, FullStop, Hyphen, Solidus, Underline, Tilde}
use Rattle.og_lexer.specs.declared.asn_words.AsnClass.{AsnClass}
use Rattle.og_lexer.specs.declared.asn_words.AsnClass.TheVariants as class
use Rattle.og_lexer.specs.declared.front.Shape.TheVariants.{Space, BlockComment, DashComment, LineComment, Name, AsnReserved, Digits, Quoted, Quotation, Coded, AsnSign}
use Rattle.og_lexer.specs.AsnBytes.{asn_class_of}
use Rattle.og_lexer.specs.AsnFront.{asn_front_of}
use Rattle.og_lexer.specs.Front.{found}

abbrev is_foreign : AsnClass → Bool
is_foreign class.Foreign = true
is_foreign class.White = false
is_foreign class.Letter = false
is_foreign class.Digit = false
is_foreign class.Apostrophe = false
is_foreign class.Quotation = false
is_foreign (class.Sign m) = false

-- the numbers from n on, so many
abbrev count_from : ℕ → List ℕ → List ℕ
count_from n [] = []
count_from n (x ∷ xs) = n ∷ count_from (n + 1) xs

abbrev is_same : Bool → Bool → Bool
is_same a b = (a && b) || (not a && not b)

-- white space and the bytes from 33 to 126 begin something, and no other byte does
abbrev begins_something : ℕ → Bool
begins_something b = is_same (not (is_foreign (asn_class_of b))) ((b == 32) || (b == 9) || (b == 13) || (b == 10) || (nat_le 33 b && nat_le b 126))

abbrev thirty : List ℕ
thirty = codes "012345678901234567890123456789"

-- of the first 150 bytes
abbrev pub BytesBegin : Type 0
BytesBegin = IsTrue (list_all begins_something (count_from 0 (thirty ++ thirty ++ thirty ++ thirty ++ thirty)))

abbrev pub AsnFrontsStand : Type 0
AsnFrontsStand =
    (asn_front_of (codes " x") ≡ found Space 1) × (asn_front_of (codes "t-Go2-x b") ≡ found Name 7) × (asn_front_of (codes "a- b") ≡ found Name 1)
    × (asn_front_of (codes "a--b") ≡ found Name 1) × (asn_front_of (codes "a_b") ≡ found Name 1) × (asn_front_of (codes "SEQUENCE(") ≡ found (AsnReserved Sequence) 8)
    × (asn_front_of (codes "Sequence") ≡ found Name 8) × (asn_front_of (codes "OF-x") ≡ found Name 4) × (asn_front_of (codes "OF-") ≡ found (AsnReserved Of) 2)
    × (asn_front_of (codes "0..9") ≡ found Digits 1) × (asn_front_of (codes "12ab") ≡ found Digits 2)

abbrev pub AsnTextsStand : Type 0
AsnTextsStand =
    (asn_front_of (34 ∷ (codes "a'b" ++ 34 ∷ 34 ∷ [])) ≡ found Quotation 5) × (asn_front_of (34 ∷ 10 ∷ 34 ∷ codes "H") ≡ found Quotation 3)
    × (asn_front_of (codes "'it''s'") ≡ found Quoted 4) × (asn_front_of (codes "'0F'Hx") ≡ found Coded 5) × (asn_front_of (codes "'01'B") ≡ found Coded 5)
    × (asn_front_of (codes "'01'C") ≡ found Quoted 4)

abbrev pub AsnMarksStand : Type 0
AsnMarksStand =
    (asn_front_of (codes "::=:") ≡ found (AsnSign Assign) 3) × (asn_front_of (codes "::::=") ≡ found (AsnSign Colon) 1) × (asn_front_of (codes "..") ≡ found (AsnSign Range) 2)
    × (asn_front_of (codes "....") ≡ found (AsnSign Ellipsis) 3) × (asn_front_of (codes ". .") ≡ found (AsnSign FullStop) 1) × (asn_front_of (codes "- -") ≡ found (AsnSign Hyphen) 1)
    × (asn_front_of (codes "/-*") ≡ found (AsnSign Solidus) 1) × (asn_front_of (codes "_a") ≡ found (AsnSign Underline) 1) × (asn_front_of (codes "~~") ≡ found (AsnSign Tilde) 1)

-- `/*/` closes nothing, and each comment inside has an end of its own
abbrev pub AsnCommentsStand : Type 0
AsnCommentsStand =
    (asn_front_of (codes "/*/*a*/b*/c*/") ≡ found BlockComment 10) × (asn_front_of (codes "/**/*/") ≡ found BlockComment 4) × (asn_front_of (codes "/*/ */") ≡ found BlockComment 6)
    × (asn_front_of (codes "/*--*/ --*/") ≡ found BlockComment 6) × (asn_front_of (codes "--a/*--b") ≡ found DashComment 7) × (asn_front_of (codes "--a- b") ≡ found LineComment 6)

abbrev pub AsnViolationsStand : Type 0
AsnViolationsStand =
    (asn_front_of (127 ∷ []) ≡ Err L1) × (asn_front_of (11 ∷ []) ≡ Err L1) × (asn_front_of (codes "/*/*a*/") ≡ Err L2) × (asn_front_of (codes "/*/") ≡ Err L2)
    × (asn_front_of (codes "'a") ≡ Err L2) × (asn_front_of (34 ∷ codes "a'") ≡ Err L2) × (asn_front_of (codes "9223372036854775809") ≡ Err L4)
    × (asn_front_of (codes "a-" ++ (thirty ++ thirty ++ codes "123")) ≡ Err L3) × (asn_front_of (codes "a-" ++ (thirty ++ thirty ++ codes "12-")) ≡ found Name 64)
