-- What stands in front of a text of ASN.1, as the reader computes it: the form and length of the piece there, or the rule that is
-- violated there. Pieces says the same by cases on whole texts (X.680 clause 12); laws on the public calls tie the two.
use Rattle.std.specs.Prelude.{ℕ, zero, suc, ◌+◌, Bool, true, not, ◌&&◌, List, [], ◌∷◌, drop, take, Option, Some, None, Result, Err, if◌then◌else◌, nat_lt, ◌==◌}
use Rattle.std.specs.List.{prefix_len}
use Rattle.og_base.specs.declared.Rule.{Rule}
use Rattle.og_base.specs.declared.Rule.TheVariants.{L1, L2, L3}
use Rattle.og_lexer.specs.declared.AsnKeyword.{AsnKeyword}
use Rattle.og_lexer.specs.declared.AsnMark.{AsnMark}
use Rattle.og_lexer.specs.declared.AsnMark.TheVariants.{Assign, Range, Ellipsis, Colon, FullStop, Solidus, Hyphen}
use Rattle.og_lexer.specs.declared.Language.{Language}
use Rattle.og_lexer.specs.declared.Language.TheVariants.{Sdl, Asn}
use Rattle.og_lexer.specs.declared.asn_words.AsnClass.{AsnClass}
use Rattle.og_lexer.specs.declared.asn_words.AsnClass.TheVariants as class
use Rattle.og_lexer.specs.declared.asn_words.TheConstants.{ASN_KEYWORDS}
use Rattle.og_lexer.specs.declared.front.Front.{Front}
use Rattle.og_lexer.specs.declared.front.Shape.{Shape}
use Rattle.og_lexer.specs.declared.front.Shape.TheVariants.{Space, BlockComment, Name, AsnReserved, Quoted, Quotation, Coded, AsnSign}
use Rattle.og_lexer.specs.declared.scan.Pair.{Pair}
use Rattle.og_lexer.specs.declared.scan.Pair.TheVariants.{Opens, Closes, Neither}
use Rattle.og_lexer.specs.Bytes.{is_digit, begins}
use Rattle.og_lexer.specs.AsnBytes.{asn_class_of, joins}
use Rattle.og_lexer.specs.AsnKeywords.{asn_keyword_text}
use Rattle.og_lexer.specs.AsnPieces.{is_code}
use Rattle.og_lexer.specs.Front.{pair_end, later, keyword_in, found, number_found, dash_found, front_of}

-- how many bytes in front go on with a name
abbrev pub name_len : List ℕ → ℕ
name_len [] = 0
name_len (b ∷ bs) = if joins b bs then 1 + name_len bs else 0

-- whether the byte is not this one
abbrev pub is_not : ℕ → ℕ → Bool
is_not x b = not (b == x)

-- what two bytes side by side do in a comment
abbrev pub pair_of : ℕ → ℕ → Pair
pair_of b c = if (b == 47) && (c == 42) then Opens else (if (b == 42) && (c == 47) then Closes else Neither)

-- how many bytes there are up to the end of a comment, within n more comments in it that are open
abbrev pub nested_end : ℕ → List ℕ → Option ℕ
nested_end n [] = None
nested_end n (b ∷ []) = None
nested_end zero (b ∷ c ∷ bs) = elim (pair_of b c) as (λ _. Option ℕ) [ Opens ↦ later 2 (nested_end 1 bs) | Closes ↦ Some 2 | Neither ↦ later 1 (nested_end 0 (c ∷ bs)) ]
nested_end (suc n) (b ∷ c ∷ bs) = elim (pair_of b c) as (λ _. Option ℕ) [ Opens ↦ later 2 (nested_end (suc (suc n)) bs) | Closes ↦ later 2 (nested_end n bs) | Neither ↦ later 1 (nested_end (suc n) (c ∷ bs)) ]

-- the form of a word
abbrev pub asn_word_shape : Option AsnKeyword → Shape
asn_word_shape None = Name
asn_word_shape (Some k) = AsnReserved k

-- a word that begins with these many bytes
abbrev pub asn_word_found : ℕ → List ℕ → Result Front Rule
asn_word_found len bytes = if nat_lt 64 len then Err L3 else found (asn_word_shape (keyword_in asn_keyword_text ASN_KEYWORDS (take len bytes))) len

-- a text of so many bytes between quotation marks, with the bytes from its last mark on
abbrev pub quotation_found : ℕ → List ℕ → Result Front Rule
quotation_found n [] = Err L2
quotation_found n (q ∷ bs) = found Quotation (n + 2)

-- a text of so many bytes between apostrophes, with the bytes from its last apostrophe on
abbrev pub quoted_found : ℕ → List ℕ → Result Front Rule
quoted_found n [] = Err L2
quoted_found n (q ∷ []) = found Quoted (n + 2)
quoted_found n (q ∷ c ∷ bs) = if is_code c then found Coded (n + 3) else found Quoted (n + 2)

abbrev pub nested_found : Option ℕ → Result Front Rule
nested_found None = Err L2
nested_found (Some n) = found BlockComment (2 + n)

-- a sign with the byte behind it, and the bytes behind that
abbrev pub asn_pair_found : AsnMark → ℕ → List ℕ → Result Front Rule
asn_pair_found Colon c bs = if (c == 58) && begins 61 bs then found (AsnSign Assign) 3 else found (AsnSign Colon) 1
asn_pair_found FullStop c bs = if c == 46 then (if begins 46 bs then found (AsnSign Ellipsis) 3 else found (AsnSign Range) 2) else found (AsnSign FullStop) 1
asn_pair_found Solidus c bs = if c == 42 then nested_found (nested_end 0 bs) else found (AsnSign Solidus) 1
asn_pair_found Hyphen c bs = if c == 45 then dash_found (pair_end 45 45 true bs) else found (AsnSign Hyphen) 1
asn_pair_found m c bs = found (AsnSign m) 1

abbrev pub asn_sign_found : AsnMark → List ℕ → Result Front Rule
asn_sign_found m [] = found (AsnSign m) 1
asn_sign_found m (c ∷ bs) = asn_pair_found m c bs

-- what stands in front of b ∷ bs, by the class of b
abbrev pub asn_class_found : AsnClass → ℕ → List ℕ → Result Front Rule
asn_class_found class.White b bs = found Space 1
asn_class_found class.Letter b bs = asn_word_found (1 + name_len bs) (b ∷ bs)
asn_class_found class.Digit b bs = number_found (1 + prefix_len is_digit bs) (b ∷ bs)
asn_class_found class.Apostrophe b bs = let n = prefix_len (is_not 39) bs in quoted_found n (drop n bs)
asn_class_found class.Quotation b bs = let n = prefix_len (is_not 34) bs in quotation_found n (drop n bs)
asn_class_found (class.Sign m) b bs = asn_sign_found m bs
asn_class_found class.Foreign b bs = Err L1

-- the piece in front of a text, or the rule that is violated at its first byte; in front of nothing there is no piece
unfoldable pub asn_front_of : List ℕ → Result Front Rule
asn_front_of [] = Err L1
asn_front_of (b ∷ bs) = asn_class_found (asn_class_of b) b bs

-- the same in the language
abbrev pub front_in : Language → List ℕ → Result Front Rule
front_in Sdl bytes = front_of bytes
front_in Asn bytes = asn_front_of bytes
