-- The search among the keywords against their spelling.
use Rattle.std.proofs.Common.{◌≡◌, ℕ, Bool, true, false, cond, List, [], ◌∷◌, map, refl, ap, ◌∙◌}
use Rattle.std.specs.Prelude.{Option, Some, None}
use Rattle.std.specs.Str.{bytes_eq}
use Rattle.std.specs.Char.{to_ascii_uppercase}
use Rattle.std.proofs.lemmas.Slice.Eq.{bytes_eq-Decides}
use Rattle.og_lexer.specs.declared.AsnKeyword.{AsnKeyword}
use Rattle.og_lexer.specs.declared.AsnKeyword.TheVariants.{Automatic}
use Rattle.og_lexer.specs.declared.Keyword.{Keyword}
use Rattle.og_lexer.specs.declared.Keyword.TheVariants.{Aggregation}
use Rattle.og_lexer.specs.declared.asn_words.TheConstants.{ASN_KEYWORDS}
use Rattle.og_lexer.specs.declared.words.TheConstants.{KEYWORDS}
use Rattle.og_lexer.specs.AsnKeywords.{asn_keyword_text}
use Rattle.og_lexer.specs.Keywords.{keyword_text, IsSpelt}
use Rattle.og_lexer.specs.Front.{keyword_in}

-- each keyword is found by its own spelling
pub keyword_in-text : (k : Keyword) → keyword_in keyword_text KEYWORDS (keyword_text k) ≡ Some k
unfolding keyword_text
keyword_in-text Aggregation = refl
keyword_in-text k = refl

found_step : {K : Type 0} (spelling : K → List ℕ) (j k : K) (word : List ℕ) (rest : Option K) (t : Bool) → bytes_eq word (spelling j) ≡ t → (rest ≡ Some k → word ≡ spelling k) → cond t (Some j) rest ≡ Some k → word ≡ spelling k
found_step spelling j k word rest true is later e = (bytes_eq-Decides word (spelling j)).0 is ∙ ap spelling (let same : j ≡ k = cc in same)
found_step spelling j k word rest false is later e = later e

-- what is found is spelt so
pub keyword_in-found : {K : Type 0} (spelling : K → List ℕ) (ks : List K) (word : List ℕ) (k : K) → keyword_in spelling ks word ≡ Some k → word ≡ spelling k
keyword_in-found spelling [] word k e = absurd (let no : ⊥ = cc in no)
keyword_in-found spelling (j ∷ ks) word k e = found_step spelling j k word (keyword_in spelling ks word) (bytes_eq word (spelling j)) refl (keyword_in-found spelling ks word k) e

-- a keyword in any case is found
pub keyword-spelt : (k : Keyword) (word : List ℕ) → IsSpelt k word → keyword_in keyword_text KEYWORDS (map to_ascii_uppercase word) ≡ Some k
keyword-spelt k word spelt = ap (keyword_in keyword_text KEYWORDS) spelt ∙ keyword_in-text k

-- where none is found, the word is no keyword
pub keyword-none : (word : List ℕ) → keyword_in keyword_text KEYWORDS (map to_ascii_uppercase word) ≡ None → (k : Keyword) → IsSpelt k word → ⊥
keyword-none word none k spelt = let is = keyword-spelt k word spelt in cc

-- of a list in which no keyword is spelt like the word none is found
pub keyword_in-absent : {K : Type 0} (spelling : K → List ℕ) (ks : List K) (word : List ℕ) → ((k : K) → word ≡ spelling k → ⊥) → keyword_in spelling ks word ≡ None
keyword_in-absent {K = K} spelling ks word absent = none_step (keyword_in spelling ks word) refl
  where
    none_step : (found : Option K) → keyword_in spelling ks word ≡ found → found ≡ None
    none_step None is = refl
    none_step (Some k) is = absurd (absent k (keyword_in-found spelling ks word k is))

-- a word that is no keyword
pub keyword-absent : (word : List ℕ) → ((k : Keyword) → IsSpelt k word → ⊥) → keyword_in keyword_text KEYWORDS (map to_ascii_uppercase word) ≡ None
keyword-absent word absent = keyword_in-absent keyword_text KEYWORDS (map to_ascii_uppercase word) absent

-- each keyword of ASN.1 is found by its own spelling
pub asn_keyword_in-text : (k : AsnKeyword) → keyword_in asn_keyword_text ASN_KEYWORDS (asn_keyword_text k) ≡ Some k
unfolding asn_keyword_text
asn_keyword_in-text Automatic = refl
asn_keyword_in-text k = refl

pub asn_keyword-spelt : (k : AsnKeyword) (word : List ℕ) → word ≡ asn_keyword_text k → keyword_in asn_keyword_text ASN_KEYWORDS word ≡ Some k
asn_keyword-spelt k word spelt = ap (keyword_in asn_keyword_text ASN_KEYWORDS) spelt ∙ asn_keyword_in-text k

pub asn_keyword-none : (word : List ℕ) → keyword_in asn_keyword_text ASN_KEYWORDS word ≡ None → (k : AsnKeyword) → word ≡ asn_keyword_text k → ⊥
asn_keyword-none word none k spelt = let is = asn_keyword-spelt k word spelt in cc
