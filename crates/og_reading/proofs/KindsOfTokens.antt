-- The kind of a token tells what token it is.
use Rattle.std.proofs.Common.{◌≡◌, ℕ, ◌+◌, ◌<◌, Bool, true, false, cond, nat_lt, refl, sym, ap, arith}
use borrow.Author.Tests.{ltb-true}
use denote.Enum.Bare.{tag_one}
use denote.Enum.Declared.{tag_of}
use Rattle.og_lexer.specs.contracts.Keyword as keywords
use Rattle.og_lexer.specs.contracts.Mark as marks
use Rattle.og_lexer.specs.declared.Keyword.{Keyword}
use Rattle.og_lexer.specs.declared.Keyword.TheVariants as word
use Rattle.og_lexer.specs.declared.Mark.{Mark}
use Rattle.og_lexer.specs.declared.Mark.TheVariants as mark
use Rattle.og_lexer.specs.declared.Token.{Token}
use Rattle.og_lexer.specs.declared.Token.TheVariants as token
use Rattle.og_names.specs.declared.Word.{Word}
use Rattle.og_ast.specs.Names.{is_name}
use Rattle.og_reading.specs.Kinds.{kind_of_mark, kind_of_keyword, kind_of}

keyword_test : (w : Keyword) → nat_lt (kind_of_keyword w) 128 ≡ true
keyword_test word.Aggregation = refl
keyword_test _ = refl

mark_test : (m : Mark) → nat_lt (kind_of_mark m) 24 ≡ true
mark_test mark.Semicolon = refl
mark_test _ = refl

pub keyword_below : (w : Keyword) → kind_of_keyword w < 128
keyword_below w = ltb-true _ _ (keyword_test w)

pub mark_below : (m : Mark) → kind_of_mark m < 24
mark_below m = ltb-true _ _ (mark_test m)

-- a name's kind is 0 or 255
abbrev name_code : Bool → ℕ
name_code b = cond b 0 255

name_kind : (b : Bool) (k : ℕ) → name_code b ≡ k → 0 < k → k < 255 → ⊥
name_kind true k e pos lt = omega arith
name_kind false k e pos lt = omega arith

pub keyword_is : (w : Keyword) (t : Token) → kind_of t ≡ kind_of_keyword w → t ≡ token.Keyword w
keyword_is w (token.Keyword v) e = let same : tag_of keywords.the_type v ≡ tag_of keywords.the_type w = omega arith in ap token.Keyword (tag_one keywords.the_type tt v w same)
keyword_is w (token.Mark m) e = let lt = mark_below m in absurd (omega arith)
keyword_is w (token.Name x) e = let lt = keyword_below w in absurd (name_kind (is_name x.bytes) (kind_of_keyword w) e (omega arith) (omega arith))
keyword_is w (token.Number n) e = absurd (omega arith)
keyword_is w (token.Text x) e = absurd (omega arith)
keyword_is w token.End e = absurd (omega arith)
keyword_is w (token.AsnKeyword x) e = let lt = keyword_below w in absurd (omega arith)
keyword_is w (token.AsnMark x) e = let lt = keyword_below w in absurd (omega arith)

pub mark_is : (m : Mark) (t : Token) → kind_of t ≡ kind_of_mark m → t ≡ token.Mark m
mark_is m (token.Mark v) e = let same : tag_of marks.the_type v ≡ tag_of marks.the_type m = omega arith in ap token.Mark (tag_one marks.the_type tt v m same)
mark_is m (token.Keyword w) e = let lt = mark_below m in absurd (omega arith)
mark_is m (token.Name x) e = let lt = mark_below m in absurd (name_kind (is_name x.bytes) (kind_of_mark m) e (omega arith) (omega arith))
mark_is m (token.Number n) e = absurd (omega arith)
mark_is m (token.Text x) e = absurd (omega arith)
mark_is m token.End e = absurd (omega arith)
mark_is m (token.AsnKeyword x) e = let lt = mark_below m in absurd (omega arith)
mark_is m (token.AsnMark x) e = let lt = mark_below m in absurd (omega arith)

-- a name of this word
pub record IsNamed (t : Token) : Type 0 where
  pub word : Word
  pub is : t ≡ token.Name word
  pub spelt : is_name word.bytes ≡ true

spelt_so : (b : Bool) → name_code b ≡ 0 → b ≡ true
spelt_so true e = refl
spelt_so false e = absurd (omega arith)

pub name_is : (t : Token) → kind_of t ≡ 0 → IsNamed t
name_is (token.Name word) e = record { word = word; is = refl; spelt = spelt_so (is_name word.bytes) e }
name_is (token.Keyword w) e = absurd (omega arith)
name_is (token.Mark m) e = absurd (omega arith)
name_is (token.Number n) e = absurd (omega arith)
name_is (token.Text x) e = absurd (omega arith)
name_is token.End e = absurd (omega arith)
name_is (token.AsnKeyword x) e = absurd (omega arith)
name_is (token.AsnMark x) e = absurd (omega arith)

pub record IsNumber (t : Token) : Type 0 where
  pub number : ℕ
  pub is : t ≡ token.Number number

pub number_is : (t : Token) → kind_of t ≡ 1 → IsNumber t
number_is (token.Number n) e = record { number = n; is = refl }
number_is (token.Name x) e = absurd (name_kind (is_name x.bytes) 1 e (omega arith) (omega arith))
number_is (token.Keyword w) e = absurd (omega arith)
number_is (token.Mark m) e = absurd (omega arith)
number_is (token.Text x) e = absurd (omega arith)
number_is token.End e = absurd (omega arith)
number_is (token.AsnKeyword x) e = absurd (omega arith)
number_is (token.AsnMark x) e = absurd (omega arith)

pub record IsQuoted (t : Token) : Type 0 where
  pub text : Word
  pub is : t ≡ token.Text text

pub text_is : (t : Token) → kind_of t ≡ 2 → IsQuoted t
text_is (token.Text x) e = record { text = x; is = refl }
text_is (token.Name x) e = absurd (name_kind (is_name x.bytes) 2 e (omega arith) (omega arith))
text_is (token.Keyword w) e = absurd (omega arith)
text_is (token.Mark m) e = absurd (omega arith)
text_is (token.Number n) e = absurd (omega arith)
text_is token.End e = absurd (omega arith)
text_is (token.AsnKeyword x) e = absurd (omega arith)
text_is (token.AsnMark x) e = absurd (omega arith)

pub end_is : (t : Token) → kind_of t ≡ 3 → t ≡ token.End
end_is token.End e = refl
end_is (token.Name x) e = absurd (name_kind (is_name x.bytes) 3 e (omega arith) (omega arith))
end_is (token.Keyword w) e = absurd (omega arith)
end_is (token.Mark m) e = absurd (omega arith)
end_is (token.Number n) e = absurd (omega arith)
end_is (token.Text x) e = absurd (omega arith)
end_is (token.AsnKeyword x) e = absurd (omega arith)
end_is (token.AsnMark x) e = absurd (omega arith)
