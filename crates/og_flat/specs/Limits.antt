-- What stands in brackets behind a type (X.680 clauses 49 and 51, of which a range and a size are read): a range is one bound or two,
-- a size is the word SIZE with a range in brackets. A bound is a number, which may have a sign, or the name of a constant.
-- Anything else is none of the two, names with a sign and the words MIN and MAX among it.
use Rattle.std.specs.Prelude.{ℕ, zero, suc, ◌==◌, Bool, true, false, List, [], ◌∷◌, Option, Some, None, ℤ, pos, negsuc, if◌then◌else◌}
use Rattle.og_lexer.specs.declared.AsnKeyword.TheVariants.{Size}
use Rattle.og_lexer.specs.declared.AsnMark.{AsnMark}
use Rattle.og_lexer.specs.declared.AsnMark.TheVariants as mark
use Rattle.og_lexer.specs.declared.Spanned.{Spanned}
use Rattle.og_lexer.specs.declared.Token.{Token}
use Rattle.og_lexer.specs.declared.Token.TheVariants as token
use Rattle.og_flat.specs.declared.limits as code
use Rattle.og_flat.specs.declared.flat.Bound.{Bound}
use Rattle.og_flat.specs.declared.flat.Bound.TheVariants as bound
use Rattle.og_flat.specs.declared.flat.Range.{Range}
use Rattle.og_flat.specs.declared.flat.Limits.{Limits}
use Rattle.og_flat.specs.declared.flat.Limits.TheVariants as limits
use Rattle.og_asn1.specs.declared.syntax.RunTree.{RunTree}
use Rattle.og_asn1.specs.declared.syntax.SizeTree.{SizeTree}
use Rattle.og_asn1.specs.declared.syntax.SizeTree.TheVariants as size
use Rattle.og_asn1.specs.Kinds.{kind_of}
use Rattle.og_asn1.specs.Reading.{named}

-- the kind of a token, as the grammar has it
abbrev pub is_kind : ℕ → Spanned → Bool
is_kind k t = kind_of t.token == k

-- ---- bounds

-- a bound in front, and the tokens behind it
pub record Front : Type 0 where
  pub bound : Bound
  pub rest : List Spanned

abbrev pub read_front : code.Front.Front → Front
read_front front = record { bound = front.bound; rest = front.rest.now }

-- a sign and a number
abbrev pub negative_bound : List Spanned → Option Front
negative_bound [] = None
negative_bound (t ∷ ts) = number_behind t.token
  where
    number_behind : Token → Option Front
    number_behind (token.Number n) = Some (record { bound = bound.Number true n; rest = ts })
    number_behind _ = None

abbrev pub bound_by : Spanned → List Spanned → Token → Option Front
bound_by t ts (token.Number n) = Some (record { bound = bound.Number false n; rest = ts })
bound_by t ts (token.AsnMark mark.Hyphen) = negative_bound ts
bound_by t ts (token.Name word) = if is_kind 1 t then Some (record { bound = bound.Named (named t.place word); rest = ts }) else None
bound_by t ts _ = None

abbrev pub bound_in : List Spanned → Option Front
bound_in [] = None
bound_in (t ∷ ts) = bound_by t ts t.token

-- ---- ranges and sizes

-- a range in front, and the tokens behind it
pub record RangeFront : Type 0 where
  pub range : Range
  pub rest : List Spanned

abbrev pub read_range : code.RangeFront.RangeFront → RangeFront
read_range front = record { range = front.range; rest = front.rest.now }

abbrev pub with_second : Bound → Option Front → Option RangeFront
with_second lo None = None
with_second lo (Some f) = Some (record { range = record { lo = lo; hi = f.bound }; rest = f.rest })

abbrev pub with_first : Option Front → Option RangeFront
with_first None = None
with_first (Some f) = behind f.rest
  where
    alone : Option RangeFront
    alone = Some (record { range = record { lo = f.bound; hi = f.bound }; rest = f.rest })

    range_behind : List Spanned → Token → Option RangeFront
    range_behind ts (token.AsnMark mark.Range) = with_second f.bound (bound_in ts)
    range_behind ts _ = alone

    behind : List Spanned → Option RangeFront
    behind [] = alone
    behind (t ∷ ts) = range_behind ts t.token

-- a | a .. b
abbrev pub range_front : List Spanned → Option RangeFront
range_front tokens = with_first (bound_in tokens)

-- nothing stands behind it
abbrev pub ended : Option RangeFront → Option Range
ended None = None
ended (Some front) = by front.rest
  where
    by : List Spanned → Option Range
    by [] = Some front.range
    by (t ∷ ts) = None

abbrev pub range_in : List Spanned → Option Range
range_in tokens = ended (range_front tokens)

abbrev pub is_mark : AsnMark → Token → Bool
is_mark mark.LeftParenthesis (token.AsnMark mark.LeftParenthesis) = true
is_mark mark.RightParenthesis (token.AsnMark mark.RightParenthesis) = true
is_mark _ _ = false

abbrev pub is_size_word : Token → Bool
is_size_word (token.AsnKeyword Size) = true
is_size_word _ = false

-- nothing stands behind it but a closing bracket
abbrev pub closed : Option RangeFront → Option Range
closed None = None
closed (Some front) = by front.rest
  where
    by : List Spanned → Option Range
    by (t ∷ []) = if is_mark mark.RightParenthesis t.token then Some front.range else None
    by _ = None

-- SIZE "(" a ")" | SIZE "(" a .. b ")"
abbrev pub size_in : List Spanned → Option Range
size_in (word ∷ bracket ∷ tokens) = if is_size_word word.token then (if is_mark mark.LeftParenthesis bracket.token then closed (range_front tokens) else None) else None
size_in _ = None

abbrev pub or_size : Option Range → Limits
or_size None = limits.Other
or_size (Some r) = limits.Size r

abbrev pub or_range : Option Range → Limits → Limits
or_range None fallback = fallback
or_range (Some r) fallback = limits.Range r

-- the tokens between two brackets
abbrev pub limits_in : List Spanned → Limits
limits_in tokens = or_range (range_in tokens) (or_size (size_in tokens))

abbrev pub limits_of : Option RunTree → Limits
limits_of None = limits.Absent
limits_of (Some run) = limits_in run.tokens

-- what stands before OF
abbrev pub limits_of_size : Option SizeTree → Limits
limits_of_size None = limits.Absent
limits_of_size (Some (size.Bracket run)) = limits_in run.tokens
limits_of_size (Some (size.Size place run)) = or_size (range_in run.tokens)

-- ---- numbers

abbrev pub negated : ℕ → ℤ
negated zero = pos 0
negated (suc n) = negsuc n

-- a number with or without a sign
abbrev pub signed : Bool → ℕ → ℤ
signed false n = pos n
signed true n = negated n
