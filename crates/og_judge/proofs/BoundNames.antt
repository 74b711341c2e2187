-- Each name in brackets behind a type is one of their tokens.
use Rattle.std.proofs.Common.{◌≡◌, ◌∙◌, ℕ, zero, suc, ◌+◌, ◌-◌, Bool, true, false, if◌then◌else◌, List, [], ◌∷◌, ◌++◌, length, map, take, Option, Some, None, refl, sym, ap, subst}
use Rattle.std.specs.Prelude.{◌==◌, ◌&&◌, ◌||◌, ℤ, filter, is_none, flat_map}
use Rattle.std.specs.List.{AllByRecursion, list_any}
use Rattle.og_base.specs.declared.Place.{Place}
use Rattle.og_base.specs.declared.Rule.{Rule}
use Rattle.og_base.specs.declared.Rule.TheVariants.{N1, N2, N3, N7}
use Rattle.og_base.specs.declared.Violation.{Violation}
use Rattle.og_lexer.specs.declared.AsnMark.{AsnMark}
use Rattle.og_lexer.specs.declared.AsnMark.TheVariants as mark
use Rattle.og_lexer.specs.declared.Spanned.{Spanned}
use Rattle.og_lexer.specs.declared.Token.{Token}
use Rattle.og_lexer.specs.declared.Token.TheVariants as token
use Rattle.og_names.specs.declared.Word.{Word}
use Rattle.og_flat.specs.declared.flat.Bound.{Bound}
use Rattle.og_flat.specs.declared.flat.Bound.TheVariants as bound
use Rattle.og_flat.specs.declared.flat.Range.{Range}
use Rattle.og_flat.specs.declared.flat.Limits.{Limits}
use Rattle.og_flat.specs.declared.flat.Limits.TheVariants as limits
use Rattle.og_flat.specs.declared.flat.Enumerator.{Enumerator}
use Rattle.og_flat.specs.declared.flat.PartNode.{PartNode}
use Rattle.og_flat.specs.declared.flat.Node.{Node}
use Rattle.og_flat.specs.declared.flat.Node.TheVariants as node
use Rattle.og_flat.specs.declared.flat.TypeNode.{TypeNode}
use Rattle.og_flat.specs.declared.flat.ConstantNode.{ConstantNode}
use Rattle.og_flat.specs.declared.flat.ConstantValue.{ConstantValue}
use Rattle.og_flat.specs.declared.flat.ConstantValue.TheVariants as value
use Rattle.og_flat.specs.declared.flat.Flat.{Flat}
use Rattle.og_asn1.specs.declared.syntax.Name.{Name}
use Rattle.og_asn1.specs.declared.syntax.RunTree.{RunTree}
use Rattle.og_asn1.specs.declared.syntax.SizeTree.{SizeTree}
use Rattle.og_asn1.specs.declared.syntax.SizeTree.TheVariants as size
use Rattle.og_asn1.specs.Reading.{named}
use Rattle.og_flat.specs.Limits.{Front, RangeFront, is_kind, negative_bound, bound_by, bound_in, with_second, with_first, range_front, ended, range_in, closed, size_in, or_size, or_range, limits_in, limits_of, limits_of_size, is_size_word, is_mark}
use Rattle.og_judge.proofs.TreeNames.{no_place, named_place, AreIn, OptIn, RunIn}

abbrev pub BoundIn : (Place → Type 0) → Bound → Type 0
BoundIn P (bound.Number is_negative digits) = Unit {0}
BoundIn P (bound.Named name) = P name.place

abbrev pub RangeIn : (Place → Type 0) → Range → Type 0
RangeIn P range = BoundIn P range.lo × BoundIn P range.hi

abbrev pub LimitsIn : (Place → Type 0) → Limits → Type 0
LimitsIn P limits.Absent = Unit {0}
LimitsIn P (limits.Range range) = RangeIn P range
LimitsIn P (limits.Size range) = RangeIn P range
LimitsIn P limits.Other = Unit {0}

abbrev pub FrontIn : (Place → Type 0) → Option Front → Type 0
FrontIn P None = Unit {0}
FrontIn P (Some f) = BoundIn P f.bound × AreIn P f.rest

abbrev pub RangeFrontIn : (Place → Type 0) → Option RangeFront → Type 0
RangeFrontIn P None = Unit {0}
RangeFrontIn P (Some f) = RangeIn P f.range

abbrev pub SizeIn : (Place → Type 0) → SizeTree → Type 0
SizeIn P (size.Bracket run) = RunIn P run
SizeIn P (size.Size place run) = RunIn P run

module _ (P : Place → Type 0) where
  if_front : (b : Bool) (x : Option Front) → FrontIn P x → FrontIn P (if b then x else None)
  if_front true x p = p
  if_front false x p = tt

  if_range : (b : Bool) (x : Option Range) → OptIn (RangeIn P) x → OptIn (RangeIn P) (if b then x else None)
  if_range true x p = p
  if_range false x p = tt

  -- ---- bounds

  negative_by : (k : Token) (place : Place) (from to : ℕ) (ts : List Spanned) → AreIn P ts → FrontIn P (negative_bound (record { token = k; place = place; start = from; end = to } ∷ ts))
  negative_by (token.Name w) place from to ts all = tt
  negative_by (token.Keyword w) place from to ts all = tt
  negative_by (token.Number n) place from to ts all = (tt, all)
  negative_by (token.Text w) place from to ts all = tt
  negative_by (token.Mark m) place from to ts all = tt
  negative_by (token.AsnKeyword w) place from to ts all = tt
  negative_by (token.AsnMark m) place from to ts all = tt
  negative_by token.End place from to ts all = tt

  negative_in : (ts : List Spanned) → AreIn P ts → FrontIn P (negative_bound ts)
  negative_in [] all = tt
  negative_in (t ∷ ts) all = negative_by t.token t.place t.start t.end ts all.1

  bound_mark : (t : Spanned) (ts : List Spanned) → AreIn P ts → (m : AsnMark) → FrontIn P (bound_by t ts (token.AsnMark m))
  bound_mark t ts all mark.Assign = tt
  bound_mark t ts all mark.Range = tt
  bound_mark t ts all mark.Ellipsis = tt
  bound_mark t ts all mark.Exclamation = tt
  bound_mark t ts all mark.NumberSign = tt
  bound_mark t ts all mark.Dollar = tt
  bound_mark t ts all mark.Percent = tt
  bound_mark t ts all mark.Ampersand = tt
  bound_mark t ts all mark.LeftParenthesis = tt
  bound_mark t ts all mark.RightParenthesis = tt
  bound_mark t ts all mark.Asterisk = tt
  bound_mark t ts all mark.Plus = tt
  bound_mark t ts all mark.Comma = tt
  bound_mark t ts all mark.Hyphen = negative_in ts all
  bound_mark t ts all mark.FullStop = tt
  bound_mark t ts all mark.Solidus = tt
  bound_mark t ts all mark.Colon = tt
  bound_mark t ts all mark.Semicolon = tt
  bound_mark t ts all mark.Less = tt
  bound_mark t ts all mark.Equal = tt
  bound_mark t ts all mark.Greater = tt
  bound_mark t ts all mark.Question = tt
  bound_mark t ts all mark.At = tt
  bound_mark t ts all mark.LeftBracket = tt
  bound_mark t ts all mark.ReverseSolidus = tt
  bound_mark t ts all mark.RightBracket = tt
  bound_mark t ts all mark.Circumflex = tt
  bound_mark t ts all mark.Underline = tt
  bound_mark t ts all mark.Grave = tt
  bound_mark t ts all mark.LeftBrace = tt
  bound_mark t ts all mark.VerticalBar = tt
  bound_mark t ts all mark.RightBrace = tt
  bound_mark t ts all mark.Tilde = tt

  bound_token : (t : Spanned) (ts : List Spanned) → P t.place → AreIn P ts → (k : Token) → FrontIn P (bound_by t ts k)
  bound_token t ts p all (token.Name w) = if_front (is_kind 1 t) (Some (record { bound = bound.Named (named t.place w); rest = ts })) (subst P (sym (named_place t.place w)) p, all)
  bound_token t ts p all (token.Keyword w) = tt
  bound_token t ts p all (token.Number n) = (tt, all)
  bound_token t ts p all (token.Text w) = tt
  bound_token t ts p all (token.Mark m) = tt
  bound_token t ts p all (token.AsnKeyword w) = tt
  bound_token t ts p all (token.AsnMark m) = bound_mark t ts all m
  bound_token t ts p all token.End = tt

  front_bound : (ts : List Spanned) → AreIn P ts → FrontIn P (bound_in ts)
  front_bound [] all = tt
  front_bound (t ∷ ts) all = bound_token t ts all.0 all.1 t.token

  -- ---- ranges and sizes

  second_in : (lo : Bound) (f : Option Front) → BoundIn P lo → FrontIn P f → RangeFrontIn P (with_second lo f)
  second_in lo None p q = tt
  second_in lo (Some f) p q = (p, q.0)

  second_mark : (lo : Bound) (place : Place) (from to : ℕ) (ts : List Spanned) → BoundIn P lo → AreIn P ts → (m : AsnMark)
      → RangeFrontIn P (with_first (Some (record { bound = lo; rest = record { token = token.AsnMark m; place = place; start = from; end = to } ∷ ts })))
  second_mark lo place from to ts p all mark.Assign = (p, p)
  second_mark lo place from to ts p all mark.Range = second_in lo (bound_in ts) p (front_bound ts all)
  second_mark lo place from to ts p all mark.Ellipsis = (p, p)
  second_mark lo place from to ts p all mark.Exclamation = (p, p)
  second_mark lo place from to ts p all mark.NumberSign = (p, p)
  second_mark lo place from to ts p all mark.Dollar = (p, p)
  second_mark lo place from to ts p all mark.Percent = (p, p)
  second_mark lo place from to ts p all mark.Ampersand = (p, p)
  second_mark lo place from to ts p all mark.LeftParenthesis = (p, p)
  second_mark lo place from to ts p all mark.RightParenthesis = (p, p)
  second_mark lo place from to ts p all mark.Asterisk = (p, p)
  second_mark lo place from to ts p all mark.Plus = (p, p)
  second_mark lo place from to ts p all mark.Comma = (p, p)
  second_mark lo place from to ts p all mark.Hyphen = (p, p)
  second_mark lo place from to ts p all mark.FullStop = (p, p)
  second_mark lo place from to ts p all mark.Solidus = (p, p)
  second_mark lo place from to ts p all mark.Colon = (p, p)
  second_mark lo place from to ts p all mark.Semicolon = (p, p)
  second_mark lo place from to ts p all mark.Less = (p, p)
  second_mark lo place from to ts p all mark.Equal = (p, p)
  second_mark lo place from to ts p all mark.Greater = (p, p)
  second_mark lo place from to ts p all mark.Question = (p, p)
  second_mark lo place from to ts p all mark.At = (p, p)
  second_mark lo place from to ts p all mark.LeftBracket = (p, p)
  second_mark lo place from to ts p all mark.ReverseSolidus = (p, p)
  second_mark lo place from to ts p all mark.RightBracket = (p, p)
  second_mark lo place from to ts p all mark.Circumflex = (p, p)
  second_mark lo place from to ts p all mark.Underline = (p, p)
  second_mark lo place from to ts p all mark.Grave = (p, p)
  second_mark lo place from to ts p all mark.LeftBrace = (p, p)
  second_mark lo place from to ts p all mark.VerticalBar = (p, p)
  second_mark lo place from to ts p all mark.RightBrace = (p, p)
  second_mark lo place from to ts p all mark.Tilde = (p, p)

  first_by : (lo : Bound) (k : Token) (place : Place) (from to : ℕ) (ts : List Spanned) → BoundIn P lo → AreIn P ts
      → RangeFrontIn P (with_first (Some (record { bound = lo; rest = record { token = k; place = place; start = from; end = to } ∷ ts })))
  first_by lo (token.Name w) place from to ts p all = (p, p)
  first_by lo (token.Keyword w) place from to ts p all = (p, p)
  first_by lo (token.Number n) place from to ts p all = (p, p)
  first_by lo (token.Text w) place from to ts p all = (p, p)
  first_by lo (token.Mark m) place from to ts p all = (p, p)
  first_by lo (token.AsnKeyword w) place from to ts p all = (p, p)
  first_by lo (token.AsnMark m) place from to ts p all = second_mark lo place from to ts p all m
  first_by lo token.End place from to ts p all = (p, p)

  first_rest : (lo : Bound) (ts : List Spanned) → BoundIn P lo → AreIn P ts → RangeFrontIn P (with_first (Some (record { bound = lo; rest = ts })))
  first_rest lo [] p all = (p, p)
  first_rest lo (t ∷ ts) p all = first_by lo t.token t.place t.start t.end ts p all.1

  first_in : (f : Option Front) → FrontIn P f → RangeFrontIn P (with_first f)
  first_in None p = tt
  first_in (Some f) p = first_rest f.bound f.rest p.0 p.1

  range_front_in : (ts : List Spanned) → AreIn P ts → RangeFrontIn P (range_front ts)
  range_front_in ts all = first_in (bound_in ts) (front_bound ts all)

  ended_by : (range : Range) (rest : List Spanned) → RangeIn P range → OptIn (RangeIn P) (ended (Some (record { range = range; rest = rest })))
  ended_by range [] p = p
  ended_by range (t ∷ ts) p = tt

  ended_in : (f : Option RangeFront) → RangeFrontIn P f → OptIn (RangeIn P) (ended f)
  ended_in None p = tt
  ended_in (Some f) p = ended_by f.range f.rest p

  closed_by : (range : Range) (rest : List Spanned) → RangeIn P range → OptIn (RangeIn P) (closed (Some (record { range = range; rest = rest })))
  closed_by range [] p = tt
  closed_by range (t ∷ []) p = if_range (is_mark mark.RightParenthesis t.token) (Some range) p
  closed_by range (t ∷ u ∷ ts) p = tt

  closed_in : (f : Option RangeFront) → RangeFrontIn P f → OptIn (RangeIn P) (closed f)
  closed_in None p = tt
  closed_in (Some f) p = closed_by f.range f.rest p

  size_is_in : (ts : List Spanned) → AreIn P ts → OptIn (RangeIn P) (size_in ts)
  size_is_in [] all = tt
  size_is_in (t ∷ []) all = tt
  size_is_in (word ∷ bracket ∷ ts) all =
      if_range (is_size_word word.token) (if is_mark mark.LeftParenthesis bracket.token then closed (range_front ts) else None)
      (if_range (is_mark mark.LeftParenthesis bracket.token) (closed (range_front ts)) (closed_in (range_front ts) (range_front_in ts all.1.1)))

  or_size_in : (r : Option Range) → OptIn (RangeIn P) r → LimitsIn P (or_size r)
  or_size_in None p = tt
  or_size_in (Some r) p = p

  or_range_in : (r : Option Range) (fallback : Limits) → OptIn (RangeIn P) r → LimitsIn P fallback → LimitsIn P (or_range r fallback)
  or_range_in None fallback p q = q
  or_range_in (Some r) fallback p q = p

  pub limits_are_in : (ts : List Spanned) → AreIn P ts → LimitsIn P (limits_in ts)
  limits_are_in ts all =
      or_range_in (range_in ts) (or_size (size_in ts)) (ended_in (range_front ts) (range_front_in ts all)) (or_size_in (size_in ts) (size_is_in ts all))

  pub limits_of_in : (run : Option RunTree) → OptIn (RunIn P) run → LimitsIn P (limits_of run)
  limits_of_in None p = tt
  limits_of_in (Some run) p = limits_are_in run.tokens p

  pub limits_of_size_in : (s : Option SizeTree) → OptIn (SizeIn P) s → LimitsIn P (limits_of_size s)
  limits_of_size_in None p = tt
  limits_of_size_in (Some (size.Bracket run)) p = limits_are_in run.tokens p
  limits_of_size_in (Some (size.Size place run)) p = or_size_in (range_in run.tokens) (ended_in (range_front run.tokens) (range_front_in run.tokens p))
