-- What the tokens and symbols of the code are among those of the definitions.
use Rattle.std.specs.Prelude.{List, map}
use Rattle.og_csubset.specs.Tokens as tokens
use Rattle.og_csubset.specs.Recognizer as symbols
use Rattle.og_clex.specs.declared.token.Keyword.{Keyword}
use Rattle.og_clex.specs.declared.token.Keyword.TheVariants as keyword
use Rattle.og_clex.specs.declared.token.Mark.{Mark}
use Rattle.og_clex.specs.declared.token.Mark.TheVariants as mark
use Rattle.og_clex.specs.declared.token.Token.{Token}
use Rattle.og_clex.specs.declared.token.Token.TheVariants as token
use Rattle.og_clex.specs.declared.machine.Symbol.{Symbol}
use Rattle.og_clex.specs.declared.machine.Symbol.TheVariants as symbol

abbrev pub keyword_view : Keyword → tokens.Keyword
keyword_view keyword.Typedef = tokens.typedef_
keyword_view keyword.Struct = tokens.struct_
keyword_view keyword.Void = tokens.void_
keyword_view keyword.If = tokens.if_
keyword_view keyword.Goto = tokens.goto_
keyword_view keyword.Switch = tokens.switch_
keyword_view keyword.Case = tokens.case_
keyword_view keyword.Default = tokens.default_
keyword_view keyword.Return = tokens.return_
keyword_view keyword.Int64Type = tokens.int64_t
keyword_view keyword.Int64Literal = tokens.INT64_C

abbrev pub mark_view : Mark → tokens.Mark
mark_view mark.OpenBrace = tokens.open_brace
mark_view mark.CloseBrace = tokens.close_brace
mark_view mark.OpenSquare = tokens.open_square
mark_view mark.CloseSquare = tokens.close_square
mark_view mark.OpenRound = tokens.open_round
mark_view mark.CloseRound = tokens.close_round
mark_view mark.Semicolon = tokens.semicolon
mark_view mark.Colon = tokens.colon
mark_view mark.Question = tokens.question
mark_view mark.Dot = tokens.dot
mark_view mark.Equals = tokens.equals

abbrev pub token_view : Token → tokens.Token
token_view (token.Name w) = tokens.name w.bytes
token_view (token.Number n) = tokens.number n.value
token_view (token.Operator op) = tokens.operator op
token_view (token.Relation op) = tokens.relation op
token_view (token.Keyword k) = tokens.keyword (keyword_view k)
token_view (token.Mark m) = tokens.mark (mark_view m)

abbrev pub tokens_view : List Token → List tokens.Token
tokens_view ts = map token_view ts

abbrev pub symbol_view : Symbol → symbols.Symbol
symbol_view (symbol.Keyword k) = symbols.a_keyword (keyword_view k)
symbol_view (symbol.Mark m) = symbols.a_mark (mark_view m)
symbol_view symbol.Sign = symbols.a_sign
symbol_view symbol.Name = symbols.a_name
symbol_view symbol.Number = symbols.a_number
symbol_view (symbol.ThisNumber n) = symbols.this_number n
symbol_view symbol.Size = symbols.a_size
symbol_view symbol.Relation = symbols.a_relation
symbol_view symbol.Sum = symbols.a_sum
symbol_view symbol.More = symbols.more
symbol_view symbol.Operand = symbols.an_operand
symbol_view symbol.Path = symbols.a_path
symbol_view symbol.BracketRest = symbols.bracket_rest
symbol_view symbol.Constant = symbols.a_constant
symbol_view symbol.Cases = symbols.cases
symbol_view symbol.NamedRest = symbols.named_rest
symbol_view symbol.Statements = symbols.statements
symbol_view symbol.MemberRest = symbols.member_rest
symbol_view symbol.Member = symbols.a_member
symbol_view symbol.Members = symbols.members
symbol_view symbol.Structs = symbols.structs
symbol_view symbol.Globals = symbols.globals
symbol_view symbol.HeadRest = symbols.head_rest
symbol_view symbol.Declarations = symbols.declarations
symbol_view symbol.Functions = symbols.functions

abbrev pub symbols_view : List Symbol → symbols.Symbols
symbols_view S = map symbol_view S
