-- A recognizer of programs, one token after the other: a stack of what is still to come. It needs no tree, and no levels of
-- operators, since those change the tree alone. It tells the first token that no program goes on with.
use Rattle.std.specs.Prelude.{ℕ, ◌-◌, ◌^◌, Bool, true, false, cond, ◌&&◌, List, [], ◌∷◌, ◌++◌, ◌==◌, nat_lt, nat_le, Option, Some, None}
use Rattle.og_csubset.specs.declared.COp.TheVariants.{Sub}
use Rattle.og_csubset.specs.Tokens.{Token, name, number, operator, relation, keyword, mark, Keyword, typedef_, struct_, void_, if_, goto_, switch_, case_, default_, return_, int64_t, INT64_C, Mark, open_brace, close_brace, open_square, close_square, open_round, close_round, semicolon, colon, question, dot, equals}
use Rattle.og_csubset.specs.Reading.{mark_number, keyword_number}

-- what may be still to come: one token, or a part of the grammar; `more` are the operators and operands behind an operand
pub data Symbol : Type 0 where
  a_keyword : Keyword → Symbol
  a_mark : Mark → Symbol
  a_sign : Symbol
  a_name : Symbol
  a_number : Symbol
  this_number : ℕ → Symbol
  a_size : Symbol
  a_relation : Symbol
  a_sum : Symbol
  more : Symbol
  an_operand : Symbol
  a_path : Symbol
  bracket_rest : Symbol
  a_constant : Symbol
  cases : Symbol
  named_rest : Symbol
  statements : Symbol
  member_rest : Symbol
  a_member : Symbol
  members : Symbol
  structs : Symbol
  globals : Symbol
  head_rest : Symbol
  declarations : Symbol
  functions : Symbol

abbrev pub Symbols : Type 0
Symbols = List Symbol

-- whether nothing is one of its texts
abbrev pub is_empty : Symbol → Bool
is_empty more = true
is_empty a_path = true
is_empty cases = true
is_empty statements = true
is_empty members = true
is_empty structs = true
is_empty globals = true
is_empty declarations = true
is_empty functions = true
is_empty _ = false

-- the literal behind its first word, and the tokens of a jump behind `goto`
abbrev pub literal_rest : Symbols → Symbols
literal_rest S = a_mark open_round ∷ a_number ∷ a_mark close_round ∷ S

abbrev pub jump_rest : Symbols → Symbols
jump_rest S = a_name ∷ a_mark semicolon ∷ S

-- what is to come behind this token instead
abbrev pub next_keyword : Keyword → Token → Option Symbols
next_keyword k (keyword j) = cond (keyword_number k == keyword_number j) (Some []) None
next_keyword k _ = None

abbrev pub next_mark : Mark → Token → Option Symbols
next_mark m (mark k) = cond (mark_number m == mark_number k) (Some []) None
next_mark m _ = None

abbrev pub next_sign : Token → Option Symbols
next_sign (operator Sub) = Some []
next_sign _ = None

abbrev pub next_name : Token → Option Symbols
next_name (name w) = Some []
next_name _ = None

abbrev pub next_number : Token → Option Symbols
next_number (number n) = Some []
next_number _ = None

abbrev pub next_this : ℕ → Token → Option Symbols
next_this m (number n) = cond (n == m) (Some []) None
next_this m _ = None

abbrev pub next_size : Token → Option Symbols
next_size (number n) = cond (nat_lt 0 n && nat_le n 65536) (Some []) None
next_size _ = None

abbrev pub next_relation : Token → Option Symbols
next_relation (relation op) = Some []
next_relation _ = None

abbrev pub next_operand : Token → Symbols → Option Symbols
next_operand (name w) S = Some (a_path ∷ S)
next_operand (keyword INT64_C) S = Some (literal_rest S)
next_operand (mark open_round) S = Some (a_sum ∷ bracket_rest ∷ S)
next_operand _ S = None

abbrev pub next_sum : Token → Option Symbols
next_sum (operator Sub) = Some (an_operand ∷ more ∷ [])
next_sum (operator _) = None
next_sum u = next_operand u (more ∷ [])

abbrev pub next_more : Token → Option Symbols
next_more (operator op) = Some (a_sum ∷ [])
next_more _ = None

abbrev pub next_path : Token → Option Symbols
next_path (mark dot) = Some (a_name ∷ a_path ∷ [])
next_path (mark open_square) = Some (a_sum ∷ a_mark close_square ∷ a_path ∷ [])
next_path _ = None

abbrev pub next_bracket : Token → Option Symbols
next_bracket (mark close_round) = Some []
next_bracket (relation op) =
    Some (a_sum ∷ a_mark question ∷ a_sum ∷ a_mark colon ∷ a_sum ∷ a_mark close_round ∷ [])
next_bracket _ = None

abbrev pub least_rest : Symbols
least_rest =
    a_sign ∷ a_keyword INT64_C ∷ a_mark open_round ∷ this_number (2 ^ 63 - 1) ∷ a_mark close_round
    ∷ a_sign ∷ a_keyword INT64_C ∷ a_mark open_round ∷ this_number 1 ∷ a_mark close_round ∷ a_mark close_round ∷ []

abbrev pub next_constant : Token → Option Symbols
next_constant (operator Sub) = Some (a_keyword INT64_C ∷ literal_rest [])
next_constant (keyword INT64_C) = Some (literal_rest [])
next_constant (mark open_round) = Some least_rest
next_constant _ = None

abbrev pub next_cases : Token → Option Symbols
next_cases (keyword case_) = Some (a_constant ∷ a_mark colon ∷ a_keyword goto_ ∷ jump_rest (cases ∷ []))
next_cases _ = None

abbrev pub value_rest : Symbols
value_rest = a_mark equals ∷ a_sum ∷ a_mark semicolon ∷ []

abbrev pub next_named : Token → Option Symbols
next_named (mark colon) = Some (a_mark semicolon ∷ [])
next_named (mark open_round) = Some (a_mark close_round ∷ a_mark semicolon ∷ [])
next_named (mark dot) = Some (a_name ∷ a_path ∷ value_rest)
next_named (mark open_square) = Some (a_sum ∷ a_mark close_square ∷ a_path ∷ value_rest)
next_named (mark equals) = Some (a_sum ∷ a_mark semicolon ∷ [])
next_named _ = None

abbrev pub next_statements : Token → Option Symbols
next_statements (name w) = Some (named_rest ∷ statements ∷ [])
next_statements (keyword goto_) = Some (jump_rest (statements ∷ []))
next_statements (keyword if_) =
    Some (a_mark open_round ∷ a_sum ∷ a_relation ∷ a_sum ∷ a_mark close_round ∷ a_keyword goto_ ∷ jump_rest (statements ∷ []))
next_statements (keyword switch_) =
    Some (a_mark open_round ∷ a_sum ∷ a_mark close_round ∷ a_mark open_brace ∷ cases ∷ a_keyword default_ ∷ a_mark colon
    ∷ a_keyword goto_ ∷ jump_rest (a_mark close_brace ∷ statements ∷ []))
next_statements (keyword return_) = Some (a_mark semicolon ∷ statements ∷ [])
next_statements _ = None

-- behind the first token of a type
abbrev pub next_typed : Symbols → Token → Option Symbols
next_typed S (name w) = Some S
next_typed S (keyword int64_t) = Some S
next_typed S _ = None

abbrev pub next_member_rest : Token → Option Symbols
next_member_rest (mark semicolon) = Some []
next_member_rest (mark open_square) = Some (a_size ∷ a_mark close_square ∷ a_mark semicolon ∷ [])
next_member_rest _ = None

abbrev pub next_structs : Token → Option Symbols
next_structs (keyword typedef_) =
    Some (a_keyword struct_ ∷ a_mark open_brace ∷ a_member ∷ members ∷ a_mark close_brace ∷ jump_rest (structs ∷ []))
next_structs _ = None

-- behind the first word of an event or a function
abbrev pub head : Symbols → Symbols
head S = a_name ∷ a_mark open_round ∷ a_keyword void_ ∷ a_mark close_round ∷ S

abbrev pub body : Symbols
body = statements ∷ a_mark close_brace ∷ functions ∷ []

abbrev pub next_head : Token → Option Symbols
next_head (mark semicolon) = Some (declarations ∷ [])
next_head (mark open_brace) = Some body
next_head _ = None

abbrev pub next_declarations : Token → Option Symbols
next_declarations (keyword void_) = Some (head (head_rest ∷ []))
next_declarations _ = None

abbrev pub next_functions : Token → Option Symbols
next_functions (keyword void_) = Some (head (a_mark open_brace ∷ body))
next_functions _ = None

abbrev pub next : Symbol → Token → Option Symbols
next (a_keyword k) u = next_keyword k u
next (a_mark m) u = next_mark m u
next a_sign u = next_sign u
next a_name u = next_name u
next a_number u = next_number u
next (this_number m) u = next_this m u
next a_size u = next_size u
next a_relation u = next_relation u
next a_sum u = next_sum u
next more u = next_more u
next an_operand u = next_operand u []
next a_path u = next_path u
next bracket_rest u = next_bracket u
next a_constant u = next_constant u
next cases u = next_cases u
next named_rest u = next_named u
next statements u = next_statements u
next member_rest u = next_member_rest u
next a_member u = next_typed (a_name ∷ member_rest ∷ []) u
next members u = next_typed (a_name ∷ member_rest ∷ members ∷ []) u
next structs u = next_structs u
next globals u = next_typed (jump_rest (globals ∷ [])) u
next head_rest u = next_head u
next declarations u = next_declarations u
next functions u = next_functions u

-- one token: the first of the symbols takes it, or is left out where nothing is one of its texts
abbrev pub step_on : Option Symbols → Bool → Symbols → Option Symbols → Option Symbols
step_on (Some T) empty S later = Some (T ++ S)
step_on None true S later = later
step_on None false S later = None

abbrev pub step : Symbols → Token → Option Symbols
step [] u = None
step (X ∷ S) u = step_on (next X u) (is_empty X) S (step S u)

-- whether nothing more needs to come
abbrev pub may_end : Symbols → Bool
may_end [] = true
may_end (X ∷ S) = is_empty X && may_end S

abbrev pub and_goes_on : {B : Type 0} → Option Symbols → B → (Symbols → B) → B
and_goes_on None nothing go = nothing
and_goes_on (Some S) nothing go = go S

-- whether these tokens are a text of the symbols
abbrev pub accepts : Symbols → List Token → Bool
accepts S [] = may_end S
accepts S (u ∷ us) = and_goes_on (step S u) false (λ T. accepts T us)

-- what is to come behind these tokens
abbrev pub run : Symbols → List Token → Option Symbols
run S [] = Some S
run S (u ∷ us) = and_goes_on (step S u) None (λ T. run T us)

abbrev pub program_symbols : Symbols
program_symbols = structs ∷ globals ∷ declarations ∷ []
