-- Whatever the recognizer has taken so far is the beginning of a program: what is still to come has a text.
use Rattle.std.proofs.Common.{◌≡◌, Bool, true, false, ◌&&◌, List, [], ◌∷◌, ◌++◌, ◌==◌, nat_lt, nat_le, codes, Option, Some, None, refl, sym, ap, ◌∙◌, subst, eq-eqb, append-nil, append_assoc}
use Rattle.std.proofs.lemmas.Bool.{true≢false, and_parts}
use Rattle.og_csubset.specs.declared.CProgram.{CProgram}
use Rattle.og_csubset.specs.declared.COp.TheVariants.{Sub}
use Rattle.og_csubset.specs.declared.CRel.TheVariants.{Eq}
use Rattle.og_csubset.specs.Tokens.{Token, name, number, operator, relation, keyword, mark, typedef_, void_, if_, goto_, switch_, case_, default_, return_, int64_t, INT64_C, Mark, open_brace, close_brace, open_square, close_square, open_round, close_round, semicolon, colon, question, dot, equals}
use Rattle.og_csubset.specs.Spelling.{literal, IsProgram}
use Rattle.og_csubset.specs.Wrong.{BeginsProgram}
use Rattle.og_csubset.specs.Reading.{mark_number, keyword_number}
use Rattle.og_csubset.proofs.Seen.{nothing, Some-same, seen_cond}
use Rattle.og_csubset.specs.Recognizer.{Symbol, Symbols, a_keyword, a_mark, a_sign, a_name, a_number, this_number, a_size, a_relation, a_sum, more, an_operand, a_path, bracket_rest, a_constant, cases, named_rest, statements, member_rest, a_member, members, structs, globals, head_rest, declarations, functions, is_empty, next, step, step_on, and_goes_on, accepts, may_end, run, program_symbols}
use Rattle.og_csubset.proofs.Accepted.{program_accepted}
use Rattle.og_csubset.proofs.Recognized.{program_in}

-- what may come behind a number
abbrev closes_mark : Mark → Bool
closes_mark close_square = true
closes_mark close_round = true
closes_mark question = true
closes_mark colon = true
closes_mark semicolon = true
closes_mark _ = false

abbrev closes : Symbol → Bool
closes (a_mark m) = closes_mark m
closes bracket_rest = true
closes a_relation = true
closes _ = false

abbrev is_more : Symbol → Bool
is_more more = true
is_more _ = false

abbrev is_path_end : Symbol → Bool
is_path_end more = true
is_path_end (a_mark equals) = true
is_path_end _ = false

abbrev is_close_brace : Symbol → Bool
is_close_brace (a_mark close_brace) = true
is_close_brace _ = false

abbrev is_default : Symbol → Bool
is_default (a_keyword default_) = true
is_default _ = false

abbrev is_globals : Symbol → Bool
is_globals globals = true
is_globals _ = false

abbrev is_declarations : Symbol → Bool
is_declarations declarations = true
is_declarations _ = false

-- which symbol may stand behind which
abbrev follows : Symbol → Symbol → Bool
follows a_sum Y = closes Y
follows more Y = closes Y
follows an_operand Y = is_more Y
follows a_path Y = is_path_end Y
follows cases Y = is_default Y
follows statements Y = is_close_brace Y
follows members Y = is_close_brace Y
follows structs Y = is_globals Y
follows globals Y = is_declarations Y
follows head_rest Y = false
follows declarations Y = false
follows functions Y = false
follows _ Y = true

abbrev fit : Symbols → Bool
fit [] = true
fit (X ∷ []) = true
fit (X ∷ Y ∷ S) = follows X Y && fit (Y ∷ S)

fit_rest : (X : Symbol) (S : Symbols) → fit (X ∷ S) ≡ true → fit S ≡ true
fit_rest X [] h = refl
fit_rest X (Y ∷ S) h = (and_parts (follows X Y) (fit (Y ∷ S)) h).1

-- behind a mark everything may stand, and behind these two the same
fit_mark : (m : Mark) (S : Symbols) → fit S ≡ true → fit (a_mark m ∷ S) ≡ true
fit_mark m [] h = refl
fit_mark m (Y ∷ S) h = h

fit_bracket : (S : Symbols) → fit S ≡ true → fit (bracket_rest ∷ S) ≡ true
fit_bracket [] h = refl
fit_bracket (Y ∷ S) h = h

fit_member : (S : Symbols) → fit S ≡ true → fit (member_rest ∷ S) ≡ true
fit_member [] h = refl
fit_member (Y ∷ S) h = h

sum_more : (S : Symbols) → fit (a_sum ∷ S) ≡ true → fit (more ∷ S) ≡ true
sum_more [] h = refl
sum_more (Y ∷ S) h = h

more_sum : (S : Symbols) → fit (more ∷ S) ≡ true → fit (a_sum ∷ S) ≡ true
more_sum [] h = refl
more_sum (Y ∷ S) h = h

no : {C : Type 0} → ◌≡◌ {A = Bool} false true → C
no h = absurd (true≢false (sym h))

operand_path : (S : Symbols) → fit (an_operand ∷ S) ≡ true → fit (a_path ∷ S) ≡ true
operand_path [] h = refl
operand_path (more ∷ S) h = h
operand_path (_ ∷ S) h = no h

head_declarations : (S : Symbols) → fit (head_rest ∷ S) ≡ true → fit (declarations ∷ S) ≡ true
head_declarations [] h = refl
head_declarations (Y ∷ S) h = no h

head_functions : (S : Symbols) → fit (head_rest ∷ S) ≡ true → fit (functions ∷ S) ≡ true
head_functions [] h = refl
head_functions (Y ∷ S) h = no h

declarations_head : (S : Symbols) → fit (declarations ∷ S) ≡ true → fit (head_rest ∷ S) ≡ true
declarations_head [] h = refl
declarations_head (Y ∷ S) h = no h

-- the same symbols by another name
known : (T U S : Symbols) → ◌≡◌ {A = Option Symbols} (Some T) (Some U) → fit (T ++ S) ≡ true → fit (U ++ S) ≡ true
known T U S e h = subst (λ V. fit (V ++ S) ≡ true) (Some-same T U e) h

-- a symbol that takes the token leaves symbols that fit
fit_next : (X : Symbol) (u : Token) (T S : Symbols) → next X u ≡ Some T → fit (X ∷ S) ≡ true → fit (T ++ S) ≡ true
fit_next (a_keyword k) (keyword j) T S e h = known [] T S (seen_cond (keyword_number k == keyword_number j) (Some []) T e).1 (fit_rest (a_keyword k) S h)
fit_next (a_keyword k) (_) T S e h = nothing T e
fit_next (a_mark m) (mark k) T S e h = known [] T S (seen_cond (mark_number m == mark_number k) (Some []) T e).1 (fit_rest (a_mark m) S h)
fit_next (a_mark m) (_) T S e h = nothing T e
fit_next a_sign (operator Sub) T S e h = known [] T S e (fit_rest a_sign S h)
fit_next a_sign (operator _) T S e h = nothing T e
fit_next a_sign (_) T S e h = nothing T e
fit_next a_name (name w) T S e h = known [] T S e (fit_rest a_name S h)
fit_next a_name (_) T S e h = nothing T e
fit_next a_number (number n) T S e h = known [] T S e (fit_rest a_number S h)
fit_next a_number (_) T S e h = nothing T e
fit_next (this_number m) (number n) T S e h = known [] T S (seen_cond (n == m) (Some []) T e).1 (fit_rest (this_number m) S h)
fit_next (this_number m) (_) T S e h = nothing T e
fit_next a_size (number n) T S e h = known [] T S (seen_cond (nat_lt 0 n && nat_le n 65536) (Some []) T e).1 (fit_rest a_size S h)
fit_next a_size (_) T S e h = nothing T e
fit_next a_relation (relation op) T S e h = known [] T S e (fit_rest a_relation S h)
fit_next a_relation (_) T S e h = nothing T e
fit_next a_sum (operator Sub) T S e h = known _ T S e (sum_more S h)
fit_next a_sum (operator _) T S e h = nothing T e
fit_next a_sum (name w) T S e h = known _ T S e (sum_more S h)
fit_next a_sum (keyword INT64_C) T S e h = known _ T S e (sum_more S h)
fit_next a_sum (keyword _) T S e h = nothing T e
fit_next a_sum (mark open_round) T S e h = known _ T S e (sum_more S h)
fit_next a_sum (mark _) T S e h = nothing T e
fit_next a_sum (_) T S e h = nothing T e
fit_next more (operator op) T S e h = known _ T S e (more_sum S h)
fit_next more (_) T S e h = nothing T e
fit_next an_operand (name w) T S e h = known _ T S e (operand_path S h)
fit_next an_operand (keyword INT64_C) T S e h = known _ T S e (fit_mark close_round S (fit_rest an_operand S h))
fit_next an_operand (keyword _) T S e h = nothing T e
fit_next an_operand (mark open_round) T S e h = known _ T S e (fit_bracket S (fit_rest an_operand S h))
fit_next an_operand (mark _) T S e h = nothing T e
fit_next an_operand (_) T S e h = nothing T e
fit_next a_path (mark dot) T S e h = known _ T S e h
fit_next a_path (mark open_square) T S e h = known _ T S e h
fit_next a_path (mark _) T S e h = nothing T e
fit_next a_path (_) T S e h = nothing T e
fit_next bracket_rest (mark close_round) T S e h = known [] T S e (fit_rest bracket_rest S h)
fit_next bracket_rest (mark _) T S e h = nothing T e
fit_next bracket_rest (relation op) T S e h = known _ T S e (fit_mark close_round S (fit_rest bracket_rest S h))
fit_next bracket_rest (_) T S e h = nothing T e
fit_next a_constant (operator Sub) T S e h = known _ T S e (fit_mark close_round S (fit_rest a_constant S h))
fit_next a_constant (operator _) T S e h = nothing T e
fit_next a_constant (keyword INT64_C) T S e h = known _ T S e (fit_mark close_round S (fit_rest a_constant S h))
fit_next a_constant (keyword _) T S e h = nothing T e
fit_next a_constant (mark open_round) T S e h = known _ T S e (fit_mark close_round S (fit_rest a_constant S h))
fit_next a_constant (mark _) T S e h = nothing T e
fit_next a_constant (_) T S e h = nothing T e
fit_next cases (keyword case_) T S e h = known _ T S e h
fit_next cases (keyword _) T S e h = nothing T e
fit_next cases (_) T S e h = nothing T e
fit_next named_rest (mark colon) T S e h = known _ T S e (fit_mark semicolon S (fit_rest named_rest S h))
fit_next named_rest (mark open_round) T S e h = known _ T S e (fit_mark semicolon S (fit_rest named_rest S h))
fit_next named_rest (mark dot) T S e h = known _ T S e (fit_mark semicolon S (fit_rest named_rest S h))
fit_next named_rest (mark open_square) T S e h = known _ T S e (fit_mark semicolon S (fit_rest named_rest S h))
fit_next named_rest (mark equals) T S e h = known _ T S e (fit_mark semicolon S (fit_rest named_rest S h))
fit_next named_rest (mark _) T S e h = nothing T e
fit_next named_rest (_) T S e h = nothing T e
fit_next statements (name w) T S e h = known _ T S e h
fit_next statements (keyword goto_) T S e h = known _ T S e h
fit_next statements (keyword if_) T S e h = known _ T S e h
fit_next statements (keyword switch_) T S e h = known _ T S e h
fit_next statements (keyword return_) T S e h = known _ T S e h
fit_next statements (keyword _) T S e h = nothing T e
fit_next statements (_) T S e h = nothing T e
fit_next member_rest (mark semicolon) T S e h = known [] T S e (fit_rest member_rest S h)
fit_next member_rest (mark open_square) T S e h = known _ T S e (fit_mark semicolon S (fit_rest member_rest S h))
fit_next member_rest (mark _) T S e h = nothing T e
fit_next member_rest (_) T S e h = nothing T e
fit_next a_member (name w) T S e h = known _ T S e (fit_member S (fit_rest a_member S h))
fit_next a_member (keyword int64_t) T S e h = known _ T S e (fit_member S (fit_rest a_member S h))
fit_next a_member (keyword _) T S e h = nothing T e
fit_next a_member (_) T S e h = nothing T e
fit_next members (name w) T S e h = known _ T S e h
fit_next members (keyword int64_t) T S e h = known _ T S e h
fit_next members (keyword _) T S e h = nothing T e
fit_next members (_) T S e h = nothing T e
fit_next structs (keyword typedef_) T S e h = known _ T S e h
fit_next structs (keyword _) T S e h = nothing T e
fit_next structs (_) T S e h = nothing T e
fit_next globals (name w) T S e h = known _ T S e h
fit_next globals (keyword int64_t) T S e h = known _ T S e h
fit_next globals (keyword _) T S e h = nothing T e
fit_next globals (_) T S e h = nothing T e
fit_next head_rest (mark semicolon) T S e h = known _ T S e (head_declarations S h)
fit_next head_rest (mark open_brace) T S e h = known _ T S e (head_functions S h)
fit_next head_rest (mark _) T S e h = nothing T e
fit_next head_rest (_) T S e h = nothing T e
fit_next declarations (keyword void_) T S e h = known _ T S e (declarations_head S h)
fit_next declarations (keyword _) T S e h = nothing T e
fit_next declarations (_) T S e h = nothing T e
fit_next functions (keyword void_) T S e h = known _ T S e h
fit_next functions (keyword _) T S e h = nothing T e
fit_next functions (_) T S e h = nothing T e

fit_step : (S T : Symbols) (u : Token) → step S u ≡ Some T → fit S ≡ true → fit T ≡ true
fit_step [] T u e h = nothing T e
fit_step (X ∷ S) T u e h = go (next X u) (is_empty X) refl (λ k. fit_step S T u k (fit_rest X S h)) e
  where
    go : (o : Option Symbols) (c : Bool) → next X u ≡ o → (step S u ≡ Some T → fit T ≡ true) → step_on o c S (step S u) ≡ Some T → fit T ≡ true
    go (Some U) c k later e = subst (λ V. fit V ≡ true) (Some-same (U ++ S) T e) (fit_next X u U S k h)
    go None true k later e = later e
    go None false k later e = nothing T e

fit_run : (S T : Symbols) (ts : List Token) → run S ts ≡ Some T → fit S ≡ true → fit T ≡ true
fit_run S T [] e h = subst (λ V. fit V ≡ true) (Some-same S T e) h
fit_run S T (u ∷ us) e h = go (step S u) refl (λ U k q. fit_run U T us k q) e
  where
    go : (o : Option Symbols) → step S u ≡ o → ((U : Symbols) → run U us ≡ Some T → fit U ≡ true → fit T ≡ true)
        → and_goes_on o None (λ U. run U us) ≡ Some T → fit T ≡ true
    go None k later e = nothing T e
    go (Some U) k later e = later U e (fit_step S U u k h)

-- a text of each symbol
abbrev some_text : Symbol → List Token → List Token
some_text (a_keyword k) rest = keyword k ∷ rest
some_text (a_mark m) rest = mark m ∷ rest
some_text a_sign rest = operator Sub ∷ rest
some_text a_name rest = name (codes "x") ∷ rest
some_text a_number rest = number 0 ∷ rest
some_text (this_number m) rest = number m ∷ rest
some_text a_size rest = number 1 ∷ rest
some_text a_relation rest = relation Eq ∷ rest
some_text a_sum rest = literal 0 rest
some_text more rest = rest
some_text an_operand rest = literal 0 rest
some_text a_path rest = rest
some_text bracket_rest rest = mark close_round ∷ rest
some_text a_constant rest = literal 0 rest
some_text cases rest = rest
some_text named_rest rest = mark colon ∷ mark semicolon ∷ rest
some_text statements rest = rest
some_text member_rest rest = mark semicolon ∷ rest
some_text a_member rest = keyword int64_t ∷ name (codes "x") ∷ mark semicolon ∷ rest
some_text members rest = rest
some_text structs rest = rest
some_text globals rest = rest
some_text head_rest rest = mark semicolon ∷ rest
some_text declarations rest = rest
some_text functions rest = rest

abbrev finish : Symbols → List Token
finish [] = []
finish (X ∷ S) = some_text X (finish S)

-- a repetition that ends is left out before what comes behind it
skip_more : (S : Symbols) → fit (more ∷ S) ≡ true → accepts (more ∷ S) (finish S) ≡ accepts S (finish S)
skip_more [] h = refl
skip_more (a_mark m ∷ S) h = refl
skip_more (bracket_rest ∷ S) h = refl
skip_more (a_relation ∷ S) h = refl
skip_more (_ ∷ S) h = no h

-- a path ends where a number does
path_close : (S : Symbols) → fit (more ∷ S) ≡ true → accepts (a_path ∷ more ∷ S) (finish S) ≡ accepts (more ∷ S) (finish S)
path_close [] h = refl
path_close (a_mark close_square ∷ S) h = refl
path_close (a_mark close_round ∷ S) h = refl
path_close (a_mark question ∷ S) h = refl
path_close (a_mark colon ∷ S) h = refl
path_close (a_mark semicolon ∷ S) h = refl
path_close (a_mark open_brace ∷ S) h = no h
path_close (a_mark close_brace ∷ S) h = no h
path_close (a_mark open_square ∷ S) h = no h
path_close (a_mark open_round ∷ S) h = no h
path_close (a_mark dot ∷ S) h = no h
path_close (a_mark equals ∷ S) h = no h
path_close (bracket_rest ∷ S) h = refl
path_close (a_relation ∷ S) h = refl
path_close (_ ∷ S) h = no h

skip_path : (S : Symbols) → fit (a_path ∷ S) ≡ true → accepts (a_path ∷ S) (finish S) ≡ accepts S (finish S)
skip_path [] h = refl
skip_path (more ∷ S) h = path_close S h
skip_path (a_mark equals ∷ S) h = refl
skip_path (a_mark open_brace ∷ S) h = no h
skip_path (a_mark close_brace ∷ S) h = no h
skip_path (a_mark open_square ∷ S) h = no h
skip_path (a_mark close_square ∷ S) h = no h
skip_path (a_mark open_round ∷ S) h = no h
skip_path (a_mark close_round ∷ S) h = no h
skip_path (a_mark semicolon ∷ S) h = no h
skip_path (a_mark colon ∷ S) h = no h
skip_path (a_mark question ∷ S) h = no h
skip_path (a_mark dot ∷ S) h = no h
skip_path (_ ∷ S) h = no h

skip_cases : (S : Symbols) → fit (cases ∷ S) ≡ true → accepts (cases ∷ S) (finish S) ≡ accepts S (finish S)
skip_cases [] h = refl
skip_cases (a_keyword default_ ∷ S) h = refl
skip_cases (a_keyword _ ∷ S) h = no h
skip_cases (_ ∷ S) h = no h

skip_statements : (S : Symbols) → fit (statements ∷ S) ≡ true → accepts (statements ∷ S) (finish S) ≡ accepts S (finish S)
skip_statements [] h = refl
skip_statements (a_mark close_brace ∷ S) h = refl
skip_statements (a_mark _ ∷ S) h = no h
skip_statements (_ ∷ S) h = no h

skip_members : (S : Symbols) → fit (members ∷ S) ≡ true → accepts (members ∷ S) (finish S) ≡ accepts S (finish S)
skip_members [] h = refl
skip_members (a_mark close_brace ∷ S) h = refl
skip_members (a_mark _ ∷ S) h = no h
skip_members (_ ∷ S) h = no h

skip_functions : (S : Symbols) → fit (functions ∷ S) ≡ true → accepts (functions ∷ S) (finish S) ≡ accepts S (finish S)
skip_functions [] h = refl
skip_functions (_ ∷ S) h = no h

skip_declarations : (S : Symbols) → fit (declarations ∷ S) ≡ true → accepts (declarations ∷ S) (finish S) ≡ accepts S (finish S)
skip_declarations [] h = refl
skip_declarations (_ ∷ S) h = no h

skip_globals : (S : Symbols) → fit (globals ∷ S) ≡ true → accepts (globals ∷ S) (finish S) ≡ accepts S (finish S)
skip_globals [] h = refl
skip_globals (declarations ∷ []) h = refl
skip_globals (declarations ∷ Y ∷ S) h = no h
skip_globals (_ ∷ S) h = no h

skip_structs : (S : Symbols) → fit (structs ∷ S) ≡ true → accepts (structs ∷ S) (finish S) ≡ accepts S (finish S)
skip_structs [] h = refl
skip_structs (globals ∷ []) h = refl
skip_structs (globals ∷ declarations ∷ []) h = refl
skip_structs (globals ∷ declarations ∷ Y ∷ S) h = no h
skip_structs (globals ∷ _ ∷ S) h = no h
skip_structs (_ ∷ S) h = no h

mark_itself : (m : Mark) → (mark_number m == mark_number m) ≡ true
mark_itself m = eq-eqb (mark_number m) (mark_number m) refl

-- symbols that fit have a text
finished : (S : Symbols) → fit S ≡ true → accepts S (finish S) ≡ true
finished [] h = refl
finished (a_keyword k ∷ S) h = rw (eq-eqb (keyword_number k) (keyword_number k) refl) (finished S (fit_rest (a_keyword k) S h))
finished (a_mark m ∷ S) h = rw (mark_itself m) (finished S (fit_rest (a_mark m) S h))
finished (a_sign ∷ S) h = finished S (fit_rest a_sign S h)
finished (a_name ∷ S) h = finished S (fit_rest a_name S h)
finished (a_number ∷ S) h = finished S (fit_rest a_number S h)
finished (this_number m ∷ S) h = rw (eq-eqb m m refl) (finished S (fit_rest (this_number m) S h))
finished (a_size ∷ S) h = finished S (fit_rest a_size S h)
finished (a_relation ∷ S) h = finished S (fit_rest a_relation S h)
finished (a_sum ∷ S) h = skip_more S (sum_more S h) ∙ finished S (fit_rest a_sum S h)
finished (more ∷ S) h = skip_more S h ∙ finished S (fit_rest more S h)
finished (an_operand ∷ S) h = finished S (fit_rest an_operand S h)
finished (a_path ∷ S) h = skip_path S h ∙ finished S (fit_rest a_path S h)
finished (bracket_rest ∷ S) h = finished S (fit_rest bracket_rest S h)
finished (a_constant ∷ S) h = finished S (fit_rest a_constant S h)
finished (cases ∷ S) h = skip_cases S h ∙ finished S (fit_rest cases S h)
finished (named_rest ∷ S) h = finished S (fit_rest named_rest S h)
finished (statements ∷ S) h = skip_statements S h ∙ finished S (fit_rest statements S h)
finished (member_rest ∷ S) h = finished S (fit_rest member_rest S h)
finished (a_member ∷ S) h = finished S (fit_rest a_member S h)
finished (members ∷ S) h = skip_members S h ∙ finished S (fit_rest members S h)
finished (structs ∷ S) h = skip_structs S h ∙ finished S (fit_rest structs S h)
finished (globals ∷ S) h = skip_globals S h ∙ finished S (fit_rest globals S h)
finished (head_rest ∷ S) h = skip_declarations S (head_declarations S h) ∙ finished S (fit_rest head_rest S h)
finished (declarations ∷ S) h = skip_declarations S h ∙ finished S (fit_rest declarations S h)
finished (functions ∷ S) h = skip_functions S h ∙ finished S (fit_rest functions S h)

-- what is accepted behind tokens that were taken
pub run-accepts : (S T : Symbols) (ts us : List Token) → run S ts ≡ Some T → accepts S (ts ++ us) ≡ accepts T us
run-accepts S T [] us e = ap (λ U. accepts U us) (Some-same S T e)
run-accepts S T (u ∷ ts) us e = go (step S u) refl (λ U k. run-accepts U T ts us k) e
  where
    go : (o : Option Symbols) → step S u ≡ o → ((U : Symbols) → run U ts ≡ Some T → accepts U (ts ++ us) ≡ accepts T us)
        → and_goes_on o None (λ U. run U ts) ≡ Some T → and_goes_on o false (λ U. accepts U (ts ++ us)) ≡ accepts T us
    go None k later e = nothing T e
    go (Some U) k later e = later U e

-- a program begins with the tokens that the recognizer has taken
pub viable : (S : Symbols) (ts : List Token) → run program_symbols ts ≡ Some S → BeginsProgram ts
viable S ts e =
    let fits = fit_run program_symbols S ts e refl in
    let found = program_in (ts ++ finish S) (run-accepts program_symbols S ts (finish S) e ∙ finished S fits) in
    (found.0, finish S, found.1)

-- and none with one more that it refuses
pub refused_next : (S : Symbols) (ts : List Token) (u : Token) → run program_symbols ts ≡ Some S → step S u ≡ None → BeginsProgram (ts ++ u ∷ []) → ⊥
refused_next S ts u e none h =
    let accepted : accepts program_symbols (ts ++ u ∷ h.1) ≡ true = ap (accepts program_symbols) (sym (regroup ts u h.1)) ∙ program_accepted h.2 in
    let refused : accepts S (u ∷ h.1) ≡ false = rw none in
    true≢false (sym accepted ∙ (run-accepts program_symbols S ts (u ∷ h.1) e ∙ refused))
  where
    regroup : (a : List Token) (x : Token) (b : List Token) → (a ++ x ∷ []) ++ b ≡ a ++ x ∷ b
    regroup a x b = simp append_assoc

-- the tokens are a program exactly where nothing more needs to come
pub ended_program : (S : Symbols) (ts : List Token) → run program_symbols ts ≡ Some S → may_end S ≡ true → (P : CProgram) × IsProgram P ts
ended_program S ts e h =
    program_in ts (ap (accepts program_symbols) (sym (append-nil ts)) ∙ (run-accepts program_symbols S ts [] e ∙ h))

pub no_program : (S : Symbols) (ts : List Token) → run program_symbols ts ≡ Some S → may_end S ≡ false → (P : CProgram) → IsProgram P ts → ⊥
no_program S ts e h P p =
    true≢false (sym (program_accepted p) ∙ (ap (accepts program_symbols) (sym (append-nil ts)) ∙ (run-accepts program_symbols S ts [] e ∙ h)))

-- one token more
pub run-more : (S T U : Symbols) (ts : List Token) (u : Token) → run S ts ≡ Some T → step T u ≡ Some U → run S (ts ++ u ∷ []) ≡ Some U
run-more S T U [] u e k = subst (λ V. and_goes_on (step V u) None (λ W. run W []) ≡ Some U) (sym (Some-same S T e)) (rw k)
run-more S T U (v ∷ ts) u e k = go (step S v) refl (λ V q. run-more V T U ts u q k) e
  where
    go : (o : Option Symbols) → step S v ≡ o → ((V : Symbols) → run V ts ≡ Some T → run V (ts ++ u ∷ []) ≡ Some U)
        → and_goes_on o None (λ V. run V ts) ≡ Some T → and_goes_on o None (λ V. run V (ts ++ u ∷ [])) ≡ Some U
    go None q later e = nothing T e
    go (Some V) q later e = later V e
