-- The recognizer accepts what the grammar has.
use Rattle.std.proofs.Common.{◌≡◌, ◌<◌, true, List, [], ◌∷◌, ℤ, refl, ap, ◌∙◌, arith, lt-ltb, le-leb}
use Rattle.og_names.specs.declared.Word.{Word}
use Rattle.og_csubset.specs.declared.CProgram.{CProgram}
use Rattle.og_csubset.specs.declared.CStruct.{CStruct}
use Rattle.og_csubset.specs.declared.CMember.{CMember}
use Rattle.og_csubset.specs.declared.CGlobal.{CGlobal}
use Rattle.og_csubset.specs.declared.CFunction.{CFunction}
use Rattle.og_csubset.specs.declared.CStmt.{CStmt}
use Rattle.og_csubset.specs.declared.CCase.{CCase}
use Rattle.og_csubset.specs.declared.CStep.{CStep}
use Rattle.og_csubset.specs.declared.CExpr.{CExpr}
use Rattle.og_csubset.specs.declared.COp.TheVariants.{Add, Sub, Mul, Div, Rem}
use Rattle.og_csubset.specs.Tokens.{Token, name, number, operator, relation, keyword, mark, goto_, default_, open_brace, close_brace, open_square, close_square, open_round, close_round, semicolon, colon, question, dot, equals}
use Rattle.og_csubset.specs.Spelling.{IsSum, sum, SumGoesOn, sum_ends, add, IsProduct, product, ProductGoesOn, product_ends, multiply, IsSigned, positive, negative, minus_zero, unsigned, minus, IsOperand, read, bracket, pick, least_number, test, place, IsPath, path_ends, member, index, Each, none, one_more, IsConstant, constant, negative_constant, least_constant, IsCase, case_goto, IsStatement, assign, if_goto, goto, label, switch, call, return, number_type, struct_type, IsMember, single, array, IsStruct, structure, IsGlobal, global, IsEvent, event, IsFunction, function, IsProgram, program}
use Rattle.og_csubset.proofs.Complete.{level, sum_rest_level, product_rest_level}
use Rattle.og_csubset.specs.Recognizer.{Symbol, Symbols, a_keyword, a_mark, a_relation, a_sum, more, an_operand, a_path, bracket_rest, a_constant, cases, named_rest, statements, a_member, members, structs, globals, declarations, functions, accepts, program_symbols, jump_rest}

-- where nothing follows that a repetition takes it is left out
more_ends : (S : Symbols) (ts : List Token) → level ts ≡ 3 → accepts (more ∷ S) ts ≡ accepts S ts
more_ends S [] h = refl
more_ends S (operator Add ∷ ts) h = absurd (omega (arith, h))
more_ends S (operator Sub ∷ ts) h = absurd (omega (arith, h))
more_ends S (operator Mul ∷ ts) h = absurd (omega (arith, h))
more_ends S (operator Div ∷ ts) h = absurd (omega (arith, h))
more_ends S (operator Rem ∷ ts) h = absurd (omega (arith, h))
more_ends S (name w ∷ ts) h = refl
more_ends S (number n ∷ ts) h = refl
more_ends S (relation op ∷ ts) h = refl
more_ends S (keyword k ∷ ts) h = refl
more_ends S (mark m ∷ ts) h = refl

path_end : (S : Symbols) (ts : List Token) → 0 < level ts → accepts (a_path ∷ S) ts ≡ accepts S ts
path_end S [] h = refl
path_end S (operator op ∷ ts) h = refl
path_end S (name w ∷ ts) h = refl
path_end S (number n ∷ ts) h = refl
path_end S (relation op ∷ ts) h = refl
path_end S (keyword k ∷ ts) h = refl
path_end S (mark open_brace ∷ ts) h = refl
path_end S (mark close_brace ∷ ts) h = refl
path_end S (mark open_square ∷ ts) h = absurd (omega (arith, h))
path_end S (mark close_square ∷ ts) h = refl
path_end S (mark open_round ∷ ts) h = refl
path_end S (mark close_round ∷ ts) h = refl
path_end S (mark semicolon ∷ ts) h = refl
path_end S (mark colon ∷ ts) h = refl
path_end S (mark question ∷ ts) h = refl
path_end S (mark dot ∷ ts) h = absurd (omega (arith, h))
path_end S (mark equals ∷ ts) h = refl

mutual
  sum_accepted : {e : CExpr} {ts rest : List Token} → IsSum e ts rest → (S : Symbols) → level rest ≡ 3 → accepts (a_sum ∷ S) ts ≡ accepts S rest
  sum_accepted (sum p q) S h = product_accepted p S (sum_rest_level q h) ∙ sum_rest_accepted q S h

  sum_rest_accepted : {a e : CExpr} {ts rest : List Token} → SumGoesOn a e ts rest → (S : Symbols) → level rest ≡ 3
      → accepts (more ∷ S) ts ≡ accepts S rest
  sum_rest_accepted sum_ends S h = more_ends S _ h
  sum_rest_accepted (add is p q) S h = product_accepted p S (sum_rest_level q h) ∙ sum_rest_accepted q S h

  product_accepted : {e : CExpr} {ts rest : List Token} → IsProduct e ts rest → (S : Symbols) → 1 < level rest
      → accepts (a_sum ∷ S) ts ≡ accepts (more ∷ S) rest
  product_accepted (product p q) S h = signed_accepted p S (product_rest_level q h) ∙ product_rest_accepted q S h

  product_rest_accepted : {a e : CExpr} {ts rest : List Token} → ProductGoesOn a e ts rest → (S : Symbols) → 1 < level rest
      → accepts (more ∷ S) ts ≡ accepts (more ∷ S) rest
  product_rest_accepted product_ends S h = refl
  product_rest_accepted (multiply is p q) S h = signed_accepted p S (product_rest_level q h) ∙ product_rest_accepted q S h

  signed_accepted : {e : CExpr} {ts rest : List Token} → IsSigned e ts rest → (S : Symbols) → 0 < level rest
      → accepts (a_sum ∷ S) ts ≡ accepts (more ∷ S) rest
  signed_accepted positive S h = refl
  signed_accepted negative S h = refl
  signed_accepted minus_zero S h = refl
  signed_accepted (unsigned p) S h = unsigned_accepted p S ∙ operand_accepted p (more ∷ S) h
  signed_accepted (minus p) S h = operand_accepted p (more ∷ S) h

  operand_accepted : {e : CExpr} {ts rest : List Token} → IsOperand e ts rest → (S : Symbols) → 0 < level rest
      → accepts (an_operand ∷ S) ts ≡ accepts S rest
  operand_accepted (read (place p)) S h = path_accepted p S h
  operand_accepted (bracket p other) S h = sum_accepted p (bracket_rest ∷ S) refl
  operand_accepted (pick (test p q) r s) S h =
      sum_accepted p (bracket_rest ∷ S) refl
      ∙ (sum_accepted q (a_mark question ∷ a_sum ∷ a_mark colon ∷ a_sum ∷ a_mark close_round ∷ S) refl
      ∙ (sum_accepted r (a_mark colon ∷ a_sum ∷ a_mark close_round ∷ S) refl ∙ sum_accepted s (a_mark close_round ∷ S) refl))
  operand_accepted least_number S h = refl

  path_accepted : {steps : List CStep} {ts rest : List Token} → IsPath steps ts rest → (S : Symbols) → 0 < level rest
      → accepts (a_path ∷ S) ts ≡ accepts S rest
  path_accepted path_ends S h = path_end S _ h
  path_accepted (member p) S h = path_accepted p S h
  path_accepted (index e p) S h = sum_accepted e (a_mark close_square ∷ a_path ∷ S) refl ∙ path_accepted p S h

  -- an operand begins as a sum does
  unsigned_accepted : {e : CExpr} {ts rest : List Token} → IsOperand e ts rest → (S : Symbols)
      → accepts (a_sum ∷ S) ts ≡ accepts (an_operand ∷ more ∷ S) ts
  unsigned_accepted (read (place p)) S = refl
  unsigned_accepted (bracket p other) S = refl
  unsigned_accepted (pick t p q) S = refl
  unsigned_accepted least_number S = refl

each_accepted : {A : Type 0} (Is : A → List Token → List Token → Type 0) (X : Symbol)
    → ((x : A) (ts rest : List Token) → Is x ts rest → (S : Symbols) → accepts (X ∷ S) ts ≡ accepts (X ∷ S) rest)
    → {xs : List A} {ts rest : List Token} → Each Is xs ts rest → (S : Symbols) → accepts (X ∷ S) ts ≡ accepts (X ∷ S) rest
each_accepted Is X h none S = refl
each_accepted Is X h (one_more p q) S = h _ _ _ p S ∙ each_accepted Is X h q S

constant_accepted : {z : ℤ} {ts rest : List Token} → IsConstant z ts rest → (S : Symbols) → accepts (a_constant ∷ S) ts ≡ accepts S rest
constant_accepted constant S = refl
constant_accepted negative_constant S = refl
constant_accepted least_constant S = refl

case_accepted : (c : CCase) (ts rest : List Token) → IsCase c ts rest → (S : Symbols) → accepts (cases ∷ S) ts ≡ accepts (cases ∷ S) rest
case_accepted c ts rest (case_goto p) S = constant_accepted p (a_mark colon ∷ a_keyword goto_ ∷ jump_rest (cases ∷ S))

-- the target of an assignment, behind its name
target_accepted : {steps : List CStep} {ts us : List Token} → IsPath steps ts (mark equals ∷ us) → (S : Symbols)
    → accepts (named_rest ∷ S) ts ≡ accepts (a_sum ∷ a_mark semicolon ∷ S) us
target_accepted path_ends S = refl
target_accepted (member p) S = path_accepted p (a_mark equals ∷ a_sum ∷ a_mark semicolon ∷ S) (omega arith)
target_accepted (index e p) S =
    sum_accepted e (a_mark close_square ∷ a_path ∷ a_mark equals ∷ a_sum ∷ a_mark semicolon ∷ S) refl
    ∙ path_accepted p (a_mark equals ∷ a_sum ∷ a_mark semicolon ∷ S) (omega arith)

statement_accepted : (s : CStmt) (ts rest : List Token) → IsStatement s ts rest → (S : Symbols)
    → accepts (statements ∷ S) ts ≡ accepts (statements ∷ S) rest
statement_accepted s ts rest (assign (place p) e) S = target_accepted p (statements ∷ S) ∙ sum_accepted e (a_mark semicolon ∷ statements ∷ S) refl
statement_accepted s ts rest (if_goto (test p q)) S =
    sum_accepted p (a_relation ∷ a_sum ∷ a_mark close_round ∷ a_keyword goto_ ∷ jump_rest (statements ∷ S)) refl
    ∙ sum_accepted q (a_mark close_round ∷ a_keyword goto_ ∷ jump_rest (statements ∷ S)) refl
statement_accepted s ts rest goto S = refl
statement_accepted s ts rest label S = refl
statement_accepted s ts rest (switch e cs) S =
    let after = a_keyword default_ ∷ a_mark colon ∷ a_keyword goto_ ∷ jump_rest (a_mark close_brace ∷ statements ∷ S) in
    sum_accepted e (a_mark close_round ∷ a_mark open_brace ∷ cases ∷ after) refl ∙ each_accepted IsCase cases case_accepted cs after
statement_accepted s ts rest call S = refl
statement_accepted s ts rest return S = refl

member_accepted : (m : CMember) (ts rest : List Token) → IsMember m ts rest → (S : Symbols) → accepts (members ∷ S) ts ≡ accepts (members ∷ S) rest
member_accepted m ts rest (single number_type) S = refl
member_accepted m ts rest (single struct_type) S = refl
member_accepted m ts rest (array {n} low high number_type) S = rw (lt-ltb 0 n low, le-leb n 65536 high)
member_accepted m ts rest (array {n} low high struct_type) S = rw (lt-ltb 0 n low, le-leb n 65536 high)

first_member : (m : CMember) (ts rest : List Token) → IsMember m ts rest → (S : Symbols) → accepts (a_member ∷ S) ts ≡ accepts S rest
first_member m ts rest (single number_type) S = refl
first_member m ts rest (single struct_type) S = refl
first_member m ts rest (array {n} low high number_type) S = rw (lt-ltb 0 n low, le-leb n 65536 high)
first_member m ts rest (array {n} low high struct_type) S = rw (lt-ltb 0 n low, le-leb n 65536 high)

struct_accepted : (s : CStruct) (ts rest : List Token) → IsStruct s ts rest → (S : Symbols) → accepts (structs ∷ S) ts ≡ accepts (structs ∷ S) rest
struct_accepted s ts rest (structure (one_more p ms)) S =
    let after = a_mark close_brace ∷ jump_rest (structs ∷ S) in
    first_member _ _ _ p (members ∷ after) ∙ each_accepted IsMember members member_accepted ms after

global_accepted : (g : CGlobal) (ts rest : List Token) → IsGlobal g ts rest → (S : Symbols) → accepts (globals ∷ S) ts ≡ accepts (globals ∷ S) rest
global_accepted g ts rest (global number_type) S = refl
global_accepted g ts rest (global struct_type) S = refl

event_accepted : (e : Word) (ts rest : List Token) → IsEvent e ts rest → (S : Symbols)
    → accepts (declarations ∷ S) ts ≡ accepts (declarations ∷ S) rest
event_accepted e ts rest event S = refl

function_accepted : (f : CFunction) (ts rest : List Token) → IsFunction f ts rest → (S : Symbols)
    → accepts (functions ∷ S) ts ≡ accepts (functions ∷ S) rest
function_accepted f ts rest (function b) S =
    each_accepted IsStatement statements statement_accepted b (a_mark close_brace ∷ functions ∷ S)

-- the first function comes where an event might have come
declared_accepted : {fs : List CFunction} {ts rest : List Token} → Each IsFunction fs ts rest → rest ≡ [] → accepts (declarations ∷ []) ts ≡ true
declared_accepted none e = rw e
declared_accepted (one_more (function b) fs) e =
    each_accepted IsStatement statements statement_accepted b (a_mark close_brace ∷ functions ∷ [])
    ∙ (each_accepted IsFunction functions function_accepted fs [] ∙ ap (accepts (functions ∷ [])) e)

events_accepted : {es : List Word} {fs : List CFunction} {ts us rest : List Token} → Each IsEvent es ts us → Each IsFunction fs us rest → rest ≡ []
    → accepts (declarations ∷ []) ts ≡ true
events_accepted es fs e = each_accepted IsEvent declarations event_accepted es [] ∙ declared_accepted fs e

-- where no struct and no global comes these are left out
no_global : {es : List Word} {fs : List CFunction} {ts us rest : List Token} → Each IsEvent es ts us → Each IsFunction fs us rest → rest ≡ []
    → accepts (globals ∷ declarations ∷ []) ts ≡ accepts (declarations ∷ []) ts
no_global none none e = rw e
no_global none (one_more (function b) fs) e = refl
no_global (one_more event es) fs e = refl

no_struct : {gs : List CGlobal} {es : List Word} {fs : List CFunction} {ts us vs rest : List Token} → Each IsGlobal gs ts us → Each IsEvent es us vs
    → Each IsFunction fs vs rest → rest ≡ [] → accepts program_symbols ts ≡ accepts (globals ∷ declarations ∷ []) ts
no_struct none none none e = rw e
no_struct none none (one_more (function b) fs) e = refl
no_struct none (one_more event es) fs e = refl
no_struct (one_more (global number_type) gs) es fs e = refl
no_struct (one_more (global struct_type) gs) es fs e = refl

pub program_accepted : {P : CProgram} {ts : List Token} → IsProgram P ts → accepts program_symbols ts ≡ true
program_accepted (program ss gs es fs) =
    each_accepted IsStruct structs struct_accepted ss (globals ∷ declarations ∷ [])
    ∙ (no_struct gs es fs refl
    ∙ (each_accepted IsGlobal globals global_accepted gs (declarations ∷ [])
    ∙ (no_global es fs refl ∙ events_accepted es fs refl)))
