-- What is printed of a program is its plain text.
use Rattle.std.proofs.Common.{◌≡◌, ℕ, ◌≤◌, Bool, true, false, ◌==◌, [], ◌∷◌, ◌++◌, length, Option, Some, None, refl, sym, subst, append-nil}
use Rattle.std.specs.Prelude.{codes}
use Rattle.og_names.specs.declared.Word.{Word}
use Rattle.og_csubset.specs.declared.CProgram.{CProgram}
use Rattle.og_csubset.specs.declared.CStruct.{CStruct}
use Rattle.og_csubset.specs.declared.CMember.{CMember}
use Rattle.og_csubset.specs.declared.CGlobal.{CGlobal}
use Rattle.og_csubset.specs.declared.CType.{CType}
use Rattle.og_csubset.specs.declared.CType.TheVariants.{Int64, Struct}
use Rattle.og_csubset.specs.declared.CFunction.{CFunction}
use Rattle.og_csubset.specs.declared.CStmt.{CStmt}
use Rattle.og_csubset.specs.declared.CStmt.TheVariants.{Assign, IfGoto, Goto, Label, Switch, Call, Return}
use Rattle.og_csubset.specs.declared.CCase.{CCase}
use Rattle.og_csubset.specs.Tokens.{name, mark, keyword, typedef_, struct_, void_, if_, goto_, switch_, case_, default_, return_, int64_t, open_brace, close_brace, open_square, close_square, open_round, close_round, semicolon, colon, equals, Lexes, HasTokens}
use Rattle.og_csubset.specs.Spelling.{CSpells}
use Rattle.og_csubset.specs.Nesting.{nesting, IsWithinNesting}
use Rattle.og_csubset.specs.Plain.{Text, each, plain_case, plain_statement, plain_type, plain_size, plain_member, plain_struct, plain_global, plain_event, plain_function, plain_tokens, IsWellMade}
use Rattle.og_csubset.proofs.PlainSpelt.{plain_spelt}
use Rattle.og_cprint.specs.Printed.{Bytes, goto_bytes, default_bytes, case_bytes, statement_bytes, type_bytes, size_bytes, member_bytes, struct_bytes, global_bytes, event_bytes, function_bytes, gap, body_bytes, printed_text}
use Rattle.og_cprint.proofs.TextLays.{EndsWord, Lays, free, ended, blank, word_lays, number_lays, keyword_lays, fixed, behind, right_behind, each_lays}
use Rattle.og_cprint.proofs.ExpressionTexts.{expression_lays, place_lays, test_lays, constant_lays}

line_ends : Lays false (λ ts. mark semicolon ∷ ts) (codes ";" ++ 10 ∷ [])
line_ends = fixed (right_behind (mark semicolon) ∷ []) (10 ∷ []) refl

goto_lays : {t : Text} {b : Bytes} (l : Word) → Lays false t b → Lays false (λ ts. t (name l.bytes ∷ mark semicolon ∷ ts)) (goto_bytes b l)
goto_lays l h = free h (ended (word_lays l.bytes) line_ends (λ bs fits. refl))

default_lays : (l : Word)
    → Lays false (λ ts. keyword default_ ∷ mark colon ∷ keyword goto_ ∷ name l.bytes ∷ mark semicolon ∷ mark close_brace ∷ ts) (default_bytes l)
default_lays l =
    free
    (goto_lays l (fixed (behind (codes "    ") (keyword default_) ∷ right_behind (mark colon) ∷ behind (codes " ") (keyword goto_) ∷ []) (codes " ") refl))
    (fixed (behind (codes "    ") (mark close_brace) ∷ []) (10 ∷ []) refl)

case_lays : (c : CCase) → Lays false (plain_case c) (case_bytes c)
case_lays c =
    free (fixed (behind (codes "    ") (keyword case_) ∷ []) (codes " ") refl)
    (free (constant_lays c.value) (goto_lays c.label (fixed (right_behind (mark colon) ∷ behind (codes " ") (keyword goto_) ∷ []) (codes " ") refl)))

statement_lays : (s : CStmt) → Lays false (plain_statement s) (statement_bytes s)
unfolding statement_bytes
statement_lays (Assign p e) =
    free (blank false (codes "    ") refl)
    (ended (place_lays p) (free (fixed (behind (codes " ") (mark equals) ∷ []) (codes " ") refl)
    (ended (expression_lays e) line_ends (λ bs fits. refl))) (λ bs fits. refl))
statement_lays (IfGoto t l) =
    free (fixed (behind (codes "    ") (keyword if_) ∷ behind (codes " ") (mark open_round) ∷ []) [] refl)
    (ended (test_lays t) (goto_lays l (fixed (right_behind (mark close_round) ∷ behind (codes " ") (keyword goto_) ∷ []) (codes " ") refl))
    (λ bs fits. refl))
statement_lays (Goto l) = goto_lays l (fixed (behind (codes "    ") (keyword goto_) ∷ []) (codes " ") refl)
statement_lays (Label l) =
    ended (word_lays l.bytes) (fixed (right_behind (mark colon) ∷ right_behind (mark semicolon) ∷ []) (10 ∷ []) refl) (λ bs fits. refl)
statement_lays (Switch e cases l) =
    free (fixed (behind (codes "    ") (keyword switch_) ∷ behind (codes " ") (mark open_round) ∷ []) [] refl)
    (ended (expression_lays e) (free (fixed (right_behind (mark close_round) ∷ behind (codes " ") (mark open_brace) ∷ []) (10 ∷ []) refl)
    (free (each_lays plain_case case_bytes case_lays cases) (default_lays l))) (λ bs fits. refl))
statement_lays (Call f) =
    free (blank false (codes "    ") refl)
    (ended (word_lays f.bytes)
    (fixed (right_behind (mark open_round) ∷ right_behind (mark close_round) ∷ right_behind (mark semicolon) ∷ []) (10 ∷ []) refl) (λ bs fits. refl))
statement_lays Return = fixed (behind (codes "    ") (keyword return_) ∷ right_behind (mark semicolon) ∷ []) (10 ∷ []) refl

type_lays : (t : CType) → Lays true (plain_type t) (type_bytes t)
type_lays Int64 = keyword_lays int64_t
type_lays (Struct s) = word_lays s.bytes

size_lays : (size : Option ℕ) → Lays false (plain_size size) (size_bytes size)
size_lays None = blank false [] refl
size_lays (Some n) =
    free (fixed (right_behind (mark open_square) ∷ []) [] refl)
    (ended (number_lays n) (fixed (right_behind (mark close_square) ∷ []) [] refl) (λ bs fits. refl))

size_ends : (size : Option ℕ) (b c : Bytes) → EndsWord ((size_bytes size ++ (59 ∷ b)) ++ c)
size_ends None b c = refl
size_ends (Some n) b c = refl

member_lays : (m : CMember) → Lays false (plain_member m) (member_bytes m)
member_lays m =
    free (blank false (codes "    ") refl)
    (ended (type_lays m.kind) (free (blank false (codes " ") refl)
    (ended (word_lays m.name.bytes) (free (size_lays m.size) line_ends) (λ bs fits. size_ends m.size (10 ∷ []) bs))) (λ bs fits. refl))

struct_lays : (s : CStruct) → Lays false (plain_struct s) (struct_bytes s)
unfolding struct_bytes
struct_lays s =
    free
    (fixed (behind (10 ∷ []) (keyword typedef_) ∷ behind (codes " ") (keyword struct_) ∷ behind (codes " ") (mark open_brace) ∷ []) (10 ∷ []) refl)
    (free (each_lays plain_member member_bytes member_lays s.members) (free (fixed (right_behind (mark close_brace) ∷ []) (codes " ") refl)
    (ended (word_lays s.name.bytes) line_ends (λ bs fits. refl))))

global_lays : (g : CGlobal) → Lays false (plain_global g) (global_bytes g)
global_lays g =
    ended (type_lays g.kind) (free (blank false (codes " ") refl) (ended (word_lays g.name.bytes) line_ends (λ bs fits. refl))) (λ bs fits. refl)

event_lays : (e : Word) → Lays false (plain_event e) (event_bytes e)
event_lays e =
    free (fixed (right_behind (keyword void_) ∷ []) (codes " ") refl)
    (ended (word_lays e.bytes)
    (fixed (right_behind (mark open_round) ∷ right_behind (keyword void_) ∷ right_behind (mark close_round) ∷ right_behind (mark semicolon) ∷ [])
    (10 ∷ []) refl) (λ bs fits. refl))

function_lays : (f : CFunction) → Lays false (plain_function f) (function_bytes f)
unfolding function_bytes
function_lays f =
    free (fixed (behind (10 ∷ []) (keyword void_) ∷ []) (codes " ") refl)
    (ended (word_lays f.name.bytes)
    (free (fixed (right_behind (mark open_round) ∷ right_behind (keyword void_) ∷ right_behind (mark close_round) ∷ behind (10 ∷ []) (mark open_brace) ∷ [])
    (10 ∷ []) refl)
    (free (each_lays plain_statement statement_bytes statement_lays f.body) (fixed (right_behind (mark close_brace) ∷ []) (10 ∷ []) refl)))
    (λ bs fits. refl))

gap_lays : (nothing : Bool) → Lays false (λ ts. ts) (gap nothing)
gap_lays true = blank false [] refl
gap_lays false = blank false (10 ∷ []) refl

program_lays : (P : CProgram)
    → Lays false (λ ts. each plain_struct P.structs (each plain_global P.globals (each plain_event P.events (each plain_function P.functions ts))))
    (body_bytes P)
program_lays P =
    free (each_lays plain_struct struct_bytes struct_lays P.structs)
    (free (free (gap_lays (length P.globals == 0)) (each_lays plain_global global_bytes global_lays P.globals))
    (free (free (gap_lays (length P.events == 0)) (each_lays plain_event event_bytes event_lays P.events))
    (each_lays plain_function function_bytes function_lays P.functions)))

-- what is printed of a program has its plain tokens
pub printed_tokens : (P : CProgram) → IsWellMade P → HasTokens (plain_tokens P) (printed_text P)
printed_tokens P made =
    let lexes : Lexes (plain_tokens P) (body_bytes P ++ []) = (program_lays P).lexes [] [] made.tokens tt ([], refl, refl) in
    (body_bytes P, refl, subst (λ b. Lexes (plain_tokens P) b) (append-nil (body_bytes P)) lexes)

pub printed_spells : (P : CProgram) (text : Bytes) → IsWellMade P → text ≡ printed_text P → CSpells P text
printed_spells P text made same =
    (plain_tokens P, subst (λ b. HasTokens (plain_tokens P) b) (sym same) (printed_tokens P made), plain_spelt P made.members)

pub printed_nests : (P : CProgram) (limit : ℕ) (text : Bytes) → IsWellMade P → nesting (plain_tokens P) ≤ limit → text ≡ printed_text P
    → IsWithinNesting limit text
printed_nests P limit text made within same =
    (plain_tokens P, subst (λ b. HasTokens (plain_tokens P) b) (sym same) (printed_tokens P made), within)
