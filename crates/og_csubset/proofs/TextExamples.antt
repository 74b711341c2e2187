-- The examples, by computing what the reader finds.
use Rattle.std.proofs.Common.{ℕ, pos, negsuc, Option, List, [], ◌∷◌, ◌++◌, codes, refl}
use Rattle.std.specs.Fmt.{digits}
use Rattle.og_csubset.specs.declared.CProgram.{CProgram}
use Rattle.og_csubset.specs.declared.CExpr.{Number, Minus, Op}
use Rattle.og_csubset.specs.declared.COp.TheVariants.{Add, Sub, Mul, Div, Rem}
use Rattle.og_csubset.specs.Nesting.{HasNesting}
use Rattle.og_csubset.specs.Spelling.{CSpells, least}
use Rattle.og_csubset.specs.Texts.{lines, in_brackets, statements_text, assigning, number_of, spaced_statement, Assigns, SpeltByNone, counting, counting_text, forms, forms_text}
use Rattle.og_csubset.specs.Lexing.{cut, keyword_of, word_token, number_token, sign_token, first_token, next_token}
use Rattle.og_csubset.specs.Reading.{bracket_end, path_at, operand_at, signed_at, product_rest, product_at, sum_rest, sum_at, number_at, test_at, each_at, constant_at, case_at, named_at, goto_at, if_at, switch_at, return_at, statement_at, type_at, member_end, member_at, struct_end, struct_at, global_at, head_at, event_at, function_at, program_at, read_tokens}
use Rattle.og_csubset.proofs.Text.{lex, behind, tokens_of, read_text, CSpells-read, spelt_by_none, nests_by}

-- the reader with all that it computes by
pub computed : List ℕ → Option CProgram
unfolding digits cut keyword_of word_token number_token sign_token first_token next_token bracket_end path_at operand_at signed_at product_rest product_at sum_rest sum_at number_at test_at each_at constant_at case_at named_at goto_at if_at switch_at return_at statement_at type_at member_end member_at struct_end struct_at global_at head_at event_at function_at program_at read_tokens lex behind tokens_of read_text
computed text = read_text text

pub whole_text_counting : CSpells counting counting_text
unfolding computed
whole_text_counting = CSpells-read counting counting_text refl

pub whole_text_forms : CSpells forms forms_text
unfolding computed
whole_text_forms = CSpells-read forms forms_text refl

pub least_number_special : Assigns (Number least) (codes "x = (-INT64_C(9223372036854775807) - INT64_C(1));")
unfolding computed
least_number_special = CSpells-read (assigning (Number least)) (statements_text (codes "x = (-INT64_C(9223372036854775807) - INT64_C(1));")) refl

pub least_number_bracketed_again : Assigns (Number least) (codes "x = ((-INT64_C(9223372036854775807) - INT64_C(1)));")
unfolding computed
least_number_bracketed_again = CSpells-read (assigning (Number least)) (statements_text (codes "x = ((-INT64_C(9223372036854775807) - INT64_C(1)));")) refl

pub least_number_negated : Assigns (Minus (Number least)) (codes "x = -(-INT64_C(9223372036854775807) - INT64_C(1));")
unfolding computed
least_number_negated = CSpells-read (assigning (Minus (Number least))) (statements_text (codes "x = -(-INT64_C(9223372036854775807) - INT64_C(1));")) refl

pub least_number_no_bracket : Assigns (Op Sub (Number (negsuc 9223372036854775806)) (Number (pos 1))) (codes "x = -INT64_C(9223372036854775807) - INT64_C(1);")
unfolding computed
least_number_no_bracket = CSpells-read (assigning (Op Sub (Number (negsuc 9223372036854775806)) (Number (pos 1)))) (statements_text (codes "x = -INT64_C(9223372036854775807) - INT64_C(1);")) refl

pub least_number_left_bracket : Assigns (Op Sub (Number (negsuc 9223372036854775806)) (Number (pos 1))) (codes "x = ((-INT64_C(9223372036854775807)) - INT64_C(1));")
unfolding computed
least_number_left_bracket = CSpells-read (assigning (Op Sub (Number (negsuc 9223372036854775806)) (Number (pos 1)))) (statements_text (codes "x = ((-INT64_C(9223372036854775807)) - INT64_C(1));")) refl

pub least_number_more_behind : Assigns (Op Sub (Op Sub (Number (negsuc 9223372036854775806)) (Number (pos 1))) (Number (pos 1))) (codes "x = (-INT64_C(9223372036854775807) - INT64_C(1) - INT64_C(1));")
unfolding computed
least_number_more_behind = CSpells-read (assigning (Op Sub (Op Sub (Number (negsuc 9223372036854775806)) (Number (pos 1))) (Number (pos 1)))) (statements_text (codes "x = (-INT64_C(9223372036854775807) - INT64_C(1) - INT64_C(1));")) refl

pub signs_negative : Assigns (Number (negsuc 4)) (codes "x = -INT64_C(5);")
unfolding computed
signs_negative = CSpells-read (assigning (Number (negsuc 4))) (statements_text (codes "x = -INT64_C(5);")) refl

pub signs_zero : Assigns (Minus (Number (pos 0))) (codes "x = -INT64_C(0);")
unfolding computed
signs_zero = CSpells-read (assigning (Minus (Number (pos 0)))) (statements_text (codes "x = -INT64_C(0);")) refl

pub signs_bracket : Assigns (Minus (Number (pos 5))) (codes "x = -(INT64_C(5));")
unfolding computed
signs_bracket = CSpells-read (assigning (Minus (Number (pos 5)))) (statements_text (codes "x = -(INT64_C(5));")) refl

pub signs_variable : Assigns (Minus (number_of (codes "a"))) (codes "x = -a;")
unfolding computed
signs_variable = CSpells-read (assigning (Minus (number_of (codes "a")))) (statements_text (codes "x = -a;")) refl

pub signs_behind_minus : Assigns (Op Sub (number_of (codes "a")) (Number (negsuc 0))) (codes "x = a - -INT64_C(1);")
unfolding computed
signs_behind_minus = CSpells-read (assigning (Op Sub (number_of (codes "a")) (Number (negsuc 0)))) (statements_text (codes "x = a - -INT64_C(1);")) refl

pub brackets_left : Assigns (Op Sub (Op Sub (number_of (codes "a")) (number_of (codes "b"))) (number_of (codes "c"))) (codes "x = a - b - c;")
unfolding computed
brackets_left = CSpells-read (assigning (Op Sub (Op Sub (number_of (codes "a")) (number_of (codes "b"))) (number_of (codes "c")))) (statements_text (codes "x = a - b - c;")) refl

pub brackets_right : Assigns (Op Sub (number_of (codes "a")) (Op Sub (number_of (codes "b")) (number_of (codes "c")))) (codes "x = a - (b - c);")
unfolding computed
brackets_right = CSpells-read (assigning (Op Sub (number_of (codes "a")) (Op Sub (number_of (codes "b")) (number_of (codes "c"))))) (statements_text (codes "x = a - (b - c);")) refl

pub brackets_products : Assigns (Op Mul (Op Rem (number_of (codes "a")) (number_of (codes "b"))) (number_of (codes "c"))) (codes "x = a % b * c;")
unfolding computed
brackets_products = CSpells-read (assigning (Op Mul (Op Rem (number_of (codes "a")) (number_of (codes "b"))) (number_of (codes "c")))) (statements_text (codes "x = a % b * c;")) refl

pub brackets_product_first : Assigns (Op Add (number_of (codes "a")) (Op Div (number_of (codes "b")) (number_of (codes "c")))) (codes "x = a + b / c;")
unfolding computed
brackets_product_first = CSpells-read (assigning (Op Add (number_of (codes "a")) (Op Div (number_of (codes "b")) (number_of (codes "c"))))) (statements_text (codes "x = a + b / c;")) refl

pub brackets_beyond_need : Assigns (Op Add (number_of (codes "a")) (Op Div (number_of (codes "b")) (number_of (codes "c")))) (codes "x = ((a) + (b / (c)));")
unfolding computed
brackets_beyond_need = CSpells-read (assigning (Op Add (number_of (codes "a")) (Op Div (number_of (codes "b")) (number_of (codes "c"))))) (statements_text (codes "x = ((a) + (b / (c)));")) refl

pub white_space_none : Assigns (Op Add (number_of (codes "a")) (Number (pos 1))) (codes "x=a+INT64_C(1);")
unfolding computed
white_space_none = CSpells-read (assigning (Op Add (number_of (codes "a")) (Number (pos 1)))) (statements_text (codes "x=a+INT64_C(1);")) refl

pub white_space_much : Assigns (Op Add (number_of (codes "a")) (Number (pos 1))) spaced_statement
unfolding computed
white_space_much = CSpells-read (assigning (Op Add (number_of (codes "a")) (Number (pos 1)))) (statements_text spaced_statement) refl

pub refused_no_semicolon : SpeltByNone (statements_text (codes "x = a"))
unfolding computed
refused_no_semicolon = spelt_by_none (statements_text (codes "x = a")) refl

pub refused_leading_zero : SpeltByNone (statements_text (codes "x = INT64_C(07);"))
unfolding computed
refused_leading_zero = spelt_by_none (statements_text (codes "x = INT64_C(07);")) refl

pub refused_past_the_limit : SpeltByNone (statements_text (codes "x = INT64_C(9223372036854775808);"))
unfolding computed
refused_past_the_limit = spelt_by_none (statements_text (codes "x = INT64_C(9223372036854775808);")) refl

pub refused_two_signs : SpeltByNone (statements_text (codes "x = - - a;"))
unfolding computed
refused_two_signs = spelt_by_none (statements_text (codes "x = - - a;")) refl

pub refused_joined_signs : SpeltByNone (statements_text (codes "x = a --INT64_C(1);"))
unfolding computed
refused_joined_signs = spelt_by_none (statements_text (codes "x = a --INT64_C(1);")) refl

pub refused_keyword : SpeltByNone (statements_text (codes "while = a;"))
unfolding computed
refused_keyword = spelt_by_none (statements_text (codes "while = a;")) refl

pub refused_comment : SpeltByNone (statements_text (codes "/* */ x = a;"))
unfolding computed
refused_comment = spelt_by_none (statements_text (codes "/* */ x = a;")) refl

pub refused_underscore : SpeltByNone (statements_text (codes "_x = a;"))
unfolding computed
refused_underscore = spelt_by_none (statements_text (codes "_x = a;")) refl

pub refused_label_alone : SpeltByNone (statements_text (codes "l:"))
unfolding computed
refused_label_alone = spelt_by_none (statements_text (codes "l:")) refl

pub refused_first_line : SpeltByNone (lines (codes "#include  <stdint.h>" ∷ []))
unfolding computed
refused_first_line = spelt_by_none (lines (codes "#include  <stdint.h>" ∷ [])) refl

pub refused_empty : SpeltByNone []
unfolding computed
refused_empty = spelt_by_none [] refl

pub refused_no_member : SpeltByNone (lines (codes "#include <stdint.h>" ∷ codes "typedef struct { } A;" ∷ []))
unfolding computed
refused_no_member = spelt_by_none (lines (codes "#include <stdint.h>" ∷ codes "typedef struct { } A;" ∷ [])) refl

pub refused_size_zero : SpeltByNone (lines (codes "#include <stdint.h>" ∷ codes "typedef struct { int64_t e[0]; } A;" ∷ []))
unfolding computed
refused_size_zero = spelt_by_none (lines (codes "#include <stdint.h>" ∷ codes "typedef struct { int64_t e[0]; } A;" ∷ [])) refl

pub refused_size_past : SpeltByNone (lines (codes "#include <stdint.h>" ∷ codes "typedef struct { int64_t e[65537]; } A;" ∷ []))
unfolding computed
refused_size_past = spelt_by_none (lines (codes "#include <stdint.h>" ∷ codes "typedef struct { int64_t e[65537]; } A;" ∷ [])) refl

pub nesting_counts_assignment : HasNesting (statements_text (codes "x = a;")) 1
unfolding computed
nesting_counts_assignment = nests_by (statements_text (codes "x = a;")) 1 refl

pub nesting_counts_operators : HasNesting (statements_text (codes "x = a + b - c;")) 3
unfolding computed
nesting_counts_operators = nests_by (statements_text (codes "x = a + b - c;")) 3 refl

pub nesting_counts_literal : HasNesting (statements_text (codes "x = INT64_C(1);")) 2
unfolding computed
nesting_counts_literal = nests_by (statements_text (codes "x = INT64_C(1);")) 2 refl

pub nesting_counts_target : HasNesting (statements_text (codes "w.e[k] = a;")) 4
unfolding computed
nesting_counts_target = nests_by (statements_text (codes "w.e[k] = a;")) 4 refl

pub nesting_counts_both_sides : HasNesting (statements_text (codes "w.e[k] = w.e[k];")) 4
unfolding computed
nesting_counts_both_sides = nests_by (statements_text (codes "w.e[k] = w.e[k];")) 4 refl

pub nesting_counts_selectors_stay : HasNesting (statements_text (codes "x = w.e[k] + a + b;")) 5
unfolding computed
nesting_counts_selectors_stay = nests_by (statements_text (codes "x = w.e[k] + a + b;")) 5 refl

pub nesting_counts_bracket_ends : HasNesting (statements_text (codes "x = (a + b) * c;")) 3
unfolding computed
nesting_counts_bracket_ends = nests_by (statements_text (codes "x = (a + b) * c;")) 3 refl

pub nesting_counts_test : HasNesting (statements_text (codes "if (a < b) goto l;")) 3
unfolding computed
nesting_counts_test = nests_by (statements_text (codes "if (a < b) goto l;")) 3 refl

pub nesting_counts_choice : HasNesting (statements_text (codes "x = (a < b ? c : -d);")) 4
unfolding computed
nesting_counts_choice = nests_by (statements_text (codes "x = (a < b ? c : -d);")) 4 refl

pub nesting_counts_constants : HasNesting (statements_text (codes "switch (a) { case -INT64_C(2): goto l; case -INT64_C(3): goto l; default: goto l; }")) 4
unfolding computed
nesting_counts_constants = nests_by (statements_text (codes "switch (a) { case -INT64_C(2): goto l; case -INT64_C(3): goto l; default: goto l; }")) 4 refl

pub nesting_counts_whole_text : HasNesting counting_text 4
unfolding computed
nesting_counts_whole_text = nests_by counting_text 4 refl

pub nesting_counts_at_the_limit : HasNesting (statements_text (codes "x = " ++ (in_brackets 255 (codes "a") ++ codes ";"))) 256
unfolding computed
nesting_counts_at_the_limit = nests_by (statements_text (codes "x = " ++ (in_brackets 255 (codes "a") ++ codes ";"))) 256 refl

pub nesting_counts_past_the_limit : HasNesting (statements_text (codes "x = " ++ (in_brackets 256 (codes "a") ++ codes ";"))) 257
unfolding computed
nesting_counts_past_the_limit = nests_by (statements_text (codes "x = " ++ (in_brackets 256 (codes "a") ++ codes ";"))) 257 refl
