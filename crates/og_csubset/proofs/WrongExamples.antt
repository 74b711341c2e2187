-- Where some texts go wrong, by computing what the recognizer tells.
use Rattle.std.proofs.Common.{◌≡◌, ℕ, List, [], ◌∷◌, ◌++◌, codes, Option, Some, None, ◌⊎◌, inl, inr, refl, subst}
use Rattle.std.specs.Fmt.{digits}
use Rattle.og_csubset.specs.declared.CProgram.{CProgram}
use Rattle.og_csubset.specs.Spelling.{CSpells}
use Rattle.og_csubset.specs.Wrong.{GoesWrong}
use Rattle.og_csubset.specs.Refusals.{GoesWrongAt}
use Rattle.og_csubset.specs.Texts.{lines, statements_text}
use Rattle.og_csubset.specs.Lexing.{cut, keyword_of, word_token, number_token, sign_token, first_token, next_token}
use Rattle.og_csubset.proofs.Lexed.{begins-next}
use Rattle.og_csubset.proofs.Text.{behind}
use Rattle.og_csubset.proofs.Seen.{nothing, Some-same}
use Rattle.og_csubset.proofs.Judged.{wrong_here, at_no_token, at_refused, judge, judged}

-- the bytes before the place where a text goes wrong
pub wrong_behind : (text : List ℕ) → ((P : CProgram) × CSpells P text) ⊎ ((before : List ℕ) × GoesWrong text before) → Option (List ℕ)
wrong_behind text (inl s) = None
wrong_behind text (inr k) = Some k.0

pub wrong_by : (text before : List ℕ) → wrong_behind text (judged text) ≡ Some before → GoesWrong text before
unfolding wrong_behind
wrong_by text before h = go (judged text) h
  where
    go : (j : ((P : CProgram) × CSpells P text) ⊎ ((before : List ℕ) × GoesWrong text before)) → wrong_behind text j ≡ Some before → GoesWrong text before
    go (inl s) h = nothing before h
    go (inr k) h = subst (λ b. GoesWrong text b) (Some-same k.0 before h) k.1

-- the recognizer with all that it computes by
pub computed : List ℕ → Option (List ℕ)
unfolding wrong_behind digits cut keyword_of word_token number_token sign_token first_token next_token behind wrong_here at_no_token at_refused judge judged begins-next
computed text = wrong_behind text (judged text)

pub wrong_cut_in_a_word : GoesWrongAt (lines (codes "#include <stdint.h>" ∷ []) ++ codes "void sta") 2 9
unfolding computed
wrong_cut_in_a_word = ((lines (codes "#include <stdint.h>" ∷ []) ++ codes "void sta"), wrong_by (lines (codes "#include <stdint.h>" ∷ []) ++ codes "void sta") (lines (codes "#include <stdint.h>" ∷ []) ++ codes "void sta") refl, refl)

pub wrong_behind_the_last_line : GoesWrongAt (lines (codes "#include <stdint.h>" ∷ codes "void f(void) {" ∷ [])) 3 1
unfolding computed
wrong_behind_the_last_line = ((lines (codes "#include <stdint.h>" ∷ codes "void f(void) {" ∷ [])), wrong_by (lines (codes "#include <stdint.h>" ∷ codes "void f(void) {" ∷ [])) (lines (codes "#include <stdint.h>" ∷ codes "void f(void) {" ∷ [])) refl, refl)

pub wrong_no_semicolon : GoesWrongAt (statements_text (codes "x = a")) 2 20
unfolding computed
wrong_no_semicolon = ((lines (codes "#include <stdint.h>" ∷ []) ++ codes "void f(void) {x = a"), wrong_by (statements_text (codes "x = a")) (lines (codes "#include <stdint.h>" ∷ []) ++ codes "void f(void) {x = a") refl, refl)

pub wrong_leading_zero : GoesWrongAt (statements_text (codes "x = INT64_C(07);")) 2 27
unfolding computed
wrong_leading_zero = ((lines (codes "#include <stdint.h>" ∷ []) ++ codes "void f(void) {x = INT64_C("), wrong_by (statements_text (codes "x = INT64_C(07);")) (lines (codes "#include <stdint.h>" ∷ []) ++ codes "void f(void) {x = INT64_C(") refl, refl)

pub wrong_past_the_limit : GoesWrongAt (statements_text (codes "x = INT64_C(9223372036854775808);")) 2 27
unfolding computed
wrong_past_the_limit = ((lines (codes "#include <stdint.h>" ∷ []) ++ codes "void f(void) {x = INT64_C("), wrong_by (statements_text (codes "x = INT64_C(9223372036854775808);")) (lines (codes "#include <stdint.h>" ∷ []) ++ codes "void f(void) {x = INT64_C(") refl, refl)

pub wrong_two_signs : GoesWrongAt (statements_text (codes "x = - - a;")) 2 21
unfolding computed
wrong_two_signs = ((lines (codes "#include <stdint.h>" ∷ []) ++ codes "void f(void) {x = - "), wrong_by (statements_text (codes "x = - - a;")) (lines (codes "#include <stdint.h>" ∷ []) ++ codes "void f(void) {x = - ") refl, refl)

pub wrong_joined_signs : GoesWrongAt (statements_text (codes "x = a --INT64_C(1);")) 2 21
unfolding computed
wrong_joined_signs = ((lines (codes "#include <stdint.h>" ∷ []) ++ codes "void f(void) {x = a "), wrong_by (statements_text (codes "x = a --INT64_C(1);")) (lines (codes "#include <stdint.h>" ∷ []) ++ codes "void f(void) {x = a ") refl, refl)

pub wrong_keyword : GoesWrongAt (statements_text (codes "while = a;")) 2 15
unfolding computed
wrong_keyword = ((lines (codes "#include <stdint.h>" ∷ []) ++ codes "void f(void) {"), wrong_by (statements_text (codes "while = a;")) (lines (codes "#include <stdint.h>" ∷ []) ++ codes "void f(void) {") refl, refl)

pub wrong_label_alone : GoesWrongAt (statements_text (codes "l:")) 2 17
unfolding computed
wrong_label_alone = ((lines (codes "#include <stdint.h>" ∷ []) ++ codes "void f(void) {l:"), wrong_by (statements_text (codes "l:")) (lines (codes "#include <stdint.h>" ∷ []) ++ codes "void f(void) {l:") refl, refl)

pub wrong_foreign_byte : GoesWrongAt (statements_text (codes "x = a & b;")) 2 21
unfolding computed
wrong_foreign_byte = ((lines (codes "#include <stdint.h>" ∷ []) ++ codes "void f(void) {x = a "), wrong_by (statements_text (codes "x = a & b;")) (lines (codes "#include <stdint.h>" ∷ []) ++ codes "void f(void) {x = a ") refl, refl)

pub wrong_size_past : GoesWrongAt (lines (codes "#include <stdint.h>" ∷ codes "typedef struct { int64_t e[65537]; } A;" ∷ [])) 2 28
unfolding computed
wrong_size_past = ((lines (codes "#include <stdint.h>" ∷ []) ++ codes "typedef struct { int64_t e["), wrong_by (lines (codes "#include <stdint.h>" ∷ codes "typedef struct { int64_t e[65537]; } A;" ∷ [])) (lines (codes "#include <stdint.h>" ∷ []) ++ codes "typedef struct { int64_t e[") refl, refl)

pub wrong_first_line : GoesWrongAt (lines (codes "#include  <stdint.h>" ∷ [])) 1 1
unfolding computed
wrong_first_line = ([], wrong_by (lines (codes "#include  <stdint.h>" ∷ [])) [] refl, refl)
