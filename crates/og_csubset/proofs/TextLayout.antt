-- A text is put together token by token, with white space before each.
use Rattle.std.proofs.Common.{◌≡◌, ℕ, ◌≤◌, true, false, List, [], ◌∷◌, ◌++◌, refl, sym, ap, ◌∙◌, subst, arith, append_assoc}
use Rattle.std.specs.List.{list_all}
use Rattle.std.proofs.lemmas.List.Folds.{list_all-append}
use Rattle.std.proofs.lemmas.Bool.Decides.{nat_tests}
use Rattle.og_csubset.specs.declared.COp.{COp}
use Rattle.og_csubset.specs.declared.COp.TheVariants.{Add, Sub, Mul, Div, Rem}
use Rattle.og_csubset.specs.declared.CRel.{CRel}
use Rattle.og_csubset.specs.declared.CRel.TheVariants.{Eq, Ne, Lt, Le, Gt, Ge}
use Rattle.og_csubset.specs.declared.CProgram.{CProgram}
use Rattle.og_csubset.specs.Tokens.{Mark, open_brace, close_brace, open_square, close_square, open_round, close_round, semicolon, colon, question, dot, equals, Token, name, number, operator, relation, keyword, mark, spelling, is_space, IsToken, joins, operator_joins, relation_joins, mark_joins, MayFollow, Lexes}
use Rattle.og_csubset.specs.Spelling.{CSpells}
use Rattle.og_csubset.specs.Nesting.{nesting, IsWithinNesting}
use Rattle.og_csubset.specs.Plain.{plain_tokens, spaced, plain_text, AreTokens, IsWellMade}
use Rattle.og_csubset.proofs.PlainSpelt.{plain_spelt}

-- the end of a text is white space
pub Lexes-end : (space : List ℕ) → list_all is_space space ≡ true → Lexes [] space
Lexes-end space h = (space, refl, h)

-- one more token in front, where it may stand there
pub Lexes-token : (space : List ℕ) (t : Token) (ts : List Token) (rest : List ℕ) → list_all is_space space ≡ true → IsToken t → MayFollow t rest
    → Lexes ts rest → Lexes (t ∷ ts) (space ++ (spelling t ++ rest))
Lexes-token space t ts rest blank is follows h =
    (h.0, (rest, record { space = space; blank = blank; joined = refl; is_token = is; follows = follows }, h.1), h.2)

-- white space in front changes nothing
pub Lexes-space : (space : List ℕ) (ts : List Token) (rest : List ℕ) → list_all is_space space ≡ true → Lexes ts rest → Lexes ts (space ++ rest)
Lexes-space space [] rest blank h =
    let all : list_all is_space rest ≡ true = subst (λ b. list_all is_space b ≡ true) (sym h.1) h.2 in
    (space ++ rest, refl, rw (list_all-append is_space space rest, blank, all))
Lexes-space space (t ∷ ts) rest blank h =
    let b = h.1.1 in (
      h.0,
      (
        h.1.0,
        record {
          space = space ++ b.space;
          blank = rw (list_all-append is_space space b.space, blank, b.blank);
          joined = ap (λ l. space ++ l) b.joined ∙ sym (append_assoc space b.space (spelling t ++ h.1.0));
          is_token = b.is_token;
          follows = b.follows;
        },
        h.1.2,
      ),
      h.2,
    )

operator_space : (op : COp) (byte : ℕ) → is_space byte ≡ true → operator_joins op byte ≡ false
operator_space Add byte h = grind (arith, nat_tests)
operator_space Sub byte h = grind (arith, nat_tests)
operator_space Mul byte h = refl
operator_space Div byte h = refl
operator_space Rem byte h = refl

relation_space : (op : CRel) (byte : ℕ) → is_space byte ≡ true → relation_joins op byte ≡ false
relation_space Eq byte h = refl
relation_space Ne byte h = refl
relation_space Lt byte h = grind (arith, nat_tests)
relation_space Le byte h = refl
relation_space Gt byte h = grind (arith, nat_tests)
relation_space Ge byte h = refl

mark_space : (m : Mark) (byte : ℕ) → is_space byte ≡ true → mark_joins m byte ≡ false
mark_space open_brace byte h = refl
mark_space close_brace byte h = refl
mark_space open_square byte h = refl
mark_space close_square byte h = refl
mark_space open_round byte h = refl
mark_space close_round byte h = refl
mark_space semicolon byte h = refl
mark_space colon byte h = refl
mark_space question byte h = refl
mark_space dot byte h = refl
mark_space equals byte h = grind (arith, nat_tests)

-- white space ends each token
pub joins-space : (t : Token) (byte : ℕ) → is_space byte ≡ true → joins t byte ≡ false
joins-space (name w) byte h = grind (arith, nat_tests)
joins-space (number n) byte h = grind (arith, nat_tests)
joins-space (operator op) byte h = operator_space op byte h
joins-space (relation op) byte h = relation_space op byte h
joins-space (keyword k) byte h = grind (arith, nat_tests)
joins-space (mark m) byte h = mark_space m byte h

pub spaced-Lexes : (ts : List Token) → AreTokens ts → Lexes ts (spaced ts)
spaced-Lexes [] h = Lexes-end [] refl
spaced-Lexes (t ∷ ts) h =
    Lexes-token [] t ts (32 ∷ spaced ts) refl h.0 (joins-space t 32 refl) (Lexes-space (32 ∷ []) ts (spaced ts) refl (spaced-Lexes ts h.1))

pub plain_text_spells : (P : CProgram) → IsWellMade P → CSpells P (plain_text P)
plain_text_spells P h = (plain_tokens P, (spaced (plain_tokens P), refl, spaced-Lexes (plain_tokens P) h.tokens), plain_spelt P h.members)

pub plain_text_nests : (P : CProgram) (limit : ℕ) → IsWellMade P → nesting (plain_tokens P) ≤ limit → IsWithinNesting limit (plain_text P)
plain_text_nests P limit h k = (plain_tokens P, (spaced (plain_tokens P), refl, spaced-Lexes (plain_tokens P) h.tokens), k)
