-- Texts that are the same but for their names nest equally deep: so the text of an instruction nests as that of its statement,
-- which has names that the code does not have.
use Rattle.std.proofs.Common.{◌≡◌, ℕ, zero, suc, ◌+◌, ◌-◌, ◌≤◌, ℤ, List, [], ◌∷◌, Bool, true, false, cond, Option, Some, None, map, max, nat_le, refl, sym, ap, ◌∙◌, arith}
use Rattle.og_names.specs.declared.Word.{Word}
use Rattle.og_csubset.specs.declared.COp.{COp}
use Rattle.og_csubset.specs.declared.COp.TheVariants as c_op
use Rattle.og_csubset.specs.Tokens.{Token, name, number, operator, relation, keyword, mark, open_round, close_round}
use Rattle.og_csubset.specs.Nesting.{Nest, after_token, nesting_from}
use Rattle.og_csubset.specs.Plain.{Text, Piece, piece, bracketed, shown, is_value, is_least_sum, op_level, operation, op_piece}

abbrev without_name : Token → Token
without_name (name w) = name []
without_name token = token

abbrev pub unnamed : List Token → List Token
unnamed [] = []
unnamed (token ∷ tokens) = without_name token ∷ unnamed tokens

token_same : (token : Token) (nest : Nest) → after_token (without_name token) nest ≡ after_token token nest
token_same (name w) nest = refl
token_same (number n) nest = refl
token_same (operator o) nest = refl
token_same (relation o) nest = refl
token_same (keyword k) nest = refl
token_same (mark m) nest = refl

pub unnamed_nests : (tokens : List Token) (nest : Nest) → nesting_from nest (unnamed tokens) ≡ nesting_from nest tokens
unnamed_nests [] nest = refl
unnamed_nests (token ∷ tokens) nest =
    ap (λ (next : Nest). max next.level.depth (nesting_from next (unnamed tokens))) (token_same token nest)
    ∙ ap (λ n. max (after_token token nest).level.depth n) (unnamed_nests tokens (after_token token nest))

-- tokens that are the same but for names nest equally deep
pub alike_nests : (tokens others : List Token) → unnamed tokens ≡ unnamed others → (nest : Nest) → nesting_from nest tokens ≡ nesting_from nest others
alike_nests tokens others e nest = sym (unnamed_nests tokens nest) ∙ ap (nesting_from nest) e ∙ unnamed_nests others nest

abbrev pub Alike : Text → Text → Type 0
Alike text other = (rest rest' : List Token) → unnamed rest ≡ unnamed rest' → unnamed (text rest) ≡ unnamed (other rest')

pub alike_token : (token : Token) → Alike (λ rest. token ∷ rest) (λ rest. token ∷ rest)
alike_token token rest rest' e = ap (λ l. without_name token ∷ l) e

pub alike_name : (w v : List ℕ) → Alike (λ rest. name w ∷ rest) (λ rest. name v ∷ rest)
alike_name w v rest rest' e = ap (λ l. name [] ∷ l) e

pub alike_then : (first other second another : Text) → Alike first other → Alike second another → Alike (λ rest. first (second rest)) (λ rest. other (another rest))
alike_then first other second another h k rest rest' e = h (second rest) (another rest') (k rest rest' e)

pub record PieceAlike (p q : Piece) : Type 0 where
  pub level : p.level ≡ q.level
  pub value : p.value ≡ q.value
  pub bare : Alike p.bare q.bare
  pub inside : Alike p.inside q.inside

bracket_alike : (p q : Piece) → PieceAlike p q → Alike (bracketed p) (bracketed q)
bracket_alike p q h rest rest' e =
    ap (λ l. mark open_round ∷ l) (h.inside (mark close_round ∷ rest) (mark close_round ∷ rest') (ap (λ l. mark close_round ∷ l) e))

shown_alike : (level : ℕ) (p q : Piece) → PieceAlike p q → Alike (shown level p) (shown level q)
shown_alike level p q h rest rest' e =
    by_test (nat_le p.level level) ∙ ap (λ n. unnamed (cond (nat_le n level) (q.bare rest') (bracketed q rest'))) h.level
  where
    by_test : (b : Bool) → unnamed (cond b (p.bare rest) (bracketed p rest)) ≡ unnamed (cond b (q.bare rest') (bracketed q rest'))
    by_test true = h.bare rest rest' e
    by_test false = bracket_alike p q h rest rest' e

operation_alike : (level : ℕ) (o : COp) (p p' q q' : Piece) → PieceAlike p p' → PieceAlike q q' → Alike (operation level o p q) (operation level o p' q')
operation_alike level o p p' q q' h k rest rest' e =
    shown_alike level p p' h _ _ (ap (λ l. operator o ∷ l) (shown_alike (level - 1) q q' k rest rest' e))

sum_alike : (o : COp) (p p' q q' : Piece) → PieceAlike p p' → PieceAlike q q' → is_least_sum o p q ≡ is_least_sum o p' q'
sum_alike c_op.Add p p' q q' h k = refl
sum_alike c_op.Sub p p' q q' h k =
    ap (λ (v : Option ℤ). is_least_sum c_op.Sub (record p { value = v }) q) h.value ∙ ap (λ (v : Option ℤ). is_least_sum c_op.Sub p' (record q { value = v })) k.value
sum_alike c_op.Mul p p' q q' h k = refl
sum_alike c_op.Div p p' q q' h k = refl
sum_alike c_op.Rem p p' q q' h k = refl

pub op_alike : (o : COp) (p p' q q' : Piece) → PieceAlike p p' → PieceAlike q q' → PieceAlike (op_piece o p q) (op_piece o p' q')
op_alike o p p' q q' h k = record {
  level = refl;
  value = refl;
  bare = operation_alike (op_level o) o p p' q q' h k;
  inside = λ rest rest' e. by_sum (is_least_sum o p q) rest rest' e ∙ ap (λ b. unnamed (cond {A = Text} b (λ r. bracketed p' (operator o ∷ shown 2 q' r)) (operation (op_level o) o p' q') rest')) (sum_alike o p p' q q' h k);
}
  where
    by_sum : (b : Bool) → Alike (cond {A = Text} b (λ r. bracketed p (operator o ∷ shown 2 q r)) (operation (op_level o) o p q)) (cond {A = Text} b (λ r. bracketed p' (operator o ∷ shown 2 q' r)) (operation (op_level o) o p' q'))
    by_sum true rest rest' e = bracket_alike p p' h _ _ (ap (λ l. operator o ∷ l) (shown_alike 2 q q' k rest rest' e))
    by_sum false rest rest' e = operation_alike (op_level o) o p p' q q' h k rest rest' e

pub same_piece : (p : Piece) → ((rest rest' : List Token) → unnamed rest ≡ unnamed rest' → unnamed (p.bare rest) ≡ unnamed (p.bare rest'))
    → ((rest rest' : List Token) → unnamed rest ≡ unnamed rest' → unnamed (p.inside rest) ≡ unnamed (p.inside rest')) → PieceAlike p p
same_piece p h k = record { level = refl; value = refl; bare = h; inside = k }
