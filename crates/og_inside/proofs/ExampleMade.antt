-- The example is well made and nests less deep than the limit.
use Rattle.std.proofs.Common.{◌≡◌, ◌≤◌, ◌^◌, Bool, true, ◌&&◌, nat_lt, List, [], ◌∷◌, pos, None, refl, sym, ap, ap₂, ◌∙◌, subst, leb-true, ltb-true}
use Rattle.std.specs.Prelude.{codes}
use Rattle.std.proofs.lemmas.Bool.{and_parts}
use Rattle.og_csubset.specs.declared.CStep.{Member, At}
use Rattle.og_csubset.specs.declared.CExpr.{Number, Minus, Op}
use Rattle.og_csubset.specs.declared.COp.TheVariants.{Sub}
use Rattle.og_csubset.specs.declared.CRel.TheVariants.{Lt}
use Rattle.og_csubset.specs.Tokens.{Token, name, number, operator, relation, keyword, mark, switch_, case_, default_, return_, open_brace, close_brace, open_square, close_square, open_round, close_round, semicolon, colon, question, dot, equals, is_name, IsToken}
use Rattle.og_csubset.specs.Spelling.{word, least, literal, least_text}
use Rattle.og_csubset.specs.Nesting.{nesting}
use Rattle.og_csubset.specs.Plain.{Text, Piece, piece, behind_sign, op_piece, plain_piece, plain_place, plain_test, plain_number, each, jump, plain_struct, plain_global, plain_head, plain_event, plain_tokens, AreTokens, IsWellMade}
use Rattle.og_csubset.proofs.PlainTexts.{piece-Number, piece-Read, piece-Minus, piece-Op, piece-Pick, step-Member, step-At, place-text, test-text}
use Rattle.og_inside.specs.Example.{count, element, below, picked, example_globals, example}

abbrev is_right : Token → Bool
is_right (name w) = is_name w
is_right (number n) = nat_lt n (2 ^ 63)
is_right (operator op) = true
is_right (relation op) = true
is_right (keyword k) = true
is_right (mark m) = true

abbrev are_right : List Token → Bool
are_right [] = true
are_right (t ∷ ts) = is_right t && are_right ts

right_token : (t : Token) → is_right t ≡ true → IsToken t
right_token (name w) h = h
right_token (number n) h = ltb-true n (2 ^ 63) h
right_token (operator op) h = tt
right_token (relation op) h = tt
right_token (keyword k) h = tt
right_token (mark m) h = tt

right_tokens : (ts : List Token) → are_right ts ≡ true → AreTokens ts
right_tokens [] h = tt
right_tokens (t ∷ ts) h = let parts = and_parts (is_right t) (are_right ts) h in (right_token t parts.0, right_tokens ts parts.1)

count_piece : plain_piece count ≡ piece 0 (λ ts. name (codes "count") ∷ ts) None
count_piece = piece-Read (record { name = word (codes "count"); path = [] }) ∙ ap (λ t. piece 0 t None) (place-text (word (codes "count")) [])

minus_count_piece : plain_piece (Minus count) ≡ piece 1 (λ ts. operator Sub ∷ name (codes "count") ∷ ts) None
minus_count_piece = piece-Minus count ∙ ap (λ p. piece 1 (λ rest. operator Sub ∷ behind_sign p rest) None) count_piece

abbrev index_with : Piece → Text
index_with p rest = mark open_square ∷ p.bare (mark close_square ∷ rest)

abbrev place_with : Text → Text → Text
place_with a b rest = name (codes "pair") ∷ a (b rest)

element_text : plain_place element
    ≡ (λ ts. name (codes "pair") ∷ mark dot ∷ name (codes "list") ∷ mark open_square ∷ name (codes "count") ∷ mark close_square ∷ ts)
element_text =
    place-text (word (codes "pair")) (Member (word (codes "list")) ∷ At count ∷ [])
    ∙ ap₂ place_with (step-Member (word (codes "list"))) (step-At count ∙ ap index_with count_piece)

abbrev test_with : Piece → Piece → Text
test_with p q rest = p.bare (relation Lt ∷ q.bare rest)

below_text : plain_test below ≡ (λ ts. name (codes "count") ∷ relation Lt ∷ literal 0 ts)
below_text = test-text Lt count (Number (pos 0)) ∙ ap₂ test_with count_piece (piece-Number (pos 0))

difference_piece : plain_piece (Op Sub count (Minus count))
    ≡ op_piece Sub (piece 0 (λ ts. name (codes "count") ∷ ts) None) (piece 1 (λ ts. operator Sub ∷ name (codes "count") ∷ ts) None)
difference_piece = piece-Op Sub count (Minus count) ∙ ap₂ (λ p q. op_piece Sub p q) count_piece minus_count_piece

abbrev picked_with : Text → Piece → Piece → Text
picked_with t p q rest = mark open_round ∷ t (mark question ∷ p.bare (mark colon ∷ q.bare (mark close_round ∷ rest)))

picked_text : plain_number picked
    ≡ (λ ts. mark open_round ∷ name (codes "count") ∷ relation Lt ∷ literal 0 (mark question ∷ least_text (mark colon ∷ name (codes "count")
    ∷ operator Sub ∷ operator Sub ∷ name (codes "count") ∷ mark close_round ∷ ts)))
picked_text =
    ap (λ (p : Piece). p.bare) (piece-Pick below (Number least) (Op Sub count (Minus count)))
    ∙ ap (λ t. picked_with t (plain_piece (Number least)) (plain_piece (Op Sub count (Minus count)))) below_text
    ∙ ap₂ (λ p q. picked_with (λ ts. name (codes "count") ∷ relation Lt ∷ literal 0 ts) p q) (piece-Number least) difference_piece

-- the tokens of the example, from those of its numbers and of its place
abbrev tokens_with : Text → Text → Text → List Token
tokens_with counted place number_ =
    each plain_struct example.structs (each plain_global example_globals (each plain_event example.events
    (plain_head (word (codes "start")) (mark open_brace ∷ name (codes "again") ∷ mark colon ∷ mark semicolon
    ∷ place (mark equals ∷ number_ (mark semicolon
    ∷ keyword switch_ ∷ mark open_round ∷ counted (mark close_round ∷ mark open_brace
    ∷ keyword case_ ∷ literal 0 (mark colon ∷ jump (word (codes "again"))
    (keyword case_ ∷ least_text (mark colon ∷ jump (word (codes "end"))
    (keyword default_ ∷ mark colon ∷ jump (word (codes "end")) (mark close_brace
    ∷ name (codes "end") ∷ mark colon ∷ mark semicolon
    ∷ name (codes "done") ∷ mark open_round ∷ mark close_round ∷ mark semicolon
    ∷ keyword return_ ∷ mark semicolon ∷ mark close_brace ∷ []))))))))))))

abbrev example_text : List Token
example_text =
    tokens_with (λ ts. name (codes "count") ∷ ts)
    (λ ts. name (codes "pair") ∷ mark dot ∷ name (codes "list") ∷ mark open_square ∷ name (codes "count") ∷ mark close_square ∷ ts)
    (λ ts. mark open_round ∷ name (codes "count") ∷ relation Lt ∷ literal 0 (mark question ∷ least_text (mark colon ∷ name (codes "count")
    ∷ operator Sub ∷ operator Sub ∷ name (codes "count") ∷ mark close_round ∷ ts)))

example_tokens : plain_tokens example ≡ example_text
example_tokens =
    ap (λ (p : Piece). tokens_with p.bare (plain_place element) (plain_number picked)) count_piece
    ∙ ap₂ (λ e p. tokens_with (λ ts. name (codes "count") ∷ ts) e p) element_text picked_text

pub example_made : IsWellMade example
example_made = record {
  members = (tt, (tt, ((leb-true 1 3 refl, leb-true 3 65536 refl), tt)), tt);
  tokens = subst AreTokens (sym example_tokens) (right_tokens example_text refl);
}

pub example_within : nesting (plain_tokens example) ≤ 256
example_within = subst (λ ts. nesting ts ≤ 256) (sym example_tokens) (leb-true (nesting example_text) 256 refl)
