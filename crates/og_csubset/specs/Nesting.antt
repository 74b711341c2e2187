-- How deep a text of the C subset nests, over its tokens. Each open bracket counts one while it is open, of whatever kind.
-- Each of the five operators, a sign included, each relation and each selector counts one to the end of the bracket that it
-- stands in, or of its whole expression where no bracket of the expression is open; a selector `[` counts its bracket
-- besides. `?` and `:` count nothing. The selectors of an assignment's target end at `=`, a constant at the `:` of its case,
-- and everything of a statement or declaration at `;`. The `[` of an array's size, inside a struct, is a bracket alone. (C99
-- 5.2.4.1 asks a compiler for 63 nested brackets of an expression.)
use Rattle.std.specs.Prelude.{◌≡◌, ℕ, ◌+◌, ◌<◌, ◌≤◌, max, Bool, true, false, cond, nat_lt, List, [], ◌∷◌, ◌++◌, Option, Some, None, option_map}
use Rattle.og_csubset.specs.Tokens.{Token, name, number, operator, relation, keyword, mark, Keyword, struct_, Mark, open_brace, close_brace, open_square, close_square, open_round, close_round, semicolon, colon, question, dot, equals, spelling, Begins, Cuts, HasTokens, first_line}

-- an open bracket, or the outside of all brackets: whether it is `{` or the outside, the nesting right behind it, and now
pub record Level : Type 0 where
  pub is_block : Bool
  pub base : ℕ
  pub depth : ℕ

-- the innermost open bracket, the others outward, and whether we are in a struct
pub record Nest : Type 0 where
  pub in_struct : Bool
  pub level : Level
  pub outward : List Level

abbrev pub outermost : Nest
outermost = record { in_struct = false; level = record { is_block = true; base = 0; depth = 0 }; outward = [] }

abbrev pub deeper : Nest → Nest
deeper nest = record nest { level = record nest.level { depth = nest.level.depth + 1 } }

abbrev pub opened : Bool → Nest → Nest
opened is_block nest = record nest {
  level = record { is_block = is_block; base = nest.level.depth + 1; depth = nest.level.depth + 1 };
  outward = nest.level ∷ nest.outward;
}

-- what counts in the bracket goes with it
abbrev pub closed_in : Nest → List Level → Nest
closed_in nest [] = nest
closed_in nest (level ∷ levels) = record nest { level = level; outward = levels }

abbrev pub closed : Nest → Nest
closed nest = closed_in nest nest.outward

-- the end of an expression, where one of `;`, `:` and `=` is one
abbrev pub ended : Nest → Nest
ended nest = cond nest.level.is_block (record nest { level = record nest.level { depth = nest.level.base } }) nest

abbrev pub after_mark : Mark → Nest → Nest
after_mark open_brace nest = opened true nest
after_mark close_brace nest = record (closed nest) { in_struct = false }
after_mark open_square nest = cond nest.in_struct (opened false nest) (opened false (deeper nest))
after_mark close_square nest = closed nest
after_mark open_round nest = opened false nest
after_mark close_round nest = closed nest
after_mark semicolon nest = ended nest
after_mark colon nest = ended nest
after_mark question nest = nest
after_mark dot nest = deeper nest
after_mark equals nest = ended nest

abbrev pub after_keyword : Keyword → Nest → Nest
after_keyword struct_ nest = record nest { in_struct = true }
after_keyword _ nest = nest

abbrev pub after_token : Token → Nest → Nest
after_token (name w) nest = nest
after_token (number n) nest = nest
after_token (operator op) nest = deeper nest
after_token (relation op) nest = deeper nest
after_token (keyword k) nest = after_keyword k nest
after_token (mark m) nest = after_mark m nest

abbrev pub after_tokens : List Token → Nest → Nest
after_tokens [] nest = nest
after_tokens (token ∷ tokens) nest = after_tokens tokens (after_token token nest)

-- the greatest nesting that a token reaches, from here on
abbrev pub nesting_from : Nest → List Token → ℕ
nesting_from nest [] = 0
nesting_from nest (token ∷ tokens) =
    let next = after_token token nest in max next.level.depth (nesting_from next tokens)

abbrev pub nesting : List Token → ℕ
nesting tokens = nesting_from outermost tokens

-- how many tokens stand before the first one whose nesting is past the limit
abbrev pub first_past_from : ℕ → Nest → List Token → Option ℕ
first_past_from limit nest [] = None
first_past_from limit nest (token ∷ tokens) =
    let next = after_token token nest in
    cond (nat_lt limit next.level.depth) (Some 0) (option_map (λ k. k + 1) (first_past_from limit next tokens))

abbrev pub first_past : ℕ → List Token → Option ℕ
first_past limit tokens = first_past_from limit outermost tokens

-- the text is one of tokens, none of which passes the limit
abbrev pub IsWithinNesting : ℕ → List ℕ → Type 0
IsWithinNesting limit text = (tokens : List Token) × HasTokens tokens text × (nesting tokens ≤ limit)

-- the text is one of tokens whose greatest nesting is this
abbrev pub HasNesting : List ℕ → ℕ → Type 0
HasNesting text depth = (tokens : List Token) × HasTokens tokens text × (nesting tokens ≡ depth)

-- The first token whose nesting passes the limit begins right behind the bytes `before`, whatever stands behind it.
pub record PassesNesting (limit : ℕ) (text before : List ℕ) : Type 0 where
  pub tokens : List Token
  pub token : Token
  pub body : List ℕ
  pub here : List ℕ
  pub rest : List ℕ
  pub starts : text ≡ first_line ++ body
  pub cuts : Cuts tokens body here
  pub begins : Begins here token rest
  pub place : text ≡ before ++ (spelling token ++ rest)
  pub within : nesting tokens ≤ limit
  pub past : limit < (after_tokens (tokens ++ token ∷ []) outermost).level.depth
