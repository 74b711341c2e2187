-- The stack of what is still to come: the code has the next symbol last, the definition first.
use Rattle.std.proofs.Common.{◌≡◌, true, false, List, [], ◌∷◌, ◌++◌, reverse, Some, None, ap, ◌∙◌}
use Rattle.std.proofs.lemmas.List.{reverse-append, reverse-reverse, map-append}
use Rattle.og_csubset.specs.Tokens.{Token}
use Rattle.og_csubset.specs.Recognizer.{Symbols, next, step, is_empty, may_end}
use Rattle.og_clex.specs.declared.machine.Symbol.{Symbol}
use Rattle.og_clex.specs.Views.{symbol_view, symbols_view}
use Rattle.og_clex.specs.Moves.{coming}

pub coming_last : (xs : List Symbol) (x : Symbol) → coming (xs ++ x ∷ []) ≡ symbol_view x ∷ coming xs
coming_last xs x = ap symbols_view (reverse-append xs (x ∷ []))

pub coming_pushed : (old new : List Symbol) → coming (old ++ reverse new) ≡ symbols_view new ++ coming old
coming_pushed old new =
    ap symbols_view (reverse-append old (reverse new) ∙ ap (λ s. s ++ reverse old) (reverse-reverse new)) ∙ map-append symbol_view new (reverse old)

-- the last symbol takes the token
pub last_takes : (xs : List Symbol) (x : Symbol) (u : Token) (T : Symbols) → next (symbol_view x) u ≡ Some T → step (coming (xs ++ x ∷ [])) u ≡ Some (T ++ coming xs)
last_takes xs x u T e = ap (λ S. step S u) (coming_last xs x) ∙ rw e

-- it is left out
pub last_is_left : (xs : List Symbol) (x : Symbol) (u : Token) → next (symbol_view x) u ≡ None → is_empty (symbol_view x) ≡ true
    → step (coming (xs ++ x ∷ [])) u ≡ step (coming xs) u
last_is_left xs x u e empty = ap (λ S. step S u) (coming_last xs x) ∙ rw (e, empty)

-- it refuses the token
pub last_refuses : (xs : List Symbol) (x : Symbol) (u : Token) → next (symbol_view x) u ≡ None → is_empty (symbol_view x) ≡ false
    → step (coming (xs ++ x ∷ [])) u ≡ None
last_refuses xs x u e some = ap (λ S. step S u) (coming_last xs x) ∙ rw (e, some)

pub last_may_end : (xs : List Symbol) (x : Symbol) → is_empty (symbol_view x) ≡ true → may_end (coming (xs ++ x ∷ [])) ≡ may_end (coming xs)
last_may_end xs x e = ap may_end (coming_last xs x) ∙ rw e

pub last_may_not_end : (xs : List Symbol) (x : Symbol) → is_empty (symbol_view x) ≡ false → may_end (coming (xs ++ x ∷ [])) ≡ false
last_may_not_end xs x e = ap may_end (coming_last xs x) ∙ rw e

pub ruleset stacks = (coming_pushed, last_takes, last_is_left, last_refuses, last_may_end, last_may_not_end)
