-- Tables that have the productions of expressions: the parts from 1 to 35 are those of the table of expressions.
use Rattle.std.proofs.Common.{◌≡◌, ℕ, zero, suc, ◌<◌, Bool, true, false, List, nat_eq, nat_lt, refl, sym, subst, arith}
use borrow.Author.Tests.{ltb-true}
use Rattle.og_grammar.specs.declared.Symbol.{Symbol}
use Rattle.og_grammar.specs.Sentence.{rules_of}
use Rattle.og_grammar.proofs.Sets.{is_same, not_same}
use Rattle.og_parse_expr.specs.declared.table.TheConstants.{EXPRESSION}

pub record HasExpressions (table : List Symbol) : Type 0 where
  pub rules : (p : ℕ) → nat_lt p 35 ≡ true → rules_of (suc p) table ≡ rules_of (suc p) EXPRESSION

-- the table of expressions itself
pub own : HasExpressions EXPRESSION
own = record { rules = λ p lt. refl }

-- the rules of the parts from 1 to n, the last first
abbrev pub SameRules : List Symbol → ℕ → Type 0
SameRules table zero = Unit {0}
SameRules table (suc n) = (rules_of (suc n) table ≡ rules_of (suc n) EXPRESSION) × SameRules table n

same_rule : (table : List Symbol) (n p : ℕ) → SameRules table n → p < n → rules_of (suc p) table ≡ rules_of (suc p) EXPRESSION
same_rule table zero p same lt = absurd (omega arith)
same_rule table (suc n) p same lt = by (nat_eq p n) refl (λ less. same_rule table n p same.1 less)
  where
    by : (b : Bool) → nat_eq p n ≡ b → (p < n → rules_of (suc p) table ≡ rules_of (suc p) EXPRESSION) → rules_of (suc p) table ≡ rules_of (suc p) EXPRESSION
    by true e go = subst (λ (k : ℕ). rules_of (suc k) table ≡ rules_of (suc k) EXPRESSION) (sym (is_same p n e)) same.0
    by false e go = let other = not_same p n e in go (omega (arith, other))

pub has_all : (table : List Symbol) → SameRules table 35 → HasExpressions table
has_all table same = record { rules = λ p lt. same_rule table 35 p same (ltb-true p 35 lt) }
