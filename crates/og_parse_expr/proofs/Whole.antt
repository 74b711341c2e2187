-- Expressions as whole texts, both ways.
use Rattle.std.proofs.Common.{ℕ, List, [], ◌∷◌, refl}
use Rattle.og_grammar.specs.declared.Symbol.TheVariants.{Part}
use Rattle.og_lexer.specs.declared.Spanned.{Spanned}
use Rattle.og_ast.specs.declared.expression.ExprTree.{ExprTree}
use Rattle.og_reading.proofs.ReadParts.{Reads, rule, reads_part}
use Rattle.og_reading.proofs.WrittenParts.{Writes, writes_part}
use Rattle.og_parse_expr.specs.declared.table.TheConstants.{EXPRESSION}
use Rattle.og_parse_expr.specs.Reading.{whole_at}
use Rattle.og_parse_expr.specs.Grammar.{IsExpr}
use Rattle.og_parse_expr.proofs.Rules.{own}
use Rattle.og_parse_expr.proofs.ReadExpressions.{reads_expr}
use Rattle.og_parse_expr.proofs.WrittenExpressions.{writes_expr}

pub reads_whole : (n : ℕ) → Reads EXPRESSION n (Part 0 ∷ []) (whole_at n) IsExpr
reads_whole n = reads_part 0 (Part 0) refl (rule (reads_expr EXPRESSION own n (Part 1) refl)) [] refl

pub writes_whole : (e : ExprTree) (ts us : List Spanned) → IsExpr e ts us → Writes EXPRESSION (Part 0 ∷ []) whole_at e ts us
writes_whole e ts us i = writes_part 0 (Part 0) refl 0 (Part 1 ∷ []) refl whole_at (writes_expr EXPRESSION own i (Part 1) refl) (λ n cs. refl)
