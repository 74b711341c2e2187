use Rattle.std.proofs.Common.{ℕ, List, refl, ap, ◌∙◌}
use Rattle.og_reading.proofs.Whole.{is_text, is_no_other, refuses}
use Rattle.og_reading.proofs.Samples.{says_wrong}
use Rattle.og_parse_expr.specs.declared.table.TheConstants.{EXPRESSION}
use Rattle.og_parse_expr.specs.Reading.{whole_at, expression_of}
use Rattle.og_parse_expr.specs.Grammar.{IsExpr}
use Rattle.og_parse_expr.proofs.Whole.{reads_whole, writes_whole}
use Rattle.og_parse_expr.proofs.parse.parse_expr.Goals as goal

pub returns-in_ok-tree-in-Ok-clause-found : goal.returns-in_ok-tree-in-Ok-clause-found
returns-in_ok-tree-in-Ok-clause-found c =
    is_text EXPRESSION whole_at IsExpr reads_whole c.args.tokens.now c.in-Ok.choices c.in_ok-tree-in-Ok.tree c.in-Ok.ensures.found
    (c.in_ok-tree-in-Ok.ensures ∙ ap (λ (cs : List ℕ). expression_of cs c.args.tokens.now) c.as_slice.ensures)

pub returns-in_ok-tree-in-Ok-clause-only : goal.returns-in_ok-tree-in-Ok-clause-only
returns-in_ok-tree-in-Ok-clause-only c =
    is_no_other EXPRESSION whole_at IsExpr writes_whole c.args.tokens.now c.in-Ok.choices c.in_ok-tree-in-Ok.tree c.in-Ok.ensures.only
    (c.in_ok-tree-in-Ok.ensures ∙ ap (λ (cs : List ℕ). expression_of cs c.args.tokens.now) c.as_slice.ensures)

pub returns-in-Err-clause-broken : goal.returns-in-Err-clause-broken
returns-in-Err-clause-broken c = refuses EXPRESSION IsExpr c.args.tokens.now c.in-Err.error c.in-Err.ensures.broken

pub returns-in-Err-clause-wrong : goal.returns-in-Err-clause-wrong
returns-in-Err-clause-wrong c = says_wrong EXPRESSION refl whole_at IsExpr reads_whole writes_whole c.args.tokens.now c.in-Err.error c.in-Err.ensures.broken
