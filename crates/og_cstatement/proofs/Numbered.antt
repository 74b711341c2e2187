-- The numbers of names, by the parts of each tree.
use Rattle.std.proofs.Common.{◌≡◌, ℕ, ◌+◌, ◌-◌, ◌^◌, ◌≤◌, min, append-nil, ℤ, List, [], ◌∷◌, ◌++◌, Bool, true, false, cond, if◌then◌else◌, Option, Some, None, refl, sym, ap, ◌∙◌, arith}
use Rattle.std.specs.Option.{option_map}
use Rattle.og_names.specs.declared.Word.{Word}
use Rattle.og_csubset.specs.declared.CProgram.{CProgram}
use Rattle.og_csubset.specs.declared.CStruct.{CStruct}
use Rattle.og_csubset.specs.declared.CMember.{CMember}
use Rattle.og_csubset.specs.declared.CPlace.{CPlace, fold-roll-CPlace}
use Rattle.og_csubset.specs.declared.CStep.{CStep, Member, At, fold-roll-CStep, roll-CStep}
use Rattle.og_csubset.specs.declared.CStmt.{CStmt}
use Rattle.og_csubset.specs.declared.CExpr.{CExpr, Number, Read, Minus, Op, Pick, fold-roll-CExpr}
use Rattle.og_csubset.specs.declared.CExpr.TheOpen as open'
use Rattle.og_csubset.specs.declared.CExpr.TheVariants.{rolls-Number, rolls-Read, rolls-Minus, rolls-Op, rolls-Pick, outs-Number, outs-Read, outs-Minus, outs-Op, outs-Pick}
use Rattle.og_csubset.specs.declared.CTest.{CTest, fold-roll-CTest}
use Rattle.og_csubset.specs.declared.COp.{COp}
use Rattle.og_csubset.specs.Kinds.{Kind, element_of, global_kind}
use Rattle.og_csubset.specs.Step.{is_label, label_in}
use Rattle.og_ir.specs.Cells.{◌>>=◌}
use Rattle.og_names.proofs.Loops.{Left}
use Rattle.og_cload.proofs.Grown.{grown_one, none}
use Rattle.og_cstatement.specs.declared.code.Expression as e
use Rattle.og_cstatement.specs.declared.code.Expression.{Expression}
use Rattle.og_ccells.specs.Layouts.{capped, members_before, widths_of, layout_of}
use Rattle.og_ccells.specs.declared.layout.Layout.{Layout}
use Rattle.og_ccells.proofs.Widths.{most, up_to_small, sum_step, sum_last}
use Rattle.og_cstatement.specs.declared.code.Term.{Term}
use Rattle.og_cstatement.specs.declared.code.Place.{Place, roll-Place}
use Rattle.og_cstatement.specs.declared.code.Test.{Test}
use Rattle.og_cstatement.specs.Resolved.{Leads, number_layer, step_layer, place_layer, test_layer, with_term, all_terms, all_offset, global_offset, term_in, offset_after, member_after, expression_of, selector_of, place_of, test_of, path_of}

pub expression-Number : (P : CProgram) (z : ℤ) → expression_of P (Number z) ≡ e.Literal z
unfolding expression_of
expression-Number P z = ap (expression_of P) (sym (rolls-Number z)) ∙ fold-roll-CExpr Expression Leads Place Test number_layer (step_layer P) (place_layer P) test_layer (open'.Number z)

pub expression-Read : (P : CProgram) (p : CPlace) → expression_of P (Read p) ≡ e.Read (place_of P p)
unfolding expression_of place_of
expression-Read P p = ap (expression_of P) (sym (rolls-Read p)) ∙ fold-roll-CExpr Expression Leads Place Test number_layer (step_layer P) (place_layer P) test_layer (open'.Read p)

pub expression-Minus : (P : CProgram) (a : CExpr) → expression_of P (Minus a) ≡ e.Minus (expression_of P a)
unfolding expression_of
expression-Minus P a = ap (expression_of P) (sym (rolls-Minus a)) ∙ fold-roll-CExpr Expression Leads Place Test number_layer (step_layer P) (place_layer P) test_layer (open'.Minus a)

pub expression-Op : (P : CProgram) (o : COp) (a b : CExpr) → expression_of P (Op o a b) ≡ e.Op o (expression_of P a) (expression_of P b)
unfolding expression_of
expression-Op P o a b = ap (expression_of P) (sym (rolls-Op o a b)) ∙ fold-roll-CExpr Expression Leads Place Test number_layer (step_layer P) (place_layer P) test_layer (open'.Op o a b)

pub expression-Pick : (P : CProgram) (t : CTest) (a b : CExpr) → expression_of P (Pick t a b) ≡ e.Choice (test_of P t) (expression_of P a) (expression_of P b)
unfolding expression_of test_of
expression-Pick P t a b = ap (expression_of P) (sym (rolls-Pick t a b)) ∙ fold-roll-CExpr Expression Leads Place Test number_layer (step_layer P) (place_layer P) test_layer (open'.Pick t a b)

pub selector-Member : (P : CProgram) (w : Word) (kind : Option Kind)
    → selector_of P (Member w) kind ≡ record { offset = offset_after P kind w.bytes; term = None; kind = member_after P kind w.bytes }
unfolding selector_of roll-CStep denote.Hole.Carrier.roll
selector-Member P w kind = ap (λ f. f kind) (fold-roll-CStep Expression Leads Place Test number_layer (step_layer P) (place_layer P) test_layer (open'.Member w))

pub selector-At : (P : CProgram) (a : CExpr) (kind : Option Kind)
    → selector_of P (At a) kind ≡ record { offset = 0; term = Some (term_in P kind (expression_of P a)); kind = kind >>= element_of }
unfolding selector_of expression_of roll-CStep denote.Hole.Carrier.roll
selector-At P a kind = ap (λ f. f kind) (fold-roll-CStep Expression Leads Place Test number_layer (step_layer P) (place_layer P) test_layer (open'.At a))

pub place-is : (P : CProgram) (p : CPlace) → place_of P p ≡ roll-Place (record {
  offset = capped (global_offset P p.name.bytes + all_offset (path_of P p.path) (global_kind P p.name.bytes));
  terms = all_terms (path_of P p.path) (global_kind P p.name.bytes);
})
unfolding place_of selector_of
place-is P p = fold-roll-CPlace Expression Leads Place Test number_layer (step_layer P) (place_layer P) test_layer (record { name = p.name; path = p.path })

pub test-is : (P : CProgram) (t : CTest) → test_of P t ≡ record { op = t.op; left = expression_of P t.left; right = expression_of P t.right }
unfolding test_of expression_of
test-is P t = fold-roll-CTest Expression Leads Place Test number_layer (step_layer P) (place_layer P) test_layer (record { op = t.op; left = t.left; right = t.right })

-- ---- layouts

pub widths_laid : (P : CProgram) (layout : Layout) → layout ≡ layout_of P → layout.widths ≡ widths_of P.structs
unfolding layout_of
widths_laid P layout e = ap (λ (l : Layout). l.widths) e

pub extents_laid : (P : CProgram) (layout : Layout) → layout ≡ layout_of P → layout.extents ≡ (layout_of P).extents
extents_laid P layout e = ap (λ (l : Layout). l.extents) e

pub nothing : 0 ≡ capped 0
nothing = sym (up_to_small most 0 (omega arith))

pub no_members : (structs : List CStruct) (name : List ℕ) (o : Option (List CMember)) → None ≡ o → 0 ≡ capped (members_before structs name o)
no_members structs name o e = nothing ∙ ap (λ m. capped (members_before structs name m)) e

-- ---- loops

-- the place of a label, where the first statement has this place
abbrev pub label_from : ℕ → List ℕ → List CStmt → Option ℕ
label_from i name [] = None
label_from i name (statement ∷ body) = if is_label name statement then Some i else label_from (i + 1) name body

label_if : (i : ℕ) (b : Bool) (o : Option ℕ) → cond b (Some i) (option_map (λ k. k + (i + 1)) o) ≡ option_map (λ k. k + i) (cond b (Some 0) (option_map (λ k. k + 1) o))
label_if i true o = ap Some (omega arith)
label_if i false None = refl
label_if i false (Some k) = ap Some (omega arith)

label_later : (i : ℕ) (name : List ℕ) (body : List CStmt) → label_from i name body ≡ option_map (λ k. k + i) (label_in name body)
label_later i name [] = refl
label_later i name (statement ∷ body) =
    ap (λ o. cond (is_label name statement) (Some i) o) (label_later (i + 1) name body) ∙ label_if i (is_label name statement) (label_in name body)

label_none : (o : Option ℕ) → option_map (λ k. k + 0) o ≡ o
label_none None = refl
label_none (Some k) = ap Some (omega arith)

pub label_first : (name : List ℕ) (body : List CStmt) → Left (λ ys. label_from 0 name ys) body 0 (label_in name body)
label_first name body = record { is = label_later 0 name body ∙ label_none (label_in name body) }

-- how far a path leads from here, and its indices behind those so far
abbrev pub far : CProgram → ℕ → List Term → List CStep → Option Kind → ℕ × List Term
far P at front steps kind = (capped (at + all_offset (path_of P steps) kind), front ++ all_terms (path_of P steps) kind)

-- one selector more
behind : (front terms : List Term) (o : Option Term) → front ++ with_term o terms ≡ (front ++ with_term o []) ++ terms
behind front terms None = ap (λ l. l ++ terms) (sym (append-nil front))
behind front terms (Some term) = grown_one front term terms

pub far_more : (P : CProgram) (x : CStep) (steps : List CStep) (kind next : Option Kind) (at w after : ℕ) (front grown : List Term) (term : Option Term)
    → term ≡ (selector_of P x kind).term → grown ≡ front ++ with_term term [] → w ≡ capped (selector_of P x kind).offset → after ≡ min (at + w) (2 ^ 32 - 1)
    → next ≡ (selector_of P x kind).kind → far P at front (x ∷ steps) kind ≡ far P after grown steps next
far_more P x steps kind next at w after front grown term t g o a k =
    let rest = all_offset (path_of P steps) (selector_of P x kind).kind in
    let terms = all_terms (path_of P steps) (selector_of P x kind).kind in
    ap (λ n. (n, front ++ with_term (selector_of P x kind).term terms)) (sum_step most at w (selector_of P x kind).offset rest after o a)
    ∙ ap (λ n. (capped (after + rest), front ++ with_term n terms)) (sym t)
    ∙ ap (λ l. (capped (after + rest), l)) (behind front terms term ∙ ap (λ l. l ++ terms) (sym g))
    ∙ ap (λ n. far P after grown steps n) (sym k)

pub far_first : (P : CProgram) (p : CPlace) (name : List ℕ) (items : List CStep) (at : ℕ) (front : List Term) (kind : Option Kind) → name ≡ p.name.bytes → items ≡ p.path
    → at ≡ global_offset P name → front ≡ [] → kind ≡ global_kind P name
    → Left (λ ys. far P at front ys kind) items 0 (far P (global_offset P p.name.bytes) [] p.path (global_kind P p.name.bytes))
far_first P p name items at front kind n i a f k = record {
  is = ap (λ n. far P n front items kind) (a ∙ ap (global_offset P) n) ∙ ap (λ l. far P (global_offset P p.name.bytes) l items kind) f
      ∙ ap (λ l. far P (global_offset P p.name.bytes) [] l kind) i ∙ ap (far P (global_offset P p.name.bytes) [] p.path) (k ∙ ap (global_kind P) n);
}

pub far_all : (P : CProgram) (p : CPlace) (at : ℕ) (front : List Term) (kind : Option Kind) → at ≤ most
    → far P at front [] kind ≡ far P (global_offset P p.name.bytes) [] p.path (global_kind P p.name.bytes) → roll-Place (record { offset = at; terms = front }) ≡ place_of P p
far_all P p at front kind small e =
    ap (λ n. roll-Place (record { offset = n; terms = front })) (sym (sum_last most at small))
    ∙ ap (λ l. roll-Place (record { offset = capped (at + 0); terms = l })) (sym (append-nil front))
    ∙ ap (λ (x : ℕ × List Term). roll-Place (record { offset = x.0; terms = x.1 })) e
    ∙ sym (place-is P p)

pub ruleset numbered = (expression-Number, expression-Read, expression-Minus, expression-Op, expression-Pick, selector-Member, selector-At, test-is, widths_laid, extents_laid, nothing, no_members, outs-Number, outs-Read, outs-Minus, outs-Op, outs-Pick, label_first, none)
