-- Which expressions are numbers, by their parts.
use Rattle.std.proofs.Common.{◌≡◌, ℕ, ℤ, List, ◌∷◌, Bool, true, false, cond, ◌&&◌, Option, Some, None, refl, ap, ◌∙◌}
use Rattle.og_csubset.specs.declared.CProgram.{CProgram}
use Rattle.og_csubset.specs.declared.CStruct.{CStruct}
use Rattle.og_csubset.specs.declared.CPlace.{CPlace}
use Rattle.og_csubset.specs.declared.CStep.{CStep}
use Rattle.og_csubset.specs.declared.CStep.TheVariants.{Member, At}
use Rattle.og_csubset.specs.declared.CExpr.{CExpr, Number, Read, Minus, Op, Pick}
use Rattle.og_csubset.specs.declared.CExpr.TheVariants.{outs-Number, outs-Read, outs-Minus, outs-Op, outs-Pick}
use Rattle.og_csubset.specs.declared.CTest.{CTest}
use Rattle.og_csubset.specs.declared.COp.{COp}
use Rattle.og_ir.specs.Cells.{◌>>=◌}
use Rattle.og_csubset.specs.Kinds.{Kind, member_of, element_of}
use Rattle.og_csubset.specs.Loading.{is_number, number_by, is_number_type, type_of_place, kind_after}
use Rattle.og_csubset.proofs.Depth.{is_number_is}
use Rattle.og_cload.specs.Selected.{kind_at}

pub number_Number : (program : CProgram) (z : ℤ) → is_number program (Number z) ≡ true
number_Number program z = is_number_is program (Number z) ∙ ap (number_by (is_number program) program) (outs-Number z)

pub number_Read : (program : CProgram) (p : CPlace) → is_number program (Read p) ≡ is_number_type (type_of_place program p)
number_Read program p = is_number_is program (Read p) ∙ ap (number_by (is_number program) program) (outs-Read p)

pub number_Minus : (program : CProgram) (e : CExpr) → is_number program (Minus e) ≡ is_number program e
number_Minus program e = is_number_is program (Minus e) ∙ ap (number_by (is_number program) program) (outs-Minus e)

pub number_Op : (program : CProgram) (o : COp) (a b : CExpr) → is_number program (Op o a b) ≡ (is_number program a && is_number program b)
number_Op program o a b = is_number_is program (Op o a b) ∙ ap (number_by (is_number program) program) (outs-Op o a b)

pub number_Pick : (program : CProgram) (t : CTest) (a b : CExpr)
    → is_number program (Pick t a b) ≡ (is_number program t.left && is_number program t.right && is_number program a && is_number program b)
number_Pick program t a b = is_number_is program (Pick t a b) ∙ ap (number_by (is_number program) program) (outs-Pick t a b)

bind_regroup : {A B C : Type 0} (o : Option A) (f : A → B) (g : B → Option C) → (o >>= λ x. g (f x)) ≡ ((o >>= λ x. Some (f x)) >>= g)
bind_regroup None f g = refl
bind_regroup (Some x) f g = refl

bind_if : {A B : Type 0} (b : Bool) (o : Option A) (g : A → Option B) → cond b (o >>= g) None ≡ (cond b o None >>= g)
bind_if true o g = refl
bind_if false o g = refl

-- one selector, and then the others
pub kind_after_more : (numbers : CExpr → Bool) (structs : List CStruct) (kind : Kind) (step : CStep) (steps : List CStep)
    → kind_after numbers structs kind (step ∷ steps) ≡ (kind_at numbers structs kind step >>= λ next. kind_after numbers structs next steps)
kind_after_more numbers structs kind (Member name) steps =
    bind_regroup (member_of structs kind name.bytes) (λ (found : ℕ × Kind). found.1) (λ next. kind_after numbers structs next steps)
kind_after_more numbers structs kind (At e) steps = bind_if (numbers e) (element_of kind) (λ next. kind_after numbers structs next steps)

pub ruleset numbers = (number_Number, number_Read, number_Minus, number_Op, number_Pick, kind_after_more)
