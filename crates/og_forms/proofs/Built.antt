-- There is no first violation exactly where each form is built.
use Rattle.std.proofs.Common.{◌≡◌, Bool, true, false, ◌&&◌, if◌then◌else◌, List, [], ◌∷◌, ◌++◌, Option, Some, None, refl, sym, ap, ◌∙◌, ◌⊎◌, inl, inr}
use Rattle.std.specs.Prelude.{◌↔◌, IsTrue}
use Rattle.std.specs.List.{list_all}
use Rattle.og_base.specs.declared.Rule.TheVariants.{F1}
use Rattle.og_base.specs.declared.Violation.{Violation}
use Rattle.og_base.specs.Order.{comes_before, sooner, first_from, first_of}
use Rattle.og_ast.specs.declared.system.Unit.{Unit as UnitTree}
use Rattle.og_forms.specs.Forms.{FormAt, Forms, forms_in, is_built, violation_at, unbuilt, unbuilt_in}

decided : (b : Bool) → (b ≡ true) ⊎ (b ≡ false)
decided true = inl refl
decided false = inr refl

some_stays : (best : Violation) (vs : List Violation) → first_from (Some best) vs ≡ None → ⊥
some_stays best [] h = cc
some_stays best (w ∷ vs) h =
    elim (decided (comes_before w best)) [
      | inl won ↦ some_stays w vs (ap (λ b. first_from (if b then Some w else Some best) vs) (sym won) ∙ h)
      | inr stayed ↦ some_stays best vs (ap (λ b. first_from (if b then Some w else Some best) vs) (sym stayed) ∙ h)
    ]

-- one form more
abbrev told : Bool → FormAt → Forms → Option Violation
told b f fs = first_of ((if b then [] else (record { rule = F1; place = f.place } ∷ [])) ++ unbuilt fs)

all_built : (fs : Forms) → first_of (unbuilt fs) ≡ None → IsTrue (list_all (λ (f : FormAt). is_built f.form) fs)
all_built [] h = refl
all_built (f ∷ fs) h =
    elim (decided (is_built f.form)) [
      | inl built ↦ ap (λ b. b && list_all (λ (g : FormAt). is_built g.form) fs) built ∙ all_built fs (ap (λ b. told b f fs) (sym built) ∙ h)
      | inr not ↦ absurd (some_stays (record { rule = F1; place = f.place }) (unbuilt fs) (ap (λ b. told b f fs) (sym not) ∙ h))
    ]

both : (a b : Bool) → a && b ≡ true → (a ≡ true) × (b ≡ true)
both true b h = (refl, h)
both false b h = absurd cc

none_told : (fs : Forms) → IsTrue (list_all (λ (f : FormAt). is_built f.form) fs) → first_of (unbuilt fs) ≡ None
none_told [] h = refl
none_told (f ∷ fs) h =
    let parts = both (is_built f.form) (list_all (λ (g : FormAt). is_built g.form) fs) h in
    ap (λ b. told b f fs) parts.0 ∙ none_told fs parts.1

pub none_unbuilt : (units : List UnitTree) → (first_of (unbuilt_in units) ≡ None) ↔ IsTrue (list_all (λ (f : FormAt). is_built f.form) (forms_in units))
none_unbuilt units = (all_built (forms_in units), none_told (forms_in units))
