-- A view is made of its types, its types with names and its constants.
use Rattle.std.proofs.Common.{◌≡◌, ℕ, List, [], map, refl, sym, ap, ◌∙◌, subst, Some, None, unwrap_or, Contains, ◌⊎◌, inl, inr}
use Rattle.std.specs.List.{enumerate_from}
use Rattle.std.proofs.lemmas.List.{append-nil}
use Rattle.og_base.specs.declared.Violation.{Violation}
use Rattle.og_types.specs.declared.Sort.{Sort}
use Rattle.og_asn1.specs.declared.syntax.ModuleTree.{ModuleTree}
use Rattle.og_flat.specs.declared.flat.Flat.{Flat}
use Rattle.og_flat.specs.Flattening.{flat_of}
use Rattle.og_dataview.specs.declared.view.NamedType.{NamedType}
use Rattle.og_dataview.specs.declared.view.Constant.{Constant}
use Rattle.og_dataview.specs.declared.view.DataView.{DataView}
use Rattle.og_dataview.specs.Naming.{IsFront}
use Rattle.og_dataview.specs.Violations.{violations, first_violation}
use Rattle.og_dataview.specs.Laws.{BreaksFirst}
use Rattle.og_dataview.proofs.OneAnswer.{one_answer}
use Rattle.og_datatypes.proofs.Fit.{names_fit}
use Rattle.og_dataview.specs.View.{in_order, sort_of, named_type, constant_in_view, view_by, names_after, view_of}

pub view_is : (flat : Flat) (names : List (List ℕ)) (types : List Sort) (named : List NamedType) (constants : List Constant) → types ≡ map (sort_of flat names) (in_order flat)
    → named ≡ map (named_type flat names) flat.types → constants ≡ map (constant_in_view flat names) (enumerate_from 0 flat.constants)
    → record { types = types; named = named; constants = constants } ≡ view_by flat names
view_is flat names types named constants a b c = λ i. record { types = a i; named = b i; constants = c i }

pub view_of_modules : (modules : List ModuleTree) (old names : List (List ℕ)) (flat : Flat) (view : DataView) → flat ≡ flat_of modules → names ≡ names_after old modules → view ≡ view_by flat names
    → view ≡ view_of old modules
view_of_modules modules old names flat view laid added is = is ∙ (λ i. view_by (laid i) (added i))

pub front_same : (names : List (List ℕ)) → IsFront names names
front_same names = record { more = []; is = sym (append-nil names) }

-- the first violation is one of them
pub broken_is : (modules : List ModuleTree) (v : Violation) → first_violation modules ≡ Some v → BreaksFirst modules v
broken_is modules v e =
    elim (one_answer (violations modules)) [
      | inl none ↦ absurd (let same : Some v ≡ None = sym e ∙ none.1 in let no : ⊥ = cc in no)
      | inr some ↦ (e, subst (Contains (violations modules)) (ap (λ o. unwrap_or o v) (sym some.1 ∙ e)) some.2)
    ]

pub ruleset reading = (view_of_modules, front_same, broken_is, names_fit)
