-- There is no first violation exactly where there is none, and then there is one body.
use Rattle.std.proofs.Common.{◌≡◌, ℕ, Bool, true, false, if◌then◌else◌, List, [], ◌∷◌, ◌++◌, Some, None, refl, sym, ap, ◌∙◌, ◌⊎◌, inl, inr}
use Rattle.std.specs.Prelude.{◌↔◌}
use Rattle.std.specs.List.{flat_map}
use Rattle.og_base.specs.declared.Violation.{Violation}
use Rattle.og_base.specs.Order.{comes_before, first_from, first_of}
use Rattle.og_ast.specs.declared.system.Unit.{Unit as UnitTree}
use Rattle.og_system.specs.Bodies.{Body, bodies, miscounted, in_unit, violations, first_violation}

decided : (b : Bool) → (b ≡ true) ⊎ (b ≡ false)
decided true = inl refl
decided false = inr refl

some_stays : (best : Violation) (vs : List Violation) → first_from (Some best) vs ≡ None → ⊥
some_stays best [] h = cc
some_stays best (w ∷ vs) h =
    elim (decided (comes_before w best)) [
      | inl won ↦ some_stays w vs (ap (λ b. first_from (if b then Some w else Some best) vs) (sym won) ∙ h)
      | inr stayed ↦ some_stays best vs (ap (λ b. first_from (if b then Some w else Some best) vs) (sym stayed) ∙ h)
    ]

no_first : (vs : List Violation) → first_of vs ≡ None → vs ≡ []
no_first [] h = refl
no_first (v ∷ vs) h = absurd (some_stays v vs h)

pub none_violated : (file : ℕ) (types : List (List ℕ)) (units : List UnitTree) → (first_violation file types units ≡ None) ↔ (violations file types units ≡ [])
none_violated file types units = (no_first (violations file types units), λ none. ap first_of none)

no_front : (vs ws : List Violation) → vs ++ ws ≡ [] → vs ≡ []
no_front [] ws h = refl
no_front (v ∷ vs) ws h = cc

counts_one : (file : ℕ) (bs : List Body) → miscounted file bs ≡ [] → (body : Body) × (bs ≡ body ∷ [])
counts_one file [] h = cc
counts_one file (b ∷ []) h = (b, refl)
counts_one file (b ∷ c ∷ more) h = cc

pub one_body : (file : ℕ) (types : List (List ℕ)) (units : List UnitTree) → violations file types units ≡ [] → (body : Body) × (bodies units ≡ body ∷ [])
one_body file types units none = counts_one file (bodies units) (no_front (miscounted file (bodies units)) (flat_map (in_unit units types) units) none)
