-- A table with the names of modules that violate no rule on names fits what they declare.
use Rattle.std.proofs.Common.{◌≡◌, ℕ, List, None, refl, sym, ap, ◌∙◌, subst, slice_get}
use Rattle.og_asn1.specs.declared.syntax.ModuleTree.{ModuleTree}
use Rattle.og_flat.specs.declared.flat.Flat.{Flat}
use Rattle.og_flat.specs.Flattening.{flat_of}
use Rattle.og_dataview.specs.Violations.{first_violation}
use Rattle.og_dataview.specs.View.{declared_names, names_after}
use Rattle.og_datatypes.specs.Fitting.{Fits}
use Rattle.og_datatypes.proofs.Apart.{is_in, names_differ, written_differ}
use Rattle.og_datatypes.proofs.Declaring.{nodes_named, all_known}

pub names_fit : (modules : List ModuleTree) (old names : List (List ℕ)) (flat : Flat) → first_violation modules ≡ None → names ≡ names_after old modules → flat ≡ flat_of modules → Fits names flat
names_fit modules old names flat h added laid = subst (λ f. Fits names f) (sym laid) (subst (λ t. Fits t (flat_of modules)) (sym added) fits)
  where
    fits : Fits (names_after old modules) (flat_of modules)
    fits = record {
      names_differ = λ p. names_differ modules (names_after old modules) h (slice_get (flat_of modules).nodes p) p refl
          (nodes_named (is_in (names_after old modules)) modules p (all_known old (declared_names modules)));
      numbers_differ = λ p. written_differ modules h (slice_get (flat_of modules).nodes p) p refl;
    }
