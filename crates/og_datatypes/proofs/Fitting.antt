-- Loops over enumerators that look at the numbers that are written.
use Rattle.std.proofs.Common.{◌≡◌, Bool, true, false, ◌&&◌, List, ◌∷◌, ap, ◌∙◌}
use Rattle.std.specs.List.{list_all, flat_map}
use Rattle.std.proofs.lemmas.List.Folds.{list_all-append}
use Rattle.og_names.proofs.Loops.{Left, left_first, left_more, left_stop, left_all}
use Rattle.og_types.specs.Table.{in_64_bits}
use Rattle.og_flat.specs.declared.flat.Enumerator.{Enumerator}
use Rattle.og_dataview.specs.Violations.{given}

abbrev pub all_fit_in : List Enumerator → Bool
all_fit_in items = list_all in_64_bits (flat_map given items)

pub fits : (e : Enumerator) (es : List Enumerator) → list_all in_64_bits (given e) ≡ true → all_fit_in (e ∷ es) ≡ all_fit_in es
fits e es h = list_all-append in_64_bits (given e) (flat_map given es) ∙ ap (λ b. b && all_fit_in es) h

pub fails : (e : Enumerator) (es : List Enumerator) → list_all in_64_bits (given e) ≡ false → all_fit_in (e ∷ es) ≡ false
fails e es h = list_all-append in_64_bits (given e) (flat_map given es) ∙ ap (λ b. b && all_fit_in es) h

pub ruleset fitting = (left_first, left_more, left_stop, left_all, fits, fails)
