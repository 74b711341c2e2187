-- How a run has ended is never told as Past.
use Rattle.std.proofs.Common.{◌≡◌, ℕ, suc, zero, ℤ, pos, negsuc, List, Bool, false, Option, Some, None, unwrap_or, refl}
use Rattle.og_model.specs.declared.Model.{Model}
use Rattle.og_model.specs.declared.StuckRule.TheVariants as stuck
use Rattle.og_model.specs.Regions.{regions}
use Rattle.og_model.specs.Shown.{End, Stuck, is_past}
use Rattle.og_ir.specs.Cells.{◌>>=◌, Cells}
use Rattle.og_csubset.specs.Interface as interface
use Rattle.og_csubset.specs.Reads.{Globals, number_named, kind_numbered, place_of_fault, variables_in, timers_in, paths_in, fault_end, stopped_end, rest_end, end_without_fault, end_by_kind, end_of}

abbrev past_in : Option End → Bool
past_in None = false
past_in (Some e) = is_past e

bound : {A : Type 0} (o : Option A) (f : A → Option End) → ((x : A) → past_in (f x) ≡ false) → past_in (o >>= f) ≡ false
bound None f h = refl
bound (Some x) f h = h x

fault_not_past : (M : Model) (G : Globals) (z : ℤ) → past_in (fault_end M G z) ≡ false
fault_not_past M G z =
    bound (kind_numbered z) _ (λ kind. bound (place_of_fault G) _ (λ place. bound (variables_in M G) _ (λ variables. bound (timers_in M G) _ (λ timers. refl))))

stopped_not_past : (M : Model) (G : Globals) → past_in (stopped_end M G) ≡ false
stopped_not_past M G = bound (variables_in M G) _ (λ variables. refl)

rest_not_past : (M : Model) (G : Globals) → past_in (rest_end M G) ≡ false
rest_not_past M G = bound (paths_in M G (regions M)) _ (λ paths. bound (variables_in M G) _ (λ variables. bound (timers_in M G) _ (λ timers. refl)))

without_fault : (M : Model) (G : Globals) (z : ℤ) → past_in (end_without_fault M G z) ≡ false
without_fault M G (pos zero) = rest_not_past M G
without_fault M G (pos (suc n)) = stopped_not_past M G
without_fault M G (negsuc n) = stopped_not_past M G

by_kind : (M : Model) (G : Globals) (z : ℤ) → past_in (end_by_kind M G z) ≡ false
by_kind M G (pos zero) = bound (number_named G interface.stopped_name) _ (λ z. without_fault M G z)
by_kind M G (pos (suc n)) = fault_not_past M G (pos (suc n))
by_kind M G (negsuc n) = fault_not_past M G (negsuc n)

unwrapped : (o : Option End) → past_in o ≡ false → is_past (unwrap_or o (Stuck stuck.Value)) ≡ false
unwrapped None h = refl
unwrapped (Some e) h = h

pub never_past : (M : Model) (names : List (List ℕ)) (cells : List Cells) → is_past (end_of M names cells) ≡ false
unfolding end_of
never_past M names cells =
    let G : Globals = record { names = names; cells = cells } in
    unwrapped (number_named G interface.kind_name >>= end_by_kind M G) (bound (number_named G interface.kind_name) _ (λ z. by_kind M G z))
