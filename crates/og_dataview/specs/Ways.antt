-- Ways kept in lists: where each place leads to in so many steps. A place that a list does
-- not have leads to itself.
use Rattle.std.specs.Prelude.{◌≡◌, ℕ, List, slice_get, unwrap_or}
use Rattle.og_dataview.specs.Following.{walk}

-- where a list leads to
abbrev pub step_in : List ℕ → ℕ → ℕ
step_in nexts p = unwrap_or (slice_get nexts p) p

-- the list leads where so many steps lead
pub record Leads (next : ℕ → ℕ) (steps : ℕ) (list : List ℕ) : Type 0 where
  pub each : (p : ℕ) → step_in list p ≡ walk next steps p
