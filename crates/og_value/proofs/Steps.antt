-- One step of a reader: a level of nesting, and a turn of a repetition.
use Rattle.std.proofs.Common.{◌≡◌, ℕ, zero, suc, ◌-◌, ◌+◌, ◌≤◌, ◌<◌, List, slice_get, Some, None, refl, sym, ap, ◌∙◌, arith}
use Rattle.og_types.specs.declared.TypeId.{TypeId}
use Rattle.og_types.specs.declared.Sort.{Sort}
use Rattle.og_value.specs.Reads.{Names}
use Rattle.og_value.specs.Scans.{Reader, value_at, value_by, inner_value, form_at, form_by, inner_form, past_all, past_by}

pub form_is : (depth : ℕ) (bytes : List ℕ) → form_at depth bytes ≡ form_by (inner_form depth) bytes
unfolding form_at
form_is zero bytes = refl
form_is (suc depth) bytes = refl

pub value_is : (depth : ℕ) (types : List Sort) (names : Names) (id : TypeId) (bytes : List ℕ)
    → value_at depth types names id bytes ≡ value_by (inner_value depth types names) names (slice_get types id.0) bytes
unfolding value_at
value_is zero types names id bytes = refl
value_is (suc depth) types names id bytes = refl

-- what stands behind the rest of a repetition is what stands behind all of it
pub record Passes (one : Reader (Unit {0})) (left : ℕ) (rest total : List ℕ) : Type 0 where
  pub is : past_all one left rest ≡ total

pub passes_first : (one : Reader (Unit {0})) (bytes : List ℕ) (n : ℕ) → Passes one (n - 0) bytes (past_all one n bytes)
passes_first one bytes n =
    let k : n - 0 ≡ n = omega arith in
    record { is = ap (λ m. past_all one m bytes) k }

turn : (one : Reader (Unit {0})) (n : ℕ) (rest after : List ℕ) → Some (tt, after) ≡ one rest → past_all one (suc n) rest ≡ past_all one n after
unfolding past_all
turn one n rest after e = ap (past_by (past_all one n) rest) (sym e)

last_turn : (one : Reader (Unit {0})) (n : ℕ) (rest : List ℕ) → None ≡ one rest → past_all one n rest ≡ rest
unfolding past_all
last_turn one zero rest e = refl
last_turn one (suc n) rest e = ap (past_by (past_all one n) rest) (sym e)

pub passes_more : (one : Reader (Unit {0})) (n i : ℕ) (rest after total : List ℕ)
    → i < n → Some (tt, after) ≡ one rest → Passes one (n - i) rest total → Passes one (n - (i + 1)) after total
passes_more one n i rest after total lt e so_far =
    let k : n - i ≡ suc (n - (i + 1)) = omega arith in
    record { is = sym (ap (λ m. past_all one m rest) k ∙ turn one (n - (i + 1)) rest after e) ∙ so_far.is }

pub passes_stop : (one : Reader (Unit {0})) (left : ℕ) (rest total : List ℕ) → None ≡ one rest → Passes one left rest total → rest ≡ total
passes_stop one left rest total e so_far = sym (last_turn one left rest e) ∙ so_far.is

pub passes_end : (one : Reader (Unit {0})) (n i : ℕ) (rest total : List ℕ) → n ≤ i → Passes one (n - i) rest total → rest ≡ total
unfolding past_all
passes_end one n i rest total le so_far =
    let k : n - i ≡ 0 = omega arith in
    sym (ap (λ m. past_all one m rest) k) ∙ so_far.is

pub ruleset steps = (form_is, passes_first, passes_more, passes_stop, passes_end)
