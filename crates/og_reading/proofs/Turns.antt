-- Turns of a repetition, one after the other, as a loop does them.
use Rattle.std.proofs.Common.{◌≡◌, ℕ, suc, ◌-◌, ◌+◌, ◌≤◌, ◌<◌, true, false, List, length, refl, sym, ap, ◌∙◌, arith}
use Rattle.og_reading.specs.Reading.{Rest, Take, after, goes_on, turns, onto}

-- what at most `left` more turns make of what was made so far is what is made in all
pub record SoFar {X : Type 0} (step : X → Take X) (made : X) (left : ℕ) (rest : Rest) (total : X × Rest) : Type 0 where
  pub is : turns step left made rest ≡ total

pub turn : {X : Type 0} (step : X → Take X) (n : ℕ) (made : X) (rest : Rest) → goes_on rest ≡ true
    → turns step (suc n) made rest ≡ (let y = step made (after rest) in turns step n y.0 y.1)
unfolding turns
turn step n made rest b = rw b refl

pub stop : {X : Type 0} (step : X → Take X) (n : ℕ) (made : X) (rest : Rest) → goes_on rest ≡ false → turns step (suc n) made rest ≡ (made, after rest)
unfolding turns
stop step n made rest b = rw b refl

pub so_far_first : {X : Type 0} (step : X → Take X) (made : X) (rest : Rest) (n : ℕ) → n ≡ length rest.choices → SoFar step made (n - 0) rest (onto step made rest)
unfolding onto
so_far_first step made rest n e = let k : n - 0 ≡ length rest.choices = omega arith in record { is = ap (λ (m : ℕ). turns step m made rest) k }

pub so_far_goes_on : {X : Type 0} (step : X → Take X) (made x : X) (n i : ℕ) (rest later : Rest) (total : X × Rest)
    → i < n → goes_on rest ≡ true → (x, later) ≡ step made (after rest) → SoFar step made (n - i) rest total → SoFar step x (n - (i + 1)) later total
so_far_goes_on {X = X} step made x n i rest later total lt b e so_far =
    let k : n - i ≡ suc (n - (i + 1)) = omega arith in
    record {
      is =
          ap (λ (y : X × Rest). turns step (n - (i + 1)) y.0 y.1) e ∙ sym (turn step (n - (i + 1)) made rest b)
          ∙ sym (ap (λ (m : ℕ). turns step m made rest) k) ∙ so_far.is;
    }

pub so_far_stops : {X : Type 0} (step : X → Take X) (made : X) (n i : ℕ) (rest : Rest) (total : X × Rest)
    → i < n → goes_on rest ≡ false → SoFar step made (n - i) rest total → (made, after rest) ≡ total
so_far_stops step made n i rest total lt b so_far =
    let k : n - i ≡ suc (n - (i + 1)) = omega arith in
    sym (stop step (n - (i + 1)) made rest b) ∙ sym (ap (λ (m : ℕ). turns step m made rest) k) ∙ so_far.is

pub so_far_ends : {X : Type 0} (step : X → Take X) (made : X) (n i : ℕ) (rest : Rest) (total : X × Rest)
    → n ≤ i → SoFar step made (n - i) rest total → (made, rest) ≡ total
unfolding turns
so_far_ends step made n i rest total le so_far =
    let k : n - i ≡ 0 = omega arith in
    sym (ap (λ (m : ℕ). turns step m made rest) k) ∙ so_far.is

-- what each goal of such a loop rests on
pub ruleset loop_turns = (so_far_first, so_far_goes_on, so_far_stops, so_far_ends)
