-- Making parts one after the other, as a loop does.
use Rattle.std.proofs.Common.{◌≡◌, ℕ, suc, ◌-◌, ◌+◌, ◌≤◌, ◌<◌, true, false, List, [], ◌∷◌, ◌++◌, length, refl, sym, ap, ◌∙◌, append_assoc, arith}
use Rattle.std.proofs.lemmas.List.{append-nil}
use Rattle.og_grammar.specs.Reading.{Take, after, goes_on, repeated, many}

-- what was made before, and what is still made
abbrev pub with_front : {T X : Type 0} → List X → List X × List ℕ × List T → List X × List ℕ × List T
with_front front made = (front ++ made.0, made.1, made.2)

-- the parts so far, with those that at most `left` more turns make, are what is made in all
pub record SoFar {T X : Type 0} (p : Take T X) (front : List X) (left : ℕ) (choices : List ℕ) (tokens : List T) (total : List X × List ℕ × List T) : Type 0 where
  pub is : with_front front (repeated p left choices tokens) ≡ total

pub so_far_first : {T X : Type 0} (p : Take T X) (choices : List ℕ) (tokens : List T) (n : ℕ) → n ≡ length choices → SoFar p [] (n - 0) choices tokens (many p choices tokens)
unfolding many
so_far_first p choices tokens n e =
    let k : n - 0 ≡ length choices = omega arith in
    record { is = ap (λ (m : ℕ). repeated p m choices tokens) k }

pub turn : {T X : Type 0} (p : Take T X) (n : ℕ) (choices : List ℕ) (tokens : List T) → goes_on choices ≡ true
    → repeated p (suc n) choices tokens ≡ (let x = p (after choices) tokens in let xs = repeated p n x.1 x.2 in (x.0 ∷ xs.0, xs.1, xs.2))
unfolding repeated
turn p n choices tokens b = rw b refl

pub stop : {T X : Type 0} (p : Take T X) (n : ℕ) (choices : List ℕ) (tokens : List T) → goes_on choices ≡ false → repeated p (suc n) choices tokens ≡ ([], after choices, tokens)
unfolding repeated
stop p n choices tokens b = rw b refl

pub so_far_goes_on : {T X : Type 0} (p : Take T X) (front : List X) (n i : ℕ) (choices later : List ℕ) (tokens more : List T) (x : X) (total : List X × List ℕ × List T)
    → i < n → goes_on choices ≡ true → (x, later, more) ≡ p (after choices) tokens → SoFar p front (n - i) choices tokens total → SoFar p (front ++ x ∷ []) (n - (i + 1)) later more total
so_far_goes_on {T = T} {X = X} p front n i choices later tokens more x total lt b e so_far =
    let k : n - i ≡ suc (n - (i + 1)) = omega arith in
    let one : repeated p (n - i) choices tokens ≡ (x ∷ (repeated p (n - (i + 1)) later more).0, (repeated p (n - (i + 1)) later more).1, (repeated p (n - (i + 1)) later more).2) =
    ap (λ (m : ℕ). repeated p m choices tokens) k ∙ turn p (n - (i + 1)) choices tokens b
    ∙ ap (λ (z : X × List ℕ × List T). (z.0 ∷ (repeated p (n - (i + 1)) z.1 z.2).0, (repeated p (n - (i + 1)) z.1 z.2).1, (repeated p (n - (i + 1)) z.1 z.2).2)) (sym e) in
    record {
      is =
          ap (λ (ys : List X). (ys, (repeated p (n - (i + 1)) later more).1, (repeated p (n - (i + 1)) later more).2)) (append_assoc front (x ∷ []) (repeated p (n - (i + 1)) later more).0)
          ∙ sym (ap (with_front front) one) ∙ so_far.is;
    }

pub so_far_stops : {T X : Type 0} (p : Take T X) (front : List X) (n i : ℕ) (choices : List ℕ) (tokens : List T) (total : List X × List ℕ × List T)
    → i < n → goes_on choices ≡ false → SoFar p front (n - i) choices tokens total → (front, after choices, tokens) ≡ total
so_far_stops {X = X} p front n i choices tokens total lt b so_far =
    let k : n - i ≡ suc (n - (i + 1)) = omega arith in
    ap (λ (xs : List X). (xs, after choices, tokens)) (sym (append-nil front)) ∙ sym (ap (λ (m : ℕ). with_front front (repeated p m choices tokens)) k ∙ ap (with_front front) (stop p (n - (i + 1)) choices tokens b)) ∙ so_far.is

pub so_far_ends : {T X : Type 0} (p : Take T X) (front : List X) (n i : ℕ) (choices : List ℕ) (tokens : List T) (total : List X × List ℕ × List T)
    → n ≤ i → SoFar p front (n - i) choices tokens total → (front, choices, tokens) ≡ total
unfolding repeated
so_far_ends {X = X} p front n i choices tokens total le so_far =
    let k : n - i ≡ 0 = omega arith in
    ap (λ (xs : List X). (xs, choices, tokens)) (sym (append-nil front)) ∙ sym (ap (λ (m : ℕ). with_front front (repeated p m choices tokens)) k) ∙ so_far.is

-- what each goal of such a loop rests on
pub ruleset turns = (so_far_first, so_far_goes_on, so_far_stops, so_far_ends)
