-- Which unit each instruction of the code of a model begins, and where the units of a body and of a state stand.
use Rattle.std.proofs.Common.{◌≡◌, ℕ, zero, suc, ◌+◌, ◌*◌, pos, nat_eq, if◌then◌else◌, List, [], ◌∷◌, ◌++◌, length, slice_get, Option, Some, None, refl, sym, ap, subst, ◌∙◌, arith}
use Rattle.std.specs.Option.{option_and_then}
use Rattle.std.proofs.lemmas.Bool.{ne_eqb}
use Rattle.std.proofs.lemmas.List.{append_assoc}
use Rattle.std.proofs.lemmas.Option.{none-some}
use Rattle.og_names.proofs.Truths.{same_value as some_is}
use Rattle.og_model.specs.declared.Model.{Model}
use Rattle.og_model.specs.declared.Body.{Body}
use Rattle.og_model.specs.declared.StateDef.{StateDef}
use Rattle.og_model.specs.declared.Step.{Step}
use Rattle.og_ir.specs.FlatSteps.{case_of}
use Rattle.og_ir.specs.Steps.{Frame}
use Rattle.og_flatten.specs.FlatCode.{steps_of, bodies_of, states_of, body_length, length_of_bodies, body_cases, entering_place}
use Rattle.og_flatten.specs.Units.{Cost, A_step, An_ending, An_entering}
use Rattle.og_flatten.proofs.Places.{HasAt, has_at, length_append, same_number, other_number}

-- ---- a list beside the code of `transition`

abbrev pub serving_steps : ℕ → ℕ → List Step → List (Option Cost)
serving_steps body i [] = Some (An_ending body) ∷ []
serving_steps body i (x ∷ steps) = Some (A_step body i) ∷ serving_steps body (i + 1) steps

abbrev serving_bodies : ℕ → List Body → List (Option Cost)
serving_bodies n [] = []
serving_bodies n (b ∷ bodies) = serving_steps n 0 (steps_of b) ++ serving_bodies (n + 1) bodies

abbrev serving_states : ℕ → List StateDef → List (Option Cost)
serving_states k [] = []
serving_states k (d ∷ states) = Some (An_entering k) ∷ None ∷ serving_states (k + 1) states

abbrev pub serving : Model → List (Option Cost)
serving M = None ∷ (serving_bodies 0 (bodies_of M) ++ (serving_states 0 (states_of M) ++ None ∷ []))

-- the unit that the instruction at a place begins
abbrev pub serves : Model → Frame → Option Cost
serves M frame = if nat_eq frame.function 0 then option_and_then (λ (o : Option Cost). o) (slice_get (serving M) frame.place) else None

pub serves_nothing : (M : Model) (f p : ℕ) → (f ≡ 0 → ⊥) → serves M (record { function = f; place = p }) ≡ None
serves_nothing M f p other = ap (λ b. if b then option_and_then (λ (o : Option Cost). o) (slice_get (serving M) p) else None) (ne_eqb f 0 other)

-- ---- bodies

none_more : (k : ℕ) → 0 + k ≡ k
none_more k = omega (arith)

length_of_steps : (body i : ℕ) (steps : List Step) → length (serving_steps body i steps) ≡ length steps + 1
length_of_steps body i [] = refl
length_of_steps body i (x ∷ steps) = let e = length_of_steps body (i + 1) steps in omega (arith, e)

length_of_all : (n : ℕ) (bodies : List Body) → length (serving_bodies n bodies) ≡ length_of_bodies bodies
length_of_all n [] = refl
length_of_all n (b ∷ bodies) =
    length_append (serving_steps n 0 (steps_of b)) (serving_bodies (n + 1) bodies)
    ∙ ap (λ k. k + length (serving_bodies (n + 1) bodies)) (length_of_steps n 0 (steps_of b))
    ∙ ap (λ k. body_length b + k) (length_of_all (n + 1) bodies)

-- the units of a body stand where the case of its number leads
bodies_serve : (n k : ℕ) (before rest : List (Option Cost)) (bodies : List Body) (b : Body) → slice_get bodies k ≡ Some b
    → HasAt (before ++ (serving_bodies n bodies ++ rest)) (case_of (pos (n + k)) (body_cases n (length before) bodies) 0) (serving_steps (n + k) 0 (steps_of b))
bodies_serve n k before rest [] b at = absurd (none-some b at)
bodies_serve n zero before rest (c ∷ bodies) b at =
    subst (λ m. HasAt (before ++ (serving_bodies n (c ∷ bodies) ++ rest)) (case_of (pos m) (body_cases n (length before) (c ∷ bodies)) 0) (serving_steps m 0 (steps_of b))) (plus_zero n)
    (subst (λ p. HasAt (before ++ (serving_bodies n (c ∷ bodies) ++ rest)) p (serving_steps n 0 (steps_of b)))
    (sym (ap (λ t. if t then length before else case_of (pos n) (body_cases (n + 1) (length before + body_length c) bodies) 0) (same_number n)))
    (subst (λ costs. HasAt (before ++ costs) (length before) (serving_steps n 0 (steps_of b))) (sym (append_assoc (serving_steps n 0 (steps_of c)) (serving_bodies (n + 1) bodies) rest))
    (subst (λ (x : Body). HasAt (before ++ (serving_steps n 0 (steps_of c) ++ (serving_bodies (n + 1) bodies ++ rest))) (length before) (serving_steps n 0 (steps_of x))) (some_is c b at)
    (has_at before (serving_steps n 0 (steps_of c)) (serving_bodies (n + 1) bodies ++ rest)))))
  where
    plus_zero : (n : ℕ) → n ≡ n + zero
    plus_zero n = omega (arith)
bodies_serve n (suc k) before rest (c ∷ bodies) b at =
    let here = serving_steps n 0 (steps_of c) in
    let len = length_append before here ∙ ap (λ m. length before + m) (length_of_steps n 0 (steps_of c)) in
    let to : case_of (pos (n + suc k)) (body_cases n (length before) (c ∷ bodies)) 0 ≡ case_of (pos (n + 1 + k)) (body_cases (n + 1) (length (before ++ here)) bodies) 0 =
    ap (λ t. if t then length before else case_of (pos (n + suc k)) (body_cases (n + 1) (length before + body_length c) bodies) 0) (other_number (n + suc k) n (λ e. omega (arith, e)))
    ∙ ap (λ m. case_of (pos m) (body_cases (n + 1) (length before + body_length c) bodies) 0) (shift n k)
    ∙ ap (λ p. case_of (pos (n + 1 + k)) (body_cases (n + 1) p bodies) 0) (sym len) in
    subst (λ p. HasAt (before ++ (serving_bodies n (c ∷ bodies) ++ rest)) p (serving_steps (n + suc k) 0 (steps_of b))) (sym to)
    (subst (λ costs. HasAt costs (case_of (pos (n + 1 + k)) (body_cases (n + 1) (length (before ++ here)) bodies) 0) (serving_steps (n + suc k) 0 (steps_of b)))
    (append_assoc before here (serving_bodies (n + 1) bodies ++ rest) ∙ ap (λ costs. before ++ costs) (sym (append_assoc here (serving_bodies (n + 1) bodies) rest)))
    (subst (λ m. HasAt ((before ++ here) ++ (serving_bodies (n + 1) bodies ++ rest)) (case_of (pos (n + 1 + k)) (body_cases (n + 1) (length (before ++ here)) bodies) 0) (serving_steps m 0 (steps_of b))) (sym (shift n k))
    (bodies_serve (n + 1) k (before ++ here) rest bodies b at)))
  where
    shift : (n k : ℕ) → n + suc k ≡ n + 1 + k
    shift n k = omega (arith)

-- from a place on these units begin, one place after the other
abbrev pub ServesAt : Model → ℕ → List (Option Cost) → Type 0
ServesAt M place costs = HasAt (serving M) place costs

pub body_serves : (M : Model) (k : ℕ) (b : Body) (place : ℕ) → slice_get (bodies_of M) k ≡ Some b → case_of (pos k) (body_cases 0 1 (bodies_of M)) 0 ≡ place → ServesAt M place (serving_steps k 0 (steps_of b))
body_serves M k b place at leads =
    subst (λ p. ServesAt M p (serving_steps k 0 (steps_of b))) leads
    (subst (λ m. ServesAt M (case_of (pos m) (body_cases 0 1 (bodies_of M)) 0) (serving_steps m 0 (steps_of b))) (none_more k)
    (bodies_serve 0 k (None ∷ []) (serving_states 0 (states_of M) ++ None ∷ []) (bodies_of M) b at))

-- ---- states

states_serve : (n k : ℕ) (before rest : List (Option Cost)) (states : List StateDef) (d : StateDef) → slice_get states k ≡ Some d
    → HasAt (before ++ (serving_states n states ++ rest)) (length before + 2 * k) (Some (An_entering (n + k)) ∷ None ∷ [])
states_serve n k before rest [] d at = absurd (none-some d at)
states_serve n zero before rest (c ∷ states) d at =
    subst (λ p. HasAt (before ++ (serving_states n (c ∷ states) ++ rest)) p (Some (An_entering (n + zero)) ∷ None ∷ [])) (plus_two (length before))
    (subst (λ m. HasAt (before ++ (serving_states n (c ∷ states) ++ rest)) (length before) (Some (An_entering m) ∷ None ∷ [])) (plus_zero n)
    (has_at before (Some (An_entering n) ∷ None ∷ []) (serving_states (n + 1) states ++ rest)))
  where
    plus_two : (a : ℕ) → a ≡ a + 2 * zero
    plus_two a = omega (arith)

    plus_zero : (a : ℕ) → a ≡ a + zero
    plus_zero a = omega (arith)
states_serve n (suc k) before rest (c ∷ states) d at =
    let here = Some (An_entering n) ∷ None ∷ [] in
    subst (λ costs. HasAt costs (length before + 2 * suc k) (Some (An_entering (n + suc k)) ∷ None ∷ [])) (append_assoc before here (serving_states (n + 1) states ++ rest))
    (subst (λ m. HasAt ((before ++ here) ++ (serving_states (n + 1) states ++ rest)) (length before + 2 * suc k) (Some (An_entering m) ∷ None ∷ [])) (shift n k)
    (subst (λ p. HasAt ((before ++ here) ++ (serving_states (n + 1) states ++ rest)) p (Some (An_entering (n + 1 + k)) ∷ None ∷ [])) (further (length (before ++ here)) (length before) k (length_append before here))
    (states_serve (n + 1) k (before ++ here) rest states d at)))
  where
    shift : (n k : ℕ) → n + 1 + k ≡ n + suc k
    shift n k = omega (arith)

    further : (a b k : ℕ) → a ≡ b + 2 → a + 2 * k ≡ b + 2 * suc k
    further a b k e = omega (arith, e)

pub state_serves : (M : Model) (k : ℕ) (d : StateDef) → slice_get (states_of M) k ≡ Some d → ServesAt M (entering_place M k) (Some (An_entering k) ∷ None ∷ [])
state_serves M k d at =
    let before = None ∷ serving_bodies 0 (bodies_of M) in
    let len : length before + 2 * k ≡ entering_place M k = place_is (length (serving_bodies 0 (bodies_of M))) (length_of_bodies (bodies_of M)) k (length_of_all 0 (bodies_of M)) in
    subst (λ p. ServesAt M p (Some (An_entering k) ∷ None ∷ [])) len
    (subst (λ n. ServesAt M (length before + 2 * k) (Some (An_entering n) ∷ None ∷ [])) (none_more k)
    (states_serve 0 k before (None ∷ []) (states_of M) d at))
  where
    place_is : (a b k : ℕ) → a ≡ b → suc a + 2 * k ≡ 1 + b + 2 * k
    place_is a b k e = omega (arith, e)

-- what the list says of a place is what begins there
pub served : (M : Model) (p : ℕ) (o : Option Cost) → slice_get (serving M) p ≡ Some o → serves M (record { function = 0; place = p }) ≡ o
served M p o at = ap (option_and_then (λ (x : Option Cost). x)) at
