-- Where the code of bodies, states and handlers stands, and which case of a table leads there.
use Rattle.std.proofs.Common.{◌≡◌, ℕ, zero, suc, ◌+◌, ◌*◌, ◌≤◌, ◌<◌, pos, true, false, ◌&&◌, nat_le, if◌then◌else◌, List, [], ◌∷◌, ◌++◌, map, length, slice_get, Option, Some, None, ◌⊎◌, inl, inr, refl, sym, ap, subst, ◌∙◌, arith}
use Rattle.std.proofs.lemmas.Bool.{le-leb}
use Rattle.std.proofs.lemmas.Bool.Decides.{leb_tells}
use Rattle.std.proofs.lemmas.List.{append_assoc}
use Rattle.std.proofs.lemmas.Option.{none-some}
use Rattle.og_model.specs.declared.Body.{Body}
use Rattle.og_model.specs.declared.StateDef.{StateDef}
use Rattle.og_model.specs.declared.Handler.{Handler}
use Rattle.og_ir.specs.declared.Instr.{Instr}
use Rattle.og_ir.specs.declared.Instr.TheVariants as instr
use Rattle.og_ir.specs.declared.Case.{Case}
use Rattle.og_ir.specs.Arithmetic.{is_same}
use Rattle.og_ir.specs.FlatSteps.{case_of}
use Rattle.og_flatten.specs.FlatCode.{steps_of, end_of, handler_in, sets, region, body_length, length_of_bodies, body_cases, step_at, ending_at, body_at, bodies_at, entering_code, choice_code, handled_length, handled_code, choices_code, handled_case, choice_cases}
use Rattle.og_flatten.specs.declared.code.Control.{Control}
use Rattle.og_names.proofs.Truths.{same_value as some_is}

pub same_number : (a : ℕ) → is_same (pos a) (pos a) ≡ true
same_number a =
    let le : a ≤ a = omega (arith) in ap (λ b. b && b) (le-leb a a le)

pub other_number : (a b : ℕ) → (a ≡ b → ⊥) → is_same (pos a) (pos b) ≡ false
other_number a b other = choose (leb_tells a b) (leb_tells b a)
  where
    choose : ((nat_le a b ≡ true) × (a ≤ b)) ⊎ ((nat_le a b ≡ false) × (b < a)) → ((nat_le b a ≡ true) × (b ≤ a)) ⊎ ((nat_le b a ≡ false) × (a < b)) → (nat_le a b && nat_le b a) ≡ false
    choose (inr (f, lt)) second = ap (λ c. c && nat_le b a) f
    choose (inl (t, le)) (inr (f, lt)) = ap (λ c. c && nat_le b a) t ∙ f
    choose (inl (t, le)) (inl (u, ge)) = absurd (other (omega (arith, le, ge)))

-- these stand one after the other from a place on
abbrev pub HasAt : {A : Type 0} → List A → ℕ → List A → Type 0
HasAt code place [] = Unit {0}
HasAt code place (i ∷ is) = (slice_get code place ≡ Some i) × HasAt code (place + 1) is

pub get_behind : {A : Type 0} (before rest : List A) (i : A) → slice_get (before ++ i ∷ rest) (length before) ≡ Some i
get_behind [] rest i = refl
get_behind (b ∷ before) rest i = get_behind before rest i

pub length_more : {A : Type 0} (before : List A) (i : A) → length (before ++ i ∷ []) ≡ length before + 1
length_more [] i = refl
length_more (b ∷ before) i = let e = length_more before i in omega (arith, e)

pub has_at : {A : Type 0} (before is rest : List A) → HasAt (before ++ (is ++ rest)) (length before) is
has_at before [] rest = tt
has_at before (i ∷ is) rest = (
  get_behind before (is ++ rest) i,
  subst (λ n. HasAt (before ++ (i ∷ (is ++ rest))) n is) (length_more before i)
      (subst (λ code. HasAt code (length (before ++ i ∷ [])) is) (append_assoc before (i ∷ []) (is ++ rest)) (has_at (before ++ i ∷ []) is rest)),
)

pub length_append : {A : Type 0} (a b : List A) → length (a ++ b) ≡ length a + length b
length_append [] b = omega (arith)
length_append (x ∷ a) b = let e = length_append a b in omega (arith, e)

length_map : {A B : Type 0} (f : A → B) (xs : List A) → length (map f xs) ≡ length xs
length_map f [] = refl
length_map f (x ∷ xs) = ap suc (length_map f xs)

-- ---- bodies

pub length_of_body : (entering end : ℕ) (b : Body) → length (body_at entering end b) ≡ body_length b
length_of_body entering end b =
    length_append (map (step_at end) (steps_of b)) (instr.Goto (ending_at entering end (end_of b)) ∷ [])
    ∙ ap (λ n. n + 1) (length_map (step_at end) (steps_of b))

pub length_of_all : (entering end : ℕ) (bodies : List Body) → length (bodies_at entering end bodies) ≡ length_of_bodies bodies
length_of_all entering end [] = refl
length_of_all entering end (b ∷ bodies) =
    length_append (body_at entering end b) (bodies_at entering end bodies)
    ∙ ap (λ n. n + length (bodies_at entering end bodies)) (length_of_body entering end b)
    ∙ ap (λ n. body_length b + n) (length_of_all entering end bodies)

-- A body stands at the place to which the case of its number leads.
pub record BodyAt (entering end : ℕ) (code : List Instr) (cases : List Case) (first last n : ℕ) (b : Body) : Type 0 where
  pub place : ℕ
  pub leads : (otherwise : ℕ) → case_of (pos n) cases otherwise ≡ place
  pub code_there : HasAt code place (body_at entering end b)
  pub from : first ≤ place
  pub to : place + body_length b ≤ last

pub bodies_placed : (entering end n k : ℕ) (before rest : List Instr) (bodies : List Body) (b : Body) → slice_get bodies k ≡ Some b → BodyAt entering end (before ++ (bodies_at entering end bodies ++ rest)) (body_cases n (length before) bodies) (length before) (length before + length_of_bodies bodies) (n + k) b
bodies_placed entering end n k before rest [] b at = absurd (none-some b at)
bodies_placed entering end n zero before rest (c ∷ bodies) b at =
    subst (λ d. BodyAt entering end (before ++ ((body_at entering end c ++ bodies_at entering end bodies) ++ rest)) (body_cases n (length before) (c ∷ bodies)) (length before) (length before + length_of_bodies (c ∷ bodies)) (n + zero) d) (some_is c b at)
    (record {
      place = length before;
      leads = λ otherwise. ap (λ m. case_of (pos m) (body_cases n (length before) (c ∷ bodies)) otherwise) (plus_zero n)
          ∙ ap (λ t. if t then length before else case_of (pos n) (body_cases (n + 1) (length before + body_length c) bodies) otherwise) (same_number n);
      code_there = subst (λ is. HasAt (before ++ is) (length before) (body_at entering end c))
          (sym (append_assoc (body_at entering end c) (bodies_at entering end bodies) rest))
          (has_at before (body_at entering end c) (bodies_at entering end bodies ++ rest));
      from = omega (arith);
      to = omega (arith);
    })
  where
    plus_zero : (n : ℕ) → n + zero ≡ n
    plus_zero n = omega (arith)
bodies_placed entering end n (suc k) before rest (c ∷ bodies) b at =
    let here = body_at entering end c in
    let len = length_append before here ∙ ap (λ m. length before + m) (length_of_body entering end c) in
    let inner = bodies_placed entering end (n + 1) k (before ++ here) rest bodies b at in
    let from = inner.from in
    let to = inner.to in
    record {
      place = inner.place;
      leads = λ otherwise.
          ap (λ t. if t then length before else case_of (pos (n + suc k)) (body_cases (n + 1) (length before + body_length c) bodies) otherwise) (other_number (n + suc k) n (λ e. omega (arith, e)))
          ∙ ap (λ m. case_of (pos m) (body_cases (n + 1) (length before + body_length c) bodies) otherwise) (shift n k)
          ∙ ap (λ p. case_of (pos (n + 1 + k)) (body_cases (n + 1) p bodies) otherwise) (sym len)
          ∙ inner.leads otherwise;
      code_there = subst (λ is. HasAt is inner.place (body_at entering end b))
          (append_assoc before here (bodies_at entering end bodies ++ rest) ∙ ap (λ is. before ++ is) (sym (append_assoc here (bodies_at entering end bodies) rest)))
          inner.code_there;
      from = omega (arith, from, len);
      to = omega (arith, to, len);
    }
  where
    shift : (n k : ℕ) → n + suc k ≡ n + 1 + k
    shift n k = omega (arith)

-- ---- states

pub entering_placed : (n k : ℕ) (before rest : List Instr) (states : List StateDef) (d : StateDef) → slice_get states k ≡ Some d → HasAt (before ++ (entering_code n states ++ rest)) (length before + 2 * k) (sets region (pos (n + k)) ∷ instr.Back ∷ [])
entering_placed n k before rest [] d at = absurd (none-some d at)
entering_placed n zero before rest (c ∷ states) d at =
    subst (λ p. HasAt (before ++ (entering_code n (c ∷ states) ++ rest)) p (sets region (pos (n + zero)) ∷ instr.Back ∷ [])) (plus_two (length before))
    (subst (λ m. HasAt (before ++ (sets region (pos n) ∷ instr.Back ∷ (entering_code (n + 1) states ++ rest))) (length before) (sets region (pos m) ∷ instr.Back ∷ [])) (plus_none n)
    (has_at before (sets region (pos n) ∷ instr.Back ∷ []) (entering_code (n + 1) states ++ rest)))
  where
    plus_two : (a : ℕ) → a ≡ a + 2 * zero
    plus_two a = omega (arith)

    plus_none : (a : ℕ) → a ≡ a + zero
    plus_none a = omega (arith)
entering_placed n (suc k) before rest (c ∷ states) d at =
    let here = sets region (pos n) ∷ instr.Back ∷ [] in
    let inner = entering_placed (n + 1) k (before ++ here) rest states d at in
    subst (λ code. HasAt code (length before + 2 * suc k) (sets region (pos (n + suc k)) ∷ instr.Back ∷ [])) (append_assoc before here (entering_code (n + 1) states ++ rest))
    (subst (λ m. HasAt ((before ++ here) ++ (entering_code (n + 1) states ++ rest)) (length before + 2 * suc k) (sets region (pos m) ∷ instr.Back ∷ [])) (shift n k)
    (subst (λ p. HasAt ((before ++ here) ++ (entering_code (n + 1) states ++ rest)) p (sets region (pos (n + 1 + k)) ∷ instr.Back ∷ []))
    (further (length (before ++ here)) (length before) k (length_append before here)) inner))
  where
    shift : (n k : ℕ) → n + 1 + k ≡ n + suc k
    shift n k = omega (arith)

    further : (a b k : ℕ) → a ≡ b + 2 → a + 2 * k ≡ b + 2 * suc k
    further a b k e = omega (arith, e)

pub length_of_entering : (n : ℕ) (states : List StateDef) → length (entering_code n states) ≡ 2 * length states
length_of_entering n [] = refl
length_of_entering n (d ∷ states) = let e = length_of_entering (n + 1) states in omega (arith, e)

-- ---- handlers

-- cases of other numbers are passed over
skipped : (m n place : ℕ) (o : Option Handler) (cases : List Case) (otherwise : ℕ) → (m ≡ n → ⊥) → case_of (pos m) (handled_case n place o ++ cases) otherwise ≡ case_of (pos m) cases otherwise
skipped m n place None cases otherwise other = refl
skipped m n place (Some h) cases otherwise other =
    ap (λ t. if t then place else case_of (pos m) cases otherwise) (other_number m n other)

all_skipped : (signal m n place : ℕ) (states : List StateDef) (otherwise : ℕ) → m < n → case_of (pos m) (choice_cases signal n place states) otherwise ≡ otherwise
all_skipped signal m n place [] otherwise lt = refl
all_skipped signal m n place (d ∷ states) otherwise lt =
    let more = choice_cases signal (n + 1) (place + handled_length (handler_in signal d.handlers)) states in
    skipped m n place (handler_in signal d.handlers) more otherwise (λ e. omega (arith, e, lt))
    ∙ all_skipped signal m (n + 1) (place + handled_length (handler_in signal d.handlers)) states otherwise (omega (arith, lt))

-- without a handler the table leads to its last place
pub not_handled : (signal n k place : ℕ) (states : List StateDef) (d : StateDef) (otherwise : ℕ) → slice_get states k ≡ Some d → handler_in signal d.handlers ≡ None → case_of (pos (n + k)) (choice_cases signal n place states) otherwise ≡ otherwise
not_handled signal n k place [] d otherwise at none = absurd (none-some d at)
not_handled signal n zero place (c ∷ states) d otherwise at none =
    ap (λ o. case_of (pos (n + zero)) (handled_case n place o ++ choice_cases signal (n + 1) (place + handled_length (handler_in signal c.handlers)) states) otherwise)
    (ap (λ (x : StateDef). handler_in signal x.handlers) (some_is c d at) ∙ none)
    ∙ all_skipped signal (n + zero) (n + 1) (place + handled_length (handler_in signal c.handlers)) states otherwise (omega (arith))
not_handled signal n (suc k) place (c ∷ states) d otherwise at none =
    let wide = handled_length (handler_in signal c.handlers) in
    skipped (n + suc k) n place (handler_in signal c.handlers) (choice_cases signal (n + 1) (place + wide) states) otherwise (λ e. omega (arith, e))
    ∙ ap (λ m. case_of (pos m) (choice_cases signal (n + 1) (place + wide) states) otherwise) (shift n k)
    ∙ not_handled signal (n + 1) k (place + wide) states d otherwise at none
  where
    shift : (n k : ℕ) → n + suc k ≡ n + 1 + k
    shift n k = omega (arith)

-- A choice of a body stands at the place to which the case of a state leads.
pub record ChoiceAt (control : Control) (code : List Instr) (cases : List Case) (first last n body : ℕ) : Type 0 where
  pub place : ℕ
  pub leads : (otherwise : ℕ) → case_of (pos n) cases otherwise ≡ place
  pub code_there : HasAt code place (choice_code control body)
  pub from : first ≤ place
  pub to : place + 3 ≤ last

pub length_of_handled : (control : Control) (o : Option Handler) → length (handled_code control o) ≡ handled_length o
length_of_handled control None = refl
length_of_handled control (Some h) = refl

pub handled_placed : (control : Control) (signal n k : ℕ) (before rest : List Instr) (states : List StateDef) (d : StateDef) (h : Handler) → slice_get states k ≡ Some d → handler_in signal d.handlers ≡ Some h → ChoiceAt control (before ++ (choices_code control signal states ++ rest)) (choice_cases signal n (length before) states) (length before) (length before + length (choices_code control signal states)) (n + k) h.body
handled_placed control signal n k before rest [] d h at has = absurd (none-some d at)
handled_placed control signal n zero before rest (c ∷ states) d h at has =
    let is = ap (λ (x : StateDef). handler_in signal x.handlers) (some_is c d at) ∙ has in
    subst (λ o. ChoiceAt control (before ++ ((handled_code control o ++ choices_code control signal states) ++ rest)) (handled_case n (length before) o ++ choice_cases signal (n + 1) (length before + handled_length o) states) (length before) (length before + length (handled_code control o ++ choices_code control signal states)) (n + zero) h.body) (sym is)
    (let len = length_append (choice_code control h.body) (choices_code control signal states) in
    record {
      place = length before;
      leads = λ otherwise. ap (λ t. if t then length before else case_of (pos (n + zero)) (choice_cases signal (n + 1) (length before + 3) states) otherwise)
          (ap (λ m. is_same (pos m) (pos n)) (plus_zero n) ∙ same_number n);
      code_there = subst (λ is. HasAt (before ++ is) (length before) (choice_code control h.body))
          (sym (append_assoc (choice_code control h.body) (choices_code control signal states) rest))
          (has_at before (choice_code control h.body) (choices_code control signal states ++ rest));
      from = omega (arith);
      to = omega (arith, len);
    })
  where
    plus_zero : (n : ℕ) → n + zero ≡ n
    plus_zero n = omega (arith)
handled_placed control signal n (suc k) before rest (c ∷ states) d h at has =
    let o = handler_in signal c.handlers in
    let here = handled_code control o in
    let len = length_append before here in
    let wide = length_of_handled control o in
    let fits = len ∙ ap (λ m. length before + m) wide in
    let all = length_append here (choices_code control signal states) in
    let inner = handled_placed control signal (n + 1) k (before ++ here) rest states d h at has in
    let from = inner.from in
    let to = inner.to in
    record {
      place = inner.place;
      leads = λ otherwise.
          skipped (n + suc k) n (length before) o (choice_cases signal (n + 1) (length before + handled_length o) states) otherwise (λ e. omega (arith, e))
          ∙ ap (λ m. case_of (pos m) (choice_cases signal (n + 1) (length before + handled_length o) states) otherwise) (shift n k)
          ∙ ap (λ p. case_of (pos (n + 1 + k)) (choice_cases signal (n + 1) p states) otherwise) (sym fits)
          ∙ inner.leads otherwise;
      code_there = subst (λ is. HasAt is inner.place (choice_code control h.body))
          (append_assoc before here (choices_code control signal states ++ rest) ∙ ap (λ is. before ++ is) (sym (append_assoc here (choices_code control signal states) rest)))
          inner.code_there;
      from = omega (arith, from, len);
      to = omega (arith, to, len, all);
    }
  where
    shift : (n k : ℕ) → n + suc k ≡ n + 1 + k
    shift n k = omega (arith)
