-- A path of members and elements leads to the place that its offsets and indices make.
use Rattle.std.proofs.Common.{◌≡◌, ℕ, ◌+◌, ◌-◌, ◌*◌, ◌^◌, ◌<◌, ◌≤◌, min, ℤ, List, [], ◌∷◌, map, Bool, true, Option, Some, None, Result, Ok, ap, ◌∙◌, subst, arith}
use Rattle.std.proofs.lemmas.Bool.{ltb-true}
use Rattle.std.proofs.lemmas.Option.{none-some, cond_some}
use Rattle.og_names.proofs.Truths.{same_value}
use Rattle.og_ir.specs.Cells as cells
use Rattle.og_ir.specs.Cells.{Cells, part, part_at, count}
use Rattle.og_ir.specs.Reading.{natural, below}
use Rattle.og_ir.specs.Arithmetic.{Trouble, Index, Value, ◌>>=◌, or_else}
use Rattle.og_ir.proofs.ValueRead.{bound}
use Rattle.og_names.specs.declared.Word.{Word}
use Rattle.og_csubset.specs.declared.CProgram.{CProgram}
use Rattle.og_csubset.specs.declared.CType.{CType}
use Rattle.og_csubset.specs.declared.CStep.{CStep, size-CStep}
use Rattle.og_csubset.specs.declared.CStep.TheVariants.{Member, At}
use Rattle.og_csubset.specs.declared.CExpr.{CExpr, size-CExpr}
use Rattle.og_csubset.specs.Kinds.{Kind, member_of, element_of, width_of}
use Rattle.og_csubset.specs.Loading.{structs_known, kind_after}
use Rattle.og_csubset.specs.Step.{walk}
use Rattle.og_csubset.proofs.Depth.{index_below}
use Rattle.og_csubset.proofs.Forms.{chosen}
use Rattle.og_ccells.specs.Vectors.{numbers_before, before_inside, numbers_before_path}
use Rattle.og_ccells.specs.Layouts.{capped, kind_cells}
use Rattle.og_ccells.proofs.Widths.{most, up_to_small}
use Rattle.og_ccells.proofs.Counting.{count_kind}
use Rattle.og_ccells.proofs.Filling.{part_inside}
use Rattle.og_ccells.proofs.Laid.{Lies, before_member, member_lies, element_lies}
use Rattle.og_cstatement.specs.declared.code.Term.{Term}
use Rattle.og_cstatement.specs.Meaning as m
use Rattle.og_cstatement.specs.Meaning.{reached, distance_of, index_in}
use Rattle.og_cstatement.specs.Resolved.{expression_of, selector_of, path_of, all_terms, all_offset, all_kind, with_term}
use Rattle.og_cstatement.proofs.Valued.{distance-is}
use Rattle.og_cstatement.proofs.Numbered.{selector-Member, selector-At}
use Rattle.og_cstatement.proofs.Alike.{Alike, alike_same, alike_first, alike_there, alike_index, alike_on, bind_assoc}
use denote.Param.Weighed.{most as deepest}

-- no place is further than this
abbrev pub furthest : ℕ
furthest = 2 ^ 64 - 1

abbrev pub one_of : CType → Kind
one_of t = record { type = t; size = None }

abbrev pub many_of : CType → ℕ → Kind
many_of t n = record { type = t; size = Some n }

below_is : (size k : ℕ) (z : ℤ) → below size z ≡ Some k → k < size
below_is size k z e =
    let n = bound (natural z) _ k e in
    let test = cond_some _ _ _ n.gives in
    let less : n.value < size = ltb-true n.value size test.0 in
    subst (λ (j : ℕ). j < size) test.1 less

module _ (P : CProgram) where
  -- ---- one selector

  member_led : (name : Word) (kind : Kind) (found : ℕ × Kind) → member_of P.structs kind name.bytes ≡ Some found → (selector_of P (Member name) (Some kind)).kind ≡ Some found.1
  member_led name kind found e =
      ap (λ (l : _). l.kind) (selector-Member P name (Some kind)) ∙ ap (λ o. cells.◌>>=◌ o (λ f. Some f.1)) e

  terms_member : (name : Word) (steps : List CStep) (kind : Kind) (found : ℕ × Kind) → member_of P.structs kind name.bytes ≡ Some found
      → all_terms (path_of P (Member name ∷ steps)) (Some kind) ≡ all_terms (path_of P steps) (Some found.1)
  terms_member name steps kind found e =
      ap (λ o. with_term o (all_terms (path_of P steps) (selector_of P (Member name) (Some kind)).kind)) (ap (λ (l : _). l.term) (selector-Member P name (Some kind)))
      ∙ ap (all_terms (path_of P steps)) (member_led name kind found e)

  offset_member : (name : Word) (steps : List CStep) (kind : Kind) (found : ℕ × Kind) → member_of P.structs kind name.bytes ≡ Some found
      → all_offset (path_of P (Member name ∷ steps)) (Some kind) ≡ before_member P.structs kind name.bytes + all_offset (path_of P steps) (Some found.1)
  offset_member name steps kind found e =
      ap (λ n. n + all_offset (path_of P steps) (selector_of P (Member name) (Some kind)).kind) (ap (λ (l : _). l.offset) (selector-Member P name (Some kind)))
      ∙ ap (λ k. before_member P.structs kind name.bytes + all_offset (path_of P steps) k) (member_led name kind found e)

  abbrev index_term : CType → ℕ → CExpr → Term
  index_term t n a = record { bound = n; stride = capped (width_of P.structs t); index = expression_of P a }

  terms_at : (a : CExpr) (steps : List CStep) (t : CType) (n : ℕ)
      → all_terms (path_of P (At a ∷ steps)) (Some (many_of t n)) ≡ index_term t n a ∷ all_terms (path_of P steps) (Some (one_of t))
  terms_at a steps t n = ap (λ (l : _). with_term l.term (all_terms (path_of P steps) l.kind)) (selector-At P a (Some (many_of t n)))

  offset_at : (a : CExpr) (steps : List CStep) (t : CType) (n : ℕ) → all_offset (path_of P (At a ∷ steps)) (Some (many_of t n)) ≡ all_offset (path_of P steps) (Some (one_of t))
  offset_at a steps t n =
      ap (λ (l : _). l.offset + all_offset (path_of P steps) l.kind) (selector-At P a (Some (many_of t n))) ∙ (let none : 0 + all_offset (path_of P steps) (Some (one_of t)) ≡ all_offset (path_of P steps) (Some (one_of t)) = omega arith in none)

  -- what stands at the end of a path
  pub kind_led : (num : CExpr → Bool) (steps : List CStep) (kind last : Kind) → kind_after num P.structs kind steps ≡ Some last → all_kind (path_of P steps) (Some kind) ≡ Some last
  kind_led num [] kind last e = e
  kind_led num (Member name ∷ steps) kind last e =
      let one = bound (member_of P.structs kind name.bytes) _ last e in
      ap (all_kind (path_of P steps)) (member_led name kind one.value one.is) ∙ kind_led num steps one.value.1 last one.gives
  kind_led num (At a ∷ steps) kind last e =
      let both = chosen (num a) _ last e in
      let element = bound (element_of kind) _ last both.1 in
      ap (all_kind (path_of P steps)) (ap (λ (l : _). l.kind) (selector-At P a (Some kind)) ∙ element.is) ∙ kind_led num steps element.value last element.gives

  -- ---- paths

  module _ (xs : List ℤ) where
    abbrev pub goes : ℕ → List Term → Result ℕ Trouble
    goes at terms = reached at (map (distance_of xs) terms)

    -- A path that leads as far as a place.
    pub record Walks (kind last : Kind) (steps : List CStep) (at : ℕ) (path : List ℕ) (to : ℕ) : Type 0 where
      pub far : ℕ
      pub to_is : to ≡ min (at + far) furthest
      pub there : part_at path (kind_cells P.structs kind) ≡ Some (kind_cells P.structs last)
      pub before_is : numbers_before_path path (kind_cells P.structs kind) ≡ all_offset (path_of P steps) (Some kind) + far

    none_walks : (kind last : Kind) (at : ℕ) → kind ≡ last → at ≤ furthest → Walks kind last [] at [] at
    none_walks kind last at e le =
        record { far = 0; to_is = omega (arith, le); there = ap (λ k. Some (kind_cells P.structs k)) e; before_is = omega arith }

    member_walks : (name : Word) (steps : List CStep) (kind last inner : Kind) (k at to : ℕ) (path : List ℕ) → member_of P.structs kind name.bytes ≡ Some (k, inner)
        → Lies (kind_cells P.structs kind) k (kind_cells P.structs inner) (before_member P.structs kind name.bytes) → Walks inner last steps at path to
        → Walks kind last (Member name ∷ steps) at (k ∷ path) to
    member_walks name steps kind last inner k at to path e lies w =
        let offset = offset_member name steps kind (k, inner) e in
        let whole = kind_cells P.structs kind in
        let before : numbers_before k whole + before_inside (numbers_before_path path) (part k whole) ≡ before_member P.structs kind name.bytes + (all_offset (path_of P steps) (Some inner) + w.far) =
        ap (λ n. n + before_inside (numbers_before_path path) (part k whole)) lies.before_is
        ∙ ap (λ o. before_member P.structs kind name.bytes + before_inside (numbers_before_path path) o) lies.there
        ∙ ap (λ n. before_member P.structs kind name.bytes + n) w.before_is in
        record { far = w.far; to_is = w.to_is; there = ap (λ o. cells.◌>>=◌ o (part_at path)) lies.there ∙ w.there; before_is = before ∙ omega (arith, offset) }

    element_walks : (a : CExpr) (steps : List CStep) (t : CType) (n k at to : ℕ) (last : Kind) (path : List ℕ)
        → Lies (kind_cells P.structs (many_of t n)) k (kind_cells P.structs (one_of t)) (k * width_of P.structs t) → at ≤ furthest
        → Walks (one_of t) last steps (min (at + k * width_of P.structs t) furthest) path to → Walks (many_of t n) last (At a ∷ steps) at (k ∷ path) to
    element_walks a steps t n k at to last path lies le w =
        let offset = offset_at a steps t n in
        let whole = kind_cells P.structs (many_of t n) in
        let moved = k * width_of P.structs t in
        let before : numbers_before k whole + before_inside (numbers_before_path path) (part k whole) ≡ moved + (all_offset (path_of P steps) (Some (one_of t)) + w.far) =
        ap (λ i. i + before_inside (numbers_before_path path) (part k whole)) lies.before_is
        ∙ ap (λ o. moved + before_inside (numbers_before_path path) o) lies.there
        ∙ ap (λ i. moved + i) w.before_is in
        let to_is = w.to_is in
        record { far = moved + w.far; to_is = omega (arith, to_is, le); there = ap (λ o. cells.◌>>=◌ o (part_at path)) lies.there ∙ w.there; before_is = before ∙ omega (arith, offset) }

    module _ (known : structs_known [] P.structs ≡ true) (f : CExpr → Result ℤ Trouble) (num : CExpr → Bool) (d : ℕ)
        (same : (a : CExpr) → size-CExpr a ≤ d → num a ≡ true → f a ≡ m.value_of xs (expression_of P a)) where
      abbrev Walked : Kind → Kind → List CStep → ℕ → Type 0
      Walked kind last steps at = Alike (Walks kind last steps at) (walk f P.structs kind steps) (goes at (all_terms (path_of P steps) (Some kind)))

      -- an element of an array
      abbrev at_element : Kind → List CStep → ℤ → ℕ → Kind → Result (List ℕ) Trouble
      at_element kind steps z size element = or_else (below size z) Index >>= λ k. walk f P.structs element steps >>= λ path. Ok (k ∷ path)

      element_walked : (a : CExpr) (steps : List CStep) (last : Kind) (t : CType) (n : ℕ) (at : ℕ) → size-CExpr a ≤ d → num a ≡ true → count (kind_cells P.structs (many_of t n)) ≤ most
          → at ≤ furthest → (((next : ℕ) → next ≤ furthest → count (kind_cells P.structs (one_of t)) ≤ most → Walked (one_of t) last steps next))
          → Alike (Walks (many_of t n) last (At a ∷ steps) at) (f a >>= λ z. at_element (many_of t n) steps z n (one_of t)) (goes at (all_terms (path_of P (At a ∷ steps)) (Some (many_of t n))))
      element_walked a steps last t n at deep is small le go =
          let Q = Walks (many_of t n) last (At a ∷ steps) at in
          let rest = all_terms (path_of P steps) (Some (one_of t)) in
          let stride = capped (width_of P.structs t) in
          let further : ℕ → Result ℕ Trouble = λ i. goes (min (at + i) furthest) rest in
          alike_on Q _ _ _
          (ap (goes at) (terms_at a steps t n) ∙ ap (λ r. r >>= further) (distance-is xs (index_term t n a)) ∙ bind_assoc (m.value_of xs (expression_of P a)) (index_in n stride) further)
          (alike_same Q (f a) (m.value_of xs (expression_of P a)) (λ z. at_element (many_of t n) steps z n (one_of t)) (λ z. index_in n stride z >>= further) (same a deep is) (λ z.
          alike_index Q (below n z) (λ k. walk f P.structs (one_of t) steps >>= λ path. Ok (k ∷ path)) (λ k. k * stride) further (λ k within.
          let lt = below_is n k z within in
          let lies = element_lies P.structs t n k lt in
          let inside = part_inside (kind_cells P.structs (many_of t n)) k (kind_cells P.structs (one_of t)) lies.there in
          let width = count_kind P.structs (one_of t) in
          let stride_is : stride ≡ width_of P.structs t = up_to_small most (width_of P.structs t) (omega (arith, inside, width, small)) in
          alike_on Q _ _ _ (ap (λ w. further (k * w)) stride_is)
          (alike_first (Walks (one_of t) last steps (min (at + k * width_of P.structs t) furthest)) Q (walk f P.structs (one_of t) steps) _ (λ path. k ∷ path)
          (go (min (at + k * width_of P.structs t) furthest) (omega arith) (omega (arith, inside, small)))
          (λ path to w. element_walks a steps t n k at to last path lies le w)))))

      by_size : (a : CExpr) (steps : List CStep) (last : Kind) (at : ℕ) (t : CType) (size : Option ℕ) → size-CExpr a ≤ d → num a ≡ true
          → cells.◌>>=◌ (element_of (record { type = t; size = size })) (λ element. kind_after num P.structs element steps) ≡ Some last
          → count (kind_cells P.structs (record { type = t; size = size })) ≤ most → at ≤ furthest
          → (kind_after num P.structs (one_of t) steps ≡ Some last → (next : ℕ) → next ≤ furthest → count (kind_cells P.structs (one_of t)) ≤ most → Walked (one_of t) last steps next)
          → Walked (record { type = t; size = size }) last (At a ∷ steps) at
      by_size a steps last at t None deep is e small le go = absurd (none-some last e)
      by_size a steps last at t (Some n) deep is e small le go = element_walked a steps last t n at deep is small le (go e)

      pub walk_alike : (steps : List CStep) (kind last : Kind) → deepest size-CStep steps ≤ d → kind_after num P.structs kind steps ≡ Some last → count (kind_cells P.structs kind) ≤ most
          → (at : ℕ) → at ≤ furthest → Walked kind last steps at
      walk_alike [] kind last deep e small at le = none_walks kind last at (same_value kind last e) le
      walk_alike (Member name ∷ steps) kind last deep e small at le =
          let one = bound (member_of P.structs kind name.bytes) _ last e in
          let k = one.value.0 in
          let inner = one.value.1 in
          let Q = Walks kind last (Member name ∷ steps) at in
          let lies = member_lies P.structs known kind name.bytes k inner one.is in
          let inside = part_inside (kind_cells P.structs kind) k (kind_cells P.structs inner) lies.there in
          alike_on Q _ _ _ (ap (goes at) (terms_member name steps kind one.value one.is))
          (alike_there Q (member_of P.structs kind name.bytes) one.value Value _ _ one.is
          (alike_first (Walks inner last steps at) Q (walk f P.structs inner steps) _ (λ path. k ∷ path)
          (walk_alike steps inner last (omega (arith, deep)) one.gives (omega (arith, inside, small)) at le)
          (λ path to w. member_walks name steps kind last inner k at to path one.is lies w)))
      walk_alike (At a ∷ steps) kind last deep e small at le =
          let both = chosen (num a) _ last e in
          by_size a steps last at kind.type kind.size (index_below a steps d deep) both.0 both.1 small le
          (λ e next far less. walk_alike steps (one_of kind.type) last (omega (arith, deep)) e less next far)
