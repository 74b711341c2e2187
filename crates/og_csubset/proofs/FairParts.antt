-- Whether an expression of flat code is a number, and its text, are made of what its parts are.
use Rattle.std.proofs.Common.{◌≡◌, ℕ, zero, suc, ◌≤◌, List, [], ◌∷◌, Bool, cond, ◌&&◌, Option, Some, None, map, slice_get, refl, ap, ◌∙◌, arith}
use Rattle.og_types.specs.declared.Sort.{Sort}
use Rattle.og_ir.specs.declared.Ir.{Ir}
use Rattle.og_ir.specs.declared.Slot.{Slot, size-Slot}
use Rattle.og_ir.specs.declared.Step2.{Step2, size-Step2}
use Rattle.og_ir.specs.declared.Step2.TheVariants as step
use Rattle.og_ir.specs.declared.Flat.{Flat, out-Flat, size-Flat}
use Rattle.og_ir.specs.declared.Flat.TheOpen.{Flat-F, Number, Read, Op}
use Rattle.og_ir.specs.Cells.{◌>>=◌}
use Rattle.og_ir.proofs.Depth.{depth_of_parts, depth_is, path_below, index_below}
use Rattle.og_csubset.specs.Fair.{Held, held_in_slot, field_of, item_of, held_after, held_at_by, is_one, number_by, number_within, is_number}
use Rattle.og_csubset.specs.declared.CExpr.TheOpen.{Member, At}
use Rattle.og_csubset.specs.Plain.{Piece, piece, op_piece, step_text, place_text}
use Rattle.og_csubset.specs.FlatText.{no_name, slot_word, operator_of, selector_text, piece_by, piece_within, flat_piece}
use denote.Param.Weighed.{most}

bind_on : {A B : Type 0} (o : Option A) (f g : A → Option B) → ((x : A) → f x ≡ g x) → (o >>= f) ≡ (o >>= g)
bind_on None f g h = refl
bind_on (Some x) f g h = h x

both_same : {a b x y : Bool} → a ≡ b → x ≡ y → (a && x) ≡ (b && y)
both_same {a} {b} {x} {y} p q = ap (λ t. t && x) p ∙ ap (λ t. b && t) q

module _ (f g : Flat → Bool) (d : ℕ) (h : (e : Flat) → size-Flat e ≤ d → f e ≡ g e) (sorts : List Sort) (ir : Ir) where
  held_same : (steps : List Step2) (held : Held) → most size-Step2 steps ≤ d → held_after f sorts steps held ≡ held_after g sorts steps held
  held_same [] held below = refl
  held_same (step.Field k ∷ steps) held below =
      bind_on (field_of sorts k held) _ _ (λ inner. held_same steps inner (omega (arith, below)))
  held_same (step.Index e ∷ steps) held below =
      ap (λ b. cond b (item_of sorts held >>= held_after f sorts steps) None) (h e (index_below e steps d below))
      ∙ ap (λ o. cond (g e) o None) (bind_on (item_of sorts held) _ _ (λ inner. held_same steps inner (omega (arith, below))))

  held_at_same : (slot : Slot) → size-Slot slot ≤ d → held_at_by f sorts ir slot ≡ held_at_by g sorts ir slot
  held_at_same slot below =
      bind_on (slice_get ir.slots slot.base) _ _ (λ def. bind_on (held_in_slot sorts def.sort) _ _ (λ held. held_same slot.path held (path_below slot d below)))

  number_by_same : (shape : Flat-F Flat Step2 Slot) → depth_of_parts shape ≤ d → number_by f sorts ir shape ≡ number_by g sorts ir shape
  number_by_same (Number n) below = refl
  number_by_same (Read slot) below = ap is_one (held_at_same slot below)
  number_by_same (Op o a b) below = both_same (h a (omega (arith, below))) (h b (omega (arith, below)))

number_within_same : (d d' : ℕ) (sorts : List Sort) (ir : Ir) (e : Flat) → size-Flat e ≤ d → size-Flat e ≤ d' → number_within d sorts ir e ≡ number_within d' sorts ir e
number_within_same zero d' sorts ir e p q = absurd (let deep = depth_is e in omega (arith, deep, p))
number_within_same (suc d) zero sorts ir e p q = absurd (let deep = depth_is e in omega (arith, deep, q))
number_within_same (suc d) (suc d') sorts ir e p q =
    let deep = depth_is e in
    number_by_same (number_within d sorts ir) (number_within d' sorts ir) (depth_of_parts (out-Flat e))
    (λ part below. number_within_same d d' sorts ir part (omega (arith, deep, p, below)) (omega (arith, deep, q, below)))
    sorts ir (out-Flat e) (omega arith)

-- an expression is a number where its parts are
pub number_is : (sorts : List Sort) (ir : Ir) (e : Flat) → is_number sorts ir e ≡ number_by (is_number sorts ir) sorts ir (out-Flat e)
unfolding is_number
number_is sorts ir e =
    let deep = depth_is e in
    let parts = depth_of_parts (out-Flat e) in
    ap (λ d. number_within d sorts ir e) deep
    ∙ number_by_same (number_within parts sorts ir) (λ part. number_within (size-Flat part) sorts ir part) parts
    (λ part below. number_within_same parts (size-Flat part) sorts ir part below (omega arith))
    sorts ir (out-Flat e) (omega arith)

module _ (f g : Flat → Piece) (d : ℕ) (h : (e : Flat) → size-Flat e ≤ d → f e ≡ g e) (ir : Ir) where
  path_same : (steps : List Step2) → most size-Step2 steps ≤ d → map (selector_text f) steps ≡ map (selector_text g) steps
  path_same [] below = refl
  path_same (step.Field k ∷ steps) below =
      ap (λ texts. step_text (Member no_name) ∷ texts) (path_same steps (omega (arith, below)))
  path_same (step.Index e ∷ steps) below =
      ap (λ (p : Piece). step_text (At p) ∷ map (selector_text f) steps) (h e (index_below e steps d below))
      ∙ ap (λ texts. step_text (At (g e)) ∷ texts) (path_same steps (omega (arith, below)))

  piece_by_same : (shape : Flat-F Flat Step2 Slot) → depth_of_parts shape ≤ d → piece_by f ir shape ≡ piece_by g ir shape
  piece_by_same (Number n) below = refl
  piece_by_same (Read slot) below =
      ap (λ texts. piece 0 (place_text (record { name = slot_word (slice_get ir.slots slot.base); path = texts })) None) (path_same slot.path (path_below slot d below))
  piece_by_same (Op o a b) below =
      ap (λ p. op_piece (operator_of o) p (f b)) (h a (omega (arith, below))) ∙ ap (λ q. op_piece (operator_of o) (g a) q) (h b (omega (arith, below)))

piece_within_same : (d d' : ℕ) (ir : Ir) (e : Flat) → size-Flat e ≤ d → size-Flat e ≤ d' → piece_within d ir e ≡ piece_within d' ir e
piece_within_same zero d' ir e p q = absurd (let deep = depth_is e in omega (arith, deep, p))
piece_within_same (suc d) zero ir e p q = absurd (let deep = depth_is e in omega (arith, deep, q))
piece_within_same (suc d) (suc d') ir e p q =
    let deep = depth_is e in
    piece_by_same (piece_within d ir) (piece_within d' ir) (depth_of_parts (out-Flat e))
    (λ part below. piece_within_same d d' ir part (omega (arith, deep, p, below)) (omega (arith, deep, q, below)))
    ir (out-Flat e) (omega arith)

-- the text of an expression is made of those of its parts
pub flat_piece_is : (ir : Ir) (e : Flat) → flat_piece ir e ≡ piece_by (flat_piece ir) ir (out-Flat e)
unfolding flat_piece
flat_piece_is ir e =
    let deep = depth_is e in
    let parts = depth_of_parts (out-Flat e) in
    ap (λ d. piece_within d ir e) deep
    ∙ piece_by_same (piece_within parts ir) (λ part. piece_within (size-Flat part) ir part) parts
    (λ part below. piece_within_same parts (size-Flat part) ir part below (omega arith))
    ir (out-Flat e) (omega arith)
