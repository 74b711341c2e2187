-- The examples of structs and paths, computed.
use Rattle.std.proofs.Common.{◌≡◌, ℕ, pos, List, [], ◌∷◌, map, refl, sym, ap, ◌∙◌}
use Rattle.std.specs.Fmt.{digits}
use Rattle.og_model.proofs.Computing.{trees}
use Rattle.og_ir.specs.declared.Slot.{Slot}
use Rattle.og_ir.specs.declared.Step2.{Step2}
use Rattle.og_ir.specs.declared.Step2.TheVariants as step
use Rattle.og_ir.specs.declared.Flat.{Flat}
use Rattle.og_ir.specs.declared.Flat as flat
use Rattle.og_ir.specs.declared.Flat.TheOpen as shape
use Rattle.og_ir.specs.declared.FlatOp.TheVariants as op
use Rattle.og_csubset.specs.declared.CExpr.{CExpr}
use Rattle.og_csubset.specs.declared.CExpr as c
use Rattle.og_csubset.specs.declared.COp.TheVariants as c_op
use Rattle.og_csubset.specs.declared.CStmt.TheVariants.{Assign}
use Rattle.og_csubset.specs.FlatExamples.{int, read, operates}
use Rattle.og_cemit.specs.Structs.{needed}
use Rattle.og_cemit.specs.Emitted.{Selector, Part, Item, place_at, number_of, selector_of}
use Rattle.og_cemit.specs.StructExamples.{ir, model, length_of_w, length_member, StructsOfTypes, GlobalsOfSlots, OtherPrefix, SetsAnItem, SetsAnAlternative, CopiesAStruct}
use Rattle.og_cemit.proofs.Opens.{selector-Field, selector-Index}
use Rattle.og_cemit.proofs.Values.{expression_of, rolled}

pub structs_of_types : StructsOfTypes
unfolding trees needed digits
structs_of_types = refl

pub globals_of_slots : GlobalsOfSlots
unfolding trees needed digits
globals_of_slots = refl

pub other_prefix : OtherPrefix
unfolding trees needed digits
other_prefix = refl

field : (k : ℕ) → selector_of ir model (step.Field k) ≡ Part k
field k = selector-Field ir model k

number : (n : ℕ) → number_of ir model (int n) ≡ c.Number (pos n)
number n = rolled ir model (shape.Number (pos n))

pub sets_an_alternative : SetsAnAlternative
unfolding trees digits
sets_an_alternative =
    ap (λ s. Assign (place_at ir model 0 (s ∷ [])) (number_of ir model (int 1))) (field 0)
    ∙ ap (Assign (place_at ir model 0 (Part 0 ∷ []))) (number 1)

pub copies_a_struct : CopiesAStruct
unfolding trees digits
copies_a_struct = ap (λ s. Assign (place_at ir model 1 (s ∷ [])) (c.Read (place_at ir model 0 (s ∷ [])))) (field 2)

-- the index
length_less_1 : number_of ir model (operates op.Sub (read length_of_w) (int 1)) ≡ c.Op c_op.Sub (c.Read length_member) (c.Number (pos 1))
unfolding trees digits
length_less_1 =
    rolled ir model (shape.Op op.Sub (read length_of_w) (int 1))
    ∙ ap (λ e. c.Op c_op.Sub e (number_of ir model (int 1))) (rolled ir model (shape.Read length_of_w)
    ∙ ap (λ s. c.Read (place_at ir model 0 (s ∷ selector_of ir model (step.Field 1) ∷ selector_of ir model (step.Field 0) ∷ []))) (field 2)
    ∙ ap (λ s. c.Read (place_at ir model 0 (Part 2 ∷ s ∷ selector_of ir model (step.Field 0) ∷ []))) (field 1)
    ∙ ap (λ s. c.Read (place_at ir model 0 (Part 2 ∷ Part 1 ∷ s ∷ []))) (field 0))
    ∙ ap (c.Op c_op.Sub (c.Read length_member)) (number 1)

pub sets_an_item : SetsAnItem
unfolding trees digits
sets_an_item =
    ap (λ s. Assign (place_at ir model 0 (s ∷ selector_of ir model (step.Field 1) ∷ selector_of ir model (step.Field 1) ∷ selector_of ir model (step.Index (operates op.Sub (read length_of_w) (int 1))) ∷ [])) (number_of ir model (int 4))) (field 2)
    ∙ ap (λ s. Assign (place_at ir model 0 (Part 2 ∷ s ∷ s ∷ selector_of ir model (step.Index (operates op.Sub (read length_of_w) (int 1))) ∷ [])) (number_of ir model (int 4))) (field 1)
    ∙ ap (λ s. Assign (place_at ir model 0 (Part 2 ∷ Part 1 ∷ Part 1 ∷ s ∷ [])) (number_of ir model (int 4))) (selector-Index ir model (operates op.Sub (read length_of_w) (int 1)))
    ∙ ap (λ e. Assign (place_at ir model 0 (Part 2 ∷ Part 1 ∷ Part 1 ∷ Item e ∷ [])) (number_of ir model (int 4))) length_less_1
    ∙ ap (Assign (place_at ir model 0 (Part 2 ∷ Part 1 ∷ Part 1 ∷ Item (c.Op c_op.Sub (c.Read length_member) (c.Number (pos 1))) ∷ []))) (number 4)
