-- The expression of each form of number, the selector of each form, and the place of a slot.
use Rattle.std.proofs.Common.{◌≡◌, ℕ, ℤ, map, sym, ap, ◌∙◌}
use Rattle.og_model.specs.declared.Model.{Model}
use Rattle.og_ir.specs.declared.Ir.{Ir}
use Rattle.og_ir.specs.declared.Slot.{Slot, fold-roll-Slot}
use Rattle.og_ir.specs.declared.Step2.{Step2, fold-roll-Step2}
use Rattle.og_ir.specs.declared.Step2.TheVariants as step
use Rattle.og_ir.specs.declared.Flat.{Flat, Number, Read, Op, fold-roll-Flat}
use Rattle.og_ir.specs.declared.Flat.TheOpen as open'
use Rattle.og_ir.specs.declared.Flat.TheViews.{rolls-Number, rolls-Read, rolls-Op, rolls-Field, rolls-Index}
use Rattle.og_ir.specs.declared.FlatOp.{FlatOp}
use Rattle.og_csubset.specs.declared.CPlace.{CPlace}
use Rattle.og_csubset.specs.declared.CExpr.{CExpr}
use Rattle.og_csubset.specs.declared.CExpr as c
use Rattle.og_csubset.specs.FlatText.{operator_of}
use Rattle.og_cemit.specs.Emitted.{Selector, Part, Item, place_at, place_of, number_layer, selector_layer, place_layer, number_of, selector_of}

pub number-Number : (ir : Ir) (model : Model) (z : ℤ) → number_of ir model (Number z) ≡ c.Number z
unfolding number_of
number-Number ir model z = ap (number_of ir model) (sym (rolls-Number z)) ∙ fold-roll-Flat CExpr Selector CPlace number_layer selector_layer (place_layer ir model) (open'.Number z)

pub number-Read : (ir : Ir) (model : Model) (slot : Slot) → number_of ir model (Read slot) ≡ c.Read (place_of ir model slot)
unfolding number_of selector_of
number-Read ir model slot = ap (number_of ir model) (sym (rolls-Read slot)) ∙ fold-roll-Flat CExpr Selector CPlace number_layer selector_layer (place_layer ir model) (open'.Read slot)
    ∙ ap c.Read (fold-roll-Slot CExpr Selector CPlace number_layer selector_layer (place_layer ir model) (record { base = slot.base; path = slot.path }))

pub number-Op : (ir : Ir) (model : Model) (op : FlatOp) (a b : Flat) → number_of ir model (Op op a b) ≡ c.Op (operator_of op) (number_of ir model a) (number_of ir model b)
unfolding number_of
number-Op ir model op a b = ap (number_of ir model) (sym (rolls-Op op a b)) ∙ fold-roll-Flat CExpr Selector CPlace number_layer selector_layer (place_layer ir model) (open'.Op op a b)

pub selector-Field : (ir : Ir) (model : Model) (k : ℕ) → selector_of ir model (step.Field k) ≡ Part k
unfolding selector_of
selector-Field ir model k = ap (selector_of ir model) (sym (rolls-Field k)) ∙ fold-roll-Step2 CExpr Selector CPlace number_layer selector_layer (place_layer ir model) (open'.Field k)

pub selector-Index : (ir : Ir) (model : Model) (e : Flat) → selector_of ir model (step.Index e) ≡ Item (number_of ir model e)
unfolding selector_of number_of
selector-Index ir model e = ap (selector_of ir model) (sym (rolls-Index e)) ∙ fold-roll-Step2 CExpr Selector CPlace number_layer selector_layer (place_layer ir model) (open'.Index e)

pub ruleset opens = (number-Number, number-Read, number-Op, selector-Field, selector-Index)
