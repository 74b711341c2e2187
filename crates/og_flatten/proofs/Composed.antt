-- The function of the model that flat code equals is the code of the model.
use Rattle.std.proofs.Common.{◌≡◌, ◌^◌, ◌<◌, List, sym, ap, subst, ◌∙◌}
use Rattle.std.specs.Prelude.{Result, Ok, Err, IfOk}
use Rattle.og_names.specs.Table.{IsTable}
use Rattle.og_names.specs.declared.memory.NoMemory.{NoMemory}
use Rattle.og_model.specs.declared.Model.{Model}
use Rattle.og_model.specs.RegionTypes.{Region}
use Rattle.og_model.specs.Regions.{regions}
use Rattle.og_model.specs.Forms.{UsesBasicStatesOnly}
use Rattle.og_model.specs.WellFormed.{IsWellFormed}
use Rattle.og_ir.specs.declared.Ir.{Ir}
use Rattle.og_flatten.specs.Code.{IsCodeOf}
use Rattle.og_flatten.specs.Units.{HasOwnUnits}
use Rattle.og_flatten.specs.FlatCode.{end_place, code_for, code_of}
use Rattle.og_flatten.proofs.Made.{IsMade}
use Rattle.og_flatten.proofs.Standings.{IsBasic}
use Rattle.og_flatten.proofs.Behaviour.{safe, runs}
use Rattle.og_flatten.proofs.OwnUnits.{own_units_of}
use Rattle.og_flatten.proofs.FairCode.{fair}
use Rattle.og_flatten.proofs.Instructions.{whole}

is_basic : (model : Model) → IsMade model → IsBasic model
is_basic model made = record { formed = made.formed; basic = made.basic; fair = fair model made }

pub is_code : (model : Model) → IsMade model → IsCodeOf model (code_of model)
is_code model made =
    let is = is_basic model made in
    record { fair = fair model made; whole = whole model; safe = safe model is; runs = runs model is }

-- the same of what was made
pub made_is_code : (model : Model) (rs : List Region) (result : Result Ir NoMemory) → IsWellFormed model → UsesBasicStatesOnly model → IsTable model.names → rs ≡ regions model
    → IfOk result (λ ir. ir ≡ code_for model rs) → IfOk result (λ ir. end_place model < 2 ^ 32) → IfOk result (IsCodeOf model)
made_is_code model rs (Err e) formed basic table numbered is few = _
made_is_code model rs (Ok ir) formed basic table numbered is few =
    subst (IsCodeOf model) (sym (is ∙ ap (code_for model) numbered)) (is_code model (record { formed = formed; basic = basic; table = table; few = few }))

pub made_has_own_units : (model : Model) (rs : List Region) (result : Result Ir NoMemory) → IsWellFormed model → UsesBasicStatesOnly model → IsTable model.names → rs ≡ regions model
    → IfOk result (λ ir. ir ≡ code_for model rs) → IfOk result (λ ir. end_place model < 2 ^ 32) → IfOk result (HasOwnUnits model)
made_has_own_units model rs (Err e) formed basic table numbered is few = _
made_has_own_units model rs (Ok ir) formed basic table numbered is few =
    subst (HasOwnUnits model) (sym (is ∙ ap (code_for model) numbered)) (own_units_of model (is_basic model (record { formed = formed; basic = basic; table = table; few = few })))
