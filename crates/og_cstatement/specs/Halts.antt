-- What code answers where a definition gives a value or a trouble: the value, or the same trouble.
use Rattle.std.specs.Prelude.{◌≡◌, Result, Ok, Err}
use Rattle.og_model.specs.declared.StuckRule.{StuckRule}
use Rattle.og_ir.specs.Arithmetic.{Trouble}
use Rattle.og_cstatement.specs.Numbers.{trouble_of}

abbrev pub Tells : {A B : Type 0} → (A → B) → Result A StuckRule → Result B Trouble → Type 0
Tells view (Ok x) r = r ≡ Ok (view x)
Tells view (Err rule) r = r ≡ Err (trouble_of rule)
