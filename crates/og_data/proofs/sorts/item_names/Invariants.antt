use Rattle.std.proofs.Common.{◌≡◌, map, take}
use Rattle.og_flat.specs.declared.flat.Enumerator.{Enumerator}
use Rattle.og_dataview.specs.View.{name_number}
use Rattle.og_data.proofs.sorts.item_names.Given as goal

abbrev pub invariant-loop-item : goal.invariant-loop-item
invariant-loop-item l = l.list ≡ map (λ (item : Enumerator). name_number l.names item.name) (take l.item-index l.items)
