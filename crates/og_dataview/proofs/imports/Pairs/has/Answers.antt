use Rattle.std.proofs.Common.{◌&&◌, refl, sym, ◌∙◌}
use Rattle.std.specs.Str.{bytes_eq}
use Rattle.og_dataview.specs.Exported.{has}
use Rattle.og_dataview.proofs.Sets.{any_map}
use Rattle.og_dataview.proofs.imports.Pairs.has.Goals as goal

pub returns : goal.returns
returns c =
    c.contains.ensures
    ∙ sym (any_map (λ pair. (pair.0.items, pair.1.items)) (λ pair. bytes_eq c.in_ok-of.of.items pair.0 && bytes_eq c.in_ok-name.name.items pair.1) _ c.self.inside.set.keys (λ k. refl))
    ∙ (λ i. has (c.self.view_is i) (c.in_ok-of.ensures i) (c.in_ok-name.ensures i))
