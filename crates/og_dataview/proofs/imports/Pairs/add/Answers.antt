use Rattle.std.proofs.Common.{◌||◌, ◌&&◌, map, ap, ◌∙◌}
use Rattle.std.specs.Str.{bytes_eq}
use Rattle.og_dataview.specs.Exported.{has}
use Rattle.og_dataview.proofs.Sets.{insert_pair}
use Rattle.og_dataview.proofs.imports.Pairs.add.Goals as goal

pub returns : goal.returns
returns c = λ a b.
    ap (λ ks. has (map (λ pair. (pair.0.items, pair.1.items)) ks) a b) c.in_ok-insert_full.ensures.keys
    ∙ insert_pair (λ word. word.items) c.self.inside.set.keys (c.in_ok-of.of, c.in_ok-name.name) a b
    ∙ (λ i. has (c.self.view_is i) a b || (bytes_eq a (c.in_ok-of.ensures i) && bytes_eq b (c.in_ok-name.ensures i)))
