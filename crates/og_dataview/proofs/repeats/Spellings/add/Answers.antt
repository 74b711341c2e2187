use Rattle.std.proofs.Common.{◌||◌, not, map, refl, sym, ap, ◌∙◌}
use Rattle.std.specs.Str.{bytes_eq}
use Rattle.og_dataview.specs.Met.{has_word}
use Rattle.og_dataview.proofs.Sets.{any_map, insert_word}
use Rattle.og_dataview.proofs.repeats.Spellings.add.Goals as goal

pub returns-clause-new : goal.returns-clause-new
returns-clause-new c =
    c.in_ok-is_new.ensures.added
    ∙ ap not (sym (any_map (λ word. word.items) (bytes_eq c.in_ok-spelling.spelling.items) _ c.self.inside.set.keys (λ k. refl))
    ∙ (λ i. has_word (c.self.view_is i) (c.in_ok-spelling.ensures i)))

pub returns-clause-more : goal.returns-clause-more
returns-clause-more c = λ bytes.
    ap (λ ks. has_word (map (λ word. word.items) ks) bytes) c.in_ok-is_new.ensures.keys
    ∙ insert_word (λ word. word.items) c.self.inside.set.keys c.in_ok-spelling.spelling bytes
    ∙ (λ i. has_word (c.self.view_is i) bytes || bytes_eq bytes (c.in_ok-spelling.ensures i))
