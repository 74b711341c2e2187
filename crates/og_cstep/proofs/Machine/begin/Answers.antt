use Rattle.std.proofs.Common.{map, ap, sym, ◌∙◌, subst}
use Rattle.og_ccells.specs.Vectors.{trees_of}
use Rattle.og_cstep.specs.declared.entries.Entries.{Entries}
use Rattle.og_cstep.specs.Entries.{entry_at}
use Rattle.og_cstep.proofs.Begun.{entry_below, begun_run}
use Rattle.og_cstep.proofs.Machine.begin.Goals as goal

pub enter-requires : goal.enter-requires
enter-requires c =
    entry_below c.args.self.now.program c.args.self.now.model c.args.stimulus c.entry_of-function.result c.args.self.now.position.functions c.requires.stimulus
    (c.entry_of-function.ensures ∙ ap (λ (e : Entries). entry_at e c.args.stimulus) c.args.self.now.entries_is) c.args.self.now.functions

pub returns : goal.returns
returns c =
    begun_run c.args.self.now.program c.args.self.now.model (trees_of c.args.self.now.program c.args.self.now.cells.items) c.args.self.now.position c.enter.new.position c.args.self.now.last
    c.args.stimulus c.entry_of-function.result c.requires.stimulus
    (c.entry_of-function.ensures ∙ ap (λ (e : Entries). entry_at e c.args.stimulus) c.args.self.now.entries_is)
    c.enter.ensures.begun
