use Rattle.std.proofs.Common.{◌∙◌, ap, sym, map, subst}
use Rattle.og_names.specs.Folding.{with_name}
use Rattle.og_names.specs.Table.{IsTable}
use Rattle.og_names.proofs.Places.{bytes-insert_key}
use Rattle.og_names.proofs.Tables.{table_added, number_there}
use Rattle.og_names.proofs.names.Names.add.Goals as goal

pub invariant_of-self-2 : goal.invariant_of-self-2
invariant_of-self-2 c =
    let put = ap (map (λ word. word.items)) c.in_ok-place.ensures.keys ∙ bytes-insert_key (λ word. word.items) c.self.inside.set.keys c.in_ok-word.word in
    subst IsTable (sym put) (table_added _ _ c.args.name.now _ c.self.view_is c.in_ok-word.ensures c.self.invariant c.requires.short c.requires.few)

pub returns-clause-added : goal.returns-clause-added
returns-clause-added c =
    let put = ap (map (λ word. word.items)) c.in_ok-place.ensures.keys ∙ bytes-insert_key (λ word. word.items) c.self.inside.set.keys c.in_ok-word.word in
    put ∙ (λ i. with_name (c.self.view_is i) (c.in_ok-word.ensures i))

pub returns-clause-number : goal.returns-clause-number
returns-clause-number c =
    let there = c.in_ok-place.ensures.stored in
    number_there (λ word. word.items) c.insert_full.new.self.keys c.args.name.now c.in_ok-word.word.items there.0 _ (invariant_of-self-2 c) there.1 there.2 c.in_ok-word.ensures
