use Rattle.std.proofs.Common.{is_some, ap, ◌∙◌}
use Rattle.og_names.specs.Folding.{place_of}
use Rattle.og_dataview.specs.Scope.{key}
use Rattle.og_dataview.proofs.Meeting.{some_more}
use Rattle.og_dataview.proofs.imports.Exported.add_module.Goals as goal

pub returns-clause-modules : goal.returns-clause-modules
returns-clause-modules c = λ a.
    ap (λ ns. is_some (place_of ns a)) (c.in_ok-add_all.ensures.modules ∙ c.in_ok-add_name.ensures.added) ∙ some_more c.args.self.now.modules (key c.args.tree.now.name) a
