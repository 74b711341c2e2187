use Rattle.std.proofs.Common.{◌≡◌, ◌∙◌, None, sym, subst}
use Rattle.og_model.specs.Forms.{UsesBasicStatesOnly}
use Rattle.og_model.specs.WellFormed.{IsWellFormed}
use Rattle.og_front.specs.Rules.{first_of_rules}
use Rattle.og_front.proofs.Formed.{model_is_formed}
use Rattle.og_front.proofs.Resolving.{model_is_basic}
use Rattle.og_judge.proofs.judging.model_of_system.Goals as goal

pub returns-in-Ok-clause-built : goal.returns-in-Ok-clause-built
returns-in-Ok-clause-built c =
    let none : first_of_rules c.args.system.now ≡ None = sym c.in_ok-violation.ensures ∙ c.in_default.is in
    record {
      keeps = none;
      is = c.in-Ok.ensures;
      can = record {
        formed = subst IsWellFormed (sym c.in-Ok.ensures) (model_is_formed c.args.system.now c.requires.written none);
        basic = subst UsesBasicStatesOnly (sym c.in-Ok.ensures) (model_is_basic c.args.system.now);
      };
    }
