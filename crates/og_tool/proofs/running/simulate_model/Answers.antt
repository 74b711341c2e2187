use Rattle.std.proofs.Common.{List, ℕ, sym, subst, inr}
use Rattle.og_words.specs.Asked.{texts}
use Rattle.og_tool.specs.Compiled.{IsCompiled}
use Rattle.og_tool.proofs.RunningParts.{simulation_output}
use Rattle.og_tool.proofs.running.simulate_model.Goals as goal

pub load_compiled-requires : goal.load_compiled-requires
load_compiled-requires g c =
    let P : List ℕ → Type 0 = λ text. IsCompiled c.args.model.now text in
    subst P (sym c.deref.ensures.value) c.in_ok-text.ensures

pub returns-clause-output : goal.returns-clause-output
returns-clause-output g c =
    simulation_output (g.S.Store.holds c.args.store.now) (texts c.args.files.now) c.args.stimuli.now c.args.steps c.args.model.now c.in_ok-loaded.loaded c.run_loaded.result
    c.requires.has_model c.in_ok-loaded.ensures c.run_loaded.ensures.output

pub returns-clause-too_large : goal.returns-clause-too_large
returns-clause-too_large g c = λ e. inr (c.args.model.now, c.requires.has_model, c.run_loaded.ensures.too_large e)

pub returns-clause-fault : goal.returns-clause-fault
returns-clause-fault g c = λ e. inr (c.args.model.now, c.requires.has_model, c.run_loaded.ensures.fault e)
