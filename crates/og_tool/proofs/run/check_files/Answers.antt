use Rattle.std.proofs.Common.{◌∙◌, inr, refl, subst}
use Rattle.og_tool.specs.declared.reading.Judgement.{Judgement}
use Rattle.og_words.specs.Asked.{texts}
use Rattle.og_tool.specs.Answering.{IsReady, TellsModel}
use Rattle.og_tool.proofs.ReadingParts.{process_name}
use Rattle.og_tool.proofs.run.check_files.Goals as goal

pub returns-in_ok-text-in-Accepted-clause-output : goal.returns-in_ok-text-in-Accepted-clause-output
returns-in_ok-text-in-Accepted-clause-output g c =
    let P : Judgement → Type 0 = λ read. TellsModel (g.S.Store.holds c.args.store.now) (texts c.args.files.now) read in
    let ready : IsReady (g.S.Store.holds c.args.store.now) (texts c.args.files.now) c.in-Accepted.model = subst P c.in-Accepted.is c.in_ok-text.ensures.read in
    inr (record {
      model = c.in-Accepted.model;
      has_model = ready.has_model;
      is = c.in_ok-text-in-Accepted.ensures ∙ process_name ready.has_model.files c.in-Accepted.model ready.has_model.have;
      done = refl;
    })
