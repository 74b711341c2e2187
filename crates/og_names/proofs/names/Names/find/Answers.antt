use Rattle.std.proofs.Common.{◌∙◌, Some, None, ap, sym}
use Rattle.std.specs.Option.{option_map}
use Rattle.og_names.specs.Folding.{folded, place_of}
use Rattle.og_names.proofs.Places.{found_in_set}
use Rattle.og_names.proofs.Tables.{long_absent}
use Rattle.og_names.proofs.names.Names.find.Goals as goal

pub returns-then-name-gt-LONGEST : goal.returns-then-name-gt-LONGEST
returns-then-name-gt-LONGEST c =
    sym (ap (λ names. place_of names (folded c.args.name.now)) (sym c.self.view_is) ∙ long_absent _ c.args.name.now c.self.invariant c.if-name-gt-LONGEST.true)

pub returns-in_err-place : goal.returns-in_err-place
returns-in_err-place c =
    ap (option_map (λ id. id.0)) c.from_residual.ensures
    ∙ found_in_set (λ word. word.items) c.self.inside.set.keys _ c.args.name.now _ None c.self.view_is (c.split_at.ensures.front ∙ c.fold_into.ensures) c.in_err-place.ensures.index c.in_err-place.ensures.found

pub returns : goal.returns
returns c =
    found_in_set (λ word. word.items) c.self.inside.set.keys _ c.args.name.now _ (Some c.in_ok-place.place) c.self.view_is (c.split_at.ensures.front ∙ c.fold_into.ensures) c.in_ok-place.ensures.index c.in_ok-place.ensures.found
