use Rattle.std.proofs.Common.{rules, ◌++◌, ap, ap₂, ◌∙◌, w32, FitsSigned}
use Rattle.std.proofs.lemmas.Int.{to_z-of_z}
use Rattle.std.specs.Prelude.{codes}
use Rattle.og_report.specs.Line.{area_text, pair_text}
use Rattle.og_report.proofs.Joins.{joined, after}
use Rattle.og_report.proofs.line.put_area.Goals as goal

pub returns : goal.returns
unfolding area_text
returns c =
    let x : FitsSigned w32 c.args.frame.x = search rules in
    let y : FitsSigned w32 c.args.frame.y = search rules in
    let w : FitsSigned w32 c.args.frame.w = search rules in
    let h : FitsSigned w32 c.args.frame.h = search rules in
    after c.put_pair-2.result _ _
    (λ last. joined c.args.out.now.items c.put_pair.new.out.items c.put.new.out.items c.put_pair-2.new.out.items
    (pair_text c.args.frame.x c.args.frame.y) (codes ", ") (pair_text c.args.frame.w c.args.frame.h)
    (c.in_ok-put_pair.ensures ∙ ap (λ t. c.args.out.now.items ++ t) (ap₂ pair_text (to_z-of_z w32 c.args.frame.x x) (to_z-of_z w32 c.args.frame.y y)))
    c.in_ok-put.ensures
    (last ∙ ap (λ t. c.put.new.out.items ++ t) (ap₂ pair_text (to_z-of_z w32 c.args.frame.w w) (to_z-of_z w32 c.args.frame.h h))))
    c.put_pair-2.ensures
