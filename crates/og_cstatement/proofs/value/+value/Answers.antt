use Rattle.std.proofs.Common.{◌≡◌, map, Ok, Err, sym, ap, ◌∙◌, rules, FitsSigned, w64}
use Rattle.std.proofs.lemmas.Int.{to_z-of_z}
use Rattle.og_cstatement.specs.Numbers.{trouble_of}
use Rattle.og_cstatement.specs.Meaning.{value_of, distance_of, place_of, reached}
use Rattle.og_cstatement.proofs.Valued.{same_operands, value_Op, place-is, reached_halts}
use Rattle.og_names.proofs.Loops.{left_all, left_stop}
use Rattle.og_cstatement.proofs.value.+value.Goals as goal

pub value_of-returns-in_ok-number-in-Op : goal.value_of-returns-in_ok-number-in-Op
value_of-returns-in_ok-number-in-Op t c =
    let G = c.args.cells.now in
    let v =
    ap (value_of G) c.in-Op.is
    ∙ value_Op G c.in-Op.operator c.in-Op.left c.in-Op.right c.in_ok-left-in-Op.left c.in_ok-right-in-Op.right
    (ap (value_of G) (sym c.get-in-Op.ensures) ∙ c.in_ok-left-in-Op.ensures)
    (ap (value_of G) (sym c.get-in-Op-2.ensures) ∙ c.in_ok-right-in-Op.ensures) in
    let left : FitsSigned w64 c.in_ok-left-in-Op.left = search rules in
    let right : FitsSigned w64 c.in_ok-right-in-Op.right = search rules in
    let fits : FitsSigned w64 c.in_ok-number-in-Op.number = search rules in
    v
    ∙ same_operands c.in-Op.operator c.in_ok-left-in-Op.left c.in_ok-right-in-Op.right _ _ (to_z-of_z w64 c.in_ok-left-in-Op.left left) (to_z-of_z w64 c.in_ok-right-in-Op.right right)
    ∙ sym c.in_ok-number-in-Op.ensures
    ∙ ap Ok (sym (to_z-of_z w64 c.in_ok-number-in-Op.number fits))

pub value_of-returns-in_err-number-in-Op : goal.value_of-returns-in_err-number-in-Op
value_of-returns-in_err-number-in-Op t c =
    let G = c.args.cells.now in
    let v =
    ap (value_of G) c.in-Op.is
    ∙ value_Op G c.in-Op.operator c.in-Op.left c.in-Op.right c.in_ok-left-in-Op.left c.in_ok-right-in-Op.right
    (ap (value_of G) (sym c.get-in-Op.ensures) ∙ c.in_ok-left-in-Op.ensures)
    (ap (value_of G) (sym c.get-in-Op-2.ensures) ∙ c.in_ok-right-in-Op.ensures) in
    search rules

pub place_of-returns : goal.place_of-returns
place_of-returns t c =
    let G = c.args.cells.now in
    place-is G c.args.place.now
    ∙ sym (left_all (λ ys. reached c.loop-term.at (map (distance_of G) ys)) c.as_slice-term-items.result.now c.loop-term.term-index _ (search rules) c.loop-term.invariant)

pub place_of-returns-in_err-distance : goal.place_of-returns-in_err-distance
place_of-returns-in_err-distance t c =
    let G = c.args.cells.now in
    let place = place-is G c.args.place.now in
    let rule = trouble_of c.in_err-distance.field-0.0 in
    let halts : distance_of G c.term-item.result ≡ Err rule = search rules in
    let stops = left_stop (λ ys. reached c.loop-term.at (map (distance_of G) ys)) c.as_slice-term-items.result.now c.loop-term.term-index c.term-item.result (Err rule) _ (search rules) (search rules)
    (λ ys. reached_halts rule G c.loop-term.at c.term-item.result ys halts) c.loop-term.invariant in
    let told : place_of G c.args.place.now ≡ Err rule = place ∙ sym stops in
    search rules
