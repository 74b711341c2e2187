use Rattle.std.proofs.Common.{◌≡◌, ◌++◌, ap, ◌∙◌}
use Rattle.og_cprint.specs.Printed.{is_least_in, left_slot, printed, step_bytes}
use Rattle.std.specs.List.{flat_map}
use Rattle.og_cprint.specs.declared.expression.Slot.TheVariants.{Sum, Primary}
use Rattle.og_cprint.proofs.Joins.{minus_put, operation_put, pick_put, member_put, at_put, test_put, place_put}
use Rattle.og_cprint.proofs.expression.+printing.Goals as goal

pub put_expression-returns-in_ok-put_if-in-Minus-2 : goal.put_expression-returns-in_ok-put_if-in-Minus-2
put_expression-returns-in_ok-put_if-in-Minus-2 t c =
    minus_put c.args.expression.now c.in-Minus.operand c.args.slot c.is_primary-bracketed.result c.args.out.now.items c.in-Minus.is c.is_primary-bracketed.ensures
    c.in_ok-put_if-in-Minus.ensures c.in_ok-put-in-Minus.ensures
    (c.in_ok-put_expression-in-Minus.ensures ∙ ap (λ e. c.put.new.out.items ++ (printed e).at Primary) c.get.ensures)
    c.in_ok-put_if-in-Minus-2.ensures

pub put_expression-returns-in_ok-put_if-in-Op-2 : goal.put_expression-returns-in_ok-put_if-in-Op-2
put_expression-returns-in_ok-put_if-in-Op-2 t c =
    let b = c.needs_bracket-bracketed.result in
    let op = c.in-Op.op in
    let x = c.value_of.ensures ∙ ap (λ e. (printed e).value) c.get-in-Op.ensures in
    let y = c.value_of-in-Op.ensures ∙ ap (λ e. (printed e).value) c.get-in-Op-2.ensures in
    operation_put c.args.expression.now c.in-Op.left c.in-Op.right op c.args.slot c.left_slot.result c.right_slot.result b c.operator.result.now c.args.out.now.items
    c.in-Op.is c.needs_bracket-bracketed.ensures
    (c.left_slot.ensures ∙ ap (λ a. left_slot op a) (c.keeps_apart-apart.ensures ∙ (ap (λ v. is_least_in op b v c.value_of-in-Op.result) x ∙ ap (λ v. is_least_in op b (printed c.in-Op.left).value v) y)))
    c.operator.ensures c.right_slot.ensures c.in_ok-put_if-in-Op.ensures
    (c.in_ok-put_expression-in-Op.ensures ∙ ap (λ e. c.put_if-in-Op.new.out.items ++ (printed e).at c.left_slot.result) c.get-in-Op-3.ensures)
    c.in_ok-put-in-Op.ensures
    (c.in_ok-put_expression-in-Op-2.ensures ∙ ap (λ e. c.put-in-Op.new.out.items ++ (printed e).at c.right_slot.result) c.get-in-Op-4.ensures)
    c.in_ok-put_if-in-Op-2.ensures

pub put_expression-returns-in_ok-put-in-Pick-4 : goal.put_expression-returns-in_ok-put-in-Pick-4
put_expression-returns-in_ok-put-in-Pick-4 t c =
    pick_put c.args.expression.now c.in-Pick.yes c.in-Pick.no c.in-Pick.test c.args.slot c.args.out.now.items c.in-Pick.is c.in_ok-put-in-Pick.ensures
    c.in_ok-put_test-in-Pick.ensures c.in_ok-put-in-Pick-2.ensures
    (c.in_ok-put_expression-in-Pick.ensures ∙ ap (λ e. c.put-in-Pick-2.new.out.items ++ (printed e).at Sum) c.get-in-Pick.ensures)
    c.in_ok-put-in-Pick-3.ensures
    (c.in_ok-put_expression-in-Pick-2.ensures ∙ ap (λ e. c.put-in-Pick-3.new.out.items ++ (printed e).at Sum) c.get-in-Pick-2.ensures)
    c.in_ok-put-in-Pick-4.ensures

pub put_step-returns-in_ok-put_word-in-Member : goal.put_step-returns-in_ok-put_word-in-Member
put_step-returns-in_ok-put_word-in-Member t c =
    member_put c.args.step.now c.in-Member.name c.args.out.now.items c.in-Member.is c.in_ok-put-in-Member.ensures c.in_ok-put_word-in-Member.ensures

pub put_step-returns-in_ok-put-in-At-2 : goal.put_step-returns-in_ok-put-in-At-2
put_step-returns-in_ok-put-in-At-2 t c =
    at_put c.args.step.now c.in-At.index c.args.out.now.items c.in-At.is c.in_ok-put-in-At.ensures c.in_ok-put_expression-in-At.ensures c.in_ok-put-in-At-2.ensures

pub put_test-returns : goal.put_test-returns
put_test-returns t c =
    test_put c.args.test.now c.relation.result.now c.args.out.now.items c.relation.ensures
    (c.in_ok-put_expression.ensures ∙ ap (λ e. c.args.out.now.items ++ (printed e).at Sum) c.get.ensures) c.in_ok-put.ensures
    (c.in_ok-put_expression-2.ensures ∙ ap (λ e. c.put.new.out.items ++ (printed e).at Sum) c.get-2.ensures)

pub put_place-returns : goal.put_place-returns
put_place-returns t c =
    let steps : c.put_steps.new.out.items ≡ c.put_word.new.out.items ++ flat_map step_bytes c.args.place.now.path = cc (c.in_ok-put_steps.ensures) in
    place_put c.args.place.now c.args.out.now.items c.in_ok-put_word.ensures steps
