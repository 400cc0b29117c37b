use Rattle.std.proofs.Common.{◌≡◌, ◌<◌, ℕ, [], length, map, drop, Bor, List, sym, ap, ◌∙◌, arith}
use Rattle.ndc_script_read.specs.Commands.{actions_behind}
use Rattle.ndc_script_read.proofs.LineLists.{behind}
use Rattle.ndc_script_read.proofs.ReadSteps.{operand_step, action_step}
use Rattle.ndc_script_read.proofs.command.actions_of.Goals as goal
use Rattle.ndc_script_read.proofs.command.actions_of.Goals.{then-operands-gt0, else-operands-gt0+in_ok-group+in_ok-push}

pub loop-place-preserved : goal.loop-place-preserved
loop-place-preserved c =
    let words = c.args.words.now in
    let place = c.loop-place.place in
    let front = c.loop-place.actions.items in
    let within : place < length words = omega arith in
    let none : Bor (List ℕ) = record { ref_ptr = (0, 0); now = [] } in
    elim c.if-operands-gt0.branch [
      | then-operands-gt0 w ↦
          rw (w.actions-is, w.operands-is)
          (ap (behind front) (sym (operand_step c.args.line c.loop-place.operands words place none w.if-operands-gt0.true within)) ∙ c.loop-place.invariant)
      | else-operands-gt0+in_ok-group+in_ok-push w ↦
          let zero : c.loop-place.operands ≡ 0 = omega arith in
          rw (w.actions-is, w.operands-is, w.in_ok-push.ensures.items)
          (sym (action_step c.args.line front words place none w.in_ok-group.group within (rw w.split_at.ensures.back at w.in_ok-group.ensures))
          ∙ ap (λ (n : ℕ). behind front (actions_behind c.args.line n (map (λ word. word.now) (drop place words)))) (sym zero)
          ∙ c.loop-place.invariant)
    ]
