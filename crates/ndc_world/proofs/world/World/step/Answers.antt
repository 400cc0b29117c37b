use Rattle.std.proofs.Common.{◌+◌, ◌≤◌, ap, arith, false, length, refl, subst, sym, ◌∙◌}
use Rattle.ndc_script_types.specs.WellFormed.{IsWellFormedAct}
use Rattle.ndc_model.specs.Lines.{lines_of_act}
use Rattle.ndc_world.specs.Standing.{IsStepped, LeavesAllWhereRefused, WorldValue}
use Rattle.ndc_world.proofs.StandingLemmas.{reached_world, refused_fit, refused_leaves_all, unspent_behind}
use Rattle.ndc_world.proofs.world.World.step.Goals as goal

pub run_line-requires-clause-standing : goal.run_line-requires-clause-standing
run_line-requires-clause-standing g c κs within = (c.self.invariant (ap (λ (v : WorldValue). v.spent) c.self.view_is ∙ c.requires.unspent)).standing

pub overflow_add-self-3 : goal.overflow_add-self-3
overflow_add-self-3 g c =
    let own : WorldValue = record { spent = c.self.inside.spent; header = c.self.inside.header.now; lines = c.self.inside.lines; answers = c.self.inside.answers; refused = c.self.inside.refused; world = c.self.inside.replication; reports = c.self.inside.reports } in
    let is = c.self.invariant (ap (λ (v : WorldValue). v.spent) c.self.view_is ∙ c.requires.unspent) in
    let room = subst (λ (v : WorldValue). v.lines + length (lines_of_act c.args.line.now.number c.args.line.now.act) ≤ 100000) (sym c.self.view_is) c.requires.lines in
    let fits : own.refused + c.in_ok-answer.refused ≤ 100000 =
    refused_fit own is c.args.line.now room c.run_line.new.replication c.run_line.new.reports c.in_ok-answer.answer.text c.in_ok-answer.answer.seen c.in_ok-answer.refused c.in_ok-answer.ensures in
    omega (arith, fits)

pub invariant_of-self-2 : goal.invariant_of-self-2
invariant_of-self-2 g c = λ unspent.
    let own : WorldValue = record { spent = c.self.inside.spent; header = c.self.inside.header.now; lines = c.self.inside.lines; answers = c.self.inside.answers; refused = c.self.inside.refused; world = c.self.inside.replication; reports = c.self.inside.reports } in
    let is = c.self.invariant (ap (λ (v : WorldValue). v.spent) c.self.view_is ∙ c.requires.unspent) in
    let act = subst (λ (v : WorldValue). IsWellFormedAct v.header c.args.line.now.act) (sym c.self.view_is) c.requires.act in
    let room = subst (λ (v : WorldValue). v.lines + length (lines_of_act c.args.line.now.number c.args.line.now.act) ≤ 100000) (sym c.self.view_is) c.requires.lines in
    unspent_behind own is c.args.line.now act room c.run_line.new.replication c.run_line.new.reports c.in_ok-answer.answer.text c.in_ok-answer.answer.seen c.in_ok-answer.refused c.line_count-count.result
    c.in_ok-answer.ensures (c.line_count-count.ensures c.args.line.now.number)

pub returns-clause-steps : goal.returns-clause-steps
returns-clause-steps g c =
    let own : WorldValue = record { spent = c.self.inside.spent; header = c.self.inside.header.now; lines = c.self.inside.lines; answers = c.self.inside.answers; refused = c.self.inside.refused; world = c.self.inside.replication; reports = c.self.inside.reports } in
    let count = c.line_count-count.result in
    let after : WorldValue = record { spent = false; header = own.header; lines = own.lines + count; answers = own.answers + count; refused = own.refused + c.in_ok-answer.refused; world = c.run_line.new.replication; reports = c.run_line.new.reports } in
    subst (λ (before : WorldValue). IsStepped before c.args.line.now after c.in_ok-answer.answer.text c.in_ok-answer.answer.seen) c.self.view_is (record {
      unspent = refl;
      header = refl;
      lines = ap (λ n. own.lines + n) (c.line_count-count.ensures c.args.line.now.number);
      answers = ap (λ n. own.answers + n) (c.line_count-count.ensures c.args.line.now.number);
      refusals = c.in_ok-answer.refused;
      refused = refl;
      behind = c.in_ok-answer.ensures;
    })

pub returns-clause-reached : goal.returns-clause-reached
returns-clause-reached g c =
    let own : WorldValue = record { spent = c.self.inside.spent; header = c.self.inside.header.now; lines = c.self.inside.lines; answers = c.self.inside.answers; refused = c.self.inside.refused; world = c.self.inside.replication; reports = c.self.inside.reports } in
    let is = c.self.invariant (ap (λ (v : WorldValue). v.spent) c.self.view_is ∙ c.requires.unspent) in
    let act = subst (λ (v : WorldValue). IsWellFormedAct v.header c.args.line.now.act) (sym c.self.view_is) c.requires.act in
    let room = subst (λ (v : WorldValue). v.lines + length (lines_of_act c.args.line.now.number c.args.line.now.act) ≤ 100000) (sym c.self.view_is) c.requires.lines in
    reached_world _ (unspent_behind own is c.args.line.now act room c.run_line.new.replication c.run_line.new.reports c.in_ok-answer.answer.text c.in_ok-answer.answer.seen c.in_ok-answer.refused c.line_count-count.result
    c.in_ok-answer.ensures (c.line_count-count.ensures c.args.line.now.number))

pub returns-clause-unchanged : goal.returns-clause-unchanged
returns-clause-unchanged g c =
    let own : WorldValue = record { spent = c.self.inside.spent; header = c.self.inside.header.now; lines = c.self.inside.lines; answers = c.self.inside.answers; refused = c.self.inside.refused; world = c.self.inside.replication; reports = c.self.inside.reports } in
    let count = c.line_count-count.result in
    let after : WorldValue = record { spent = false; header = own.header; lines = own.lines + count; answers = own.answers + count; refused = own.refused + c.in_ok-answer.refused; world = c.run_line.new.replication; reports = c.run_line.new.reports } in
    subst (λ (before : WorldValue). LeavesAllWhereRefused before c.args.line.now after) c.self.view_is
    (refused_leaves_all own c.args.line.now c.run_line.new.replication c.run_line.new.reports c.in_ok-answer.answer.text c.in_ok-answer.answer.seen c.in_ok-answer.refused c.in_ok-answer.ensures)
