use Rattle.std.proofs.Common.{◌<◌, ◌≤◌, ◌+◌, ◌∙◌, ap, length, arith, refl}
use Rattle.ndc_model.specs.Lines.{world_behind}
use Rattle.ndc_model.specs.World.{opening_world}
use Rattle.ndc_world.specs.Rest.{at_world}
use Rattle.ndc_world.proofs.CountLemmas.{counted_all, counted_next, counted_opening}
use Rattle.ndc_world.proofs.LeftLemmas.{may_opening, may_run_more, moved_at, opened_at}
use Rattle.ndc_world.proofs.last.last_world.Goals as goal
use Rattle.ndc_world.specs.Running.{ran_at}

pub loop-line-init : goal.loop-line-init
loop-line-init g c =
    let script = c.args.script.now in
    let items = c.as_slice-line-items.result.now in
    let running = at_world c.in_ok-world.world (opening_world script.header) in
    let opened = opened_at script c.in_ok-world.world c.in_ok-world.ensures.header c.in_ok-world.ensures.lines in
    record {
      unspent = c.in_ok-world.ensures.unspent;
      counting = record {
        whole = opening_world script.header;
        stands = c.in_ok-world.ensures.stands;
        counted = counted_opening script running c.in_ok-world.world.answers c.in_ok-world.world.refused items opened c.in_ok-world.ensures.answers c.in_ok-world.ensures.refused c.as_slice-line-items.ensures;
      };
      may = may_opening script running items opened c.as_slice-line-items.ensures c.requires.script;
    }

pub loop-line-preserved : goal.loop-line-preserved
loop-line-preserved g c =
    let script = c.args.script.now in
    let items = c.as_slice-line-items.result.now in
    let line = c.line-item.result in
    let within : c.loop-line.line-index < length items = omega arith in
    let way = c.loop-line.invariant.counting in
    let running = at_world c.loop-line.world way.whole in
    let left = world_behind way.whole (ran_at running line) in
    let behind = at_world c.step.new.self left in
    let stepped = c.in_ok-step.ensures.steps in
    let told = stepped.behind way.whole way.stands in
    let moved = moved_at c.loop-line.world c.step.new.self way.whole left line stepped.header stepped.lines refl in
    record {
      unspent = stepped.unspent;
      counting = record {
        whole = left;
        stands = told.stands;
        counted = counted_next script running behind c.loop-line.world.answers c.loop-line.world.refused c.step.new.self.answers c.step.new.self.refused items c.loop-line.line-index line within c.line-item.is moved
            stepped.answers (stepped.refused ∙ ap (λ n. c.loop-line.world.refused + n) told.refused) way.counted;
      };
      may = may_run_more running behind items c.loop-line.line-index line within c.line-item.is moved c.loop-line.invariant.may;
    }

-- as many answers were given as lines ran
pub returns-clause-answers : goal.returns-clause-answers
returns-clause-answers g c =
    let items = c.as_slice-line-items.result.now in
    let most : length items ≤ c.loop-line.line-index = omega arith in
    let way = c.loop-line.invariant.counting in
    (counted_all c.args.script.now (at_world c.loop-line.world way.whole) c.loop-line.world.answers c.loop-line.world.refused items c.loop-line.line-index most way.counted).answered
