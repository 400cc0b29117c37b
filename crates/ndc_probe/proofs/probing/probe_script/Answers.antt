use Rattle.std.proofs.Common.{◌+◌, ◌<◌, ◌≤◌, ◌++◌, ◌∙◌, ℕ, List, ap, drop, length, arith, refl, subst}
use Rattle.std.specs.List.{flat_map}
use Rattle.ndc_model.specs.Lines.{world_behind}
use Rattle.ndc_model.specs.World.{opening_world}
use Rattle.ndc_port.specs.Bytes.{Appends, AppendsFront, Sent}
use Rattle.ndc_port.proofs.Steps.{Sent_start, Sent_stop}
use Rattle.ndc_script_words.specs.Text.{KeptLine}
use Rattle.ndc_world.specs.Rest.{at_world}
use Rattle.ndc_world.specs.Running.{behind_line, ran_at}
use Rattle.ndc_world.proofs.Ends.{on_err}
use Rattle.ndc_world.proofs.LeftLemmas.{may_opening, may_run_more, may_run_room, moved_at, opened_at}
use Rattle.ndc_probe.specs.Answers.{answer_to}
use Rattle.ndc_probe.specs.Comments.{commented}
use Rattle.ndc_probe.specs.Probed.{above, answers_to, line_text, parts_of, probed, text_of}
use Rattle.ndc_probe.proofs.ProbeLemmas.{below_is, last_is, sent_last, sent_last_part, sent_line, sent_opening, sent_part}
use Rattle.ndc_probe.proofs.probing.probe_script.Goals as goal

-- nothing was written yet
pub returns-in_err-world-clause-front : goal.returns-in_err-world-clause-front
returns-in_err-world-clause-front g c =
    let written = g.K.Sink.written c.args.out.now in
    let text = text_of (probed c.args.script.now c.args.asked.now) in
    on_err _ c.from_residual.result (Sent_stop written written text text (Sent_start written text))

pub loop-line-init : goal.loop-line-init
loop-line-init g c =
    let script = c.args.script.now in
    let items = c.as_slice-line-items.result.now in
    let running = at_world c.in_ok-world.world (opening_world script.header) in
    let opened = opened_at script c.in_ok-world.world c.in_ok-world.ensures.header c.in_ok-world.ensures.lines in
    record {
      way = record {
        whole = opening_world script.header;
        stands = c.in_ok-world.ensures.stands;
        sent = sent_opening script running items c.args.asked.now opened c.as_slice-line-items.ensures (g.K.Sink.written c.args.out.now);
      };
      place = omega arith;
      unspent = c.in_ok-world.ensures.unspent;
      header = c.in_ok-world.ensures.header;
      may = may_opening script running items opened c.as_slice-line-items.ensures c.requires.script;
      faults = omega arith;
    }

-- the world has room for the line
pub line_text-requires-clause-lines : goal.line_text-requires-clause-lines
line_text-requires-clause-lines g c κs inside =
    let line = c.line-item.result in
    let items = c.as_slice-line-items.result.now in
    let running = at_world c.loop-line.world c.loop-line.invariant.way.whole in
    let within : c.loop-line.line-index < length items = omega arith in
    may_run_room running (behind_line running line) items c.loop-line.line-index line within c.line-item.is refl c.loop-line.invariant.may

-- of a line nothing was written
pub returns-in_err-text-clause-front : goal.returns-in_err-text-clause-front
returns-in_err-text-clause-front g c = on_err _ c.from_residual-in_err-text.result (Sent_stop _ _ _ _ c.loop-line.invariant.way.sent)

-- of what belongs to a line a prefix was written
pub returns-in_err-write_all-clause-front : goal.returns-in_err-write_all-clause-front
returns-in_err-write_all-clause-front g c =
    let written = g.K.Sink.written in
    let way = c.loop-line.invariant.way in
    let running = at_world c.loop-line.world way.whole in
    let line = c.line-item.result in
    let items = c.as_slice-line-items.result.now in
    let within : c.loop-line.line-index < length items = omega arith in
    let asked = drop c.loop-line.place c.args.asked.now in
    let text = line_text running line (above line.number asked) in
    let piece : AppendsFront (written c.loop-line.out) (written c.write_all.new.sink) text =
    subst (AppendsFront (written c.loop-line.out) (written c.write_all.new.sink))
    (c.as_slice.ensures.value ∙ c.in_ok-text.ensures.text way.whole way.stands ∙ ap (line_text running line) c.above-above.ensures.above) c.in_err-write_all.ensures.front in
    let left = world_behind way.whole (ran_at running line) in
    let moved = moved_at c.loop-line.world c.line_text.new.world way.whole left line c.in_ok-text.ensures.header c.in_ok-text.ensures.lines refl in
    on_err _ c.from_residual-in_err-write_all.result
    (sent_part running (at_world c.line_text.new.world left) items c.loop-line.line-index line asked within c.line-item.is moved
    (written c.args.out.now) (written c.loop-line.out) (written c.write_all.new.sink) (text_of (probed c.args.script.now c.args.asked.now)) way.sent piece)

pub loop-line-preserved : goal.loop-line-preserved
loop-line-preserved g c =
    let written = g.K.Sink.written in
    let way = c.loop-line.invariant.way in
    let running = at_world c.loop-line.world way.whole in
    let line = c.line-item.result in
    let left = world_behind way.whole (ran_at running line) in
    let behind = at_world c.line_text.new.world left in
    let moved = moved_at c.loop-line.world c.line_text.new.world way.whole left line c.in_ok-text.ensures.header c.in_ok-text.ensures.lines refl in
    let items = c.as_slice-line-items.result.now in
    let within : c.loop-line.line-index < length items = omega arith in
    let asked = drop c.loop-line.place c.args.asked.now in
    let next = below_is line.number c.loop-line.place c.args.asked.now c.above-above.result.now c.above-above.ensures.above in
    let piece : Appends (written c.loop-line.out) (written c.write_all.new.sink) (line_text running line (above line.number asked)) =
    subst (Appends (written c.loop-line.out) (written c.write_all.new.sink))
    (c.as_slice.ensures.value ∙ c.in_ok-text.ensures.text way.whole way.stands ∙ ap (line_text running line) c.above-above.ensures.above) c.in_ok-write_all.ensures.whole in
    record {
      way = record {
        whole = left;
        stands = c.in_ok-text.ensures.stands way.whole way.stands;
        sent = subst (λ (l : List KeptLine). Sent (written c.args.out.now) (written c.write_all.new.sink) (text_of (probed c.args.script.now c.args.asked.now)) (text_of (parts_of behind (drop (c.loop-line.line-index + 1) items) l))) next
            (sent_line running behind items c.loop-line.line-index line asked within c.line-item.is moved
            (written c.args.out.now) (written c.loop-line.out) (written c.write_all.new.sink) (text_of (probed c.args.script.now c.args.asked.now)) way.sent piece);
      };
      place = omega (arith, c.above-above.ensures.most);
      unspent = c.in_ok-text.ensures.unspent;
      header = c.in_ok-text.ensures.header ∙ c.loop-line.invariant.header;
      may = may_run_more running behind items c.loop-line.line-index line within c.line-item.is moved c.loop-line.invariant.may;
      faults = omega (arith, c.loop-line.invariant.faults, c.in_ok-write_all.ensures.count);
    }

-- what belongs to all lines was written, and nothing more
pub returns-in_err-push_answers-clause-front : goal.returns-in_err-push_answers-clause-front
returns-in_err-push_answers-clause-front g c = on_err _ c.from_residual-in_err-push_answers.result (Sent_stop _ _ _ _ c.loop-line.invariant.way.sent)

-- of the answers after the last line a prefix was written
pub returns-in_err-write_all-2-clause-front : goal.returns-in_err-write_all-2-clause-front
returns-in_err-write_all-2-clause-front g c =
    let written = g.K.Sink.written in
    let way = c.loop-line.invariant.way in
    let running = at_world c.loop-line.world way.whole in
    let items = c.as_slice-line-items.result.now in
    let most : length items ≤ c.loop-line.line-index = omega arith in
    let asked = drop c.loop-line.place c.args.asked.now in
    let told = λ (l : List KeptLine). commented (flat_map (answer_to c.args.script.now.header c.loop-line.world.world) l) in
    let text = c.as_slice-2.ensures.value ∙ c.in_ok-push_answers.ensures ∙ ap (λ (l : List ℕ). l ++ told c.split_at.result.1.now) c.new-text.ensures.items ∙ ap told c.split_at.ensures.back
    ∙ last_is c.args.script.now.header c.loop-line.world asked way.whole c.loop-line.invariant.header way.stands.clusters in
    let piece : AppendsFront (written c.loop-line.out) (written c.write_all-2.new.sink) (commented (answers_to running asked)) = subst (AppendsFront (written c.loop-line.out) (written c.write_all-2.new.sink)) text c.in_err-write_all-2.ensures.front in
    on_err _ c.from_residual-in_err-write_all-2.result
    (sent_last_part running items c.loop-line.line-index asked most (written c.args.out.now) (written c.loop-line.out) (written c.write_all-2.new.sink) (text_of (probed c.args.script.now c.args.asked.now)) way.sent piece)

pub returns-clause-whole : goal.returns-clause-whole
returns-clause-whole g c =
    let written = g.K.Sink.written in
    let way = c.loop-line.invariant.way in
    let running = at_world c.loop-line.world way.whole in
    let items = c.as_slice-line-items.result.now in
    let most : length items ≤ c.loop-line.line-index = omega arith in
    let asked = drop c.loop-line.place c.args.asked.now in
    let told = λ (l : List KeptLine). commented (flat_map (answer_to c.args.script.now.header c.loop-line.world.world) l) in
    let text = c.as_slice-2.ensures.value ∙ c.in_ok-push_answers.ensures ∙ ap (λ (l : List ℕ). l ++ told c.split_at.result.1.now) c.new-text.ensures.items ∙ ap told c.split_at.ensures.back
    ∙ last_is c.args.script.now.header c.loop-line.world asked way.whole c.loop-line.invariant.header way.stands.clusters in
    let piece : Appends (written c.loop-line.out) (written c.write_all-2.new.sink) (commented (answers_to running asked)) = subst (Appends (written c.loop-line.out) (written c.write_all-2.new.sink)) text c.in_ok-write_all-2.ensures.whole in
    sent_last running items c.loop-line.line-index asked most (written c.args.out.now) (written c.loop-line.out) (written c.write_all-2.new.sink) (text_of (probed c.args.script.now c.args.asked.now)) way.sent piece
