use Rattle.std.proofs.Common.{◌<◌, ◌≤◌, ◌∙◌, length, arith, refl}
use Rattle.std.specs.Option.{option_map}
use Rattle.std.specs.Prelude.{vec_len}
use Rattle.ndc_index.specs.Seats.{own_text}
use Rattle.ndc_model.specs.Lines.{answers_of, ran_of, world_behind}
use Rattle.ndc_model.specs.World.{opening_world}
use Rattle.ndc_port.proofs.Steps.{Sent_start, Sent_stop}
use Rattle.ndc_world.specs.Rest.{at_world}
use Rattle.ndc_world.proofs.Ends.{on_err}
use Rattle.ndc_world.proofs.LeftLemmas.{asked_all, asked_opening, kept_all, kept_line, kept_opening, may_opening, may_run_more, moved_at, none_kept, opened_at, sent_all, sent_line, sent_opening, sent_part, told_all, told_line, told_next}
use Rattle.ndc_world.proofs.SeatLemmas.{ends_front, ends_whole, from_nothing, front_answers, late_told, same_seats}
use Rattle.ndc_world.proofs.script.run_script.Goals as goal
use Rattle.ndc_world.specs.Running.{behind_line, ran_at}

-- nothing was written yet
pub returns-in_err-world-clause-front : goal.returns-in_err-world-clause-front
returns-in_err-world-clause-front g c =
    let written = g.K.Sink.written c.args.out.now in
    let text = answers_of (ran_of c.args.script.now) in
    on_err _ c.from_residual.result (front_answers c.args.script.now _ _ written written (Sent_stop written written text text (Sent_start written text)))

pub loop-line-init : goal.loop-line-init
loop-line-init g c =
    let script = c.args.script.now in
    let items = c.as_slice-line-items.result.now in
    let running = at_world c.in_ok-world.world (opening_world script.header) in
    let opened = opened_at script c.in_ok-world.world c.in_ok-world.ensures.header c.in_ok-world.ensures.lines in
    record {
      way = record {
        whole = opening_world script.header;
        stands = c.in_ok-world.ensures.stands;
        sent = sent_opening script running items opened c.as_slice-line-items.ensures (g.K.Sink.written c.args.out.now);
        kept = kept_opening script running items opened c.as_slice-line-items.ensures _ _ c.new-told.ensures.items;
        asked_left = asked_opening script running items opened c.as_slice-line-items.ensures _;
      };
      unspent = c.in_ok-world.ensures.unspent;
      may = may_opening script running items opened c.as_slice-line-items.ensures c.requires.script;
      late = refl;
      faults = omega arith;
    }

-- of the answers of a line a prefix was written
pub returns-in_err-seen-clause-front : goal.returns-in_err-seen-clause-front
returns-in_err-seen-clause-front g c =
    let written = g.K.Sink.written in
    let way = c.loop-line.invariant.way in
    let running = at_world c.loop-line.world way.whole in
    let items = c.as_slice-line-items.result.now in
    let within : c.loop-line.line-index < length items = omega arith in
    on_err _ c.from_residual-in_err-seen.result (front_answers c.args.script.now _ _ (written c.args.out.now) (written c.run_line.new.out)
    (sent_part running (behind_line running c.line-item.result) items c.loop-line.line-index c.line-item.result within c.line-item.is refl
    (written c.args.out.now) (written c.loop-line.out) (written c.run_line.new.out) (answers_of (ran_of c.args.script.now)) way.sent (c.in_err-seen.ensures.front way.whole way.stands)))

-- the answers of a line were written, and nothing more
pub returns-in_err-told-clause-front : goal.returns-in_err-told-clause-front
returns-in_err-told-clause-front g c =
    let written = g.K.Sink.written in
    let way = c.loop-line.invariant.way in
    let running = at_world c.loop-line.world way.whole in
    let left = world_behind way.whole (ran_at running c.line-item.result) in
    let behind = at_world c.run_line.new.world left in
    let moved = moved_at c.loop-line.world c.run_line.new.world way.whole left c.line-item.result c.in_ok-seen.ensures.header c.in_ok-seen.ensures.lines refl in
    let items = c.as_slice-line-items.result.now in
    let within : c.loop-line.line-index < length items = omega arith in
    on_err _ c.from_residual-in_err-told.result (front_answers c.args.script.now _ _ (written c.args.out.now) (written c.run_line.new.out)
    (Sent_stop _ _ _ _
    (sent_line running behind items c.loop-line.line-index c.line-item.result within c.line-item.is moved
    (written c.args.out.now) (written c.loop-line.out) (written c.run_line.new.out) (answers_of (ran_of c.args.script.now)) way.sent (c.in_ok-seen.ensures.whole way.whole way.stands))))

pub loop-one-preserved : goal.loop-one-preserved
loop-one-preserved g c =
    let within : c.loop-one.one-index < length c.as_slice-one-items.result.now = omega arith in
    record {
      told = told_next c.as_slice-one-items.result.now c.loop-one.one-index c.one-item.result _ _ _ within c.one-item.is c.in_ok-told.ensures.told c.loop-one.invariant.told;
      late = c.in_ok-told.ensures.late ∙ c.loop-one.invariant.late;
    }

pub returns-in_err-keep_where-clause-front : goal.returns-in_err-keep_where-clause-front
returns-in_err-keep_where-clause-front g c =
    let written = g.K.Sink.written in
    let way = c.loop-line.invariant.way in
    let running = at_world c.loop-line.world way.whole in
    let left = world_behind way.whole (ran_at running c.line-item.result) in
    let behind = at_world c.run_line.new.world left in
    let moved = moved_at c.loop-line.world c.run_line.new.world way.whole left c.line-item.result c.in_ok-seen.ensures.header c.in_ok-seen.ensures.lines refl in
    let items = c.as_slice-line-items.result.now in
    let within : c.loop-line.line-index < length items = omega arith in
    on_err _ c.from_residual-in_err-keep_where.result (front_answers c.args.script.now _ _ (written c.args.out.now) (written c.run_line.new.out)
    (Sent_stop _ _ _ _
    (sent_line running behind items c.loop-line.line-index c.line-item.result within c.line-item.is moved
    (written c.args.out.now) (written c.loop-line.out) (written c.run_line.new.out) (answers_of (ran_of c.args.script.now)) way.sent (c.in_ok-seen.ensures.whole way.whole way.stands))))

pub loop-line-preserved : goal.loop-line-preserved
loop-line-preserved g c =
    let written = g.K.Sink.written in
    let way = c.loop-line.invariant.way in
    let running = at_world c.loop-line.world way.whole in
    let left = world_behind way.whole (ran_at running c.line-item.result) in
    let behind = at_world c.run_line.new.world left in
    let moved = moved_at c.loop-line.world c.run_line.new.world way.whole left c.line-item.result c.in_ok-seen.ensures.header c.in_ok-seen.ensures.lines refl in
    let items = c.as_slice-line-items.result.now in
    let seen = c.as_slice-one-items.result.now in
    let within : c.loop-line.line-index < length items = omega arith in
    let most : length seen ≤ c.loop-one.one-index = omega arith in
    let learned = c.in_ok-seen.ensures.seen way.whole way.stands in
    record {
      way = record {
        whole = left;
        stands = c.in_ok-seen.ensures.stands way.whole way.stands;
        sent = sent_line running behind items c.loop-line.line-index c.line-item.result within c.line-item.is moved
            (written c.args.out.now) (written c.loop-line.out) (written c.run_line.new.out) (answers_of (ran_of c.args.script.now)) way.sent (c.in_ok-seen.ensures.whole way.whole way.stands);
        kept = kept_line running behind items c.loop-line.line-index c.line-item.result within c.line-item.is moved
            _ _ c.loop-line.told.items _ c.in_ok-seen.seen.items learned c.in_ok-keep_where.ensures way.kept;
        asked_left = told_line running behind items c.loop-line.line-index c.line-item.result within c.line-item.is moved
            _ _ _ seen (c.as_slice-one-items.ensures.value ∙ learned) (told_all seen c.loop-one.one-index _ _ most c.loop-one.invariant.told) way.asked_left;
      };
      unspent = c.in_ok-seen.ensures.unspent;
      may = may_run_more running behind items c.loop-line.line-index c.line-item.result within c.line-item.is moved c.loop-line.invariant.may;
      late = c.loop-one.invariant.late ∙ c.loop-line.invariant.late;
      faults = omega (arith, c.loop-line.invariant.faults, c.in_ok-seen.ensures.count);
    }

-- the answers of all lines were written, and nothing more
pub returns-in_err-catch_up-clause-front : goal.returns-in_err-catch_up-clause-front
returns-in_err-catch_up-clause-front g c =
    let written = g.K.Sink.written in
    on_err _ c.from_residual-in_err-catch_up.result (front_answers c.args.script.now _ _ (written c.args.out.now) (written c.loop-line.out) (Sent_stop _ _ _ _ c.loop-line.invariant.way.sent))

pub returns-in_err-lines-clause-front : goal.returns-in_err-lines-clause-front
returns-in_err-lines-clause-front g c =
    let written = g.K.Sink.written in
    on_err _ c.from_residual-in_err-lines.result (front_answers c.args.script.now _ _ (written c.args.out.now) (written c.loop-line.out) (Sent_stop _ _ _ _ c.loop-line.invariant.way.sent))

-- a prefix of the lines of seats was written
pub returns-in_err-write_all-clause-front : goal.returns-in_err-write_all-clause-front
returns-in_err-write_all-clause-front g c =
    let written = g.K.Sink.written in
    let way = c.loop-line.invariant.way in
    let running = at_world c.loop-line.world way.whole in
    let items = c.as_slice-line-items.result.now in
    let most : length items ≤ c.loop-line.line-index = omega arith in
    let asked = asked_all c.args.script.now running items c.loop-line.line-index most _ _ way.asked_left in
    let kept = kept_all c.args.script.now running items c.loop-line.line-index most _ c.loop-line.told.items _ way.kept in
    on_err _ c.from_residual-in_err-write_all.result
    (ends_front _ (λ seat. own_text (option_map (λ b. (goal.Indexer-dyn g (b.vtable, b.value)).text b.value) seat.indexer)) c.args.script.now _ _ _ _
    (same_seats (λ v. v.items) _ c.catch_up.new.self.asked c.loop-line.indexers.asked _ c.in_ok-catch_up.ensures.asked asked)
    (late_told (λ v. v.items) _ c.catch_up.new.self.late c.loop-line.indexers.late c.args.indexers.late _ _ _ c.in_ok-catch_up.ensures.told c.loop-line.invariant.late (c.as_slice.ensures.value ∙ kept) (none_kept _ _ (vec_len c.args.indexers.late) _ (omega (arith, c.args.indexers.late.ok.0)) c.is_empty-keeps.ensures))
    (written c.args.out.now) (written c.loop-line.out) (written c.write_all.new.sink) _ (c.as_slice-2.ensures.value ∙ from_nothing _ _ _ c.new-lines.ensures.items c.in_ok-lines.ensures)
    (sent_all c.args.script.now running items c.loop-line.line-index most _ _ _ way.sent) c.in_err-write_all.ensures.front)

pub returns-clause-whole : goal.returns-clause-whole
returns-clause-whole g c =
    let written = g.K.Sink.written in
    let way = c.loop-line.invariant.way in
    let running = at_world c.loop-line.world way.whole in
    let items = c.as_slice-line-items.result.now in
    let most : length items ≤ c.loop-line.line-index = omega arith in
    let asked = asked_all c.args.script.now running items c.loop-line.line-index most _ _ way.asked_left in
    let kept = kept_all c.args.script.now running items c.loop-line.line-index most _ c.loop-line.told.items _ way.kept in
    ends_whole _ (λ seat. own_text (option_map (λ b. (goal.Indexer-dyn g (b.vtable, b.value)).text b.value) seat.indexer)) c.args.script.now _ _ _ _
    (same_seats (λ v. v.items) _ c.catch_up.new.self.asked c.loop-line.indexers.asked _ c.in_ok-catch_up.ensures.asked asked)
    (late_told (λ v. v.items) _ c.catch_up.new.self.late c.loop-line.indexers.late c.args.indexers.late _ _ _ c.in_ok-catch_up.ensures.told c.loop-line.invariant.late (c.as_slice.ensures.value ∙ kept) (none_kept _ _ (vec_len c.args.indexers.late) _ (omega (arith, c.args.indexers.late.ok.0)) c.is_empty-keeps.ensures))
    (written c.args.out.now) (written c.loop-line.out) (written c.write_all.new.sink) _ (c.as_slice-2.ensures.value ∙ from_nothing _ _ _ c.new-lines.ensures.items c.in_ok-lines.ensures)
    (sent_all c.args.script.now running items c.loop-line.line-index most _ _ _ way.sent) c.in_ok-write_all.ensures.whole
