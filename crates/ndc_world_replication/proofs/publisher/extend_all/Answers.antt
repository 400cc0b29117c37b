use Rattle.std.proofs.Common.{◌≡◌, ℕ, List, drop, length, map, ap, sym, subst, ◌∙◌, arith}
use Rattle.std.proofs.lemmas.List.{length-map, length-set, nil_from_length}
use Rattle.ndc_model_cells.specs.Cells.{Cell}
use Rattle.ndc_model_cells.specs.Jobs.{cell_for}
use Rattle.ndc_model_cells.specs.declared.message.Message.{Message}
use Rattle.ndc_cluster_links.proofs.RestLemmas.{cell_there}
use Rattle.ndc_cluster_links.specs.Rest.{IsFrontOf, IsRestOf, queue_at}
use Rattle.ndc_cluster.specs.Rounds.{AreFresh, IsFresh}
use Rattle.ndc_cluster.specs.declared.fresh.Fresh.{Fresh}
use Rattle.ndc_world_replication.proofs.FreshLemmas.{fresh_end, fresh_next}
use Rattle.ndc_world_replication.proofs.GrowLemmas.{firsts_then, fronts_then, rests_front}
use Rattle.ndc_world_replication.proofs.publisher.extend_all.Goals as goal

pub bounds-cells-shard : goal.bounds-cells-shard
bounds-cells-shard g c =
    let cells : List Cell = map g.C.Cell.cell c.args.cells.now in
    let next = fresh_next c.in-Some.one c.next.new.self.rest.items cells c.loop-one.shard (subst (λ (left : List Fresh). AreFresh left (drop c.loop-one.shard cells)) c.in-Some.ensures.steps.0 c.loop-one.invariant.fresh) in
    omega (arith, next.0, length-map c.args.cells.now g.C.Cell.cell)

pub extend-requires-clause-shard : goal.extend-requires-clause-shard
extend-requires-clause-shard g c =
    let cells : List Cell = map g.C.Cell.cell c.args.cells.now in
    let next = fresh_next c.in-Some.one c.next.new.self.rest.items cells c.loop-one.shard (subst (λ (left : List Fresh). AreFresh left (drop c.loop-one.shard cells)) c.in-Some.ensures.steps.0 c.loop-one.invariant.fresh) in
    omega (arith, next.0, length-map c.args.cells.now g.C.Cell.cell, c.loop-one.invariant.len, c.requires.alike)

pub extend-requires-clause-front : goal.extend-requires-clause-front
extend-requires-clause-front g c =
    let cells : List Cell = map g.C.Cell.cell c.args.cells.now in
    let next = fresh_next c.in-Some.one c.next.new.self.rest.items cells c.loop-one.shard (subst (λ (left : List Fresh). AreFresh left (drop c.loop-one.shard cells)) c.in-Some.ensures.steps.0 c.loop-one.invariant.fresh) in
    subst (λ (cell : Cell). IsFrontOf (queue_at c.loop-one.queues c.loop-one.shard) cell.written)
    (sym (cell_there g.C.Cell.cell c.args.cells.now c.loop-one.shard c.index-cells-shard.result (omega (arith, next.0, length-map c.args.cells.now g.C.Cell.cell)) c.index-cells-shard.is))
    (c.loop-one.invariant.fronts c.loop-one.shard (omega (arith, next.0, length-map c.args.cells.now g.C.Cell.cell, c.loop-one.invariant.len, c.requires.alike)))

pub extend-requires-clause-fresh : goal.extend-requires-clause-fresh
extend-requires-clause-fresh g c =
    let cells : List Cell = map g.C.Cell.cell c.args.cells.now in
    let next = fresh_next c.in-Some.one c.next.new.self.rest.items cells c.loop-one.shard (subst (λ (left : List Fresh). AreFresh left (drop c.loop-one.shard cells)) c.in-Some.ensures.steps.0 c.loop-one.invariant.fresh) in
    subst (IsFresh c.in-Some.one) (sym (cell_there g.C.Cell.cell c.args.cells.now c.loop-one.shard c.index-cells-shard.result (omega (arith, next.0, length-map c.args.cells.now g.C.Cell.cell)) c.index-cells-shard.is)) next.1

pub loop-one-preserved : goal.loop-one-preserved
loop-one-preserved g c =
    let at = c.loop-one.shard in
    let new = c.extend.new.self in
    let old = c.loop-one.queues in
    let cells : List Cell = map g.C.Cell.cell c.args.cells.now in
    let whole : ℕ → List Message = λ shard. (cell_for shard cells).written in
    let next = fresh_next c.in-Some.one c.next.new.self.rest.items cells at (subst (λ (left : List Fresh). AreFresh left (drop at cells)) c.in-Some.ensures.steps.0 c.loop-one.invariant.fresh) in
    let many : length new ≡ length old = ap length c.in_ok-extend.ensures.others ∙ length-set old at (queue_at new at) in
    let here : IsRestOf (queue_at new at) (whole at) =
    subst (λ (cell : Cell). IsRestOf (queue_at new at) cell.written) (cell_there g.C.Cell.cell c.args.cells.now at c.index-cells-shard.result (omega (arith, next.0, length-map c.args.cells.now g.C.Cell.cell)) c.index-cells-shard.is) c.in_ok-extend.ensures.rest in
    record {
      len = many ∙ c.loop-one.invariant.len;
      first = firsts_then old new at whole c.in_ok-extend.ensures.others here c.in_ok-extend.ensures.first ∙ c.loop-one.invariant.first;
      most = omega (arith, next.0, length-map c.args.cells.now g.C.Cell.cell);
      fresh = next.2;
      fronts = fronts_then old new at whole c.in_ok-extend.ensures.others here many c.loop-one.invariant.fronts;
      rests = rests_front old new at whole c.in_ok-extend.ensures.others here c.loop-one.invariant.rests;
    }

pub returns-clause-rests : goal.returns-clause-rests
returns-clause-rests g c shard below =
    let cells : List Cell = map g.C.Cell.cell c.args.cells.now in
    let left = c.loop-one.one-iterator.rest in
    let none = nil_from_length left.items (omega (arith, left.ok, c.in-None.ensures.steps.0)) in
    let all = fresh_end cells c.loop-one.shard (subst (λ (left : List Fresh). AreFresh left (drop c.loop-one.shard cells)) none c.loop-one.invariant.fresh) in
    c.loop-one.invariant.rests shard (omega (arith, below, all, c.loop-one.invariant.len, c.requires.alike, length-map c.args.cells.now g.C.Cell.cell))
