use Rattle.std.proofs.Common.{◌<◌, length, arith}
use Rattle.ndc_world_queries.proofs.FoundLemmas.{count_more, found_more}
use Rattle.ndc_world_queries.proofs.found.add_written.Goals as goal

pub loop-place-preserved : goal.loop-place-preserved
loop-place-preserved g c =
    let below : c.loop-place.place < length (g.C.Cell.cell c.args.cell.now).written = omega (arith, c.loop-place-test.true, c.written_len-place-end.ensures) in
    record {
      workflows =
          found_more c.args.found.now.items (g.C.Cell.cell c.args.cell.now).written c.loop-place.place c.in_ok-message.message c.loop-place.found.items c.add_workflow.new.found.items
          below c.in_ok-message.ensures c.loop-place.invariant.workflows c.in_ok-add_workflow.ensures;
      batches =
          omega (
            arith,
            c.in_ok-count.ensures,
            c.loop-place.invariant.batches,
            c.batches_in.ensures,
            count_more (g.C.Cell.cell c.args.cell.now).written c.loop-place.place c.in_ok-message.message below c.in_ok-message.ensures,
          );
    }
