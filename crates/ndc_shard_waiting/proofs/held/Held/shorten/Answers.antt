use Rattle.std.proofs.Common.{◌<◌, List, sym, subst}
use Rattle.ndc_model_cells.specs.declared.message.Message.{Message}
use Rattle.ndc_model_cells.specs.Messages.{batches_of}
use Rattle.ndc_shard_waiting.proofs.ShortcutLemmas.{up_to, up-smaller, leads-to-end}
use Rattle.ndc_shard_waiting.proofs.held.Held.shorten.Goals as goal

pub lead-requires : goal.lead-requires
lead-requires c = leads-to-end c.loop-up.self c.loop-up.at c.in-Some.up c.args.end c.above.ensures.waiting c.in-Some.ensures.goes c.loop-up.invariant.1

pub loop-up-smaller-then-ne : goal.loop-up-smaller-then-ne
loop-up-smaller-then-ne c =
    subst (λ (l : List Message). up_to (batches_of l) c.in-Some.up < up_to (batches_of c.loop-up.self) c.loop-up.at) (sym c.lead.ensures)
    (up-smaller (batches_of c.loop-up.self) c.loop-up.at c.in-Some.up c.in-Some.ensures.goes)

pub loop-up-smaller : goal.loop-up-smaller
loop-up-smaller c = up-smaller (batches_of c.loop-up.self) c.loop-up.at c.in-Some.up c.in-Some.ensures.goes
