use Rattle.std.proofs.Common.{List, sym, subst}
use Rattle.ndc_model_cells.specs.declared.message.Message.{Message}
use Rattle.ndc_model_cells.specs.Messages.{batches_of, IsNewTo}
use Rattle.ndc_shard_waiting.proofs.ShortcutLemmas.{put-all-lead}
use Rattle.ndc_shard_waiting.proofs.held.Held.put.Goals as goal

pub invariant_of-self : goal.invariant_of-self
invariant_of-self c =
    let all = put-all-lead c.put.result c.self.inside.shelf c.put.new.self c.self.inside.shortcuts c.args.message c.self.invariant.are c.requires.waits
    (subst (λ (l : List Message). IsNewTo (batches_of l) c.args.message) (sym c.self.view_is) c.requires.new) c.self.invariant.lead c.put.ensures.ok c.put.ensures.err in
    record { are = all.0; lead = all.1 }
