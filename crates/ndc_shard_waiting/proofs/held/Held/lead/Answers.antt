use Rattle.std.proofs.Common.{List, sym, subst}
use Rattle.ndc_model_cells.specs.declared.message.Message.{Message}
use Rattle.ndc_shard_waiting.specs.Shortcuts.{LeadsUp}
use Rattle.ndc_model_cells.specs.Messages.{batches_of}
use Rattle.ndc_shard_waiting.proofs.ShortcutLemmas.{set-all-lead}
use Rattle.ndc_shard_waiting.proofs.held.Held.lead.Goals as goal

pub invariant_of-self : goal.invariant_of-self
invariant_of-self c = record {
  are = c.self.invariant.are;
  lead = set-all-lead c.set.result c.self.inside.shelf c.self.inside.shortcuts c.set.new.self c.args.key c.args.to c.self.invariant.lead
      (subst (λ (l : List Message). LeadsUp (batches_of l) c.args.key c.args.to) (sym c.self.view_is) c.requires) c.set.ensures.ok c.set.ensures.err;
}
