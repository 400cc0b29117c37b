use Rattle.std.proofs.Common.{◌&&◌, List, sym, ◌∙◌, ap, subst}
use Rattle.ndc_model_cells.specs.declared.message.Message.{Message}
use Rattle.ndc_model_sets.specs.Sets.{earlier}
use Rattle.ndc_shard_waiting.specs.Linking.{is_link_for}
use Rattle.ndc_model_cells.specs.Messages.{batches_of, IsNewTo}
use Rattle.ndc_shard_waiting.proofs.GetLemmas.{own-new, none-awaited, put-links}
use Rattle.ndc_shard_waiting.proofs.shelf.Shelf.put.Goals as goal

pub put_in-requires-clause-new : goal.put_in-requires-clause-new
put_in-requires-clause-new c =
    own-new c.self.inside.messages c.self.invariant.are c.args.message (subst (λ (l : List Message). IsNewTo (batches_of l) c.args.message) (sym c.self.view_is) c.requires.new)

pub put_in-requires-clause-loose : goal.put_in-requires-clause-loose
put_in-requires-clause-loose c before one =
    ap (λ t. is_link_for before one (earlier c.args.message.batch) c.args.message.batch.key && t) (c.self.invariant.linked before one)
    ∙ none-awaited before one (earlier c.args.message.batch) c.args.message.batch.key c.self.inside.messages
    (own-new c.self.inside.messages c.self.invariant.are c.args.message (subst (λ (l : List Message). IsNewTo (batches_of l) c.args.message) (sym c.self.view_is) c.requires.new))

pub invariant_of-self : goal.invariant_of-self
invariant_of-self c =
    let all = put-links c.put_in.result c.args.message c.self.inside.messages c.put_in.new.messages c.self.inside.links c.put_in.new.links c.self.invariant.are c.requires.waits
    (subst (λ (l : List Message). IsNewTo (batches_of l) c.args.message) (sym c.self.view_is) c.requires.new) c.self.invariant.linked
    c.put_in.ensures.messages c.put_in.ensures.links c.put_in.ensures.messages_err c.put_in.ensures.links_err in
    record { are = all.0; linked = all.1 }
