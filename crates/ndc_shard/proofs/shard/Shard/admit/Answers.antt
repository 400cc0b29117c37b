use Rattle.std.proofs.Common.{List, sym, ◌∙◌, subst, ap}
use Rattle.ndc_model_cells.specs.Cells.{Cell}
use Rattle.ndc_model_cells.specs.declared.message.Message.{Message}
use Rattle.ndc_shard.proofs.AdmittedLemmas.{told-having, told-messages, told-sent}
use Rattle.ndc_shard.specs.Sent.{messages_at}
use Rattle.ndc_shard.specs.Shards.{having_written}
use Rattle.ndc_shard_workflows.specs.Terms.{terms_in}
use Rattle.ndc_shard_workflows.specs.Workflows.{IsAdmittedTo}
use Rattle.ndc_shard.proofs.shard.Shard.admit.Goals as goal

pub invariant_of-self : goal.invariant_of-self
invariant_of-self g c =
    told-sent (terms_in c.args.terms.now c.self.inside.workflows) c.args.message c.in-Ok.admission c.self.inside.workflows c.admit.new.self c.in-Ok.ensures.admitted c.is_in_order.ensures.cell c.is_in_order-in-Ok.ensures.cell
    c.is_in_order.ensures.workflows c.is_in_order-in-Ok.ensures.workflows c.is_in_order.ensures.sound c.self.inside.places.items c.self.invariant

pub returns-in-Ok-clause-admitted : goal.returns-in-Ok-clause-admitted
returns-in-Ok-clause-admitted g c =
    let places = c.self.inside.places.items in
    let terms = terms_in c.args.terms.now c.self.inside.workflows in
    let same = told-messages terms c.args.message c.in-Ok.admission c.self.inside.workflows c.admit.new.self c.in-Ok.ensures.admitted c.is_in_order.ensures.cell c.is_in_order-in-Ok.ensures.cell
    c.is_in_order.ensures.workflows c.is_in_order-in-Ok.ensures.workflows c.is_in_order.ensures.sound places c.self.invariant in
    subst (λ (cell : Cell). IsAdmittedTo (terms_in c.args.terms.now cell) c.args.message c.in-Ok.admission cell (having_written (messages_at places c.admit.new.self) c.admit.new.self)) c.self.view_is
    (told-having terms c.args.message c.in-Ok.admission c.self.inside.workflows c.admit.new.self (messages_at places c.self.inside.workflows) (messages_at places c.admit.new.self) same c.in-Ok.ensures.admitted)

pub returns-in-Ok-clause-written : goal.returns-in-Ok-clause-written
returns-in-Ok-clause-written g c =
    told-messages (terms_in c.args.terms.now c.self.inside.workflows) c.args.message c.in-Ok.admission c.self.inside.workflows c.admit.new.self c.in-Ok.ensures.admitted c.is_in_order.ensures.cell c.is_in_order-in-Ok.ensures.cell
    c.is_in_order.ensures.workflows c.is_in_order-in-Ok.ensures.workflows c.is_in_order.ensures.sound c.self.inside.places.items c.self.invariant
    ∙ ap (λ (cell : Cell). cell.written) c.self.view_is
