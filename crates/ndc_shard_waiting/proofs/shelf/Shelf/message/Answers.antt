use Rattle.std.proofs.Common.{List, sym, ◌∙◌, ap}
use Rattle.std.specs.Option.{option_copied}
use Rattle.ndc_model_cells.specs.declared.message.Message.{Message}
use Rattle.ndc_shard_waiting.specs.Finding.{carrier_at, key_before, message_with}
use Rattle.ndc_shard_waiting.proofs.WithLemmas.{with-carried, with-own}
use Rattle.ndc_shard_waiting.proofs.shelf.Shelf.message.Goals as goal

pub returns-in-Some : goal.returns-in-Some
returns-in-Some c =
    sym (with-own c.self.inside.messages c.self.invariant.are c.args.key c.in-Some.sent.now (sym c.get.ensures ∙ ap option_copied c.in-Some.is))
    ∙ ap (λ (l : List Message). message_with c.args.key l) c.self.view_is

pub returns-in-None : goal.returns-in-None
returns-in-None c =
    c.carrier.ensures ∙ ap (λ (l : List Message). carrier_at (key_before c.args.key) l) (sym c.self.view_is)
    ∙ with-carried c.self.inside.messages c.self.invariant.are c.args.key (sym c.get.ensures ∙ ap option_copied c.in-None.is)
    ∙ ap (λ (l : List Message). message_with c.args.key l) c.self.view_is
