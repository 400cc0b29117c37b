use Rattle.std.proofs.Common.{List, sym, ◌∙◌, ap}
use Rattle.std.specs.Option.{option_copied}
use Rattle.ndc_model_cells.specs.declared.message.Message.{Message}
use Rattle.ndc_model_sets.specs.Sets.{batch_at}
use Rattle.ndc_shard_waiting.specs.Finding.{carried_at, key_before}
use Rattle.ndc_model_cells.specs.Messages.{batches_of}
use Rattle.ndc_shard_waiting.proofs.GetLemmas.{get-own, get-carried}
use Rattle.ndc_shard_waiting.proofs.shelf.Shelf.get.Goals as goal

pub returns-in-Some : goal.returns-in-Some
returns-in-Some c =
    sym (get-own c.self.inside.messages c.self.invariant.are c.args.key c.in-Some.sent.now (sym c.get.ensures ∙ ap option_copied c.in-Some.is))
    ∙ ap (λ (l : List Message). batch_at c.args.key (batches_of l)) c.self.view_is

pub returns-in-None : goal.returns-in-None
returns-in-None c =
    c.carried.ensures ∙ ap (λ (l : List Message). carried_at (key_before c.args.key) l) (sym c.self.view_is)
    ∙ get-carried c.self.inside.messages c.self.invariant.are c.args.key (sym c.get.ensures ∙ ap option_copied c.in-None.is)
    ∙ ap (λ (l : List Message). batch_at c.args.key (batches_of l)) c.self.view_is
