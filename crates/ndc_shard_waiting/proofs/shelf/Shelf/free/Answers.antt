use Rattle.std.proofs.Common.{◌||◌, ◌++◌, [], ◌∷◌, List, sym, ◌∙◌, ap, subst}
use Rattle.std.specs.Prelude.{option_to_list}
use Rattle.ndc_model_cells.specs.declared.message.Message.{Message}
use Rattle.ndc_model_cells.specs.Cells.{both}
use Rattle.ndc_model_sets.specs.Keys.{is_key_among}
use Rattle.ndc_shard_waiting.specs.Finding.{without_message}
use Rattle.ndc_shard_waiting.specs.Linking.{is_woken}
use Rattle.ndc_shard_waiting.proofs.LoopLemmas.{Frees, frees-start, frees-step, frees-end, key-there}
use Rattle.ndc_shard_waiting.proofs.ShelfLemmas.{without-less}
use Rattle.ndc_shard_waiting.proofs.shelf.Shelf.free.Goals as goal

pub loop-key-init : goal.loop-key-init
loop-key-init c = (
  c.wake.ensures.waiting,
  subst (λ (l : List Message). Frees c.args.message c.args.self.now c.wake.new.todo l c.args.self.now)
      (ap (λ (l : List Message). l ++ c.args.message ∷ []) (sym c.new-freed.ensures.items) ∙ sym c.in_ok-push.ensures.items)
      (frees-start c.args.message c.args.self.now c.wake.new.todo
      (λ one. c.in_ok-wake.ensures.woken one ∙ ap (λ o. is_key_among one c.new-todo.result || is_woken (c.args.message.batch ∷ option_to_list o) one c.args.self.now) c.as_ref.ensures
      ∙ ap (λ l. is_key_among one l || is_woken (both c.args.message) one c.args.self.now) c.new-todo.ensures)),
)

pub take-sent-requires : goal.take-sent-requires
take-sent-requires c =
    key-there c.args.message c.args.self.now c.loop-key.todo c.loop-key.freed.items c.loop-key.self c.loop-key.invariant.0 c.in-Some.key c.take_least.new.self
    c.in-Some.ensures.taken c.in-Some.ensures.least c.loop-key.invariant.1

pub loop-key-smaller : goal.loop-key-smaller
loop-key-smaller c = rw c.take-sent.ensures.rest (without-less c.in-Some.key c.loop-key.self c.take-sent.result c.take-sent.ensures.taken)

pub loop-key-preserved : goal.loop-key-preserved
loop-key-preserved c = (
  c.take-sent.ensures.waiting,
  subst (λ (l : List Message). Frees c.args.message c.args.self.now c.wake-in-Some.new.todo c.push-in-Some.new.self.items l) (sym c.take-sent.ensures.rest)
      (subst (λ (l : List Message). Frees c.args.message c.args.self.now c.wake-in-Some.new.todo l (without_message c.in-Some.key c.loop-key.self)) (sym c.in_ok-push-2.ensures.items)
      (frees-step c.args.message c.args.self.now c.loop-key.todo c.loop-key.freed.items c.loop-key.self c.loop-key.invariant.0 c.in-Some.key c.take_least.new.self
      c.in-Some.ensures.taken c.in-Some.ensures.least c.loop-key.invariant.1 c.take-sent.result c.wake-in-Some.new.todo c.take-sent.ensures.taken
      (λ one. c.in_ok-wake-2.ensures.woken one ∙ ap (λ o. is_key_among one c.take_least.new.self || is_woken (c.take-sent.result.batch ∷ option_to_list o) one c.take-sent.new.self) c.as_ref-in-Some.ensures
      ∙ ap (λ l. is_key_among one c.take_least.new.self || is_woken (both c.take-sent.result) one l) c.take-sent.ensures.rest))),
)

pub returns-clause-ok : goal.returns-clause-ok
returns-clause-ok c = (frees-end c.args.message c.args.self.now c.loop-key.todo c.loop-key.freed.items c.loop-key.self c.in_default.ensures.taken c.loop-key.invariant.1).0

pub returns-clause-rest : goal.returns-clause-rest
returns-clause-rest c = (frees-end c.args.message c.args.self.now c.loop-key.todo c.loop-key.freed.items c.loop-key.self c.in_default.ensures.taken c.loop-key.invariant.1).1
