use Rattle.std.proofs.Common.{◌&&◌, not, sym, ◌∙◌, ap, subst}
use Rattle.ndc_shard_waiting.specs.Linking.{is_link_for, is_awaited}
use Rattle.ndc_shard_waiting.specs.Waiting.{AreWaiting}
use Rattle.ndc_shard_waiting.proofs.ShelfLemmas.{keys-rise, without-waiting, without-awaited}
use Rattle.ndc_shard_waiting.proofs.shelf.Shelf.take.Goals as goal

pub invariant_of-self : goal.invariant_of-self
invariant_of-self c = record {
  are = subst AreWaiting (sym c.take.ensures.rest) (without-waiting c.args.key c.self.inside.messages c.self.invariant.are);
  linked = λ before one. c.cut_for.ensures before one
      ∙ ap (λ t. not (is_link_for before one c.earlier_key.result c.args.key) && t) (c.self.invariant.linked before one)
      ∙ ap (λ o. not (is_link_for before one o c.args.key) && is_awaited before one c.self.inside.messages) c.earlier_key.ensures
      ∙ sym (without-awaited c.args.key c.self.inside.messages c.unwrap-sent.result (keys-rise c.self.inside.messages c.self.invariant.are.set.ordered)
      (sym c.take.ensures.taken ∙ c.unwrap-sent.ensures) before one)
      ∙ ap (is_awaited before one) (sym c.take.ensures.rest);
}

pub returns-clause-waiting : goal.returns-clause-waiting
returns-clause-waiting c = subst AreWaiting (sym c.take.ensures.rest) (without-waiting c.args.key c.self.inside.messages c.self.invariant.are)
