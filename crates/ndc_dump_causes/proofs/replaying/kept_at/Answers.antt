use Rattle.std.proofs.Common.{sym, ◌∙◌, subst}
use Rattle.ndc_event.specs.Key.{key_eq}
use Rattle.ndc_model_sets.proofs.KeyLemmas.{same-keys}
use Rattle.std.proofs.lemmas.Bool.{not-false}
use Rattle.ndc_dump_causes.specs.Replaying.{AreKept, IsStateAt}
use Rattle.ndc_dump_causes.specs.declared.replaying.Kept.{Kept}
use Rattle.ndc_dump_causes.proofs.ReplayLemmas.{all-front, all-take, copied-at}
use Rattle.ndc_dump_causes.proofs.replaying.kept_at.Goals as goal

pub returns-then-is_last-clause-state : goal.returns-then-is_last-clause-state
returns-then-is_last-clause-state c =
    subst (λ k. IsStateAt c.args.batches.now k c.in-Some.one.state) (same-keys c.in-Some.one.key c.args.key (not-false (key_eq c.in-Some.one.key c.args.key) (sym c.if-ne.ensures)))
    (all-front (λ (one : Kept). IsStateAt c.args.batches.now one.key one.state) c.pop.new.self.items c.in-Some.one
    (subst (AreKept c.args.batches.now) (sym c.truncate.ensures.items ∙ c.in-Some.ensures.items)
    (all-take (λ (one : Kept). IsStateAt c.args.batches.now one.key one.state) c.saturating_add.result c.args.kept.now.items c.requires))).1

pub returns-clause-state : goal.returns-clause-state
returns-clause-state c =
    copied-at c.args.batches.now c.args.key c.in-Some.one.state c.in_ok-state.state c.in_ok-state.ensures
    (subst (λ k. IsStateAt c.args.batches.now k c.in-Some.one.state) (same-keys c.in-Some.one.key c.args.key (not-false (key_eq c.in-Some.one.key c.args.key) (sym c.if-ne.ensures)))
    (all-front (λ (one : Kept). IsStateAt c.args.batches.now one.key one.state) c.pop.new.self.items c.in-Some.one
    (subst (AreKept c.args.batches.now) (sym c.truncate.ensures.items ∙ c.in-Some.ensures.items)
    (all-take (λ (one : Kept). IsStateAt c.args.batches.now one.key one.state) c.saturating_add.result c.args.kept.now.items c.requires))).1)
