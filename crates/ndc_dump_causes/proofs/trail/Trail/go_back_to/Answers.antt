use Rattle.std.proofs.Common.{take, sym, ◌∙◌, subst}
use Rattle.ndc_event.specs.Key.{key_eq}
use Rattle.ndc_model_sets.proofs.KeyLemmas.{same-keys}
use Rattle.std.proofs.lemmas.Bool.{not-false}
use Rattle.ndc_dump_causes.specs.Trails.{AreOpen, IsListed, IsTrail}
use Rattle.ndc_dump_causes.proofs.TrailLemmas.{open-back, open-last, open-take}
use Rattle.ndc_dump_causes.proofs.trail.Trail.go_back_to.Goals as goal

pub returns-then-ne-clause-trail : goal.returns-then-ne-clause-trail
returns-then-ne-clause-trail c =
    subst (AreOpen c.args.batches.now c.self.inside.origins.keys 0) (sym c.truncate.ensures.items ∙ c.in-Some.ensures.items ∙ sym c.in_ok-push.ensures.items)
    (open-take c.args.batches.now c.self.inside.origins.keys 0 c.saturating_add.result c.self.inside.opened.items (subst (IsTrail c.args.batches.now) (sym c.self.view_is) c.requires))

pub returns-clause-trail : goal.returns-clause-trail
returns-clause-trail c =
    subst (λ l. AreOpen c.args.batches.now l 0 c.push.new.self.items) (sym c.truncate-2.ensures.keys)
    (subst (AreOpen c.args.batches.now (take c.in-Some.last.count c.self.inside.origins.keys) 0) (sym c.in_ok-push.ensures.items)
    (open-back c.args.batches.now c.self.inside.origins.keys 0 c.pop.new.self.items c.in-Some.last
    (subst (AreOpen c.args.batches.now c.self.inside.origins.keys 0) (sym c.truncate.ensures.items ∙ c.in-Some.ensures.items)
    (open-take c.args.batches.now c.self.inside.origins.keys 0 c.saturating_add.result c.self.inside.opened.items (subst (IsTrail c.args.batches.now) (sym c.self.view_is) c.requires)))))

pub returns-clause-at : goal.returns-clause-at
returns-clause-at c = λ _.
    subst (IsListed c.args.batches.now c.truncate-2.new.self.keys) (same-keys c.in-Some.last.key c.args.key (not-false (key_eq c.in-Some.last.key c.args.key) (sym c.if-ne.ensures)))
    (subst (λ l. IsListed c.args.batches.now l c.in-Some.last.key) (sym c.truncate-2.ensures.keys)
    (open-last c.args.batches.now c.self.inside.origins.keys 0 c.pop.new.self.items c.in-Some.last
    (subst (AreOpen c.args.batches.now c.self.inside.origins.keys 0) (sym c.truncate.ensures.items ∙ c.in-Some.ensures.items)
    (open-take c.args.batches.now c.self.inside.origins.keys 0 c.saturating_add.result c.self.inside.opened.items (subst (IsTrail c.args.batches.now) (sym c.self.view_is) c.requires)))))
