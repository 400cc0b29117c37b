use Rattle.std.proofs.Common.{◌∙◌, ap, length, map, subst}
use Rattle.ndc_tree.specs.Tree.{TreeValue}
use Rattle.ndc_rebuild.specs.Kept.{events_behind}
use Rattle.ndc_rebuild.proofs.PathLemmas.{CountsWithin-le}
use Rattle.ndc_run.specs.Run.{IsRun, IsKept}
use Rattle.ndc_run.proofs.LearnLemmas.{restores}
use Rattle.ndc_run.proofs.run.Run.restored.Goals as goal

pub restore_along-requires-clause-ids : goal.restore_along-requires-clause-ids
restore_along-requires-clause-ids g c =
    let v = c.args.self.now in
    (restores v.run v.batches c.self.inside.kept c.args.key (map (λ b. b.now) c.as_slice.result.now)
    (subst (λ (t : TreeValue). IsRun t.run t.batches) c.self.view_is c.self.invariant.run) (subst (λ (t : TreeValue). IsKept t.run t.batches c.self.inside.kept) c.self.view_is c.self.invariant.kept) c.requires (ap (map (λ b. b.now)) c.as_slice.ensures.value ∙ c.in_ok-path.ensures)).0

pub restore_along-requires-clause-kept : goal.restore_along-requires-clause-kept
restore_along-requires-clause-kept g c =
    let v = c.args.self.now in
    (restores v.run v.batches c.self.inside.kept c.args.key (map (λ b. b.now) c.as_slice.result.now)
    (subst (λ (t : TreeValue). IsRun t.run t.batches) c.self.view_is c.self.invariant.run) (subst (λ (t : TreeValue). IsKept t.run t.batches c.self.inside.kept) c.self.view_is c.self.invariant.kept) c.requires (ap (map (λ b. b.now)) c.as_slice.ensures.value ∙ c.in_ok-path.ensures)).1

pub returns-in-Ok-clause-steps : goal.returns-in-Ok-clause-steps
returns-in-Ok-clause-steps g c =
    let v = c.args.self.now in
    CountsWithin-le c.args.steps.now (length (events_behind c.self.inside.kept.states (map (λ b. b.now) c.as_slice.result.now))) 511 c.restore_along.new.steps
    (restores v.run v.batches c.self.inside.kept c.args.key (map (λ b. b.now) c.as_slice.result.now)
    (subst (λ (t : TreeValue). IsRun t.run t.batches) c.self.view_is c.self.invariant.run) (subst (λ (t : TreeValue). IsKept t.run t.batches c.self.inside.kept) c.self.view_is c.self.invariant.kept) c.requires (ap (map (λ b. b.now)) c.as_slice.ensures.value ∙ c.in_ok-path.ensures)).2
    c.in-Ok.ensures.most_steps

pub returns-clause-steps : goal.returns-clause-steps
returns-clause-steps g c =
    let v = c.args.self.now in
    CountsWithin-le c.args.steps.now (length (events_behind c.self.inside.kept.states (map (λ b. b.now) c.as_slice.result.now))) 511 c.restore_along.new.steps
    (restores v.run v.batches c.self.inside.kept c.args.key (map (λ b. b.now) c.as_slice.result.now)
    (subst (λ (t : TreeValue). IsRun t.run t.batches) c.self.view_is c.self.invariant.run) (subst (λ (t : TreeValue). IsKept t.run t.batches c.self.inside.kept) c.self.view_is c.self.invariant.kept) c.requires (ap (map (λ b. b.now)) c.as_slice.ensures.value ∙ c.in_ok-path.ensures)).2
    c.in-Err.ensures.most_steps
