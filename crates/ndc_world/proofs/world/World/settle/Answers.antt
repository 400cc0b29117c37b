use Rattle.std.proofs.Common.{◌<◌, ◌+◌, false, ap, refl, subst, sym, ◌∙◌}
use Rattle.ndc_world_answers.specs.declared.tally.Tally.{Tally}
use Rattle.ndc_world.specs.Standing.{IsSettledBy, WorldValue}
use Rattle.ndc_world.proofs.ReachedLemmas.{orderly}
use Rattle.ndc_world.proofs.RunLemmas.{may_settle}
use Rattle.ndc_world.proofs.StandingLemmas.{behind_settlement, clusters_reached, settled_world, unspent_settled}
use Rattle.ndc_world.proofs.world.World.settle.Goals as goal

pub settlement-requires-clause-orderly : goal.settlement-requires-clause-orderly
settlement-requires-clause-orderly g c κs within =
    let is = c.self.invariant (ap (λ (v : WorldValue). v.spent) c.self.view_is ∙ c.requires.unspent) in
    orderly c.self.inside.header.now c.self.inside.lines c.self.inside.replication (clusters_reached c.self.inside.header.now c.self.inside.lines c.self.inside.replication c.self.inside.reports is.standing)

pub settlement-requires-clause-allowed : goal.settlement-requires-clause-allowed
settlement-requires-clause-allowed g c κs within =
    let is = c.self.invariant (ap (λ (v : WorldValue). v.spent) c.self.view_is ∙ c.requires.unspent) in
    may_settle c.self.inside.header.now c.self.inside.lines c.self.inside.replication is.standing.fit (clusters_reached c.self.inside.header.now c.self.inside.lines c.self.inside.replication c.self.inside.reports is.standing)
    g.C.Cell.allows (g.met.C.Cell g.world.𝓛 g.world.𝓜 g.world.𝓡 ((λ s x. x), (λ x. x), (λ x. x), λ x. x)).may (subst (λ (v : WorldValue). v.lines < 100000) (sym c.self.view_is) c.requires.lines)

pub invariant_of-self-2 : goal.invariant_of-self-2
invariant_of-self-2 g c = λ unspent.
    let own : WorldValue = record { spent = c.self.inside.spent; header = c.self.inside.header.now; lines = c.self.inside.lines; answers = c.self.inside.answers; refused = c.self.inside.refused; world = c.self.inside.replication; reports = c.self.inside.reports } in
    let is = c.self.invariant (ap (λ (v : WorldValue). v.spent) c.self.view_is ∙ c.requires.unspent) in
    unspent_settled own is c.settlement.new.replication c.in_ok-tally.field-0.tally.learned c.in_ok-tally.field-0.tally.applied c.in_ok-tally.field-0.seen.items (subst (λ (v : WorldValue). v.lines < 100000) (sym c.self.view_is) c.requires.lines)
    (λ w stand. behind_settlement own.header own.world c.settlement.new.replication own.reports w c.in_ok-tally.field-0.tally.learned c.in_ok-tally.field-0.tally.applied c.in_ok-tally.field-0.seen.items stand
    c.in_ok-tally.ensures.world (ap (λ (t : Tally). t.learned) c.in_ok-tally.ensures.tally) (ap (λ (t : Tally). t.applied) c.in_ok-tally.ensures.tally) c.in_ok-tally.ensures.seen)

pub returns-clause-settled : goal.returns-clause-settled
returns-clause-settled g c =
    let own : WorldValue = record { spent = c.self.inside.spent; header = c.self.inside.header.now; lines = c.self.inside.lines; answers = c.self.inside.answers; refused = c.self.inside.refused; world = c.self.inside.replication; reports = c.self.inside.reports } in
    let after : WorldValue = record { spent = false; header = c.self.inside.header.now; lines = c.self.inside.lines + 1; answers = c.self.inside.answers; refused = c.self.inside.refused; world = c.settlement.new.replication; reports = c.self.inside.reports } in
    subst (λ (before : WorldValue). IsSettledBy before after c.in_ok-tally.field-0.tally.learned c.in_ok-tally.field-0.tally.applied c.in_ok-tally.field-0.seen.items) c.self.view_is (record {
      unspent = refl;
      header = refl;
      lines = refl;
      answers = refl;
      refused = refl;
      behind = λ w stand. behind_settlement own.header own.world c.settlement.new.replication own.reports w c.in_ok-tally.field-0.tally.learned c.in_ok-tally.field-0.tally.applied c.in_ok-tally.field-0.seen.items stand
          c.in_ok-tally.ensures.world (ap (λ (t : Tally). t.learned) c.in_ok-tally.ensures.tally) (ap (λ (t : Tally). t.applied) c.in_ok-tally.ensures.tally) c.in_ok-tally.ensures.seen;
    })

pub returns-clause-reached : goal.returns-clause-reached
returns-clause-reached g c =
    let own : WorldValue = record { spent = c.self.inside.spent; header = c.self.inside.header.now; lines = c.self.inside.lines; answers = c.self.inside.answers; refused = c.self.inside.refused; world = c.self.inside.replication; reports = c.self.inside.reports } in
    let is = c.self.invariant (ap (λ (v : WorldValue). v.spent) c.self.view_is ∙ c.requires.unspent) in
    settled_world own is c.settlement.new.replication c.in_ok-tally.field-0.tally.learned c.in_ok-tally.field-0.tally.applied c.in_ok-tally.field-0.seen.items (subst (λ (v : WorldValue). v.lines < 100000) (sym c.self.view_is) c.requires.lines)
    (λ w stand. behind_settlement own.header own.world c.settlement.new.replication own.reports w c.in_ok-tally.field-0.tally.learned c.in_ok-tally.field-0.tally.applied c.in_ok-tally.field-0.seen.items stand
    c.in_ok-tally.ensures.world (ap (λ (t : Tally). t.learned) c.in_ok-tally.ensures.tally) (ap (λ (t : Tally). t.applied) c.in_ok-tally.ensures.tally) c.in_ok-tally.ensures.seen)
    c.in_ok-tally.ensures.world
