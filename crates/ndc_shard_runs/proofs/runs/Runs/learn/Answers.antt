use Rattle.std.proofs.Common.{true, IsOk, ◌<◌, ◌^◌, max, arith, ◌≡◌, List, None, ◌∙◌, ap, sym, subst}
use Rattle.ndc_event.specs.declared.batch.Batch.{Batch}
use Rattle.ndc_run.specs.Learning.{learned}
use Rattle.ndc_shard_runs.proofs.TakenLemmas.{taken-small}
use Rattle.ndc_model_sets.specs.Sets.{arrived, batch_at}
use Rattle.ndc_model_sets.specs.Sound.{CopiesNamed, IsSound}
use Rattle.ndc_shard_runs.specs.Copies.{are_named_copies}
use Rattle.ndc_model_sets.specs.Reading.{current_key}
use Rattle.ndc_shard_runs.specs.Kept.{follows, lies_beside}
use Rattle.ndc_shard_runs.specs.RunMap.{all_of}
use Rattle.ndc_shard_runs.proofs.InsideLemmas.{index-of, all-is, inside-with}
use Rattle.ndc_shard_runs.proofs.NamedLemmas.{named-with}
use Rattle.ndc_shard_runs.proofs.ReadLemmas.{new-faultless}
use Rattle.ndc_shard_runs.proofs.PartLemmas.{part-key}
use Rattle.ndc_shard_runs.proofs.runs.Runs.learn.Goals as goal

pub learn-requires-clause-fresh : goal.learn-requires-clause-fresh
learn-requires-clause-fresh g c = subst (λ (l : List Batch). batch_at c.args.batch.now.key l ≡ None) (sym c.self.view_is) c.requires.fresh

pub learn-requires-clause-faultless : goal.learn-requires-clause-faultless
learn-requires-clause-faultless g c =
    let b = c.args.batch.now in
    let none = subst (λ (l : List Batch). batch_at b.key l ≡ None) (sym c.self.view_is) c.requires.fresh in
    let sound = subst (λ (l : List Batch). IsSound (arrived b l)) (sym c.self.view_is) c.requires.sound in
    new-faultless b (all_of c.self.inside.runs) c.self.invariant.sound sound none

pub invariant_of-self-2 : goal.invariant_of-self-2
invariant_of-self-2 g c =
    let b = c.args.batch.now in
    let none = subst (λ (l : List Batch). batch_at b.key l ≡ None) (sym c.self.view_is) c.requires.fresh in
    let sound = subst (λ (l : List Batch). IsSound (arrived b l)) (sym c.self.view_is) c.requires.sound in
    inside-with c.self.inside c.self.invariant b none _ c.lies_beside-beside.result c.follows-follows.result sound (c.lies_beside-beside.ensures ∙ ap (λ (l : List Batch). lies_beside l b) (sym c.self.view_is)) (c.follows-follows.ensures ∙ ap (λ (l : List Batch). follows l b) (sym c.self.view_is)) c.pass.ensures c.in-Ok.ensures.ok c.greater-greatest.ensures.greater
    (λ t. let n = subst (λ (l : List Batch). CopiesNamed l × (are_named_copies l b ≡ true)) (sym c.self.view_is) (c.stays_named-named.ensures t) in
    named-with (all_of c.self.inside.runs) b c.self.invariant.sound sound none (new-faultless b (all_of c.self.inside.runs) c.self.invariant.sound sound none) n.0 n.1)

pub returns-clause-ok : goal.returns-clause-ok
returns-clause-ok g c =
    let b = c.args.batch.now in
    let none = subst (λ (l : List Batch). batch_at b.key l ≡ None) (sym c.self.view_is) c.requires.fresh in
    ap all_of c.in-Ok.ensures.ok ∙ all-is c.self.inside.runs c.self.inside.greatest_task (index-of c.self.inside c.self.invariant) b none ∙ ap (arrived b) c.self.view_is

pub returns-clause-extend_steps : goal.returns-clause-extend_steps
returns-clause-extend_steps g c = λ e.
    let b = c.args.batch.now in
    c.in-Ok.ensures.extend_steps
    (e ∙ ap (current_key b.run) (sym c.self.view_is) ∙ sym (part-key (all_of c.self.inside.runs) c.self.invariant.sound b.run) ∙ ap (current_key b.run) (sym (c.self.invariant.parts b.run)))

pub learn-requires-clause-fits : goal.learn-requires-clause-fits
learn-requires-clause-fits g c =
    let b = c.args.batch.now in
    let none = subst (λ (l : List Batch). batch_at b.key l ≡ None) (sym c.self.view_is) c.requires.fresh in
    let sound = subst (λ (l : List Batch). IsSound (arrived b l)) (sym c.self.view_is) c.requires.sound in
    let most = subst (λ n. max n b.key.task < 2 ^ 64) c.self.invariant.task c.greater-greatest.ensures.small in
    subst (λ (l : List Batch). IsOk (learned b.run l b)) (sym (c.self.invariant.parts b.run))
    (taken-small (all_of c.self.inside.runs) b c.self.invariant.sound sound none (omega (arith, most)) (omega (arith, most)))
