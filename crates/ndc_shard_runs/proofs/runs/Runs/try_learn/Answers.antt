use Rattle.std.proofs.Common.{true, IsOk, ◌≡◌, List, None, ◌∙◌, ap, sym, subst}
use Rattle.ndc_event.specs.declared.batch.Batch.{Batch}
use Rattle.ndc_run.specs.Learning.{learned}
use Rattle.ndc_model_sets.specs.Sets.{arrived, batch_at}
use Rattle.ndc_model_sets.specs.Reading.{current_key}
use Rattle.ndc_model_sets.specs.Sound.{CopiesNamed}
use Rattle.ndc_model_sets.specs.Writing.{CopiesFitWith}
use Rattle.ndc_shard_runs.specs.Copies.{are_named_copies}
use Rattle.ndc_shard_runs.proofs.NamedLemmas.{named-with}
use Rattle.ndc_shard_runs.specs.Fitting.{ComesNext, IsCarrierFit}
use Rattle.ndc_shard_runs.specs.Kept.{follows, lies_beside}
use Rattle.ndc_shard_runs.specs.RunMap.{all_of, batches_of, part_of, run_at}
use Rattle.ndc_shard_runs.proofs.FitLemmas.{taken-is-sound}
use Rattle.ndc_shard_runs.proofs.IndexLemmas.{none-in-run}
use Rattle.ndc_shard_runs.proofs.InsideLemmas.{index-of, all-is, inside-with}
use Rattle.ndc_shard_runs.proofs.JudgeLemmas.{is-ok}
use Rattle.ndc_shard_runs.proofs.PartLemmas.{part-key}
use Rattle.ndc_shard_runs.proofs.runs.Runs.try_learn.Goals as goal

pub judge-requires-clause-fresh : goal.judge-requires-clause-fresh
judge-requires-clause-fresh g c =
    let b = c.args.batch.now in
    none-in-run b.key b.run c.self.inside.runs (subst (λ (l : List Batch). batch_at b.key l ≡ None) (sym c.self.view_is) c.requires.next.fresh)

pub judge-requires-clause-faultless : goal.judge-requires-clause-faultless
judge-requires-clause-faultless g c = c.requires.next.faultless

pub try_learn-requires-clause-fresh : goal.try_learn-requires-clause-fresh
try_learn-requires-clause-fresh g c = subst (λ (l : List Batch). batch_at c.args.batch.now.key l ≡ None) (sym c.self.view_is) c.requires.next.fresh

pub try_learn-requires-clause-faultless : goal.try_learn-requires-clause-faultless
try_learn-requires-clause-faultless g c = c.requires.next.faultless

pub invariant_of-self : goal.invariant_of-self
invariant_of-self g c =
    let b = c.args.batch.now in
    let all = all_of c.self.inside.runs in
    let next : ComesNext all b = subst (λ (l : List Batch). ComesNext l b) (sym c.self.view_is) c.requires.next in
    let carrier : IsCarrierFit all b = subst (λ (l : List Batch). IsCarrierFit l b) (sym c.self.view_is) c.requires.carrier in
    let taken : IsOk (learned b.run (part_of b.run all) b) =
    subst (λ (l : List Batch). IsOk (learned b.run l b)) (c.self.invariant.parts b.run)
    (is-ok (learned b.run (batches_of (run_at b.run c.self.inside.runs)) b) c.in-Ok-try_learn.learned c.in-Ok-try_learn.ensures.answer) in
    let copies : CopiesFitWith all b = subst (λ (l : List Batch). IsOk (learned b.run (part_of b.run l) b) → CopiesFitWith l b) (sym c.self.view_is) c.requires.copies taken in
    let sound = taken-is-sound all b c.self.invariant.sound next taken copies carrier in
    inside-with c.self.inside c.self.invariant b next.fresh _ c.lies_beside-beside.result c.follows-follows.result sound
    (c.lies_beside-beside.ensures ∙ ap (λ (l : List Batch). lies_beside l b) (sym c.self.view_is)) (c.follows-follows.ensures ∙ ap (λ (l : List Batch). follows l b) (sym c.self.view_is))
    c.pass.ensures c.in-Ok-try_learn.ensures.ok c.greater-greatest.ensures.greater
    (λ t. let n = subst (λ (l : List Batch). CopiesNamed l × (are_named_copies l b ≡ true)) (sym c.self.view_is) (c.will_be_named-named.ensures t) in
    named-with all b c.self.invariant.sound sound next.fresh next.faultless n.0 n.1)

pub returns-in-Ok-try_learn-clause-ok : goal.returns-in-Ok-try_learn-clause-ok
returns-in-Ok-try_learn-clause-ok g c =
    let b = c.args.batch.now in
    let none = subst (λ (l : List Batch). batch_at b.key l ≡ None) (sym c.self.view_is) c.requires.next.fresh in
    ap all_of c.in-Ok-try_learn.ensures.ok ∙ all-is c.self.inside.runs c.self.inside.greatest_task (index-of c.self.inside c.self.invariant) b none ∙ ap (arrived b) c.self.view_is

pub returns-in-Ok-try_learn-clause-extend_steps : goal.returns-in-Ok-try_learn-clause-extend_steps
returns-in-Ok-try_learn-clause-extend_steps g c = λ e.
    let b = c.args.batch.now in
    c.in-Ok-try_learn.ensures.extend_steps
    (e ∙ ap (current_key b.run) (sym c.self.view_is) ∙ sym (part-key (all_of c.self.inside.runs) c.self.invariant.sound b.run) ∙ ap (current_key b.run) (sym (c.self.invariant.parts b.run)))
