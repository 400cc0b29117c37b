use Rattle.std.proofs.Common.{IsOk, subst, List, [], ◌+◌, ◌∙◌, ap, sym, length, arith}
use Rattle.ndc_event.specs.declared.batch.Batch.{Batch}
use Rattle.ndc_event.specs.Outcome.{◌>>=◌}
use Rattle.ndc_run.specs.Learning.{learned}
use Rattle.ndc_tree.specs.Inserting.{inserted}
use Rattle.ndc_tree.specs.declared.answer.Inserted.TheVariants.{Extended}
use Rattle.ndc_model_sets.specs.Sets.{batch_at}
use Rattle.ndc_state.specs.Counted.{counted}
use Rattle.ndc_model_sets.specs.Reading.{current_key}
use Rattle.ndc_tree.specs.Tree.{TreeValue}
use Rattle.ndc_run.proofs.LearnLemmas.{counts-both}
use Rattle.ndc_shard_runs.specs.Index.{AreIndexed}
use Rattle.ndc_shard_runs.specs.RunMap.{all_of, batches_of, run_at, without_run}
use Rattle.ndc_shard_runs.proofs.AllLemmas.{all-with, at-other, without-begun}
use Rattle.ndc_shard_runs.proofs.ArrivedLemmas.{none-after}
use Rattle.ndc_shard_runs.proofs.IndexLemmas.{indexed-left}
use Rattle.ndc_shard_runs.proofs.JudgeLemmas.{is-ok, judged-first}
use Rattle.ndc_shard_runs.proofs.index.take_both.Goals as goal

pub take_in-requires-2-clause-fresh : goal.take_in-requires-2-clause-fresh
take_in-requires-2-clause-fresh g c =
    let b = c.args.batch.now in
    let second = c.args.second.now in
    ap (λ (l : List TreeValue). batch_at b.key (all_of l)) c.in-Ok.ensures.ok ∙ ap (batch_at b.key) (all-with second c.args.runs.now c.requires.second_fresh)
    ∙ none-after second (all_of c.args.runs.now) b.key c.requires.other_key c.requires.fresh

pub returns-in-Ok-take_in-clause-extend_steps : goal.returns-in-Ok-take_in-clause-extend_steps
returns-in-Ok-take_in-clause-extend_steps g c = λ e.
    let b = c.args.batch.now in
    let second = c.args.second.now in
    c.in-Ok-take_in.ensures.extend_steps
    (e ∙ ap (current_key b.run) (sym (ap (λ (l : List TreeValue). batches_of (run_at b.run l)) c.in-Ok.ensures.ok ∙ at-other second c.args.runs.now b.run c.requires.other_run)))
    ∙ ap (λ n. counted n (length b.events)) (c.in-Ok.ensures.extend_steps (c.requires.first ∙ ap (λ o. current_key second.run (batches_of o)) (sym c.requires.second_run)))

pub returns-in-Ok-take_in-clause-most_steps : goal.returns-in-Ok-take_in-clause-most_steps
returns-in-Ok-take_in-clause-most_steps g c =
    let second = c.args.second.now in
    let exact = c.in-Ok.ensures.extend_steps (c.requires.first ∙ ap (λ o. current_key second.run (batches_of o)) (sym c.requires.second_run)) in
    counts-both c.args.steps.now c.take_in.new.steps c.take_in-2.new.steps (length second.events) (length c.args.batch.now.events + 511)
    (length second.events + (length c.args.batch.now.events + 511)) (omega arith) (length second.events, omega arith, exact) c.in-Ok-take_in.ensures.most_steps

pub returns-in-Err-take_in-clause-err : goal.returns-in-Err-take_in-clause-err
returns-in-Err-take_in-clause-err g c =
    let second = c.args.second.now in
    c.take.ensures ∙ ap (without_run second.run) (c.in-Err-take_in.ensures.err ∙ c.in-Ok.ensures.ok) ∙ without-begun second c.args.runs.now c.requires.second_run

pub returns-in-Err-take_in-clause-indexed : goal.returns-in-Err-take_in-clause-indexed
returns-in-Err-take_in-clause-indexed g c =
    let second = c.args.second.now in
    let same = c.in-Err-take_in.ensures.err ∙ c.in-Ok.ensures.ok in
    let there = subst (λ (l : List TreeValue). AreIndexed l c.take_in-2.new.places) same c.in-Err-take_in.ensures.indexed in
    let back = c.take.ensures ∙ ap (without_run second.run) same ∙ without-begun second c.args.runs.now c.requires.second_run in
    subst (λ (l : List TreeValue). AreIndexed l c.leave.new.places) (sym back)
    (subst (λ o. AreIndexed c.args.runs.now o) (sym c.leave.ensures) (indexed-left second c.args.runs.now c.requires.second_fresh c.take_in-2.new.places there))

pub returns-in-Err-take_in-clause-most_steps : goal.returns-in-Err-take_in-clause-most_steps
returns-in-Err-take_in-clause-most_steps g c =
    let second = c.args.second.now in
    let exact = c.in-Ok.ensures.extend_steps (c.requires.first ∙ ap (λ o. current_key second.run (batches_of o)) (sym c.requires.second_run)) in
    counts-both c.args.steps.now c.take_in.new.steps c.take_in-2.new.steps (length second.events) (length c.args.batch.now.events + 511)
    (length second.events + (length c.args.batch.now.events + 511)) (omega arith) (length second.events, omega arith, exact) c.in-Err-take_in.ensures.most_steps

pub take_in-requires-clause-fits : goal.take_in-requires-clause-fits
take_in-requires-clause-fits g c =
    let second = c.args.second.now in
    subst (λ o. IsOk (inserted second.run (batches_of o) second)) (sym c.requires.second_run) (is-ok (inserted second.run [] second) (Extended second.key) (judged-first second c.requires.first))

pub take_in-requires-2-clause-fits : goal.take_in-requires-2-clause-fits
take_in-requires-2-clause-fits g c =
    let b = c.args.batch.now in
    subst (λ (l : List Batch). IsOk (inserted b.run l b))
    (sym (ap (λ (l : List TreeValue). batches_of (run_at b.run l)) c.in-Ok.ensures.ok ∙ at-other c.args.second.now c.args.runs.now b.run c.requires.other_run)) c.requires.fits

pub returns-in-Ok-take_in-clause-answer : goal.returns-in-Ok-take_in-clause-answer
returns-in-Ok-take_in-clause-answer g c =
    let b = c.args.batch.now in
    let second = c.args.second.now in
    let two = learned b.run (batches_of (run_at b.run c.args.runs.now)) b in
    let same = ap (λ (l : List TreeValue). batches_of (run_at b.run l)) c.in-Ok.ensures.ok ∙ at-other second c.args.runs.now b.run c.requires.other_run in
    ap (λ r. r >>= (λ begun. two)) (ap (λ o. learned second.run (batches_of o) second) (sym c.requires.second_run) ∙ c.in-Ok.ensures.answer)
    ∙ ap (λ (l : List Batch). learned b.run l b) (sym same) ∙ c.in-Ok-take_in.ensures.answer

pub returns-in-Err-take_in-clause-answer : goal.returns-in-Err-take_in-clause-answer
returns-in-Err-take_in-clause-answer g c = λ other.
    let b = c.args.batch.now in
    let second = c.args.second.now in
    let two = learned b.run (batches_of (run_at b.run c.args.runs.now)) b in
    let same = ap (λ (l : List TreeValue). batches_of (run_at b.run l)) c.in-Ok.ensures.ok ∙ at-other second c.args.runs.now b.run c.requires.other_run in
    ap (λ r. r >>= (λ begun. two)) (ap (λ o. learned second.run (batches_of o) second) (sym c.requires.second_run) ∙ c.in-Ok.ensures.answer)
    ∙ ap (λ (l : List Batch). learned b.run l b) (sym same) ∙ c.in-Err-take_in.ensures.answer other

pub returns-in-Err-clause-answer : goal.returns-in-Err-clause-answer
returns-in-Err-clause-answer g c = λ other.
    let b = c.args.batch.now in
    let second = c.args.second.now in
    let two = learned b.run (batches_of (run_at b.run c.args.runs.now)) b in
    ap (λ r. r >>= (λ begun. two)) (ap (λ o. learned second.run (batches_of o) second) (sym c.requires.second_run) ∙ c.in-Err.ensures.answer other)
