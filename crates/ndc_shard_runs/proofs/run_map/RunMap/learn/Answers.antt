use Rattle.std.proofs.Common.{◌≡◌, Some, List, OnOk, ◌∙◌, ap, sym, subst, length, set}
use Rattle.ndc_event.specs.Outcome.{Gives}
use Rattle.ndc_run.specs.declared.answer.RunError.TheVariants.{Memory}
use Rattle.ndc_state.specs.Counted.{counted}
use Rattle.ndc_tree.specs.Tree.{TreeValue}
use Rattle.ndc_shard_runs.specs.RunMap.{run_at, with_batch}
use Rattle.ndc_shard_runs.specs.Standing.{IsAt}
use Rattle.ndc_shard_runs.proofs.LearnLemmas.{current-at, inserted-at, learned-at}
use Rattle.ndc_shard_runs.proofs.RunMapLemmas.{here, written-ok, written-order}
use Rattle.ndc_shard_runs.proofs.run_map.RunMap.learn.Goals as goal

pub grow-requires-clause-fits : goal.grow-requires-clause-fits
grow-requires-clause-fits g c =
    let b = c.args.batch.now in
    let items = c.self.inside.runs.items in
    let at : IsAt items b.run c.in-Ok.place = rw c.as_slice.ensures.value at c.in-Ok.ensures.found in
    let found : run_at b.run c.args.self.now ≡ Some c.index_mut.result.now = ap (run_at b.run) (sym c.self.view_is) ∙ here items b.run c.in-Ok.place at c.index_mut.result.now c.index_mut.ensures.value in
    inserted-at b.run c.args.self.now c.index_mut.result.now b found c.requires.fits

pub invariant_of-self : goal.invariant_of-self
invariant_of-self g c =
    let items = c.self.inside.runs.items in
    let at : IsAt items c.args.batch.now.run c.in-Ok.place = rw c.as_slice.ensures.value at c.in-Ok.ensures.found in
    written-order items c.args.batch.now c.in-Ok.place at c.index_mut.result.now c.grow.new.run c.index_mut.ensures.value c.grow.result c.grow.ensures.ok c.grow.ensures.err c.self.invariant

pub returns-in-Ok-clause-ok : goal.returns-in-Ok-clause-ok
returns-in-Ok-clause-ok g c =
    let items = c.self.inside.runs.items in
    let at : IsAt items c.args.batch.now.run c.in-Ok.place = rw c.as_slice.ensures.value at c.in-Ok.ensures.found in
    subst (λ (l : List TreeValue). OnOk c.grow.result (set items c.in-Ok.place c.grow.new.run ≡ with_batch c.args.batch.now l)) c.self.view_is
    (written-ok items c.args.batch.now c.in-Ok.place at c.index_mut.result.now c.grow.new.run c.index_mut.ensures.value c.grow.result c.grow.ensures.ok c.grow.ensures.err c.self.invariant)

pub returns-in-Ok-clause-extend_steps : goal.returns-in-Ok-clause-extend_steps
returns-in-Ok-clause-extend_steps g c =
    let b = c.args.batch.now in
    let items = c.self.inside.runs.items in
    let at : IsAt items b.run c.in-Ok.place = rw c.as_slice.ensures.value at c.in-Ok.ensures.found in
    let found : run_at b.run c.args.self.now ≡ Some c.index_mut.result.now = ap (run_at b.run) (sym c.self.view_is) ∙ here items b.run c.in-Ok.place at c.index_mut.result.now c.index_mut.ensures.value in
    subst (λ k. OnOk c.grow.result (b.parent ≡ k → c.grow.new.steps ≡ counted c.args.steps.now (length b.events))) (current-at b.run c.args.self.now c.index_mut.result.now found) c.grow.ensures.extend_steps

pub returns-in-Ok-clause-answer : goal.returns-in-Ok-clause-answer
returns-in-Ok-clause-answer g c =
    let b = c.args.batch.now in
    let items = c.self.inside.runs.items in
    let at : IsAt items b.run c.in-Ok.place = rw c.as_slice.ensures.value at c.in-Ok.ensures.found in
    let found : run_at b.run c.args.self.now ≡ Some c.index_mut.result.now = ap (run_at b.run) (sym c.self.view_is) ∙ here items b.run c.in-Ok.place at c.index_mut.result.now c.index_mut.ensures.value in
    subst (Gives Memory (λ done. done) c.grow.result) (learned-at b.run c.args.self.now c.index_mut.result.now b found) c.grow.ensures.answer
