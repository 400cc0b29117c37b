use Rattle.std.proofs.Common.{◌≡◌, Some, None, refl, sym, ◌∙◌, subst, ap}
use Rattle.std.specs.Prelude.{is_some, IfErr}
use Rattle.std.specs.Option.{option_copied}
use Rattle.std.proofs.lemmas.Map.Steps.{set_value_same}
use Rattle.ndc_model_cells.specs.Cells.{Cell}
use Rattle.ndc_model_cells.specs.Writing.{Entry, with_batches}
use Rattle.ndc_model_cells.specs.Messages.{carrying}
use Rattle.ndc_shard_workflows.specs.Workflow.{with_written}
use Rattle.ndc_model_cells.specs.Workflow.{WorkflowValue, workflow_of}
use Rattle.ndc_model_sets.specs.Learned.{learned}
use Rattle.ndc_shard_workflows.specs.Listed.{IsListedBefore}
use Rattle.ndc_shard_workflows.specs.Refused.{IsNotWritten}
use Rattle.ndc_shard_workflows.proofs.OkLemmas.{on-both, on-ok}
use Rattle.ndc_shard_workflows.specs.Named.{under, IsPut}
use Rattle.ndc_shard_workflows.specs.Workflows.{AreOwn, DomainValue, cell_of, workflow_or_empty}
use Rattle.ndc_shard_workflows.specs.Writing.{MayBeWrittenTogether}
use Rattle.ndc_shard_workflows.proofs.DomainLemmas.{none-own}
use Rattle.ndc_shard_workflows.proofs.NameLemmas.{put-holds}
use Rattle.ndc_shard_workflows.proofs.PutLemmas.{map-put, same-put, on-err}
use Rattle.ndc_shard_workflows.proofs.WriteLemmas.{found-in, may-back, may-there, cell-there}
use Rattle.ndc_shard_workflows.proofs.domains.Domains.write.Goals as goal

pub write-requires-clause-own : goal.write-requires-clause-own
write-requires-clause-own g c = c.self.invariant.each c.args.batch.now.domain c.in-Some.domain.now (sym c.in-Some.ensures.value)

pub write-requires-clause-may : goal.write-requires-clause-may
write-requires-clause-may g c = λ vouched.
    let b = c.args.batch.now in
    let entry : Entry = record { batch = b; second = option_copied c.args.second } in
    let es = c.self.inside.domains.entries in
    let may = subst (λ (cell : Cell). MayBeWrittenTogether (carrying b entry.second) (workflow_of b.domain b.workflow cell)) (sym c.self.view_is) (c.requires.may vouched) in
    let at : under b.domain es ≡ Some c.in-Some.domain.now = sym c.in-Some.ensures.value in
    may-there entry es c.self.invariant may (Some c.in-Some.domain.now) at

pub invariant_of-self : goal.invariant_of-self
invariant_of-self g c =
    let b = c.args.batch.now in
    let entry : Entry = record { batch = b; second = option_copied c.args.second } in
    let es = c.self.inside.domains.entries in
    let at : under b.domain es ≡ Some c.in-Some.domain.now = sym c.in-Some.ensures.value in
    let after = (c.get_mut.follows.lender c.write.new.self).entries in
    let w = c.get_mut.follows.holds c.write.new.self in
    let put : IsPut b.domain c.write.new.self es after = map-put b.domain c.write.new.self es after (w.3 (ap is_some (sym c.in-Some.ensures.value))).0 w.4 in
    put-holds AreOwn b.domain c.write.new.self es after put c.write.ensures.own c.self.invariant

pub returns-in-Some-clause-ok : goal.returns-in-Some-clause-ok
returns-in-Some-clause-ok g c =
    let b = c.args.batch.now in
    let entry : Entry = record { batch = b; second = option_copied c.args.second } in
    let es = c.self.inside.domains.entries in
    let at : under b.domain es ≡ Some c.in-Some.domain.now = sym c.in-Some.ensures.value in
    let after = (c.get_mut.follows.lender c.write.new.self).entries in
    let w = c.get_mut.follows.holds c.write.new.self in
    let put : IsPut b.domain c.write.new.self es after = map-put b.domain c.write.new.self es after (w.3 (ap is_some (sym c.in-Some.ensures.value))).0 w.4 in
    on-both c.write.result
    (λ inner may. cell-there entry es c.self.invariant (may-back entry es c.self.invariant (Some c.in-Some.domain.now) at may) (Some c.in-Some.domain.now) at c.write.new.self after put
    (put-holds AreOwn b.domain c.write.new.self es after put c.write.ensures.own c.self.invariant) inner ∙ ap (with_batches entry) c.self.view_is) c.write.ensures.ok c.write.ensures.may

pub returns-in-Some-clause-err : goal.returns-in-Some-clause-err
returns-in-Some-clause-err g c =
    let es = c.self.inside.domains.entries in
    let w = c.get_mut.follows.holds c.write.new.self in
    on-err c.write.result
    (λ e. ap cell_of (w.0 ∙ set_value_same _ es c.write.new.self (sym (ap Some e ∙ c.in-Some.ensures.value))) ∙ c.self.view_is) c.write.ensures.err

pub write-requires-2-clause-own : goal.write-requires-2-clause-own
write-requires-2-clause-own g c = subst (AreOwn c.args.batch.now.domain) (sym c.new-domain.ensures) (none-own c.args.batch.now.domain)

pub write-requires-2-clause-may : goal.write-requires-2-clause-may
write-requires-2-clause-may g c = λ vouched.
    let b = c.args.batch.now in
    let entry : Entry = record { batch = b; second = option_copied c.args.second } in
    let es = c.self.inside.domains.entries in
    let may = subst (λ (cell : Cell). MayBeWrittenTogether (carrying b entry.second) (workflow_of b.domain b.workflow cell)) (sym c.self.view_is) (c.requires.may vouched) in
    let at : under b.domain es ≡ None = sym c.in_default.ensures.value in
    subst (λ (ws : DomainValue). MayBeWrittenTogether (carrying b entry.second) (workflow_or_empty (under b.workflow ws))) (sym c.new-domain.ensures) (may-there entry es c.self.invariant may None at)

pub invariant_of-self-2 : goal.invariant_of-self-2
invariant_of-self-2 g c =
    let b = c.args.batch.now in
    let entry : Entry = record { batch = b; second = option_copied c.args.second } in
    let es = c.self.inside.domains.entries in
    let at : under b.domain es ≡ None = sym c.in_default.ensures.value in
    let after = c.insert.new.self.entries in
    let start = c.get_mut.follows.lender-at-none.entries in
    let put : IsPut b.domain c.write-2.new.self es after = same-put b.domain c.in_ok-name.name c.write-2.new.self c.write-2.new.self es start after c.in_ok-name.ensures refl
    (ap (λ n. n.entries) c.get_mut.follows.holds-at-none) (map-put c.in_ok-name.name c.write-2.new.self start after c.in_ok-insert.ensures.updates.0 c.in_ok-insert.ensures.ordered) in
    put-holds AreOwn b.domain c.write-2.new.self es after put c.write-2.ensures.own c.self.invariant

pub returns-clause-ok : goal.returns-clause-ok
returns-clause-ok g c =
    let b = c.args.batch.now in
    let entry : Entry = record { batch = b; second = option_copied c.args.second } in
    let es = c.self.inside.domains.entries in
    let may = may-back entry es c.self.invariant None (sym c.in_default.ensures.value)
    (subst (λ (ws : DomainValue). MayBeWrittenTogether (carrying b entry.second) (workflow_or_empty (under b.workflow ws))) c.new-domain.ensures c.in-Ok.ensures.may) in
    let at : under b.domain es ≡ None = sym c.in_default.ensures.value in
    let after = c.insert.new.self.entries in
    let start = c.get_mut.follows.lender-at-none.entries in
    let put : IsPut b.domain c.write-2.new.self es after = same-put b.domain c.in_ok-name.name c.write-2.new.self c.write-2.new.self es start after c.in_ok-name.ensures refl
    (ap (λ n. n.entries) c.get_mut.follows.holds-at-none) (map-put c.in_ok-name.name c.write-2.new.self start after c.in_ok-insert.ensures.updates.0 c.in_ok-insert.ensures.ordered) in
    cell-there entry es c.self.invariant may None at c.write-2.new.self after put
    (put-holds AreOwn b.domain c.write-2.new.self es after put c.write-2.ensures.own c.self.invariant)
    (subst (λ (ws : DomainValue). IsPut b.workflow (with_written (carrying b entry.second) (workflow_or_empty (under b.workflow ws))) ws c.write-2.new.self) c.new-domain.ensures c.in-Ok.ensures.ok)
    ∙ ap (with_batches entry) c.self.view_is

pub returns-in-Some-clause-listed : goal.returns-in-Some-clause-listed
returns-in-Some-clause-listed g c =
    let b = c.args.batch.now in
    let es = c.self.inside.domains.entries in
    let at : under b.domain es ≡ Some c.in-Some.domain.now = sym c.in-Some.ensures.value in
    on-ok c.write.result (λ e. subst (λ (v : WorkflowValue). IsListedBefore b (option_copied c.args.second) (learned v.arrived) c.args.due.now c.write.new.due)
    (sym (found-in b.domain b.workflow es c.self.invariant (Some c.in-Some.domain.now) at) ∙ ap (workflow_of b.domain b.workflow) c.self.view_is) e) c.write.ensures.listed

pub returns-clause-listed : goal.returns-clause-listed
returns-clause-listed g c =
    let b = c.args.batch.now in
    let es = c.self.inside.domains.entries in
    let at : under b.domain es ≡ None = sym c.in_default.ensures.value in
    subst (λ (v : WorkflowValue). IsListedBefore b (option_copied c.args.second) (learned v.arrived) c.args.due.now c.write-2.new.due)
    (ap (λ (ws : DomainValue). workflow_or_empty (under b.workflow ws)) c.new-domain.ensures ∙ sym (found-in b.domain b.workflow es c.self.invariant None at) ∙ ap (workflow_of b.domain b.workflow) c.self.view_is) c.in-Ok.ensures.listed

pub returns-in-Some-clause-may : goal.returns-in-Some-clause-may
returns-in-Some-clause-may g c =
    let b = c.args.batch.now in
    let entry : Entry = record { batch = b; second = option_copied c.args.second } in
    on-ok c.write.result
    (λ may. subst (λ (cell : Cell). MayBeWrittenTogether (carrying b entry.second) (workflow_of b.domain b.workflow cell)) c.self.view_is
    (may-back entry c.self.inside.domains.entries c.self.invariant (Some c.in-Some.domain.now) (sym c.in-Some.ensures.value) may)) c.write.ensures.may

pub returns-clause-may : goal.returns-clause-may
returns-clause-may g c =
    let b = c.args.batch.now in
    let entry : Entry = record { batch = b; second = option_copied c.args.second } in
    subst (λ (cell : Cell). MayBeWrittenTogether (carrying b entry.second) (workflow_of b.domain b.workflow cell)) c.self.view_is
    (may-back entry c.self.inside.domains.entries c.self.invariant None (sym c.in_default.ensures.value)
    (subst (λ (ws : DomainValue). MayBeWrittenTogether (carrying b entry.second) (workflow_or_empty (under b.workflow ws))) c.new-domain.ensures c.in-Ok.ensures.may))

pub returns-in-Some-clause-refused : goal.returns-in-Some-clause-refused
returns-in-Some-clause-refused g c =
    let b = c.args.batch.now in
    let es = c.self.inside.domains.entries in
    let at : under b.domain es ≡ Some c.in-Some.domain.now = sym c.in-Some.ensures.value in
    subst (λ (v : WorkflowValue). IfErr c.write.result (λ cause. IsNotWritten cause (carrying b (option_copied c.args.second)) v))
    (sym (found-in b.domain b.workflow es c.self.invariant (Some c.in-Some.domain.now) at) ∙ ap (workflow_of b.domain b.workflow) c.self.view_is) c.write.ensures.refused

pub returns-in-Err-clause-refused : goal.returns-in-Err-clause-refused
returns-in-Err-clause-refused g c =
    let b = c.args.batch.now in
    let es = c.self.inside.domains.entries in
    let at : under b.domain es ≡ None = sym c.in_default.ensures.value in
    subst (IsNotWritten c.in-Err.cause (carrying b (option_copied c.args.second)))
    (ap (λ (ws : DomainValue). workflow_or_empty (under b.workflow ws)) c.new-domain.ensures ∙ sym (found-in b.domain b.workflow es c.self.invariant None at) ∙ ap (workflow_of b.domain b.workflow) c.self.view_is) c.in-Err.ensures.refused
