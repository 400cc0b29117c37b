use Rattle.std.proofs.Common.{◌≡◌, ◌++◌, [], ◌∷◌, List, Some, refl, sym, ◌∙◌, subst, ap}
use Rattle.ndc_event.specs.declared.batch.Batch.{Batch}
use Rattle.ndc_model_cells.specs.Writing.{Entry, reapplication_of}
use Rattle.ndc_shard.proofs.LoneLemmas.{again_lone}
use Rattle.ndc_shard.proofs.TriedLemmas.{again-all, again-alone, again-done, again-full, again-large, again-passed, again-placed, again-planned, none-applied, none-placed}
use Rattle.ndc_shard.proofs.TryLemmas.{entry-made, entry-message}
use Rattle.ndc_shard.specs.Answers.{names_of}
use Rattle.ndc_shard.specs.Trying.{IsPassedOver, Standing}
use Rattle.ndc_shard.specs.declared.error.TryError.{TryError}
use Rattle.ndc_shard.proofs.shard.Shard.try_reapply_in.Goals as goal

pub try_write-requires-clause-message : goal.try_write-requires-clause-message
try_write-requires-clause-message g c =
    entry-message _ c.args.domain.now c.args.workflow.now c.in-Some.entry
    (again-planned c.args.desk.now c.args.domain.now c.args.workflow.now c.may_apply.new.self c.reapplication.new.self c.in_ok-entry.field-0 c.in-Some.entry c.in_ok-entry.ensures.same c.in-Some.is
    c.in_ok-entry.ensures.entry c.in_ok-entry.ensures.fit)

pub try_write-requires-clause-made : goal.try_write-requires-clause-made
try_write-requires-clause-made g c =
    entry-made _ c.args.domain.now c.args.workflow.now c.in-Some.entry
    (again-planned c.args.desk.now c.args.domain.now c.args.workflow.now c.may_apply.new.self c.reapplication.new.self c.in_ok-entry.field-0 c.in-Some.entry c.in_ok-entry.ensures.same c.in-Some.is
    c.in_ok-entry.ensures.entry c.in_ok-entry.ensures.fit)
    (c.has_small_ids.ensures.small c.if-not-has_small_ids.false)

pub try_write-requires-clause-lone : goal.try_write-requires-clause-lone
try_write-requires-clause-lone g c =
    again_lone c.args.desk.now c.args.domain.now c.args.workflow.now c.may_apply.new.self c.in_ok-entry.field-0 c.in-Some.entry c.in-Some.is c.in_ok-entry.ensures.entry

pub returns-clause-places : goal.returns-clause-places
returns-clause-places g c =
    let all : reapplication_of c.args.desk.now c.args.domain.now c.args.workflow.now c.args.self.now ≡ c.in-Some.entry ∷ [] =
    again-all c.args.desk.now c.args.domain.now c.args.workflow.now c.args.self.now c.in_ok-entry.field-0 c.in-Some.entry c.in-Some.is
    (c.in_ok-entry.ensures.entry ∙ ap (reapplication_of c.args.desk.now c.args.domain.now c.args.workflow.now) c.in_ok-may_apply.ensures.same) in
    again-placed c.args.desk.now c.args.domain.now c.args.workflow.now c.args.self.now c.in-Some.entry c.args.written.now.items c.push_reserved.new.self.items all
    (again-alone c.args.desk.now c.args.domain.now c.args.workflow.now c.args.self.now c.in-Some.entry all)
    (c.push_reserved.ensures.items ∙ ap (λ (l : List Standing). l ++ c.in_ok-place.place ∷ []) c.in_ok-reserve.ensures.items
    ∙ ap (λ (p : Standing). c.args.written.now.items ++ p ∷ []) (c.in_ok-place.ensures ∙ ap names_of c.batch.ensures))

pub returns-in-Err-clause-why : goal.returns-in-Err-clause-why
returns-in-Err-clause-why g c =
    let all : reapplication_of c.args.desk.now c.args.domain.now c.args.workflow.now c.args.self.now ≡ c.in-Some.entry ∷ [] =
    again-all c.args.desk.now c.args.domain.now c.args.workflow.now c.args.self.now c.in_ok-entry.field-0 c.in-Some.entry c.in-Some.is
    (c.in_ok-entry.ensures.entry ∙ ap (reapplication_of c.args.desk.now c.args.domain.now c.args.workflow.now) c.in_ok-may_apply.ensures.same) in
    subst (λ (why : TryError). IsPassedOver why c.args.desk.now (c.args.domain.now, c.args.workflow.now) c.args.self.now) (sym c.in_ok-why-in-Err.ensures.told)
    (again-passed c.in-Err.cause c.args.desk.now c.args.domain.now c.args.workflow.now c.args.self.now c.reapplication.new.self c.in-Some.entry c.in_ok-why-in-Err.ensures.calm
    (c.in_ok-entry.ensures.same ∙ c.in_ok-may_apply.ensures.same)
    (again-planned c.args.desk.now c.args.domain.now c.args.workflow.now c.may_apply.new.self c.reapplication.new.self c.in_ok-entry.field-0 c.in-Some.entry c.in_ok-entry.ensures.same c.in-Some.is
    c.in_ok-entry.ensures.entry c.in_ok-entry.ensures.fit) all c.in-Err.ensures.refused)
