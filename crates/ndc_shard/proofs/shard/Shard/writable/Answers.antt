use Rattle.std.proofs.Common.{◌≡◌, ℕ, Result, ap, sym, ◌∙◌}
use Rattle.ndc_command.specs.declared.refusal.Refusal.{Refusal}
use Rattle.ndc_event.specs.Outcome.{◌>>=◌}
use Rattle.ndc_model_cells.specs.Cells.{learned_of}
use Rattle.ndc_shard.proofs.FoundLemmas.{may-parts}
use Rattle.ndc_shard_entries.proofs.WriterLemmas.{none_greater}
use Rattle.ndc_shard_entries.specs.Writer.{unless_behind}
use Rattle.ndc_shard.proofs.shard.Shard.writable.Goals as goal
use Rattle.ndc_shard.proofs.shard.Shard.writable.Goals.{in-None, in-Some}

pub returns-in-Err-clause-version : goal.returns-in-Err-clause-version
returns-in-Err-clause-version c =
    sym (may-parts c.args.desk.now c.args.domain.now c.args.workflow.now c.args.self.now c.version_of.result c.version_of.ensures)
    ∙ ap (λ (r : Result ℕ Refusal). r >>= λ version. unless_behind version (learned_of c.args.domain.now c.args.workflow.now c.args.self.now)) c.in-Err.is

pub returns-in-Ok-version-clause-version : goal.returns-in-Ok-version-clause-version
returns-in-Ok-version-clause-version c =
    let judged : c.match-runs.version ≡ unless_behind c.in-Ok.version (learned_of c.args.domain.now c.args.workflow.now c.args.self.now) =
    elim c.match-runs.branch [
      | in-Some w ↦ w.version-is ∙ w.unless_behind-version.ensures ∙ ap (unless_behind c.in-Ok.version) w.in-Some.ensures.found
      | in-None w ↦ w.version-is ∙ sym (none_greater c.in-Ok.version) ∙ ap (unless_behind c.in-Ok.version) (sym w.in-None.ensures.none)
    ] in
    sym (may-parts c.args.desk.now c.args.domain.now c.args.workflow.now c.args.self.now c.version_of.result c.version_of.ensures)
    ∙ ap (λ (r : Result ℕ Refusal). r >>= λ version. unless_behind version (learned_of c.args.domain.now c.args.workflow.now c.args.self.now)) c.in-Ok.is
    ∙ sym judged ∙ c.in-Ok-version.is

pub returns-in-Err-version-clause-version : goal.returns-in-Err-version-clause-version
returns-in-Err-version-clause-version c =
    let judged : c.match-runs.version ≡ unless_behind c.in-Ok.version (learned_of c.args.domain.now c.args.workflow.now c.args.self.now) =
    elim c.match-runs.branch [
      | in-Some w ↦ w.version-is ∙ w.unless_behind-version.ensures ∙ ap (unless_behind c.in-Ok.version) w.in-Some.ensures.found
      | in-None w ↦ w.version-is ∙ sym (none_greater c.in-Ok.version) ∙ ap (unless_behind c.in-Ok.version) (sym w.in-None.ensures.none)
    ] in
    sym (may-parts c.args.desk.now c.args.domain.now c.args.workflow.now c.args.self.now c.version_of.result c.version_of.ensures)
    ∙ ap (λ (r : Result ℕ Refusal). r >>= λ version. unless_behind version (learned_of c.args.domain.now c.args.workflow.now c.args.self.now)) c.in-Ok.is
    ∙ sym judged ∙ c.in-Err-version.is
