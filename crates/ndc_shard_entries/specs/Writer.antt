-- Whether a cluster may write, by its record of the domain alone, and then by what is learned of the workflow.
use Rattle.std.specs.Prelude.{ℕ, not, nat_lt, List, Option, Some, None, Result, Ok, Err, if◌then◌else◌}
use Rattle.ndc_command.specs.declared.refusal.Refusal.{Refusal}
use Rattle.ndc_command.specs.declared.refusal.Refusal.TheVariants as refusal
use Rattle.ndc_domain.specs.Clusters.{writer_of}
use Rattle.ndc_domain.specs.declared.record.DomainRecord.{DomainRecord}
use Rattle.ndc_event.specs.declared.batch.Batch.{Batch}
use Rattle.ndc_model_cells.specs.Writing.{Desk, greatest_version, is_writer}

-- the version with which a cluster writes to a domain: that of its record, where it is the writer of it
abbrev pub writes_to : Desk → Option DomainRecord → Result ℕ Refusal
writes_to home None = Err refusal.UnknownDomain
writes_to home (Some one) = if not (is_writer home.me (writer_of home.clusters one.version)) then Err (refusal.NotActive one.version) else Ok one.version

-- the same version, unless a greater one is learned
abbrev pub unless_behind : ℕ → List Batch → Result ℕ Refusal
unless_behind version batches = if nat_lt version (greatest_version batches) then Err (refusal.Behind (greatest_version batches)) else Ok version
