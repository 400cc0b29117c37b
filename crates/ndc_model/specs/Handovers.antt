-- Handing a domain over: begun at its active cluster, and completed at the target once this has all that was written before.
use Rattle.std.specs.Prelude.{ℕ, Bool, not, is_some, List, [], ◌∷◌, ◌++◌, map, length, codes, decimal, find, Option, Some, None, Result, Ok, Err, if◌then◌else◌, ◌&&◌}
use Rattle.std.specs.List.{filter}
use Rattle.std.specs.Str.{bytes_eq}
use Rattle.ndc_script_types.specs.declared.script.Header.{Header}
use Rattle.ndc_model_cells.specs.Writing.{same_cluster}
use Rattle.ndc_domain.specs.Merge.{merged}
use Rattle.ndc_domain.specs.Records.{only_of, record_of}
use Rattle.ndc_domain.specs.declared.clusters.ClusterNo.{ClusterNo}
use Rattle.ndc_domain.specs.declared.record.DomainRecord.{DomainRecord}
use Rattle.ndc_event.specs.declared.name.Name.{Name}
use Rattle.ndc_graceful.specs.Begin.{begin_of}
use Rattle.ndc_graceful.specs.Ready.{ready_of}
use Rattle.ndc_graceful.specs.declared.handover.BeginError.{BeginError}
use Rattle.ndc_graceful.specs.declared.handover.BeginError.TheVariants as begin
use Rattle.ndc_graceful.specs.declared.handover.Handover.{Handover}
use Rattle.ndc_graceful.specs.declared.handover.ReadyError.{ReadyError}
use Rattle.ndc_graceful.specs.declared.handover.ReadyError.TheVariants.{BootstrapDue, NotYet, Overtaken}
use Rattle.ndc_queue.specs.Levels.{LevelPair}
use Rattle.ndc_model.specs.Steps.{Stepped, answered}
use Rattle.ndc_model.specs.Texts.{ok, refused}
use Rattle.ndc_model.specs.World.{World, cluster_at, is_late_in, link_at, queue_at, shards_of, with_table}

-- whether a handover is of this domain
abbrev pub is_handover_of : Name → Handover → Bool
is_handover_of domain handover = bytes_eq handover.domain domain

-- the open handover of a domain, where there is one
abbrev pub open_handover : Name → World → Option Handover
open_handover domain w = find (is_handover_of domain) w.handovers

-- a handover is opened
abbrev pub with_handover : Handover → World → World
with_handover handover w = record w { handovers = w.handovers ++ handover ∷ [] }

-- the handover of a domain is ended
abbrev pub without_handover : Name → World → World
without_handover domain w = record w { handovers = filter (λ handover. not (is_handover_of domain handover)) w.handovers }

-- where the queues of a cluster end, by shard: up to there the target has to be done
abbrev pub queue_ends : Header → ClusterNo → World → List ℕ
queue_ends header cluster w = map (λ shard. length (queue_at cluster shard w)) (shards_of header)

-- how the refusals of a handover's beginning are printed
abbrev pub begin_words : BeginError → List (List ℕ)
begin_words begin.UnknownDomain = codes "UnknownDomain" ∷ []
begin_words (begin.NotActive version) = codes "NotActive" ∷ decimal version ∷ []
begin_words begin.VersionLimit = codes "VersionLimit" ∷ []
begin_words begin.NotMember = codes "NotMember" ∷ []
begin_words begin.Memory = []

-- a handover is opened and the table taken over, or the beginning is refused
abbrev pub handover_begun : ClusterNo → World → Result (Handover × List DomainRecord) BeginError → Stepped
handover_begun at w (Err error) = answered w (refused (begin_words error))
handover_begun at w (Ok begun) = answered (with_handover begun.0 (with_table at begun.1 w)) (ok (decimal begun.0.new ∷ []))

-- `handover`: no other one of the domain may be open
unfoldable pub handover_step : Header → ClusterNo → Name → ClusterNo → World → Stepped
handover_step header at domain target w =
    if is_some (open_handover domain w) then answered w (refused (codes "HandoverOpen" ∷ []))
    else handover_begun at w (begin_of header.clusters at domain target (queue_ends header at w) (cluster_at at w).table)

-- the version of a record, 0 where there is none
abbrev pub version_or_zero : Option DomainRecord → ℕ
version_or_zero None = 0
version_or_zero (Some one) = one.version

-- the levels of a reader for the queues of a source, by shard
abbrev pub levels_of : ClusterNo → ClusterNo → World → List LevelPair
levels_of reader source w = map (λ lane. lane.levels) (link_at reader source w).lanes

-- the target merges the one record, and the handover ends
abbrev pub handed_over : Handover → World → World
handed_over handover w =
    without_handover handover.domain
    (with_table handover.to (merged (cluster_at handover.to w).table (only_of (cluster_at handover.from w).table handover.domain)) w)

-- the version of the target's record of the domain
abbrev pub taken_version : Handover → World → ℕ
taken_version handover w = version_or_zero (record_of (cluster_at handover.to w).table handover.domain)

-- a handover is completed where it is ready; where the target's record has come to the new version, this ends it too
abbrev pub complete_by : Handover → World → Result (Unit {0}) ReadyError → Stepped
complete_by handover w (Ok ready) = answered (handed_over handover w) (ok (decimal (taken_version handover (handed_over handover w)) ∷ []))
complete_by handover w (Err (Overtaken version)) = answered (without_handover handover.domain w) (refused (codes "Overtaken" ∷ decimal version ∷ []))
complete_by handover w (Err BootstrapDue) = answered w (refused (codes "BootstrapDue" ∷ []))
complete_by handover w (Err (NotYet shard done place)) = answered w (refused (codes "NotYet" ∷ decimal shard ∷ decimal done ∷ decimal place ∷ []))

-- whether a handover is ready in a world, or what keeps it
abbrev pub ready_in : Handover → World → Result (Unit {0}) ReadyError
ready_in handover w =
    ready_of handover (levels_of handover.to handover.from w) (is_late_in handover.domain (link_at handover.to handover.from w)) (cluster_at handover.to w).table

-- the open handover of a domain to a target, where there is one
abbrev pub handover_to : ClusterNo → Name → World → Option Handover
handover_to target domain w = find (λ handover. is_handover_of domain handover && same_cluster handover.to target) w.handovers

-- the target completes a handover to it
abbrev pub complete_open : World → Option Handover → Stepped
complete_open w None = answered w (refused (codes "NoHandover" ∷ []))
complete_open w (Some handover) = complete_by handover w (ready_in handover w)

-- `complete`
unfoldable pub complete_step : ClusterNo → Name → World → Stepped
complete_step at domain w = complete_open w (handover_to at domain w)
