-- Every line keeps a world as it should be, where writing does.
use Rattle.std.proofs.Common.{ℕ, ◌+◌, ◌*◌, ◌<◌, ◌≤◌, arith}
use Rattle.ndc_script_types.specs.WellFormed.{IsCluster, IsWellFormedAct, IsWellFormedHeader}
use Rattle.ndc_script_types.specs.declared.script.Act.{Act}
use Rattle.ndc_script_types.specs.declared.script.Act.TheVariants as act
use Rattle.ndc_script_types.specs.declared.script.Header.{Header}
use Rattle.ndc_domain.specs.declared.clusters.ClusterNo.{ClusterNo}
use Rattle.ndc_event.specs.declared.name.Name.{Name}
use Rattle.ndc_model.specs.Facts.{IsReached}
use Rattle.ndc_model.specs.Lines.{act_step}
use Rattle.ndc_model.specs.Moves.{Trace, after_settlement, flights_arrived, from_world, reapplied_all, renewed, settled_once, without_flights, worked}
use Rattle.ndc_model.specs.Sending.{settle_step, work_step}
use Rattle.ndc_model.specs.World.{World, all_clusters}
use Rattle.ndc_model.proofs.ListLemmas.{fold-keeps}
use Rattle.ndc_laws_reached.specs.Writing.{ApplyingKeeps, WritingKeeps, count_in}
use Rattle.ndc_laws_reached.proofs.LaneLemmas.{emptied, lost, moved-on, pulled, pulled-some, renewed-all, repeated, rewound-all}
use Rattle.ndc_laws_reached.proofs.TrimLemmas.{trimmed}
use Rattle.ndc_laws_reached.proofs.ArrivalLaws.{bootstrapped_kept, damaged_kept, flights_kept, merged_kept, purged_kept, resent_kept}
use Rattle.ndc_laws_reached.proofs.HandoverLemmas.{complete_kept, handover_kept}
use Rattle.ndc_laws_reached.proofs.DomainLineLemmas.{failover_kept, join_kept, register_kept, retain_kept}
use Rattle.ndc_laws_reached.proofs.MergeLemmas.{domains_kept}
use Rattle.ndc_laws_reached.proofs.PutLemmas.{lines_pass}
use Rattle.ndc_laws_reached.proofs.BeatLemmas.{beat_kept}
use Rattle.ndc_laws_reached.proofs.ReportLemmas.{sync_kept}
use Rattle.ndc_laws_reached.proofs.RoundLemmas.{reapplied-round}
use Rattle.ndc_laws_reached.proofs.SettleLemmas.{settled-one}

-- a cluster may apply its strays again, where there is room for one batch more in each workflow
pub reapplied_kept : (header : Header) (lines : ℕ) (cluster : ClusterNo) (t : Trace) → IsCluster header cluster → ApplyingKeeps header lines → IsReached header lines t.world
    → ((domain workflow : Name) → count_in header domain workflow t.world + 1 ≤ 2 * lines) → IsReached header lines (reapplied_all header t cluster).world
reapplied_kept header lines cluster t known keeps is room = (reapplied-round header lines keeps cluster known t is (λ domain workflow owned. room domain workflow)).reached

-- it writes one batch more to each workflow at most
pub reapplied_most : (header : Header) (lines : ℕ) (cluster : ClusterNo) (t : Trace) → IsCluster header cluster → ApplyingKeeps header lines → IsReached header lines t.world
    → ((domain workflow : Name) → count_in header domain workflow t.world + 1 ≤ 2 * lines) → (domain workflow : Name) → count_in header domain workflow (reapplied_all header t cluster).world ≤ count_in header domain workflow t.world + 1
reapplied_most header lines cluster t known keeps is room = (reapplied-round header lines keeps cluster known t is (λ domain workflow owned. room domain workflow)).most

-- one round of settlement
pub settled_kept : (header : Header) (lines : ℕ) (t : Trace) → ApplyingKeeps header lines → IsReached header lines t.world
    → ((domain workflow : Name) → count_in header domain workflow t.world + 1 ≤ 2 * lines) → IsReached header lines (settled_once header t).world
settled_kept header lines t keeps is room = (settled-one header lines keeps t is room).0

pub settled_most : (header : Header) (lines : ℕ) (t : Trace) → ApplyingKeeps header lines → IsReached header lines t.world
    → ((domain workflow : Name) → count_in header domain workflow t.world + 1 ≤ 2 * lines) → (domain workflow : Name) → count_in header domain workflow (settled_once header t).world ≤ count_in header domain workflow t.world + 1
settled_most header lines t keeps is room = (settled-one header lines keeps t is room).1

-- one line more was run
pub more-lines : (header : Header) (lines : ℕ) (w : World) → lines < 100000 → IsReached header lines w → IsReached header (lines + 1) w
more-lines header lines w below is = lines_pass header lines (lines + 1) w (omega arith) (omega (arith, below)) is

-- then there is room for two batches more in each workflow
pub room-for : (header : Header) (lines : ℕ) (w : World) → IsReached header lines w → (domain workflow : Name) → count_in header domain workflow w + 2 ≤ 2 * (lines + 1)
room-for header lines w is domain workflow = omega (arith, (is.fair.numbers.written domain workflow).batches_most)

-- a cluster works
pub work_kept : (header : Header) (lines : ℕ) (cluster : ClusterNo) (w : World) → IsCluster header cluster → lines < 100000 → ApplyingKeeps header (lines + 1) → IsReached header lines w
    → IsReached header (lines + 1) (work_step header cluster w).world
unfolding worked
work_kept header lines cluster w known below keeps is =
    renewed-all header (lines + 1) (reapplied_all header (flights_arrived header cluster w) cluster).world
    (reapplied_kept header (lines + 1) cluster (flights_arrived header cluster w) known keeps (more-lines header lines (flights_arrived header cluster w).world below arrived)
    (λ domain workflow. omega (arith, room-for header lines (flights_arrived header cluster w).world arrived domain workflow))) cluster
  where
    arrived : IsReached header lines (flights_arrived header cluster w).world
    arrived = flights_kept header lines cluster w known is

-- all is settled
pub settle_kept : (header : Header) (lines : ℕ) (w : World) → lines < 100000 → ApplyingKeeps header (lines + 1) → IsReached header lines w → IsReached header (lines + 1) (settle_step header w).world
unfolding after_settlement
settle_kept header lines w below keeps is =
    fold-keeps (IsReached header (lines + 1)) renewed (all_clusters header) (λ v reader among kept. renewed-all header (lines + 1) v kept reader) (settled_once header (settled_once header start)).world
    (settled_kept header (lines + 1) (settled_once header start) keeps (settled_kept header (lines + 1) start keeps begun (λ domain workflow. omega (arith, room domain workflow)))
    (λ domain workflow. omega (arith, room domain workflow, settled_most header (lines + 1) start keeps begun (λ d u. omega (arith, room d u)) domain workflow)))
  where
    start : Trace
    start = from_world (without_flights w)

    begun : IsReached header (lines + 1) (without_flights w)
    begun = more-lines header lines (without_flights w) below (emptied header lines w is)

    room : (domain workflow : Name) → count_in header domain workflow (without_flights w) + 2 ≤ 2 * (lines + 1)
    room = room-for header lines (without_flights w) (emptied header lines w is)

-- every line
pub line_kept : (header : Header) (lines : ℕ) (line : Act) (w : World) → IsWellFormedHeader header → IsWellFormedAct header line → lines < 100000 → WritingKeeps header lines → IsReached header lines w
    → IsReached header (lines + 1) (act_step header line w).world
unfolding act_step
line_kept header lines line w sound asked below writes is = by line asked
  where
    more : (v : World) → IsReached header lines v → IsReached header (lines + 1) v
    more v kept = more-lines header lines v below kept

    by : (line : Act) → IsWellFormedAct header line → IsReached header (lines + 1) (act_step header line w).world
    by (act.Command cluster domain workflow command) fit = writes.command cluster domain workflow command w fit is
    by (act.Burst cluster jobs) fit = more w is
    by (act.Register at domain target days members) fit = more _ (register_kept header lines at target domain days members w sound.clusters fit is)
    by (act.Retain at domain days) fit = retain_kept header lines at domain days w fit.0 below is
    by (act.Join at domain member) fit = more _ (join_kept header lines at member domain w fit.0 fit.2 is)
    by (act.Failover at domain target) fit = more _ (failover_kept header lines at target domain w sound.clusters fit.0 is)
    by (act.Domains to from) fit = more _ (domains_kept header lines to from w fit.first fit.second is)
    by (act.Domain at domain) fit = more w is
    by (act.MembersOf at domain) fit = more w is
    by (act.Pull reader source) fit = more _ (pulled header lines w is reader source)
    by (act.PullSome reader source shard count) fit = more _ (pulled-some header lines w is reader source shard count)
    by (act.Lose reader source shard place) fit = more _ (lost header lines w is reader source shard place)
    by (act.Repeat reader source shard place) fit = more _ (repeated header lines w is reader source shard place)
    by (act.Move reader source shard place to) fit = more _ (moved-on header lines w is reader source shard place to)
    by (act.Work cluster) fit = work_kept header lines cluster w fit below writes.applied is
    by (act.Rewind reader source) fit = more _ (rewound-all header lines w is reader source)
    by (act.Trim source) fit = more _ (trimmed header lines source w is)
    by (act.LevelsOf reader source shard) fit = more w is
    by (act.Gaps cluster) fit = more w is
    by (act.Resend cluster) fit = more _ (resent_kept header lines cluster w fit is)
    by (act.Bootstrap reader source) fit = more _ (bootstrapped_kept header lines reader source (from_world w) fit is)
    by act.Settle fit = settle_kept header lines w below writes.applied is
    by (act.History cluster domain workflow) fit = more w is
    by (act.Branches cluster domain workflow) fit = more w is
    by (act.Current cluster domain workflow) fit = more w is
    by (act.StateOf cluster domain workflow) fit = more w is
    by (act.Dump cluster domain workflow) fit = more w is
    by (act.Compare one two domain workflow) fit = more w is
    by (act.Handover at domain target) fit = more _ (handover_kept header lines at target domain w sound.clusters fit.0 is)
    by (act.Complete at domain) fit = more _ (complete_kept header lines at domain w is)
    by (act.Reset cluster domain workflow event) fit = writes.reset cluster domain workflow event w fit is
    by (act.Damage reader source shard place cut) fit = more _ (damaged_kept header lines reader source shard place cut w fit.0 fit.1 is)
    by (act.LettersOf reader) fit = more w is
    by (act.Purge reader) fit = more _ (purged_kept header lines reader w fit is)
    by (act.MergeLetters reader) fit = more _ (merged_kept header lines reader w fit (omega (arith, sound.shards_least)) is)
    by (act.Beat cluster domain workflow id details) fit = beat_kept header lines cluster domain workflow id details w fit.0.known below is
    by (act.Sync to from) fit = more _ (sync_kept header lines to from w fit is)
    by (act.ProgressOf cluster domain workflow id) fit = more w is
