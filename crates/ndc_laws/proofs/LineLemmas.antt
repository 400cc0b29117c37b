-- Every line lets tables grow, and writes nothing below the versions of records.
use Rattle.std.proofs.Common.{ℕ}
use Rattle.ndc_script_types.specs.WellFormed.{IsWellFormedAct, IsWellFormedHeader}
use Rattle.ndc_script_types.specs.declared.script.Act.{Act}
use Rattle.ndc_script_types.specs.declared.script.Act.TheVariants as act
use Rattle.ndc_script_types.specs.declared.script.Header.{Header}
use Rattle.ndc_domain.specs.Merge.{merged}
use Rattle.ndc_domain.specs.Records.{failover_of, join_of, register_of, retain_of}
use Rattle.ndc_laws_reached.proofs.GrowLemmas.{grows-none}
use Rattle.ndc_laws.specs.Grown.{TablesGrow}
use Rattle.ndc_laws.proofs.GrowLemmas.{complete-grow, failover-grow, handover-grow, join-grow, merge-grow, register-grow, retain-grow, stay-grow}
use Rattle.ndc_laws.proofs.SettleLemmas.{settle-above, settle-grow}
use Rattle.ndc_laws.proofs.StayLemmas.{AreTables, beat-stay, bootstrap-stay, command-stay, damage-stay, flight-stay, mergeletters-stay, pull-some-stay, pull-stay, purge-stay, resend-stay, reset-stay, rewound-stay, sync-stay, trim-stay, work-stay}
use Rattle.ndc_laws.proofs.WriteLemmas.{WritesAbove, above-none, beat-above, bootstrap-above, command-above, complete-above, damage-above, flight-above, handover-above, join-above, mergeletters-above, pull-above, pull-some-above, purge-above, resend-above, reset-above, rewound-above, sync-above, table-above, table-step-above, trim-above, work-above}
use Rattle.ndc_model.specs.Facts.{IsReached}
use Rattle.ndc_model.specs.Lines.{act_step}
use Rattle.ndc_model.specs.Moves.{from_world}
use Rattle.ndc_model.specs.Tables.{failover_words, register_words, retain_words}
use Rattle.ndc_model.specs.World.{World, cluster_at, flight_at}
use Rattle.ndc_queue.specs.Lists.{after_loss, after_move, after_repeat}

pub line-grows : (header : Header) (lines : ℕ) (line : Act) (w : World) → IsWellFormedHeader header → IsWellFormedAct header line → IsReached header lines w → TablesGrow w (act_step header line w).world
unfolding act_step
line-grows header lines line w sound asked is = by line asked
  where
    tables : AreTables header w
    tables = is.fair.records.tables

    same : TablesGrow w w
    same one = grows-none (cluster_at one w).table

    by : (line : Act) → IsWellFormedAct header line → TablesGrow w (act_step header line w).world
    by (act.Command cluster domain workflow command) fit = stay-grow w (act_step header (act.Command cluster domain workflow command) w).world (command-stay header cluster domain workflow command w)
    by (act.Burst cluster jobs) fit = same
    by (act.Register at domain target days members) fit = register-grow header w sound.clusters tables at target domain days members
    by (act.Retain at domain days) fit = retain-grow header w sound.clusters tables at domain days fit.0
    by (act.Join at domain member) fit = join-grow header w sound.clusters tables at member domain fit.0
    by (act.Failover at domain target) fit = failover-grow header w sound.clusters tables at target domain fit.0
    by (act.Domains to from) fit = merge-grow header w sound.clusters tables to (cluster_at from w).table fit.first (tables from fit.second)
    by (act.Domain at domain) fit = same
    by (act.MembersOf at domain) fit = same
    by (act.Pull reader source) fit = stay-grow w (act_step header (act.Pull reader source) w).world (pull-stay reader source w)
    by (act.PullSome reader source shard count) fit = stay-grow w (act_step header (act.PullSome reader source shard count) w).world (pull-some-stay reader source shard count w)
    by (act.Lose reader source shard place) fit = stay-grow w (act_step header (act.Lose reader source shard place) w).world (flight-stay reader source shard w (after_loss place (flight_at reader source shard w)))
    by (act.Repeat reader source shard place) fit = stay-grow w (act_step header (act.Repeat reader source shard place) w).world (flight-stay reader source shard w (after_repeat place (flight_at reader source shard w)))
    by (act.Move reader source shard place to) fit = stay-grow w (act_step header (act.Move reader source shard place to) w).world (flight-stay reader source shard w (after_move place to (flight_at reader source shard w)))
    by (act.Work cluster) fit = stay-grow w (act_step header (act.Work cluster) w).world (work-stay header cluster w)
    by (act.Rewind reader source) fit = stay-grow w (act_step header (act.Rewind reader source) w).world (rewound-stay reader source w)
    by (act.Trim source) fit = stay-grow w (act_step header (act.Trim source) w).world (trim-stay header source w)
    by (act.LevelsOf reader source shard) fit = same
    by (act.Gaps cluster) fit = same
    by (act.Resend cluster) fit = stay-grow w (act_step header (act.Resend cluster) w).world (resend-stay header cluster w)
    by (act.Bootstrap reader source) fit = stay-grow w (act_step header (act.Bootstrap reader source) w).world (bootstrap-stay header reader (from_world w) source)
    by act.Settle fit = settle-grow header w tables
    by (act.History cluster domain workflow) fit = same
    by (act.Branches cluster domain workflow) fit = same
    by (act.Current cluster domain workflow) fit = same
    by (act.StateOf cluster domain workflow) fit = same
    by (act.Dump cluster domain workflow) fit = same
    by (act.Compare one two domain workflow) fit = same
    by (act.Handover at domain target) fit = handover-grow header w sound.clusters tables at target domain fit.0.first
    by (act.Complete at domain) fit = complete-grow header lines w at domain is
    by (act.Reset cluster domain workflow event) fit = stay-grow w (act_step header (act.Reset cluster domain workflow event) w).world (reset-stay header cluster domain workflow event w)
    by (act.Damage reader source shard place cut) fit = stay-grow w (act_step header (act.Damage reader source shard place cut) w).world (damage-stay reader source shard place cut w)
    by (act.LettersOf reader) fit = same
    by (act.Purge reader) fit = stay-grow w (act_step header (act.Purge reader) w).world (purge-stay reader w)
    by (act.MergeLetters reader) fit = stay-grow w (act_step header (act.MergeLetters reader) w).world (mergeletters-stay header reader w)
    by (act.Beat cluster domain workflow id details) fit = stay-grow w (act_step header (act.Beat cluster domain workflow id details) w).world (beat-stay header cluster domain workflow id details w)
    by (act.Sync to from) fit = stay-grow w (act_step header (act.Sync to from) w).world (sync-stay to from w)
    by (act.ProgressOf cluster domain workflow id) fit = same

-- every line writes nothing below the versions of records
pub line-above : (header : Header) (lines : ℕ) (line : Act) (w : World) → IsReached header lines w → WritesAbove w (act_step header line w).world
unfolding act_step
line-above header lines line w is = by line
  where
    by : (line : Act) → WritesAbove w (act_step header line w).world
    by (act.Command cluster domain workflow command) = command-above header cluster domain workflow command w
    by (act.Burst cluster jobs) = above-none w
    by (act.Register at domain target days members) = table-step-above register_words at w (register_of header.clusters at domain target days members (cluster_at at w).table)
    by (act.Retain at domain days) = table-step-above retain_words at w (retain_of at domain days (cluster_at at w).table)
    by (act.Join at domain member) = join-above at w (join_of at domain member (cluster_at at w).table)
    by (act.Failover at domain target) = table-step-above failover_words at w (failover_of header.clusters domain target (cluster_at at w).table)
    by (act.Domains to from) = table-above to (merged (cluster_at to w).table (cluster_at from w).table) w
    by (act.Domain at domain) = above-none w
    by (act.MembersOf at domain) = above-none w
    by (act.Pull reader source) = pull-above reader source w
    by (act.PullSome reader source shard count) = pull-some-above reader source shard count w
    by (act.Lose reader source shard place) = flight-above reader source shard w (after_loss place (flight_at reader source shard w))
    by (act.Repeat reader source shard place) = flight-above reader source shard w (after_repeat place (flight_at reader source shard w))
    by (act.Move reader source shard place to) = flight-above reader source shard w (after_move place to (flight_at reader source shard w))
    by (act.Work cluster) = work-above header cluster w
    by (act.Rewind reader source) = rewound-above reader source w
    by (act.Trim source) = trim-above header source w
    by (act.LevelsOf reader source shard) = above-none w
    by (act.Gaps cluster) = above-none w
    by (act.Resend cluster) = resend-above header cluster w
    by (act.Bootstrap reader source) = bootstrap-above header reader (from_world w) source
    by act.Settle = settle-above header w is.fair.records.tables
    by (act.History cluster domain workflow) = above-none w
    by (act.Branches cluster domain workflow) = above-none w
    by (act.Current cluster domain workflow) = above-none w
    by (act.StateOf cluster domain workflow) = above-none w
    by (act.Dump cluster domain workflow) = above-none w
    by (act.Compare one two domain workflow) = above-none w
    by (act.Handover at domain target) = handover-above header at target domain w
    by (act.Complete at domain) = complete-above at domain w
    by (act.Reset cluster domain workflow event) = reset-above header cluster domain workflow event w
    by (act.Damage reader source shard place cut) = damage-above reader source shard place cut w
    by (act.LettersOf reader) = above-none w
    by (act.Purge reader) = purge-above reader w
    by (act.MergeLetters reader) = mergeletters-above header reader w
    by (act.Beat cluster domain workflow id details) = beat-above header cluster domain workflow id details w
    by (act.Sync to from) = sync-above to from w
    by (act.ProgressOf cluster domain workflow id) = above-none w
