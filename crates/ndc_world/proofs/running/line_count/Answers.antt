use Rattle.std.proofs.Common.{◌≡◌, ℕ, List, length, refl}
use Rattle.ndc_domain.specs.declared.clusters.ClusterNo.{ClusterNo}
use Rattle.ndc_model.specs.Lines.{lines_of_act}
use Rattle.ndc_script_types.specs.declared.script.Act.{Act}
use Rattle.ndc_script_types.specs.declared.script.Act.TheVariants as act
use Rattle.ndc_script_types.specs.declared.script.BurstJob.{BurstJob}
use Rattle.ndc_world.proofs.running.line_count.Goals as goal

-- what is not a burst is one line
one-line : (number : ℕ) (asked : Act) → ((cluster : ClusterNo) (jobs : List BurstJob) → asked ≡ act.Burst cluster jobs → ⊥) → 1 ≡ length (lines_of_act number asked)
one-line number (act.Command cluster domain workflow command) other = refl
one-line number (act.Burst cluster jobs) other = absurd (other cluster jobs refl)
one-line number (act.Register at domain target days members) other = refl
one-line number (act.Retain at domain days) other = refl
one-line number (act.Join at domain member) other = refl
one-line number (act.Failover at domain target) other = refl
one-line number (act.Domains to from) other = refl
one-line number (act.Domain at domain) other = refl
one-line number (act.MembersOf at domain) other = refl
one-line number (act.Pull reader source) other = refl
one-line number (act.PullSome reader source shard count) other = refl
one-line number (act.Lose reader source shard place) other = refl
one-line number (act.Repeat reader source shard place) other = refl
one-line number (act.Move reader source shard place to) other = refl
one-line number (act.Work cluster) other = refl
one-line number (act.Rewind reader source) other = refl
one-line number (act.Trim source) other = refl
one-line number (act.LevelsOf reader source shard) other = refl
one-line number (act.Gaps cluster) other = refl
one-line number (act.Resend cluster) other = refl
one-line number (act.Bootstrap reader source) other = refl
one-line number act.Settle other = refl
one-line number (act.History cluster domain workflow) other = refl
one-line number (act.Branches cluster domain workflow) other = refl
one-line number (act.Current cluster domain workflow) other = refl
one-line number (act.StateOf cluster domain workflow) other = refl
one-line number (act.Dump cluster domain workflow) other = refl
one-line number (act.Compare one two domain workflow) other = refl
one-line number (act.Handover at domain target) other = refl
one-line number (act.Complete at domain) other = refl
one-line number (act.Reset cluster domain workflow event) other = refl
one-line number (act.Damage reader source shard place cut) other = refl
one-line number (act.LettersOf reader) other = refl
one-line number (act.Purge reader) other = refl
one-line number (act.MergeLetters reader) other = refl
one-line number (act.Beat cluster domain workflow id details) other = refl
one-line number (act.Sync to from) other = refl
one-line number (act.ProgressOf cluster domain workflow id) other = refl

pub returns-in_default : goal.returns-in_default
returns-in_default c = λ number. one-line number c.args.asked.now c.in_default.not-Burst
