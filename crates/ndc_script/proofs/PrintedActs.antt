-- Printed lines are read again.
use Rattle.std.proofs.Common.{◌≡◌, ℕ, ◌+◌, false, List, [], ◌∷◌, ◌++◌, map, Option, Ok, codes, refl, ap, ◌∙◌, arith}
use Rattle.std.specs.List.{AllByRecursion as ByRecursion}
use Rattle.std.proofs.lemmas.List.Elements.{recursion_from_All}
use Rattle.std.proofs.lemmas.Slice.Eq.{bytes_eq-Decides}
use Rattle.ndc_command.specs.declared.command.Command.{Command}
use Rattle.ndc_domain.specs.Clusters.{name_of}
use Rattle.ndc_domain.specs.declared.clusters.ClusterNo.{ClusterNo}
use Rattle.ndc_script_types.specs.declared.script.Act.{Act}
use Rattle.ndc_script_types.specs.declared.script.Act.TheVariants as act
use Rattle.ndc_script_types.specs.declared.script.BurstJob.{BurstJob}
use Rattle.ndc_script_types.specs.declared.script.Header.{Header}
use Rattle.ndc_script_words.specs.declared.text.Reading.TheVariants.{Readable}
use Rattle.ndc_script_words.specs.declared.verb.Verb.{Verb}
use Rattle.ndc_script_words.specs.Text.{KeptLine}
use Rattle.ndc_script_read.specs.Body.{job_at, job_line, job_by, words_job, is_end, jobs_of, burst_line, act_by, verb_act, words_act}
use Rattle.ndc_script_read.specs.Commands.{command_line}
use Rattle.ndc_script_read.specs.Register.{register_line, register_with}
use Rattle.ndc_script_read.specs.Lines.{cluster_line, pair_line, domain_line, retain_line, target_line, handover_line, levels_line, place_line, pull_line, places_with, places_line, settle_line, workflow_line, compare_line, reset_line, beat_with, beat_line, progress_line}
use Rattle.ndc_script_types.specs.Print.{command_words, job_words, act_words, lines_behind, jobs_from, act_numbered}
use Rattle.ndc_script_words.specs.Verbs.{verb_to_b, verb_c, verb_d, verb_to_h, verb_to_m, verb_to_q, verb_r, verb_s, verb_from_t, verb_of}
use Rattle.ndc_script_types.specs.WellFormed.{IsWellFormedHeader, IsWorkflowAt, IsWellFormedCommand, IsWellFormedJob, IsWellFormedAct}
use Rattle.ndc_script.proofs.PrintedCommands.{operands, command_words-is, verb_of-first_word, command-again}
use Rattle.ndc_script.proofs.PrintedLines.{kept_numbered}
use Rattle.ndc_script.proofs.PrintedMembers.{known-name, member_words-again}
use Rattle.ndc_script.proofs.PrintedOperands.{named-name, numbered-decimal, shard-decimal, place-decimal, both-names, two-names, workflow-names}

-- a command line is read again
command_line-again : (header : Header) (end line : ℕ) (cluster : ClusterNo) (domain workflow : List ℕ) (asked : Command) (rest : List KeptLine) → IsWellFormedHeader header → IsWorkflowAt header cluster domain workflow → IsWellFormedCommand asked → words_act header end line (command_words (name_of header.clusters cluster) domain workflow asked) rest ≡ Ok (act.Command cluster domain workflow asked)
unfolding words_act verb_act command_line
command_line-again header end line cluster domain workflow asked rest sound at fit =
    ap (λ (words : List (List ℕ)). words_act header end line words rest) (command_words-is (name_of header.clusters cluster) domain workflow asked)
    ∙ ap (λ (begins : Option Verb). act_by header end line begins (name_of header.clusters cluster ∷ domain ∷ workflow ∷ operands asked) rest) (verb_of-first_word asked)
    ∙ rw (command-again line asked fit, workflow-names header line cluster domain workflow sound.clusters at) refl

-- a job of a burst is read again, with the number of its line
job-again : (name : List ℕ) (line : ℕ) (job : BurstJob) → IsWellFormedJob job → words_job name line (job_words name job) ≡ Ok (record { number = line; domain = job.domain; workflow = job.workflow; command = job.command })
unfolding words_job job_line job_at
job-again name line job fit =
    ap (words_job name line) (command_words-is name job.domain job.workflow job.command)
    ∙ ap (λ (begins : Option Verb). job_by name line begins (name ∷ job.domain ∷ job.workflow ∷ operands job.command)) (verb_of-first_word job.command)
    ∙ rw ((bytes_eq-Decides name name).1 refl, command-again line job.command fit.command, named-name line job.domain fit.domain, named-name line job.workflow fit.workflow) refl

-- the line of a job does not end a burst
job_goes : (name : List ℕ) (job : BurstJob) → is_end Readable (job_words name job) ≡ false
job_goes name job = ap (is_end Readable) (command_words-is name job.domain job.workflow job.command)

-- the jobs of a burst are read again, up to its `end`
jobs-again : (end : ℕ) (name : List ℕ) (number : ℕ) (jobs : List BurstJob) (rest : List KeptLine) → ByRecursion IsWellFormedJob jobs → jobs_of end name (kept_numbered number (map (job_words name) jobs ++ (codes "end" ∷ []) ∷ []) ++ rest) ≡ Ok (jobs_from number jobs)
unfolding jobs_of
jobs-again end name number [] rest fit = refl
jobs-again end name number (job ∷ jobs) rest fit =
    rw (job_goes name job, job-again name number job fit.0, jobs-again end name (number + 1) jobs rest fit.1) refl

-- what is printed of a line, with the lines after it, is read again
pub act-again : (header : Header) (end line : ℕ) (asked : Act) (rest : List KeptLine) → IsWellFormedHeader header → IsWellFormedAct header asked → words_act header end line (act_words header asked) (kept_numbered (line + 1) (lines_behind header asked) ++ rest) ≡ Ok (act_numbered line asked)
unfolding words_act verb_act verb_of verb_to_b verb_c verb_d verb_to_h verb_to_m verb_to_q verb_r verb_s verb_from_t burst_line register_line register_with cluster_line pair_line domain_line retain_line target_line handover_line levels_line place_line pull_line places_with places_line settle_line workflow_line compare_line reset_line beat_with beat_line progress_line
act-again header end line (act.Command cluster domain workflow command) rest sound fit =
    command_line-again header end line cluster domain workflow command rest sound fit.0 fit.1
act-again header end line (act.Burst cluster jobs) rest sound fit =
    rw (
      known-name header line cluster sound.clusters fit.0,
      jobs-again end (name_of header.clusters cluster) (line + 1) jobs rest (recursion_from_All IsWellFormedJob jobs fit.1),
    ) refl
act-again header end line (act.Register at domain target days members) rest sound fit =
    let words = member_words-again header line members sound.clusters fit.ascending fit.some fit.members_below in
    rw (
      named-name line domain fit.domain_name,
      numbered-decimal line 1 1000 days fit.days_fit.least fit.days_fit.most (omega arith),
      words.0,
      known-name header line at sound.clusters fit.at_below,
      known-name header line target sound.clusters fit.target_below,
      words.1,
    ) refl
act-again header end line (act.Retain at domain days) rest sound fit = rw (named-name line domain fit.1, numbered-decimal line 1 1000 days fit.2.least fit.2.most (omega arith), known-name header line at sound.clusters fit.0) refl
act-again header end line (act.Join at domain member) rest sound fit = rw (named-name line domain fit.1, both-names header line at member sound.clusters fit.0 fit.2) refl
act-again header end line (act.Failover at domain target) rest sound fit = rw (named-name line domain fit.1, both-names header line at target sound.clusters fit.0 fit.2) refl
act-again header end line (act.Domains to from) rest sound fit = rw (two-names header line to from sound.clusters fit) refl
act-again header end line (act.Domain at domain) rest sound fit = rw (named-name line domain fit.1, known-name header line at sound.clusters fit.0) refl
act-again header end line (act.MembersOf at domain) rest sound fit = rw (named-name line domain fit.1, known-name header line at sound.clusters fit.0) refl
act-again header end line (act.Pull reader source) rest sound fit = rw (two-names header line reader source sound.clusters fit) refl
act-again header end line (act.PullSome reader source shard count) rest sound fit = rw (shard-decimal header line shard sound fit.1, place-decimal line count fit.2, two-names header line reader source sound.clusters fit.0) refl
act-again header end line (act.Lose reader source shard place) rest sound fit = rw (shard-decimal header line shard sound fit.1, place-decimal line place fit.2, two-names header line reader source sound.clusters fit.0) refl
act-again header end line (act.Repeat reader source shard place) rest sound fit = rw (shard-decimal header line shard sound fit.1, place-decimal line place fit.2, two-names header line reader source sound.clusters fit.0) refl
act-again header end line (act.Move reader source shard place to) rest sound fit = rw (shard-decimal header line shard sound fit.1, place-decimal line place fit.2, place-decimal line to fit.3, two-names header line reader source sound.clusters fit.0) refl
act-again header end line (act.Work cluster) rest sound fit = rw (known-name header line cluster sound.clusters fit) refl
act-again header end line (act.Rewind reader source) rest sound fit = rw (two-names header line reader source sound.clusters fit) refl
act-again header end line (act.Trim source) rest sound fit = rw (known-name header line source sound.clusters fit) refl
act-again header end line (act.LevelsOf reader source shard) rest sound fit = rw (shard-decimal header line shard sound fit.1, two-names header line reader source sound.clusters fit.0) refl
act-again header end line (act.Gaps cluster) rest sound fit = rw (known-name header line cluster sound.clusters fit) refl
act-again header end line (act.Resend cluster) rest sound fit = rw (known-name header line cluster sound.clusters fit) refl
act-again header end line (act.Bootstrap reader source) rest sound fit = rw (two-names header line reader source sound.clusters fit) refl
act-again header end line act.Settle rest sound fit = refl
act-again header end line (act.History cluster domain workflow) rest sound fit = rw (workflow-names header line cluster domain workflow sound.clusters fit) refl
act-again header end line (act.Branches cluster domain workflow) rest sound fit = rw (workflow-names header line cluster domain workflow sound.clusters fit) refl
act-again header end line (act.Current cluster domain workflow) rest sound fit = rw (workflow-names header line cluster domain workflow sound.clusters fit) refl
act-again header end line (act.StateOf cluster domain workflow) rest sound fit = rw (workflow-names header line cluster domain workflow sound.clusters fit) refl
act-again header end line (act.Dump cluster domain workflow) rest sound fit = rw (workflow-names header line cluster domain workflow sound.clusters fit) refl
act-again header end line (act.Compare one two domain workflow) rest sound fit = rw (workflow-names header line one domain workflow sound.clusters fit.0, known-name header line two sound.clusters fit.1) refl
act-again header end line (act.Handover at domain target) rest sound fit = rw (named-name line domain fit.1, two-names header line at target sound.clusters fit.0) refl
act-again header end line (act.Complete at domain) rest sound fit = rw (named-name line domain fit.1, known-name header line at sound.clusters fit.0) refl
act-again header end line (act.Reset cluster domain workflow event) rest sound fit = rw (numbered-decimal line 1 1000000 event fit.1 fit.2 (omega arith), workflow-names header line cluster domain workflow sound.clusters fit.0) refl
act-again header end line (act.Damage reader source shard place cut) rest sound fit = rw (shard-decimal header line shard sound fit.1, place-decimal line place fit.2, place-decimal line cut fit.3, two-names header line reader source sound.clusters fit.0) refl
act-again header end line (act.LettersOf reader) rest sound fit = rw (known-name header line reader sound.clusters fit) refl
act-again header end line (act.Purge reader) rest sound fit = rw (known-name header line reader sound.clusters fit) refl
act-again header end line (act.MergeLetters reader) rest sound fit = rw (known-name header line reader sound.clusters fit) refl
act-again header end line (act.Beat cluster domain workflow id details) rest sound fit = rw (named-name line id fit.1, named-name line details fit.2, workflow-names header line cluster domain workflow sound.clusters fit.0) refl
act-again header end line (act.Sync to from) rest sound fit = rw (two-names header line to from sound.clusters fit) refl
act-again header end line (act.ProgressOf cluster domain workflow id) rest sound fit = rw (named-name line id fit.1, workflow-names header line cluster domain workflow sound.clusters fit.0) refl
