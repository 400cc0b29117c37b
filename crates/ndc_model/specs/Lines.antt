-- Lines of a script, and what they lead to one after the other.
use Rattle.std.specs.Prelude.{ℕ, List, [], ◌∷◌, ◌++◌, map, codes, decimal}
use Rattle.std.specs.List.{flat_map}
use Rattle.ndc_domain.specs.Records.{failover_of, join_of, record_of, register_of, retain_of}
use Rattle.ndc_domain.specs.declared.clusters.ClusterNo.{ClusterNo}
use Rattle.ndc_script_types.specs.declared.script.Act.{Act}
use Rattle.ndc_script_types.specs.declared.script.Act.TheVariants as act
use Rattle.ndc_script_types.specs.declared.script.BurstJob.{BurstJob}
use Rattle.ndc_script_types.specs.declared.script.Header.{Header}
use Rattle.ndc_script_types.specs.declared.script.Line.{Line}
use Rattle.ndc_script_types.specs.declared.script.Script.{Script}
use Rattle.ndc_model.specs.Handovers.{complete_step, handover_step}
use Rattle.ndc_model.specs.Letters.{damage_step, letters_answer, mergeletters_step, purge_step}
use Rattle.ndc_model.specs.Moves.{rewound}
use Rattle.ndc_model.specs.Progress.{beat_step, progress_answer, sync_step}
use Rattle.ndc_model.specs.Reading.{branches_answer, compare_answer, current_answer, dump_answer, history_answer, learned_at, read_answer, state_answer}
use Rattle.ndc_model.specs.Sending.{bootstrap_step, gaps_answer, levels_answer, lose_step, move_step, pull_some_step, pull_step, repeat_step, resend_step, settle_step, trim_step, work_step}
use Rattle.ndc_index.specs.declared.seen.Seen.{Seen}
use Rattle.ndc_model.specs.Steps.{Stepped, answered, command_step, reset_step}
use Rattle.ndc_model.specs.Tables.{domain_answer, domains_step, failover_words, join_step, members_answer, register_words, retain_words, table_step}
use Rattle.ndc_model.specs.Texts.{ok}
use Rattle.ndc_model.specs.World.{World, cluster_at, opening_world}

-- what a line leaves and answers; a burst is not one line but those in it, and does nothing of its own
unfoldable pub act_step : Header → Act → World → Stepped
act_step header (act.Command cluster domain workflow command) w = command_step header cluster domain workflow command w
act_step header (act.Burst cluster jobs) w = answered w []
act_step header (act.Register at domain target days members) w =
    table_step register_words at w (register_of header.clusters at domain target days members (cluster_at at w).table)
act_step header (act.Retain at domain days) w = table_step retain_words at w (retain_of at domain days (cluster_at at w).table)
act_step header (act.Join at domain member) w = join_step at w (join_of at domain member (cluster_at at w).table)
act_step header (act.Failover at domain target) w = table_step failover_words at w (failover_of header.clusters domain target (cluster_at at w).table)
act_step header (act.Domains to from) w = domains_step to from w
act_step header (act.Domain at domain) w = answered w (domain_answer header (record_of (cluster_at at w).table domain))
act_step header (act.MembersOf at domain) w = answered w (members_answer header (record_of (cluster_at at w).table domain))
act_step header (act.Pull reader source) w = pull_step reader source w
act_step header (act.PullSome reader source shard count) w = pull_some_step reader source shard count w
act_step header (act.Lose reader source shard place) w = lose_step reader source shard place w
act_step header (act.Repeat reader source shard place) w = repeat_step reader source shard place w
act_step header (act.Move reader source shard place to) w = move_step reader source shard place to w
act_step header (act.Work cluster) w = work_step header cluster w
act_step header (act.Rewind reader source) w = answered (rewound reader source w) (ok [])
act_step header (act.Trim source) w = trim_step header source w
act_step header (act.LevelsOf reader source shard) w = answered w (levels_answer reader source shard w)
act_step header (act.Gaps cluster) w = answered w (gaps_answer header cluster w)
act_step header (act.Resend cluster) w = resend_step header cluster w
act_step header (act.Bootstrap reader source) w = bootstrap_step header reader source w
act_step header act.Settle w = settle_step header w
act_step header (act.History cluster domain workflow) w = answered w (read_answer history_answer (learned_at header cluster domain workflow w))
act_step header (act.Branches cluster domain workflow) w = answered w (read_answer branches_answer (learned_at header cluster domain workflow w))
act_step header (act.Current cluster domain workflow) w = answered w (read_answer current_answer (learned_at header cluster domain workflow w))
act_step header (act.StateOf cluster domain workflow) w = answered w (read_answer state_answer (learned_at header cluster domain workflow w))
act_step header (act.Dump cluster domain workflow) w = answered w (read_answer (dump_answer domain workflow) (learned_at header cluster domain workflow w))
act_step header (act.Compare one two domain workflow) w =
    answered w (compare_answer domain workflow (learned_at header one domain workflow w) (learned_at header two domain workflow w))
act_step header (act.Handover at domain target) w = handover_step header at domain target w
act_step header (act.Complete at domain) w = complete_step at domain w
act_step header (act.Reset cluster domain workflow event) w = reset_step header cluster domain workflow event w
act_step header (act.Damage reader source shard place cut) w = damage_step reader source shard place cut w
act_step header (act.LettersOf reader) w = answered w (letters_answer header (cluster_at reader w).letters)
act_step header (act.Purge reader) w = purge_step reader w
act_step header (act.MergeLetters reader) w = mergeletters_step header reader w
act_step header (act.Beat cluster domain workflow id details) w = beat_step header cluster domain workflow id details w
act_step header (act.Sync to from) w = sync_step to from w
act_step header (act.ProgressOf cluster domain workflow id) w = answered w (progress_answer header cluster domain workflow id w)

-- a job of a burst as a line of its own
abbrev pub job_line : ClusterNo → BurstJob → Line
job_line cluster job = record { number = job.number; act = act.Command cluster job.domain job.workflow job.command }

-- the lines of an act: those in a burst, or itself
abbrev pub lines_of_act : ℕ → Act → List Line
lines_of_act number (act.Burst cluster jobs) = map (job_line cluster) jobs
lines_of_act number other = record { number = number; act = other } ∷ []

-- lines with each burst taken apart
abbrev pub plain_lines : List Line → List Line
plain_lines lines = flat_map (λ line. lines_of_act line.number line.act) lines

-- a line that was run: its number, and what it left, answered and made learned
pub record AnsweredLine : Type 0 where
  pub number : ℕ
  pub step : Stepped

-- a line that was run, and what runs in the world that it left
abbrev pub ran_behind : ℕ → Stepped → (World → List AnsweredLine) → List AnsweredLine
ran_behind number step rest = record { number = number; step = step } ∷ rest step.world

-- lines run from a world on, each in the world that the last one left
abbrev pub ran_from : Header → World → List Line → List AnsweredLine
ran_from header w [] = []
ran_from header w (line ∷ lines) = ran_behind line.number (act_step header line.act w) (λ v. ran_from header v lines)

-- the world that lines left, or the one before them where none was run
abbrev pub world_behind : World → List AnsweredLine → World
world_behind w [] = w
world_behind w (run ∷ runs) = world_behind run.step.world runs

-- the lines of a script, run from the opening world on
abbrev pub ran_of : Script → List AnsweredLine
ran_of script = ran_from script.header (opening_world script.header) (plain_lines script.lines)

-- the worlds of a script: the opening one, and the one after each line
abbrev pub worlds_of : Script → List World
worlds_of script = opening_world script.header ∷ map (λ run. run.step.world) (ran_of script)

-- an answer after the number of its line
abbrev pub answer_text : AnsweredLine → List ℕ
answer_text run = decimal run.number ++ codes " " ++ run.step.answer

-- the answers of lines
abbrev pub answers_of : List AnsweredLine → List ℕ
answers_of runs = flat_map answer_text runs

-- what lines made learned, in the order of being told
abbrev pub seen_in : List AnsweredLine → List Seen
seen_in runs = flat_map (λ run. run.step.seen) runs
