-- A printed body is read again.
use Rattle.std.proofs.Common.{◌≡◌, ℕ, suc, ◌+◌, false, List, [], ◌∷◌, ◌++◌, length, map, Result, Ok, codes, refl, sym, ap, ◌∙◌, arith}
use Rattle.std.specs.List.{AllByRecursion as ByRecursion}
use Rattle.std.proofs.lemmas.List.{length-map, length-append}
use Rattle.ndc_event.specs.Outcome.{◌>>=◌}
use Rattle.ndc_command.specs.declared.command.Command.{Command}
use Rattle.ndc_command.specs.declared.command.Command.TheVariants as command
use Rattle.ndc_domain.specs.Clusters.{name_of}
use Rattle.ndc_script_types.specs.declared.script.Act.{Act}
use Rattle.ndc_script_types.specs.declared.script.Act.TheVariants as act
use Rattle.ndc_script_types.specs.declared.script.BurstJob.{BurstJob}
use Rattle.ndc_script_types.specs.declared.script.Header.{Header}
use Rattle.ndc_script_types.specs.declared.script.Line.{Line}
use Rattle.ndc_script_types.specs.declared.script.ScriptError.{ScriptError}
use Rattle.ndc_script_words.specs.declared.text.Reading.TheVariants.{Readable}
use Rattle.ndc_script_words.specs.Text.{KeptLine}
use Rattle.ndc_script_words.specs.Header.{is_cluster_line}
use Rattle.ndc_script_read.specs.Body.{body_behind}
use Rattle.ndc_script_types.specs.WellFormed.{IsWellFormedHeader, IsWellFormedAct}
use Rattle.ndc_script_types.specs.Print.{lines_within, command_words, job_words, act_words, lines_behind, act_lines, body_lines, jobs_from, act_numbered, numbered_from}
use Rattle.ndc_script.proofs.PrintedActs.{act-again}
use Rattle.ndc_script.proofs.PrintedCommands.{command_words-is, first_word, operands}
use Rattle.ndc_script.proofs.PrintedHeader.{NoClusterLines}
use Rattle.ndc_script.proofs.PrintedLines.{kept_numbered}

kept_numbered-append : (number : ℕ) (one two : List (List (List ℕ))) → kept_numbered number (one ++ two) ≡ kept_numbered number one ++ kept_numbered (number + length one) two
kept_numbered-append number [] two = let same : number ≡ number + 0 = omega arith in ap (λ (n : ℕ). kept_numbered n two) same
kept_numbered-append number (words ∷ one) two =
    let same : number + 1 + length one ≡ number + suc (length one) = omega arith in
    ap (λ (rest : List KeptLine). record { number = number; reading = Readable; words = words } ∷ rest)
    (kept_numbered-append (number + 1) one two ∙ ap (λ (n : ℕ). kept_numbered (number + 1) one ++ kept_numbered n two) same)

length-kept_numbered : (number : ℕ) (lines : List (List (List ℕ))) → length (kept_numbered number lines) ≡ length lines
length-kept_numbered number [] = refl
length-kept_numbered number (words ∷ lines) = ap suc (length-kept_numbered (number + 1) lines)

-- lines that belong to the line before are passed over
passed : (header : Header) (end : ℕ) (within rest : List KeptLine) → body_behind header end (length within) (within ++ rest) ≡ body_behind header end 0 rest
unfolding body_behind
passed header end [] rest = refl
passed header end (line ∷ within) rest = passed header end within rest

length-jobs_from : (number : ℕ) (jobs : List BurstJob) → length (jobs_from number jobs) ≡ length jobs
length-jobs_from number [] = refl
length-jobs_from number (job ∷ jobs) = ap suc (length-jobs_from (number + 1) jobs)

-- as many lines belong to a line as are printed after its first
within-is : (header : Header) (number : ℕ) (asked : Act) → lines_within (act_numbered number asked) ≡ length (lines_behind header asked)
within-is header number (act.Burst cluster jobs) =
    omega (arith, length-jobs_from (number + 1) jobs, length-append (map (job_words (name_of header.clusters cluster)) jobs) ((codes "end" ∷ []) ∷ []), length-map jobs (job_words (name_of header.clusters cluster)))
within-is header number (act.Command _ _ _ _) = refl
within-is header number (act.Register _ _ _ _ _) = refl
within-is header number (act.Retain _ _ _) = refl
within-is header number (act.Join _ _ _) = refl
within-is header number (act.Failover _ _ _) = refl
within-is header number (act.Domains _ _) = refl
within-is header number (act.Domain _ _) = refl
within-is header number (act.MembersOf _ _) = refl
within-is header number (act.Pull _ _) = refl
within-is header number (act.PullSome _ _ _ _) = refl
within-is header number (act.Lose _ _ _ _) = refl
within-is header number (act.Repeat _ _ _ _) = refl
within-is header number (act.Move _ _ _ _ _) = refl
within-is header number (act.Work _) = refl
within-is header number (act.Rewind _ _) = refl
within-is header number (act.Trim _) = refl
within-is header number (act.LevelsOf _ _ _) = refl
within-is header number (act.Gaps _) = refl
within-is header number (act.Resend _) = refl
within-is header number (act.Bootstrap _ _) = refl
within-is header number act.Settle = refl
within-is header number (act.History _ _ _) = refl
within-is header number (act.Branches _ _ _) = refl
within-is header number (act.Current _ _ _) = refl
within-is header number (act.StateOf _ _ _) = refl
within-is header number (act.Dump _ _ _) = refl
within-is header number (act.Compare _ _ _ _) = refl
within-is header number (act.Handover _ _ _) = refl
within-is header number (act.Complete _ _) = refl
within-is header number (act.Reset _ _ _ _) = refl
within-is header number (act.Damage _ _ _ _ _) = refl
within-is header number (act.LettersOf _) = refl
within-is header number (act.Purge _) = refl
within-is header number (act.MergeLetters _) = refl
within-is header number (act.Beat _ _ _ _ _) = refl
within-is header number (act.Sync _ _) = refl
within-is header number (act.ProgressOf _ _ _ _) = refl

line-again : (header : Header) (end number : ℕ) (asked : Act) (rest : List KeptLine) → IsWellFormedHeader header → IsWellFormedAct header asked → body_behind header end 0 (kept_numbered number (act_lines header asked) ++ rest) ≡ (body_behind header end 0 rest >>= (λ more. Ok (record { number = number; act = act_numbered number asked } ∷ more)))
unfolding body_behind
line-again header end number asked rest sound fit =
    let behind = kept_numbered (number + 1) (lines_behind header asked) in
    ap (λ (r : Result Act ScriptError). r >>= (λ one. body_behind header end (lines_within one) (behind ++ rest) >>= (λ more. Ok (record { number = number; act = one } ∷ more)))) (act-again header end number asked rest sound fit)
    ∙ ap (λ (n : ℕ). body_behind header end n (behind ++ rest) >>= (λ more. Ok (record { number = number; act = act_numbered number asked } ∷ more))) (within-is header number asked ∙ sym (length-kept_numbered (number + 1) (lines_behind header asked)))
    ∙ ap (λ (r : Result (List Line) ScriptError). r >>= (λ more. Ok (record { number = number; act = act_numbered number asked } ∷ more))) (passed header end behind rest)

-- printed lines are read again, with the numbers that they have there
pub body_of-lines : (header : Header) (end number : ℕ) (lines : List Line) → IsWellFormedHeader header → ByRecursion (λ line. IsWellFormedAct header line.act) lines → body_behind header end 0 (kept_numbered number (body_lines header lines)) ≡ Ok (numbered_from header number lines)
unfolding body_behind
body_of-lines header end number [] sound fit = refl
body_of-lines header end number (line ∷ lines) sound fit =
    ap (body_behind header end 0) (kept_numbered-append number (act_lines header line.act) (body_lines header lines))
    ∙ line-again header end number line.act (kept_numbered (number + length (act_lines header line.act)) (body_lines header lines)) sound fit.0
    ∙ ap (λ (r : Result (List Line) ScriptError). r >>= (λ more. Ok (record { number = number; act = act_numbered number line.act } ∷ more))) (body_of-lines header end (number + length (act_lines header line.act)) lines sound fit.1)

no_cluster_word : (asked : Command) (words : List (List ℕ)) → is_cluster_line (first_word asked ∷ words) ≡ false
no_cluster_word (command.Start _) words = refl
no_cluster_word (command.Signal _ _) words = refl
no_cluster_word command.Cancel words = refl
no_cluster_word (command.Terminate _) words = refl
no_cluster_word command.Decide words = refl
no_cluster_word (command.FailDecision _) words = refl
no_cluster_word command.TimeoutDecision words = refl
no_cluster_word (command.ActivityStart _) words = refl
no_cluster_word (command.ActivityDone _ _) words = refl
no_cluster_word (command.ActivityFail _ _) words = refl
no_cluster_word (command.ActivityTimeout _) words = refl
no_cluster_word (command.Fire _) words = refl
no_cluster_word (command.ChildStart _) words = refl
no_cluster_word (command.ChildDone _ _) words = refl
no_cluster_word (command.ChildFail _ _) words = refl
no_cluster_word (command.Respond _) words = refl

no_cluster_command : (cluster domain workflow : List ℕ) (asked : Command) → is_cluster_line (command_words cluster domain workflow asked) ≡ false
no_cluster_command cluster domain workflow asked = ap is_cluster_line (command_words-is cluster domain workflow asked) ∙ no_cluster_word asked (cluster ∷ domain ∷ workflow ∷ operands asked)

no_cluster_act : (header : Header) (asked : Act) → is_cluster_line (act_words header asked) ≡ false
no_cluster_act header (act.Command cluster domain workflow command) = no_cluster_command (name_of header.clusters cluster) domain workflow command
no_cluster_act header (act.Burst _ _) = refl
no_cluster_act header (act.Register _ _ _ _ _) = refl
no_cluster_act header (act.Retain _ _ _) = refl
no_cluster_act header (act.Join _ _ _) = refl
no_cluster_act header (act.Failover _ _ _) = refl
no_cluster_act header (act.Domains _ _) = refl
no_cluster_act header (act.Domain _ _) = refl
no_cluster_act header (act.MembersOf _ _) = refl
no_cluster_act header (act.Pull _ _) = refl
no_cluster_act header (act.PullSome _ _ _ _) = refl
no_cluster_act header (act.Lose _ _ _ _) = refl
no_cluster_act header (act.Repeat _ _ _ _) = refl
no_cluster_act header (act.Move _ _ _ _ _) = refl
no_cluster_act header (act.Work _) = refl
no_cluster_act header (act.Rewind _ _) = refl
no_cluster_act header (act.Trim _) = refl
no_cluster_act header (act.LevelsOf _ _ _) = refl
no_cluster_act header (act.Gaps _) = refl
no_cluster_act header (act.Resend _) = refl
no_cluster_act header (act.Bootstrap _ _) = refl
no_cluster_act header act.Settle = refl
no_cluster_act header (act.History _ _ _) = refl
no_cluster_act header (act.Branches _ _ _) = refl
no_cluster_act header (act.Current _ _ _) = refl
no_cluster_act header (act.StateOf _ _ _) = refl
no_cluster_act header (act.Dump _ _ _) = refl
no_cluster_act header (act.Compare _ _ _ _) = refl
no_cluster_act header (act.Handover _ _ _) = refl
no_cluster_act header (act.Complete _ _) = refl
no_cluster_act header (act.Reset _ _ _ _) = refl
no_cluster_act header (act.Damage _ _ _ _ _) = refl
no_cluster_act header (act.LettersOf _) = refl
no_cluster_act header (act.Purge _) = refl
no_cluster_act header (act.MergeLetters _) = refl
no_cluster_act header (act.Beat _ _ _ _ _) = refl
no_cluster_act header (act.Sync _ _) = refl
no_cluster_act header (act.ProgressOf _ _ _ _) = refl

no_cluster_jobs : (name : List ℕ) (jobs : List BurstJob) → NoClusterLines (map (job_words name) jobs ++ (codes "end" ∷ []) ∷ [])
no_cluster_jobs name [] = (refl, tt)
no_cluster_jobs name (job ∷ jobs) = (no_cluster_command name job.domain job.workflow job.command, no_cluster_jobs name jobs)

no_cluster_behind : (header : Header) (asked : Act) → NoClusterLines (lines_behind header asked)
no_cluster_behind header (act.Burst cluster jobs) = no_cluster_jobs (name_of header.clusters cluster) jobs
no_cluster_behind header (act.Command _ _ _ _) = tt
no_cluster_behind header (act.Register _ _ _ _ _) = tt
no_cluster_behind header (act.Retain _ _ _) = tt
no_cluster_behind header (act.Join _ _ _) = tt
no_cluster_behind header (act.Failover _ _ _) = tt
no_cluster_behind header (act.Domains _ _) = tt
no_cluster_behind header (act.Domain _ _) = tt
no_cluster_behind header (act.MembersOf _ _) = tt
no_cluster_behind header (act.Pull _ _) = tt
no_cluster_behind header (act.PullSome _ _ _ _) = tt
no_cluster_behind header (act.Lose _ _ _ _) = tt
no_cluster_behind header (act.Repeat _ _ _ _) = tt
no_cluster_behind header (act.Move _ _ _ _ _) = tt
no_cluster_behind header (act.Work _) = tt
no_cluster_behind header (act.Rewind _ _) = tt
no_cluster_behind header (act.Trim _) = tt
no_cluster_behind header (act.LevelsOf _ _ _) = tt
no_cluster_behind header (act.Gaps _) = tt
no_cluster_behind header (act.Resend _) = tt
no_cluster_behind header (act.Bootstrap _ _) = tt
no_cluster_behind header act.Settle = tt
no_cluster_behind header (act.History _ _ _) = tt
no_cluster_behind header (act.Branches _ _ _) = tt
no_cluster_behind header (act.Current _ _ _) = tt
no_cluster_behind header (act.StateOf _ _ _) = tt
no_cluster_behind header (act.Dump _ _ _) = tt
no_cluster_behind header (act.Compare _ _ _ _) = tt
no_cluster_behind header (act.Handover _ _ _) = tt
no_cluster_behind header (act.Complete _ _) = tt
no_cluster_behind header (act.Reset _ _ _ _) = tt
no_cluster_behind header (act.Damage _ _ _ _ _) = tt
no_cluster_behind header (act.LettersOf _) = tt
no_cluster_behind header (act.Purge _) = tt
no_cluster_behind header (act.MergeLetters _) = tt
no_cluster_behind header (act.Beat _ _ _ _ _) = tt
no_cluster_behind header (act.Sync _ _) = tt
no_cluster_behind header (act.ProgressOf _ _ _ _) = tt

no_cluster_append : (one two : List (List (List ℕ))) → NoClusterLines one → NoClusterLines two → NoClusterLines (one ++ two)
no_cluster_append [] two h k = k
no_cluster_append (words ∷ one) two h k = (h.0, no_cluster_append one two h.1 k)

-- none of them is a cluster line
pub no_cluster_lines : (header : Header) (lines : List Line) → NoClusterLines (body_lines header lines)
no_cluster_lines header [] = tt
no_cluster_lines header (line ∷ lines) =
    (no_cluster_act header line.act, no_cluster_append (lines_behind header line.act) (body_lines header lines) (no_cluster_behind header line.act) (no_cluster_lines header lines))
