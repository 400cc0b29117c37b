-- How a script is printed.
use Rattle.std.specs.Prelude.{ℕ, ◌+◌, List, [], ◌∷◌, ◌++◌, length, map, flat_map, codes, decimal, if◌then◌else◌}
use Rattle.std.specs.Str.{bytes_eq}
use Rattle.ndc_command.specs.declared.command.Action.{Action}
use Rattle.ndc_command.specs.declared.command.Action.TheVariants as action
use Rattle.ndc_command.specs.declared.command.Command.{Command}
use Rattle.ndc_command.specs.declared.command.Command.TheVariants as command
use Rattle.ndc_domain.specs.Clusters.{count_of, cluster_no, name_of}
use Rattle.ndc_domain.specs.Members.{members_of}
use Rattle.ndc_script_types.specs.declared.script.Act.{Act}
use Rattle.ndc_script_types.specs.declared.script.Act.TheVariants as act
use Rattle.ndc_script_types.specs.declared.script.BurstJob.{BurstJob}
use Rattle.ndc_script_types.specs.declared.script.Header.{Header}
use Rattle.ndc_script_types.specs.declared.script.Line.{Line}
use Rattle.ndc_script_types.specs.declared.script.Script.{Script}
use Rattle.ndc_script_types.specs.Below.{clusters_below}

-- words, each after a space
abbrev pub behind_spaces : List (List ℕ) → List ℕ
behind_spaces [] = []
behind_spaces (word ∷ words) = 32 ∷ word ++ behind_spaces words

-- words separated by one space
abbrev pub spaced : List (List ℕ) → List ℕ
spaced [] = []
spaced (word ∷ words) = word ++ behind_spaces words

-- words as a line, ended by a newline
abbrev pub line_text : List (List ℕ) → List ℕ
line_text words = spaced words ++ 10 ∷ []

-- lines of words
abbrev pub lines_text : List (List (List ℕ)) → List ℕ
lines_text lines = flat_map line_text lines

-- the words of a cluster line
abbrev pub cluster_line_of : List ℕ × ℕ → List (List ℕ)
cluster_line_of member = codes "cluster" ∷ member.0 ∷ decimal member.1 ∷ []

-- the lines of a header
abbrev pub header_lines : Header → List (List (List ℕ))
header_lines header =
    (codes "ndc" ∷ decimal 1 ∷ []) ∷ (codes "increment" ∷ decimal header.clusters.increment ∷ []) ∷ (codes "shards" ∷ decimal header.shards ∷ [])
    ∷ (codes "limit" ∷ decimal header.limit ∷ []) ∷ map cluster_line_of header.clusters.members

-- the words of an action
abbrev pub action_words : Action → List (List ℕ)
action_words (action.Activity id activity_type) = codes "activity" ∷ id ∷ activity_type ∷ []
action_words (action.Timer id) = codes "timer" ∷ id ∷ []
action_words (action.Untimer id) = codes "untimer" ∷ id ∷ []
action_words (action.Child id workflow_type) = codes "child" ∷ id ∷ workflow_type ∷ []
action_words (action.Marker name) = codes "marker" ∷ name ∷ []
action_words (action.Complete result) = codes "complete" ∷ result ∷ []
action_words (action.Fail reason) = codes "fail" ∷ reason ∷ []
action_words action.Canceled = codes "canceled" ∷ []
action_words (action.Continue workflow_type) = codes "continue" ∷ workflow_type ∷ []

-- the words of a command line to a workflow at the cluster of this name
abbrev pub command_words : List ℕ → List ℕ → List ℕ → Command → List (List ℕ)
command_words cluster domain workflow (command.Start workflow_type) = codes "start" ∷ cluster ∷ domain ∷ workflow ∷ workflow_type ∷ []
command_words cluster domain workflow (command.Signal name input) = codes "signal" ∷ cluster ∷ domain ∷ workflow ∷ name ∷ input ∷ []
command_words cluster domain workflow command.Cancel = codes "cancel" ∷ cluster ∷ domain ∷ workflow ∷ []
command_words cluster domain workflow (command.Terminate reason) = codes "terminate" ∷ cluster ∷ domain ∷ workflow ∷ reason ∷ []
command_words cluster domain workflow command.Decide = codes "decide" ∷ cluster ∷ domain ∷ workflow ∷ []
command_words cluster domain workflow (command.FailDecision cause) = codes "faildecision" ∷ cluster ∷ domain ∷ workflow ∷ cause ∷ []
command_words cluster domain workflow command.TimeoutDecision = codes "timeoutdecision" ∷ cluster ∷ domain ∷ workflow ∷ []
command_words cluster domain workflow (command.ActivityStart id) = codes "actstart" ∷ cluster ∷ domain ∷ workflow ∷ id ∷ []
command_words cluster domain workflow (command.ActivityDone id result) = codes "actdone" ∷ cluster ∷ domain ∷ workflow ∷ id ∷ result ∷ []
command_words cluster domain workflow (command.ActivityFail id reason) = codes "actfail" ∷ cluster ∷ domain ∷ workflow ∷ id ∷ reason ∷ []
command_words cluster domain workflow (command.ActivityTimeout id) = codes "acttimeout" ∷ cluster ∷ domain ∷ workflow ∷ id ∷ []
command_words cluster domain workflow (command.Fire id) = codes "fire" ∷ cluster ∷ domain ∷ workflow ∷ id ∷ []
command_words cluster domain workflow (command.ChildStart id) = codes "childstart" ∷ cluster ∷ domain ∷ workflow ∷ id ∷ []
command_words cluster domain workflow (command.ChildDone id result) = codes "childdone" ∷ cluster ∷ domain ∷ workflow ∷ id ∷ result ∷ []
command_words cluster domain workflow (command.ChildFail id reason) = codes "childfail" ∷ cluster ∷ domain ∷ workflow ∷ id ∷ reason ∷ []
command_words cluster domain workflow (command.Respond actions) = codes "respond" ∷ cluster ∷ domain ∷ workflow ∷ flat_map action_words actions

-- the words of a line of a burst at the cluster of this name
abbrev pub job_words : List ℕ → BurstJob → List (List ℕ)
job_words cluster job = command_words cluster job.domain job.workflow job.command

-- the name of the member of this number
abbrev pub member_name : Header → ℕ → List ℕ
member_name header member = name_of header.clusters (cluster_no member)

-- the words CLUSTER of a line `register`, in header order: none exactly where all clusters are members
abbrev pub member_words : Header → List ℕ → List (List ℕ)
member_words header members =
    if bytes_eq members (members_of (clusters_below (count_of header.clusters))) then []
    else map (member_name header) members

-- the words of a line; of a burst, those of its first line
abbrev pub act_words : Header → Act → List (List ℕ)
act_words header (act.Command cluster domain workflow command) = command_words (name_of header.clusters cluster) domain workflow command
act_words header (act.Burst cluster jobs) = codes "burst" ∷ name_of header.clusters cluster ∷ []
act_words header (act.Register at domain target days members) =
    codes "register" ∷ name_of header.clusters at ∷ domain ∷ name_of header.clusters target ∷ decimal days ∷ member_words header members
act_words header (act.Retain at domain days) = codes "retain" ∷ name_of header.clusters at ∷ domain ∷ decimal days ∷ []
act_words header (act.Join at domain member) = codes "join" ∷ name_of header.clusters at ∷ domain ∷ name_of header.clusters member ∷ []
act_words header (act.Failover at domain target) = codes "failover" ∷ name_of header.clusters at ∷ domain ∷ name_of header.clusters target ∷ []
act_words header (act.Domains to from) = codes "domains" ∷ name_of header.clusters to ∷ name_of header.clusters from ∷ []
act_words header (act.Domain at domain) = codes "domain" ∷ name_of header.clusters at ∷ domain ∷ []
act_words header (act.MembersOf at domain) = codes "members" ∷ name_of header.clusters at ∷ domain ∷ []
act_words header (act.Pull reader source) = codes "pull" ∷ name_of header.clusters reader ∷ name_of header.clusters source ∷ []
act_words header (act.PullSome reader source shard count) = codes "pull" ∷ name_of header.clusters reader ∷ name_of header.clusters source ∷ decimal shard ∷ decimal count ∷ []
act_words header (act.Lose reader source shard place) = codes "lose" ∷ name_of header.clusters reader ∷ name_of header.clusters source ∷ decimal shard ∷ decimal place ∷ []
act_words header (act.Repeat reader source shard place) = codes "repeat" ∷ name_of header.clusters reader ∷ name_of header.clusters source ∷ decimal shard ∷ decimal place ∷ []
act_words header (act.Move reader source shard place to) = codes "move" ∷ name_of header.clusters reader ∷ name_of header.clusters source ∷ decimal shard ∷ decimal place ∷ decimal to ∷ []
act_words header (act.Work cluster) = codes "work" ∷ name_of header.clusters cluster ∷ []
act_words header (act.Rewind reader source) = codes "rewind" ∷ name_of header.clusters reader ∷ name_of header.clusters source ∷ []
act_words header (act.Trim source) = codes "trim" ∷ name_of header.clusters source ∷ []
act_words header (act.LevelsOf reader source shard) = codes "levels" ∷ name_of header.clusters reader ∷ name_of header.clusters source ∷ decimal shard ∷ []
act_words header (act.Gaps cluster) = codes "gaps" ∷ name_of header.clusters cluster ∷ []
act_words header (act.Resend cluster) = codes "resend" ∷ name_of header.clusters cluster ∷ []
act_words header (act.Bootstrap reader source) = codes "bootstrap" ∷ name_of header.clusters reader ∷ name_of header.clusters source ∷ []
act_words header act.Settle = codes "settle" ∷ []
act_words header (act.History cluster domain workflow) = codes "history" ∷ name_of header.clusters cluster ∷ domain ∷ workflow ∷ []
act_words header (act.Branches cluster domain workflow) = codes "branches" ∷ name_of header.clusters cluster ∷ domain ∷ workflow ∷ []
act_words header (act.Current cluster domain workflow) = codes "current" ∷ name_of header.clusters cluster ∷ domain ∷ workflow ∷ []
act_words header (act.StateOf cluster domain workflow) = codes "state" ∷ name_of header.clusters cluster ∷ domain ∷ workflow ∷ []
act_words header (act.Dump cluster domain workflow) = codes "dump" ∷ name_of header.clusters cluster ∷ domain ∷ workflow ∷ []
act_words header (act.Compare one two domain workflow) = codes "compare" ∷ name_of header.clusters one ∷ name_of header.clusters two ∷ domain ∷ workflow ∷ []
act_words header (act.Handover at domain target) = codes "handover" ∷ name_of header.clusters at ∷ domain ∷ name_of header.clusters target ∷ []
act_words header (act.Complete at domain) = codes "complete" ∷ name_of header.clusters at ∷ domain ∷ []
act_words header (act.Reset cluster domain workflow event) = codes "reset" ∷ name_of header.clusters cluster ∷ domain ∷ workflow ∷ decimal event ∷ []
act_words header (act.Damage reader source shard place cut) = codes "damage" ∷ name_of header.clusters reader ∷ name_of header.clusters source ∷ decimal shard ∷ decimal place ∷ decimal cut ∷ []
act_words header (act.LettersOf reader) = codes "letters" ∷ name_of header.clusters reader ∷ []
act_words header (act.Purge reader) = codes "purge" ∷ name_of header.clusters reader ∷ []
act_words header (act.MergeLetters reader) = codes "mergeletters" ∷ name_of header.clusters reader ∷ []
act_words header (act.Beat cluster domain workflow id details) = codes "beat" ∷ name_of header.clusters cluster ∷ domain ∷ workflow ∷ id ∷ details ∷ []
act_words header (act.Sync to from) = codes "sync" ∷ name_of header.clusters to ∷ name_of header.clusters from ∷ []
act_words header (act.ProgressOf cluster domain workflow id) = codes "progress" ∷ name_of header.clusters cluster ∷ domain ∷ workflow ∷ id ∷ []

-- the lines after the first: those of a burst, and its `end`
abbrev pub lines_behind : Header → Act → List (List (List ℕ))
lines_behind header (act.Burst cluster jobs) = map (job_words (name_of header.clusters cluster)) jobs ++ (codes "end" ∷ []) ∷ []
lines_behind header _ = []

-- how many lines after the first belong to a line: those of a burst
abbrev pub lines_within : Act → ℕ
lines_within (act.Burst cluster jobs) = length jobs + 1
lines_within _ = 0

-- the lines that an act is printed as
abbrev pub act_lines : Header → Act → List (List (List ℕ))
act_lines header asked = act_words header asked ∷ lines_behind header asked

-- the lines of a script's body
abbrev pub body_lines : Header → List Line → List (List (List ℕ))
body_lines header lines = flat_map (λ line. act_lines header line.act) lines

-- the lines of a script
abbrev pub script_lines : Script → List (List (List ℕ))
script_lines script = header_lines script.header ++ body_lines script.header script.lines

-- the text of a script: its lines in order
abbrev pub script_text : Script → List ℕ
script_text script = lines_text (header_lines script.header) ++ flat_map (λ line. lines_text (act_lines script.header line.act)) script.lines

-- jobs with the numbers that their lines have in a text where the first has this number
abbrev pub jobs_from : ℕ → List BurstJob → List BurstJob
jobs_from number [] = []
jobs_from number (job ∷ jobs) = record { number = number; domain = job.domain; workflow = job.workflow; command = job.command } ∷ jobs_from (number + 1) jobs

-- what a line asks for, with the numbers that the lines of a burst have where its first has this number
abbrev pub act_numbered : ℕ → Act → Act
act_numbered number (act.Burst cluster jobs) = act.Burst cluster (jobs_from (number + 1) jobs)
act_numbered number asked = asked

-- the lines with the numbers that they have in a text where the first has this number
abbrev pub numbered_from : Header → ℕ → List Line → List Line
numbered_from header number [] = []
numbered_from header number (line ∷ lines) =
    record { number = number; act = act_numbered number line.act } ∷ numbered_from header (number + length (act_lines header line.act)) lines

-- a script with the numbers that its lines have in print
abbrev pub renumbered : Script → Script
renumbered script =
    record { header = script.header; lines = numbered_from script.header (length (header_lines script.header) + 1) script.lines }
