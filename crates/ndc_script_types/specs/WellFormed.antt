-- Which scripts are well-formed: those whose numbers are in range and whose lines name clusters of the header.
use Rattle.std.specs.Prelude.{◌≡◌, ◌≢◌, ℕ, ◌<◌, ◌≤◌, Bool, true, false, ◌&&◌, not, All, List, [], ◌∷◌, length}
use Rattle.std.specs.List.{list_all}
use Rattle.ndc_event.specs.Name.{is_name}
use Rattle.ndc_command.specs.declared.command.Action.{Action}
use Rattle.ndc_command.specs.declared.command.Action.TheVariants as action
use Rattle.ndc_command.specs.declared.command.Command.{Command}
use Rattle.ndc_command.specs.declared.command.Command.TheVariants as command
use Rattle.ndc_domain.specs.Clusters.{AreClusters, count_of}
use Rattle.ndc_domain.specs.Members.{AreMembers}
use Rattle.ndc_domain.specs.declared.clusters.ClusterNo.{ClusterNo}
use Rattle.ndc_script_types.specs.declared.script.Act.{Act}
use Rattle.ndc_script_types.specs.declared.script.Act.TheVariants as act
use Rattle.ndc_script_types.specs.declared.script.BurstJob.{BurstJob}
use Rattle.ndc_script_types.specs.declared.script.Header.{Header}
use Rattle.ndc_script_types.specs.declared.script.Line.{Line}
use Rattle.ndc_script_types.specs.declared.script.Script.{Script}
use Rattle.ndc_script_types.specs.Print.{script_lines}

-- a header as it should be: its clusters keep their rules and have names, and its numbers are in range
pub record IsWellFormedHeader (header : Header) : Type 0 where
  pub clusters : AreClusters header.clusters
  pub names : list_all (λ member. is_name member.0) header.clusters.members ≡ true
  pub shards_least : 1 ≤ header.shards
  pub shards_most : header.shards ≤ 64
  pub limit_least : 10 ≤ header.limit
  pub limit_most : header.limit ≤ 204800

-- the bytes are a name
abbrev pub IsName : List ℕ → Type 0
IsName name = is_name name ≡ true

-- the cluster is one of the header
abbrev pub IsCluster : Header → ClusterNo → Type 0
IsCluster header cluster = cluster.number < count_of header.clusters

-- the clusters are two of the header
pub record AreTwoClusters (header : Header) (one two : ClusterNo) : Type 0 where
  pub first : IsCluster header one
  pub second : IsCluster header two
  pub differ : one.number ≢ two.number

-- the names are those of a workflow at a cluster of the header
pub record IsWorkflowAt (header : Header) (cluster : ClusterNo) (domain workflow : List ℕ) : Type 0 where
  pub known : IsCluster header cluster
  pub domain_name : IsName domain
  pub workflow_name : IsName workflow

-- a place, a count or a cut is at most 1,000,000
abbrev pub IsPlace : ℕ → Type 0
IsPlace place = place ≤ 1000000

-- a retention in days is 1 to 1,000
pub record AreDays (days : ℕ) : Type 0 where
  pub least : 1 ≤ days
  pub most : days ≤ 1000

-- the names of an action are names
abbrev pub IsWellFormedAction : Action → Type 0
IsWellFormedAction (action.Activity id activity_type) = IsName id × IsName activity_type
IsWellFormedAction (action.Timer id) = IsName id
IsWellFormedAction (action.Untimer id) = IsName id
IsWellFormedAction (action.Child id workflow_type) = IsName id × IsName workflow_type
IsWellFormedAction (action.Marker name) = IsName name
IsWellFormedAction (action.Complete result) = IsName result
IsWellFormedAction (action.Fail reason) = IsName reason
IsWellFormedAction action.Canceled = Unit {0}
IsWellFormedAction (action.Continue workflow_type) = IsName workflow_type

-- the action closes the run
abbrev pub closes : Action → Bool
closes (action.Activity id activity_type) = false
closes (action.Timer id) = false
closes (action.Untimer id) = false
closes (action.Child id workflow_type) = false
closes (action.Marker name) = false
closes (action.Complete result) = true
closes (action.Fail reason) = true
closes action.Canceled = true
closes (action.Continue workflow_type) = true

-- no action but the last closes the run
abbrev pub closes_last : List Action → Bool
closes_last [] = true
closes_last (one ∷ []) = true
closes_last (one ∷ next ∷ actions) = not (closes one) && closes_last (next ∷ actions)

-- the actions of a `respond` as they should be
pub record AreWellFormedActions (actions : List Action) : Type 0 where
  pub names : All IsWellFormedAction actions
  pub last : closes_last actions ≡ true

-- a command as it should be: its names are names
abbrev pub IsWellFormedCommand : Command → Type 0
IsWellFormedCommand (command.Start workflow_type) = IsName workflow_type
IsWellFormedCommand (command.Signal name input) = IsName name × IsName input
IsWellFormedCommand command.Cancel = Unit {0}
IsWellFormedCommand (command.Terminate reason) = IsName reason
IsWellFormedCommand command.Decide = Unit {0}
IsWellFormedCommand (command.Respond actions) = AreWellFormedActions actions
IsWellFormedCommand (command.FailDecision cause) = IsName cause
IsWellFormedCommand command.TimeoutDecision = Unit {0}
IsWellFormedCommand (command.ActivityStart id) = IsName id
IsWellFormedCommand (command.ActivityDone id result) = IsName id × IsName result
IsWellFormedCommand (command.ActivityFail id reason) = IsName id × IsName reason
IsWellFormedCommand (command.ActivityTimeout id) = IsName id
IsWellFormedCommand (command.Fire id) = IsName id
IsWellFormedCommand (command.ChildStart id) = IsName id
IsWellFormedCommand (command.ChildDone id result) = IsName id × IsName result
IsWellFormedCommand (command.ChildFail id reason) = IsName id × IsName reason

-- a job of a burst as it should be
pub record IsWellFormedJob (job : BurstJob) : Type 0 where
  pub domain : IsName job.domain
  pub workflow : IsName job.workflow
  pub command : IsWellFormedCommand job.command

-- a line `register` as it should be: it names clusters of the header, one member at least, and its days are 1 to 1,000
pub record IsWellFormedRegister (header : Header) (at target : ClusterNo) (domain : List ℕ) (days : ℕ) (members : List ℕ) : Type 0 where
  pub at_below : IsCluster header at
  pub target_below : IsCluster header target
  pub domain_name : IsName domain
  pub days_fit : AreDays days
  pub ascending : AreMembers members
  pub some : 0 < length members
  pub members_below : All (λ member. member < count_of header.clusters) members

-- what a line asks for as it should be
abbrev pub IsWellFormedAct : Header → Act → Type 0
IsWellFormedAct header (act.Command cluster domain workflow command) = IsWorkflowAt header cluster domain workflow × IsWellFormedCommand command
IsWellFormedAct header (act.Burst cluster jobs) = IsCluster header cluster × All IsWellFormedJob jobs
IsWellFormedAct header (act.Register at domain target days members) = IsWellFormedRegister header at target domain days members
IsWellFormedAct header (act.Retain at domain days) = IsCluster header at × IsName domain × AreDays days
IsWellFormedAct header (act.Join at domain member) = IsCluster header at × IsName domain × IsCluster header member
IsWellFormedAct header (act.Failover at domain target) = IsCluster header at × IsName domain × IsCluster header target
IsWellFormedAct header (act.Domains to from) = AreTwoClusters header to from
IsWellFormedAct header (act.Domain at domain) = IsCluster header at × IsName domain
IsWellFormedAct header (act.MembersOf at domain) = IsCluster header at × IsName domain
IsWellFormedAct header (act.Pull reader source) = AreTwoClusters header reader source
IsWellFormedAct header (act.PullSome reader source shard count) = AreTwoClusters header reader source × (shard < header.shards) × IsPlace count
IsWellFormedAct header (act.Lose reader source shard place) = AreTwoClusters header reader source × (shard < header.shards) × IsPlace place
IsWellFormedAct header (act.Repeat reader source shard place) = AreTwoClusters header reader source × (shard < header.shards) × IsPlace place
IsWellFormedAct header (act.Move reader source shard place to) = AreTwoClusters header reader source × (shard < header.shards) × IsPlace place × IsPlace to
IsWellFormedAct header (act.Work cluster) = IsCluster header cluster
IsWellFormedAct header (act.Rewind reader source) = AreTwoClusters header reader source
IsWellFormedAct header (act.Trim source) = IsCluster header source
IsWellFormedAct header (act.LevelsOf reader source shard) = AreTwoClusters header reader source × (shard < header.shards)
IsWellFormedAct header (act.Gaps cluster) = IsCluster header cluster
IsWellFormedAct header (act.Resend cluster) = IsCluster header cluster
IsWellFormedAct header (act.Bootstrap reader source) = AreTwoClusters header reader source
IsWellFormedAct header act.Settle = Unit {0}
IsWellFormedAct header (act.History cluster domain workflow) = IsWorkflowAt header cluster domain workflow
IsWellFormedAct header (act.Branches cluster domain workflow) = IsWorkflowAt header cluster domain workflow
IsWellFormedAct header (act.Current cluster domain workflow) = IsWorkflowAt header cluster domain workflow
IsWellFormedAct header (act.StateOf cluster domain workflow) = IsWorkflowAt header cluster domain workflow
IsWellFormedAct header (act.Dump cluster domain workflow) = IsWorkflowAt header cluster domain workflow
IsWellFormedAct header (act.Compare one two domain workflow) = IsWorkflowAt header one domain workflow × IsCluster header two
IsWellFormedAct header (act.Handover at domain target) = AreTwoClusters header at target × IsName domain
IsWellFormedAct header (act.Complete at domain) = IsCluster header at × IsName domain
IsWellFormedAct header (act.Reset cluster domain workflow event) = IsWorkflowAt header cluster domain workflow × (1 ≤ event) × (event ≤ 1000000)
IsWellFormedAct header (act.Damage reader source shard place cut) = AreTwoClusters header reader source × (shard < header.shards) × IsPlace place × IsPlace cut
IsWellFormedAct header (act.LettersOf reader) = IsCluster header reader
IsWellFormedAct header (act.Purge reader) = IsCluster header reader
IsWellFormedAct header (act.MergeLetters reader) = IsCluster header reader
IsWellFormedAct header (act.Beat cluster domain workflow id details) = IsWorkflowAt header cluster domain workflow × IsName id × IsName details
IsWellFormedAct header (act.Sync to from) = AreTwoClusters header to from
IsWellFormedAct header (act.ProgressOf cluster domain workflow id) = IsWorkflowAt header cluster domain workflow × IsName id

-- each of the lines is as it should be
abbrev pub AreWellFormedLines : Header → List Line → Type 0
AreWellFormedLines header lines = All (λ line. IsWellFormedAct header line.act) lines

-- a script as it should be; it has at most 100,000 lines in print
pub record IsWellFormed (script : Script) : Type 0 where
  pub header : IsWellFormedHeader script.header
  pub lines : AreWellFormedLines script.header script.lines
  pub short : length (script_lines script) ≤ 100000
