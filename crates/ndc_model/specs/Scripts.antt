-- Worked scripts: their lines, and how answers are told.
use Rattle.std.specs.Prelude.{ℕ, ◌+◌, List, [], ◌∷◌, ◌++◌, map, length, codes, decimal}
use Rattle.std.specs.List.{concat, flat_map}
use Rattle.ndc_command.specs.declared.command.Action.TheVariants as action
use Rattle.ndc_command.specs.declared.command.Command.{Command}
use Rattle.ndc_command.specs.declared.command.Command.TheVariants as command
use Rattle.ndc_domain.specs.Clusters.{cluster_no}
use Rattle.ndc_domain.specs.declared.clusters.ClusterNo.{ClusterNo}
use Rattle.ndc_event.specs.Key.{run_of, run_text}
use Rattle.ndc_event.specs.declared.batch.Batch.{Batch}
use Rattle.ndc_event.specs.declared.key.BatchKey.{BatchKey}
use Rattle.ndc_history.specs.declared.item.Item.{Item}
use Rattle.ndc_script_types.specs.declared.script.Act.{Act}
use Rattle.ndc_script_types.specs.declared.script.Act.TheVariants as act
use Rattle.ndc_script_types.specs.declared.script.BurstJob.{BurstJob}
use Rattle.ndc_script_types.specs.declared.script.Header.{Header}
use Rattle.ndc_script_types.specs.declared.script.Line.{Line}
use Rattle.ndc_model_sets.specs.Worked.{begun, item, key, signal as signal_kind, signaled}
use Rattle.ndc_state.specs.Pendings.{scheduled_by}
use Rattle.ndc_state.specs.Text.{pending_text}
use Rattle.ndc_text.specs.Text.{batch_text}
use Rattle.ndc_text.specs.Views.{item_text, key_text, with_commas}
use Rattle.ndc_model.specs.Laws.{script_of}
use Rattle.ndc_model.specs.Lines.{ran_of, seen_in}
use Rattle.ndc_index.specs.Lines.{Asked, index_line}
use Rattle.ndc_model.specs.Texts.{ok, refused}

-- the cluster A
abbrev pub A : ClusterNo
A = cluster_no 0

-- the cluster B
abbrev pub B : ClusterNo
B = cluster_no 1

-- the cluster C
abbrev pub C : ClusterNo
C = cluster_no 2

-- the header of clusters with so many shards
abbrev pub of_clusters : ℕ → List (List ℕ × ℕ) → Header
of_clusters shards members = record { clusters = record { increment = 10; members = members }; shards = shards; limit = 100 }

-- the header of A alone
abbrev pub one_cluster : ℕ → Header
one_cluster shards = of_clusters shards ((codes "A", 1) ∷ [])

-- the header of A, B and C
abbrev pub three_clusters : Header
three_clusters = of_clusters 1 ((codes "A", 1) ∷ (codes "B", 2) ∷ (codes "C", 3) ∷ [])

-- lines numbered from this number on
abbrev pub numbered : ℕ → List Act → List Line
numbered number [] = []
numbered number (asked ∷ acts) = record { number = number; act = asked } ∷ numbered (number + 1) acts

-- what lines answer, after their numbers
abbrev pub answers : Header → List Line → List (ℕ × List ℕ)
answers header lines = map (λ run. (run.number, run.step.answer)) (ran_of (script_of header lines))

-- A registers the domain alpha
abbrev pub register : ClusterNo → List ℕ → Act
register target members = act.Register A (codes "alpha") target 7 members

-- alpha fails over at a cluster
abbrev pub failover : ClusterNo → ClusterNo → Act
failover at target = act.Failover at (codes "alpha") target

-- a command to alpha's workflow w1
abbrev pub ask : ClusterNo → Command → Act
ask cluster asked = act.Command cluster (codes "alpha") (codes "w1") asked

-- a cluster begins it
abbrev pub start : ClusterNo → Act
start cluster = ask cluster (command.Start (codes "order"))

-- a cluster signals it
abbrev pub signal : ClusterNo → List ℕ → List ℕ → Act
signal cluster name input = ask cluster (command.Signal name input)

-- a number as an answer
abbrev pub number : ℕ → List ℕ
number n = ok (decimal n ∷ [])

-- the key of what was written
abbrev pub wrote : ℕ → ℕ → List ℕ
wrote version task = ok (key_text (key version task) ∷ [])

-- an answer of no word
abbrev pub plain_ok : List ℕ
plain_ok = ok []

-- a refusal
abbrev pub refusal : List ℕ → List ℕ
refusal word = refused (word ∷ [])

-- a refusal with a number
abbrev pub refusal_with : List ℕ → ℕ → List ℕ
refusal_with word n = refused (word ∷ decimal n ∷ [])

-- the answer of `work`
abbrev pub work : ℕ → ℕ → ℕ → ℕ → List ℕ
work learned known putoff reapplied =
    ok (codes "learned" ∷ decimal learned ∷ codes "known" ∷ decimal known ∷ codes "putoff" ∷ decimal putoff ∷ codes "reapplied" ∷ decimal reapplied ∷ [])

-- the answer of a settlement
abbrev pub settlement : ℕ → ℕ → List ℕ
settlement learned reapplied = ok (codes "learned" ∷ decimal learned ∷ codes "reapplied" ∷ decimal reapplied ∷ [])

-- the answer of `levels`
abbrev pub levels : ℕ → ℕ → ℕ → ℕ → ℕ → List ℕ
levels queue trimmed read done flight =
    ok (codes "queue" ∷ decimal queue ∷ codes "trimmed" ∷ decimal trimmed ∷ codes "read" ∷ decimal read ∷ codes "done" ∷ decimal done ∷ codes "flight" ∷ decimal flight ∷ [])

-- a state in which a decision is pending and nothing else
abbrev pub state_as : ℕ → ℕ → ℕ → List ℕ
state_as next decision signals =
    codes "next=" ++ decimal next ++ codes " decision=" ++ pending_text (scheduled_by decision) ++ codes " activities=" ++ codes "-" ++ codes " timers=" ++ codes "-"
    ++ codes " children=" ++ codes "-" ++ codes " signals=" ++ decimal signals ++ codes " cancel=" ++ codes "no"

-- the answer of `state`
abbrev pub state : ℕ → ℕ → ℕ → List ℕ
state next decision signals = ok (state_as next decision signals ∷ [])

-- the run of a key
abbrev pub run_word : ℕ → ℕ → List ℕ
run_word version task = run_text (run_of (key version task))

-- a line of a run, with its status and mark
abbrev pub run_as : ℕ → ℕ → List ℕ → List ℕ → List ℕ
run_as version task status mark = codes "run " ++ run_word version task ++ codes " " ++ status ++ mark ++ codes "\n"

-- a line of a branch, with its history and mark
abbrev pub branch_as : ℕ → ℕ → List Item → List ℕ → List ℕ
branch_as version task history mark =
    codes "branch " ++ key_text (key version task) ++ codes " " ++ with_commas (map item_text history) ++ mark ++ codes "\n"

-- the answer of `branches`: runs, each with its branches
abbrev pub runs_as : List (List ℕ × List (List ℕ)) → List ℕ
runs_as runs = ok (decimal (length runs) ∷ []) ++ flat_map (λ run. run.0 ++ concat run.1) runs

-- a line of `history`
abbrev pub event_as : ℕ → ℕ → List ℕ → List ℕ
event_as id version kind = item_text (item id version) ++ codes " " ++ kind ++ codes "\n"

-- how many lines there are, and the lines
abbrev pub listed : List (List ℕ) → List ℕ
listed lines = ok (decimal (length lines) ∷ []) ++ concat lines

-- a line of `gaps`: a batch of alpha's w1, what it comes after, what it begins with, and what is missing
abbrev pub gap_as : BatchKey → Item → Item → BatchKey → List ℕ
gap_as key after before missing =
    codes "gap alpha w1 " ++ key_text key ++ codes " after " ++ item_text after ++ codes " before " ++ item_text before ++ codes " missing " ++ key_text missing ++ codes "\n"

-- the answer of `gaps`
abbrev pub gaps_as : List (List ℕ) → List ℕ
gaps_as gaps = ok (decimal (length gaps) ∷ []) ++ (concat gaps ++ [])

-- a line of `letters`: so many bytes of A's first batch of alpha's w1
abbrev pub letter_as : ℕ → List ℕ
letter_as size = codes "letter A alpha w1 " ++ key_text (key 1 1) ++ codes " " ++ decimal size ++ codes "\n"

-- the workflow that A began and signaled
abbrev pub begun_with_a_signal : List Batch
begun_with_a_signal = begun ∷ signaled (key 1 2) (key 1 1) 3 (signal_kind (codes "ping") (codes "x")) ∷ []

-- its dump
abbrev pub dumped : List ℕ
dumped =
    codes "dump 2 alpha w1\n" ++ flat_map (λ b. batch_text b ++ codes "\n") begun_with_a_signal
    ++ concat ((run_as 1 1 (codes "open") (codes " current")
    ++ concat ((branch_as 1 2 (item 3 1 ∷ []) (codes " current") ++ codes "state " ++ state_as 4 2 1 ++ codes "\n") ∷ [])) ∷ []) ++ codes "end\n"

-- a line of a batch in a tree: what it comes after, and its first and last event
abbrev pub batch_as : ℕ → List ℕ → ℕ → ℕ → List ℕ
batch_as task after from to =
    codes "batch " ++ key_text (key 1 task) ++ codes " after " ++ after ++ codes " events " ++ decimal from ++ codes ".." ++ decimal to ++ codes " current" ++ codes "\n"

-- the tree of the same workflow
abbrev pub tree_as : List ℕ
tree_as =
    codes "workflow alpha w1\n"
    ++ concat ((run_as 1 1 (codes "open") (codes " current") ++ concat (batch_as 1 (codes "-") 1 2 ∷ batch_as 2 (key_text (key 1 1)) 3 3 ∷ [])
    ++ concat (branch_as 1 2 (item 3 1 ∷ []) (codes " current") ∷ [])) ∷ [])

-- domains: registered, failed over and retained
abbrev pub on_domains : List Act
on_domains =
    register A (0 ∷ 1 ∷ []) ∷ failover A B ∷ act.Register A (codes "beta") B 7 (0 ∷ 1 ∷ []) ∷ act.Failover A (codes "beta") A ∷ act.Failover A (codes "beta") A
    ∷ act.Domain A (codes "alpha") ∷ act.Retain A (codes "alpha") 30 ∷ act.Retain B (codes "alpha") 30 ∷ register A (0 ∷ 1 ∷ []) ∷ []

-- a workflow that goes on at B after a failover, without a conflict
abbrev pub without_conflict : List Act
without_conflict =
    register A (0 ∷ 1 ∷ []) ∷ act.Domains B A ∷ start A ∷ signal A (codes "ping") (codes "x") ∷ act.Pull B A ∷ act.Work B ∷ failover A B ∷ act.Domains B A
    ∷ signal B (codes "ping") (codes "y") ∷ signal B (codes "ping") (codes "z") ∷ act.Branches B (codes "alpha") (codes "w1") ∷ []

-- the beginning of scripts in which B takes a workflow over while A does not know
abbrev pub taken_over : List Act
taken_over = register A (0 ∷ 1 ∷ []) ∷ act.Domains B A ∷ start A ∷ act.Pull B A ∷ act.Work B ∷ failover B B ∷ []

-- a conflict: both signal, and a settlement makes them alike
abbrev pub with_conflict : List Act
with_conflict =
    taken_over
    ++ signal B (codes "b1") (codes "y") ∷ signal A (codes "a1") (codes "x") ∷ act.Pull A B ∷ act.Work A ∷ act.Branches A (codes "alpha") (codes "w1") ∷ signal A (codes "a2") (codes "x") ∷ act.Pull B A ∷ act.Work B
    ∷ act.StateOf B (codes "alpha") (codes "w1") ∷ act.Settle ∷ act.Command A (codes "alpha") (codes "w2") (command.Start (codes "order")) ∷ []

-- messages that are lost, and queues that are trimmed
abbrev pub with_losses : List Act
with_losses =
    register A (0 ∷ 1 ∷ []) ∷ start A ∷ signal A (codes "ping") (codes "x") ∷ act.Pull B A ∷ act.Lose B A 0 0 ∷ act.Lose B A 0 1 ∷ act.Work B ∷ act.LevelsOf B A 0 ∷ act.Trim A
    ∷ act.Rewind B A ∷ act.Pull B A ∷ act.Work B ∷ act.Trim A ∷ act.LevelsOf B A 0 ∷ []

-- a pull of one entry, and then of what is left
abbrev pub with_a_short_pull : List Act
with_a_short_pull =
    register A (0 ∷ 1 ∷ []) ∷ start A ∷ signal A (codes "ping") (codes "x") ∷ act.PullSome B A 0 1 ∷ act.Work B ∷ act.LevelsOf B A 0 ∷ act.PullSome B A 0 5 ∷ act.LevelsOf B A 0 ∷ act.Work B
    ∷ act.PullSome B A 0 5 ∷ act.LevelsOf B A 0 ∷ []

-- messages that are repeated and moved
abbrev pub with_repeats : List Act
with_repeats =
    register A (0 ∷ 1 ∷ 2 ∷ []) ∷ act.Domains B A ∷ start A ∷ act.Pull B A ∷ act.Work B ∷ failover B B ∷ signal B (codes "b1") (codes "y") ∷ signal A (codes "a1") (codes "x")
    ∷ act.Pull C B ∷ act.Work C ∷ act.Gaps C ∷ act.LevelsOf C B 0 ∷ act.Pull C A ∷ act.Repeat C A 0 1 ∷ act.Move C A 0 1 0 ∷ act.Work C ∷ []

-- a command in a burst
abbrev pub job : ℕ → List ℕ → Command → BurstJob
job number workflow asked = record { number = number; domain = codes "alpha"; workflow = workflow; command = asked }

-- a burst with a run that goes on as a new one
abbrev pub with_a_burst : List Line
with_a_burst =
    record { number = 6; act = act.Register A (codes "alpha") A 7 (0 ∷ []) }
    ∷ record {
      number = 7;
      act = act.Burst A (
          job 8 (codes "w1") (command.Start (codes "order")) ∷ job 9 (codes "w1") command.Decide ∷ job 10 (codes "w2") (command.Start (codes "order"))
          ∷ job 11 (codes "w1") (command.Respond (action.Continue (codes "order") ∷ [])) ∷ []);
    }
    ∷ record { number = 13; act = act.Current A (codes "alpha") (codes "w1") } ∷ []

-- a member that is added later, and what it is brought
abbrev pub with_a_late_member : List Act
with_a_late_member =
    register A (0 ∷ 1 ∷ []) ∷ act.Domains B A ∷ start A ∷ signal A (codes "p") (codes "x") ∷ act.Pull B A ∷ act.Work B ∷ act.Pull C A ∷ act.Work C ∷ act.Trim A ∷ failover A C
    ∷ act.Join A (codes "alpha") C ∷ signal A (codes "q") (codes "x") ∷ act.Pull C A ∷ act.Work C ∷ act.LevelsOf C A 0 ∷ act.Bootstrap C A ∷ act.LevelsOf C A 0
    ∷ act.MembersOf A (codes "alpha") ∷ act.Join A (codes "alpha") C ∷ []

-- a batch that carries another one, put off and sent again
abbrev pub with_a_carried_batch : List Act
with_a_carried_batch =
    register A (0 ∷ 1 ∷ []) ∷ start A ∷ ask A command.Decide ∷ ask A (command.Respond (action.Continue (codes "order") ∷ [])) ∷ act.Pull B A ∷ act.Lose B A 0 0 ∷ act.Work B
    ∷ act.Gaps B ∷ act.Resend B ∷ act.LevelsOf B A 0 ∷ []

-- a handover, from its beginning to its end
abbrev pub with_a_handover : List Act
with_a_handover =
    register A (0 ∷ 1 ∷ []) ∷ act.Domains B A ∷ start A ∷ act.Handover A (codes "alpha") B ∷ signal A (codes "a") (codes "x") ∷ act.Complete B (codes "alpha") ∷ act.Pull B A ∷ act.Work B
    ∷ act.Complete B (codes "alpha") ∷ signal B (codes "b") (codes "y") ∷ act.Branches B (codes "alpha") (codes "w1") ∷ act.Complete B (codes "alpha") ∷ []

-- a handover that is overtaken
abbrev pub with_an_overtaken_handover : List Act
with_an_overtaken_handover =
    register A (0 ∷ 1 ∷ []) ∷ act.Domains B A ∷ start A ∷ act.Handover A (codes "alpha") B ∷ act.Handover B (codes "alpha") A ∷ failover B B ∷ act.Complete B (codes "alpha")
    ∷ act.Complete B (codes "alpha") ∷ []

-- a run that is reset
abbrev pub with_a_reset : List Act
with_a_reset =
    act.Register A (codes "alpha") A 7 (0 ∷ []) ∷ start A ∷ signal A (codes "p") (codes "x") ∷ ask A command.Decide ∷ ask A (command.Respond (action.Timer (codes "t") ∷ []))
    ∷ signal A (codes "q") (codes "y") ∷ act.Reset A (codes "alpha") (codes "w1") 4 ∷ act.Reset A (codes "alpha") (codes "w1") 5 ∷ act.History A (codes "alpha") (codes "w1") ∷ act.StateOf A (codes "alpha") (codes "w1")
    ∷ act.Current A (codes "alpha") (codes "w1") ∷ []

-- a closed run that is reset: the new one has the next task
abbrev pub with_a_reset_of_a_closed_run : List Act
with_a_reset_of_a_closed_run =
    act.Register A (codes "alpha") A 7 (0 ∷ []) ∷ start A ∷ signal A (codes "p") (codes "x") ∷ ask A command.Decide ∷ ask A (command.Respond (action.Timer (codes "t") ∷ []))
    ∷ signal A (codes "q") (codes "y") ∷ ask A (command.Terminate (codes "stop")) ∷ act.Reset A (codes "alpha") (codes "w1") 5 ∷ act.Current A (codes "alpha") (codes "w1") ∷ []

-- a cluster tells of the activity
abbrev pub beat : ClusterNo → List ℕ → Act
beat cluster details = act.Beat cluster (codes "alpha") (codes "w1") (codes "pay") details

-- a cluster shows what it holds of it
abbrev pub progress : ClusterNo → Act
progress cluster = act.ProgressOf cluster (codes "alpha") (codes "w1") (codes "pay")

-- an activity whose progress is told, and told on
abbrev pub with_progress : List Act
with_progress =
    register A (0 ∷ 1 ∷ []) ∷ act.Domains B A ∷ start A ∷ ask A command.Decide ∷ ask A (command.Respond (action.Activity (codes "pay") (codes "charge") ∷ []))
    ∷ beat A (codes "p0") ∷ ask A (command.ActivityStart (codes "pay")) ∷ beat A (codes "p10") ∷ beat A (codes "p20") ∷ act.Pull B A ∷ act.Work B ∷ progress B ∷ act.Sync B A ∷ progress B
    ∷ failover B B ∷ beat B (codes "p5") ∷ beat A (codes "p30") ∷ act.Sync A B ∷ act.Sync B A ∷ progress A ∷ beat A (codes "p40") ∷ []

-- a new run that comes before the old one's close
abbrev pub with_two_runs : List Act
with_two_runs =
    register A (0 ∷ 1 ∷ []) ∷ act.Domains B A ∷ start A ∷ act.Pull B A ∷ act.Work B ∷ ask A (command.Terminate (codes "stop")) ∷ start A ∷ act.Pull B A ∷ act.Lose B A 0 0 ∷ act.Work B
    ∷ act.Branches B (codes "alpha") (codes "w1") ∷ act.Rewind B A ∷ act.Pull B A ∷ act.Work B ∷ act.Current B (codes "alpha") (codes "w1") ∷ []

-- signals that are copied on two branches
abbrev pub with_copies : List Act
with_copies =
    register A (0 ∷ 1 ∷ 2 ∷ []) ∷ act.Domains B A ∷ act.Domains C A ∷ start A ∷ act.Pull B A ∷ act.Work B ∷ act.Pull C A ∷ act.Work C ∷ signal A (codes "a1") (codes "x") ∷ failover B B
    ∷ signal B (codes "b1") (codes "y") ∷ failover C C ∷ signal C (codes "c1") (codes "z") ∷ act.Pull B A ∷ act.Work B ∷ act.Pull C A ∷ act.Work C ∷ act.Settle
    ∷ act.StateOf A (codes "alpha") (codes "w1") ∷ act.Branches A (codes "alpha") (codes "w1") ∷ []

-- strays of a closed run, which wait for the next one
abbrev pub with_a_closed_run : List Act
with_a_closed_run =
    taken_over
    ++ ask B (command.Terminate (codes "stop")) ∷ signal A (codes "a1") (codes "x") ∷ act.Pull B A ∷ act.Work B ∷ signal B (codes "b1") (codes "y") ∷ start B ∷ act.Work B
    ∷ act.History B (codes "alpha") (codes "w1") ∷ []

-- a message that comes damaged is set aside, and comes again
abbrev pub with_a_letter : List Act
with_a_letter =
    register A (0 ∷ 1 ∷ []) ∷ start A ∷ signal A (codes "ping") (codes "x") ∷ act.Pull B A ∷ act.Damage B A 0 0 30 ∷ act.Work B ∷ act.LettersOf B ∷ act.LevelsOf B A 0 ∷ act.MergeLetters B
    ∷ act.LevelsOf B A 0 ∷ act.LettersOf B ∷ []

-- a letter that is dropped: its message is read again
abbrev pub with_a_purge : List Act
with_a_purge =
    register A (0 ∷ 1 ∷ []) ∷ start A ∷ signal A (codes "ping") (codes "x") ∷ act.Pull B A ∷ act.Damage B A 0 0 30 ∷ act.Work B ∷ act.Purge B ∷ act.Rewind B A ∷ act.Pull B A ∷ act.Work B
    ∷ act.Damage B A 0 0 1 ∷ []

-- one workflow at one cluster
abbrev pub single_workflow : List Act
single_workflow = act.Register A (codes "alpha") A 7 (0 ∷ []) ∷ start A ∷ signal A (codes "ping") (codes "x") ∷ act.History A (codes "alpha") (codes "w1") ∷ act.Dump A (codes "alpha") (codes "w1") ∷ []

-- an indexer that is asked for, and whose calls of these numbers fail
abbrev pub asked_for : List ℕ → List ℕ → Asked
asked_for name failing = record { name = name; failing = failing; own = [] }

-- the index lines of a script
abbrev pub index_lines : Header → List Line → List Asked → List (List ℕ)
index_lines header lines indexers = map (index_line (seen_in (ran_of (script_of header lines)))) indexers

-- what indexers are told of a script: at which cluster, and the key of the batch
abbrev pub told_keys : Header → List Line → List (ClusterNo × BatchKey)
told_keys header lines = map (λ told. (told.cluster, told.batch.key)) (seen_in (ran_of (script_of header lines)))

-- answers after their numbers, as the report has them
abbrev pub told_lines : List (ℕ × List ℕ) → List ℕ
told_lines lines = flat_map (λ line. decimal line.0 ++ codes " " ++ line.1) lines
