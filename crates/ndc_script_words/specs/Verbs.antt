-- The words that begin lines and actions.
use Rattle.std.specs.Prelude.{ℕ, nat_le, Option, None, Some, List, [], ◌∷◌, codes, if◌then◌else◌}
use Rattle.std.specs.Str.{bytes_eq}
use Rattle.ndc_script_words.specs.declared.verb.Verb.{Verb}
use Rattle.ndc_script_words.specs.declared.verb.Verb.TheVariants as verb
use Rattle.ndc_script_words.specs.declared.verb.CommandVerb.TheVariants as command
use Rattle.ndc_script_words.specs.declared.verb.BareCommand.TheVariants as bare
use Rattle.ndc_script_words.specs.declared.verb.NamedCommand.TheVariants as named
use Rattle.ndc_script_words.specs.declared.verb.PairedCommand.TheVariants as paired
use Rattle.ndc_script_words.specs.declared.verb.DomainVerb.TheVariants as domain
use Rattle.ndc_script_words.specs.declared.verb.TargetVerb.TheVariants as target
use Rattle.ndc_script_words.specs.declared.verb.PairVerb.TheVariants as pair
use Rattle.ndc_script_words.specs.declared.verb.PlaceVerb.TheVariants as place
use Rattle.ndc_script_words.specs.declared.verb.PlacesVerb.TheVariants as places
use Rattle.ndc_script_words.specs.declared.verb.ClusterVerb.TheVariants as cluster
use Rattle.ndc_script_words.specs.declared.verb.WorkflowVerb.TheVariants as workflow
use Rattle.ndc_script_words.specs.declared.verb.ActionVerb.{ActionVerb}
use Rattle.ndc_script_words.specs.declared.verb.ActionVerb.TheVariants as action
use Rattle.ndc_script_words.specs.declared.verb.NamedAction.TheVariants as named_action
use Rattle.ndc_script_words.specs.declared.verb.PairedAction.TheVariants as paired_action
use Rattle.ndc_script_words.specs.declared.verb.ClosingAction.TheVariants as closing

-- first words up to the letter b
unfoldable pub verb_to_b : List ℕ → Option Verb
verb_to_b word =
    if bytes_eq word (codes "actstart") then Some (verb.Command (command.Named named.ActivityStart))
    else if bytes_eq word (codes "actdone") then Some (verb.Command (command.Paired paired.ActivityDone))
    else if bytes_eq word (codes "actfail") then Some (verb.Command (command.Paired paired.ActivityFail))
    else if bytes_eq word (codes "acttimeout") then Some (verb.Command (command.Named named.ActivityTimeout))
    else if bytes_eq word (codes "beat") then Some verb.Beat
    else if bytes_eq word (codes "bootstrap") then Some (verb.Pair pair.Bootstrap)
    else if bytes_eq word (codes "branches") then Some (verb.Workflow workflow.Branches)
    else if bytes_eq word (codes "burst") then Some verb.Burst
    else None

-- first words with the letter c
unfoldable pub verb_c : List ℕ → Option Verb
verb_c word =
    if bytes_eq word (codes "cancel") then Some (verb.Command (command.Bare bare.Cancel))
    else if bytes_eq word (codes "childstart") then Some (verb.Command (command.Named named.ChildStart))
    else if bytes_eq word (codes "childdone") then Some (verb.Command (command.Paired paired.ChildDone))
    else if bytes_eq word (codes "childfail") then Some (verb.Command (command.Paired paired.ChildFail))
    else if bytes_eq word (codes "compare") then Some verb.Compare
    else if bytes_eq word (codes "complete") then Some (verb.Domain domain.Complete)
    else if bytes_eq word (codes "current") then Some (verb.Workflow workflow.Current)
    else None

-- first words with the letter d
unfoldable pub verb_d : List ℕ → Option Verb
verb_d word =
    if bytes_eq word (codes "damage") then Some (verb.Places places.Damage)
    else if bytes_eq word (codes "decide") then Some (verb.Command (command.Bare bare.Decide))
    else if bytes_eq word (codes "domain") then Some (verb.Domain domain.Domain)
    else if bytes_eq word (codes "domains") then Some (verb.Pair pair.Domains)
    else if bytes_eq word (codes "dump") then Some (verb.Workflow workflow.Dump)
    else None

-- first words with the letters e to h
unfoldable pub verb_to_h : List ℕ → Option Verb
verb_to_h word =
    if bytes_eq word (codes "faildecision") then Some (verb.Command (command.Named named.FailDecision))
    else if bytes_eq word (codes "failover") then Some (verb.Target target.Failover)
    else if bytes_eq word (codes "fire") then Some (verb.Command (command.Named named.Fire))
    else if bytes_eq word (codes "gaps") then Some (verb.Cluster cluster.Gaps)
    else if bytes_eq word (codes "handover") then Some verb.Handover
    else if bytes_eq word (codes "history") then Some (verb.Workflow workflow.History)
    else None

-- first words with the letters i to m
unfoldable pub verb_to_m : List ℕ → Option Verb
verb_to_m word =
    if bytes_eq word (codes "join") then Some (verb.Target target.Join)
    else if bytes_eq word (codes "letters") then Some (verb.Cluster cluster.Letters)
    else if bytes_eq word (codes "levels") then Some verb.Levels
    else if bytes_eq word (codes "lose") then Some (verb.Place place.Lose)
    else if bytes_eq word (codes "members") then Some (verb.Domain domain.Members)
    else if bytes_eq word (codes "mergeletters") then Some (verb.Cluster cluster.MergeLetters)
    else if bytes_eq word (codes "move") then Some (verb.Places places.Move)
    else None

-- first words with the letters n to q
unfoldable pub verb_to_q : List ℕ → Option Verb
verb_to_q word =
    if bytes_eq word (codes "progress") then Some verb.Progress
    else if bytes_eq word (codes "pull") then Some verb.Pull
    else if bytes_eq word (codes "purge") then Some (verb.Cluster cluster.Purge)
    else None

-- first words with the letter r
unfoldable pub verb_r : List ℕ → Option Verb
verb_r word =
    if bytes_eq word (codes "register") then Some verb.Register
    else if bytes_eq word (codes "repeat") then Some (verb.Place place.Repeat)
    else if bytes_eq word (codes "resend") then Some (verb.Cluster cluster.Resend)
    else if bytes_eq word (codes "reset") then Some verb.Reset
    else if bytes_eq word (codes "respond") then Some (verb.Command command.Respond)
    else if bytes_eq word (codes "retain") then Some verb.Retain
    else if bytes_eq word (codes "rewind") then Some (verb.Pair pair.Rewind)
    else None

-- first words with the letter s
unfoldable pub verb_s : List ℕ → Option Verb
verb_s word =
    if bytes_eq word (codes "settle") then Some verb.Settle
    else if bytes_eq word (codes "signal") then Some (verb.Command (command.Paired paired.Signal))
    else if bytes_eq word (codes "start") then Some (verb.Command (command.Named named.Start))
    else if bytes_eq word (codes "state") then Some (verb.Workflow workflow.State)
    else if bytes_eq word (codes "sync") then Some (verb.Pair pair.Sync)
    else None

-- first words from the letter t on
unfoldable pub verb_from_t : List ℕ → Option Verb
verb_from_t word =
    if bytes_eq word (codes "terminate") then Some (verb.Command (command.Named named.Terminate))
    else if bytes_eq word (codes "timeoutdecision") then Some (verb.Command (command.Bare bare.TimeoutDecision))
    else if bytes_eq word (codes "trim") then Some (verb.Cluster cluster.Trim)
    else if bytes_eq word (codes "work") then Some (verb.Cluster cluster.Work)
    else None

-- what a line that begins with this word is, by the first letter; 98 is the code of `b`, and so on
unfoldable pub verb_of : List ℕ → Option Verb
verb_of [] = None
verb_of (letter ∷ letters) =
    if nat_le letter 98 then verb_to_b (letter ∷ letters)
    else if nat_le letter 99 then verb_c (letter ∷ letters)
    else if nat_le letter 100 then verb_d (letter ∷ letters)
    else if nat_le letter 104 then verb_to_h (letter ∷ letters)
    else if nat_le letter 109 then verb_to_m (letter ∷ letters)
    else if nat_le letter 113 then verb_to_q (letter ∷ letters)
    else if nat_le letter 114 then verb_r (letter ∷ letters)
    else if nat_le letter 115 then verb_s (letter ∷ letters)
    else verb_from_t (letter ∷ letters)

-- what an action is that closes the run and begins with this word
unfoldable pub closing_verb : List ℕ → Option ActionVerb
closing_verb word =
    if bytes_eq word (codes "complete") then Some (action.Closing closing.Complete)
    else if bytes_eq word (codes "fail") then Some (action.Closing closing.Fail)
    else if bytes_eq word (codes "canceled") then Some action.Canceled
    else if bytes_eq word (codes "continue") then Some (action.Closing closing.Continue)
    else None

-- what an action that begins with this word is
unfoldable pub action_verb : List ℕ → Option ActionVerb
action_verb word =
    if bytes_eq word (codes "activity") then Some (action.Paired paired_action.Activity)
    else if bytes_eq word (codes "timer") then Some (action.Named named_action.Timer)
    else if bytes_eq word (codes "untimer") then Some (action.Named named_action.Untimer)
    else if bytes_eq word (codes "child") then Some (action.Paired paired_action.Child)
    else if bytes_eq word (codes "marker") then Some (action.Named named_action.Marker)
    else closing_verb word
