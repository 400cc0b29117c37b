-- A verb that is read is that of its word.
use Rattle.std.proofs.Common.{◌≡◌, ℕ, Bool, true, false, nat_le, List, [], ◌∷◌, Option, Some, None, codes, refl, ◌∙◌, ap, if◌then◌else◌}
use Rattle.std.specs.Str.{bytes_eq}
use Rattle.std.proofs.lemmas.Slice.Eq.{bytes_eq-Decides}
use Rattle.ndc_script_words.specs.declared.verb.ActionVerb.{ActionVerb}
use Rattle.ndc_script_words.specs.declared.verb.ActionVerb.TheVariants as action
use Rattle.ndc_script_words.specs.declared.verb.BareCommand.{BareCommand}
use Rattle.ndc_script_words.specs.declared.verb.BareCommand.TheVariants as bare
use Rattle.ndc_script_words.specs.declared.verb.ClosingAction.TheVariants as closing
use Rattle.ndc_script_words.specs.declared.verb.ClusterVerb.{ClusterVerb}
use Rattle.ndc_script_words.specs.declared.verb.ClusterVerb.TheVariants as cluster
use Rattle.ndc_script_words.specs.declared.verb.CommandVerb.{CommandVerb}
use Rattle.ndc_script_words.specs.declared.verb.CommandVerb.TheVariants as command
use Rattle.ndc_script_words.specs.declared.verb.DomainVerb.{DomainVerb}
use Rattle.ndc_script_words.specs.declared.verb.DomainVerb.TheVariants as domain
use Rattle.ndc_script_words.specs.declared.verb.NamedAction.TheVariants as named_action
use Rattle.ndc_script_words.specs.declared.verb.NamedCommand.{NamedCommand}
use Rattle.ndc_script_words.specs.declared.verb.NamedCommand.TheVariants as named
use Rattle.ndc_script_words.specs.declared.verb.PairVerb.{PairVerb}
use Rattle.ndc_script_words.specs.declared.verb.PairVerb.TheVariants as pair
use Rattle.ndc_script_words.specs.declared.verb.PairedAction.TheVariants as paired_action
use Rattle.ndc_script_words.specs.declared.verb.PairedCommand.{PairedCommand}
use Rattle.ndc_script_words.specs.declared.verb.PairedCommand.TheVariants as paired
use Rattle.ndc_script_words.specs.declared.verb.PlaceVerb.{PlaceVerb}
use Rattle.ndc_script_words.specs.declared.verb.PlaceVerb.TheVariants as place
use Rattle.ndc_script_words.specs.declared.verb.PlacesVerb.{PlacesVerb}
use Rattle.ndc_script_words.specs.declared.verb.PlacesVerb.TheVariants as places
use Rattle.ndc_script_words.specs.declared.verb.TargetVerb.{TargetVerb}
use Rattle.ndc_script_words.specs.declared.verb.TargetVerb.TheVariants as target
use Rattle.ndc_script_words.specs.declared.verb.Verb.{Verb}
use Rattle.ndc_script_words.specs.declared.verb.Verb.TheVariants as verb
use Rattle.ndc_script_words.specs.declared.verb.WorkflowVerb.{WorkflowVerb}
use Rattle.ndc_script_words.specs.declared.verb.WorkflowVerb.TheVariants as workflow
use Rattle.ndc_script_words.specs.Verbs.{verb_to_b, verb_c, verb_d, verb_to_h, verb_to_m, verb_to_q, verb_r, verb_s, verb_from_t, verb_of, closing_verb, action_verb}

-- the words that begin lines and actions
abbrev pub bare_word : BareCommand → List ℕ
bare_word bare.Cancel = codes "cancel"
bare_word bare.Decide = codes "decide"
bare_word bare.TimeoutDecision = codes "timeoutdecision"

abbrev pub named_word : NamedCommand → List ℕ
named_word named.Start = codes "start"
named_word named.Terminate = codes "terminate"
named_word named.FailDecision = codes "faildecision"
named_word named.ActivityStart = codes "actstart"
named_word named.ActivityTimeout = codes "acttimeout"
named_word named.Fire = codes "fire"
named_word named.ChildStart = codes "childstart"

abbrev pub paired_word : PairedCommand → List ℕ
paired_word paired.Signal = codes "signal"
paired_word paired.ActivityDone = codes "actdone"
paired_word paired.ActivityFail = codes "actfail"
paired_word paired.ChildDone = codes "childdone"
paired_word paired.ChildFail = codes "childfail"

abbrev pub command_word : CommandVerb → List ℕ
command_word (command.Bare one) = bare_word one
command_word (command.Named one) = named_word one
command_word (command.Paired one) = paired_word one
command_word command.Respond = codes "respond"

abbrev pub domain_word : DomainVerb → List ℕ
domain_word domain.Domain = codes "domain"
domain_word domain.Members = codes "members"
domain_word domain.Complete = codes "complete"

abbrev pub target_word : TargetVerb → List ℕ
target_word target.Join = codes "join"
target_word target.Failover = codes "failover"

abbrev pub pair_word : PairVerb → List ℕ
pair_word pair.Pull = codes "pull"
pair_word pair.Rewind = codes "rewind"
pair_word pair.Bootstrap = codes "bootstrap"
pair_word pair.Domains = codes "domains"
pair_word pair.Sync = codes "sync"

abbrev pub place_word : PlaceVerb → List ℕ
place_word place.Pull = codes "pull"
place_word place.Lose = codes "lose"
place_word place.Repeat = codes "repeat"

abbrev pub places_word : PlacesVerb → List ℕ
places_word places.Move = codes "move"
places_word places.Damage = codes "damage"

abbrev pub cluster_word : ClusterVerb → List ℕ
cluster_word cluster.Work = codes "work"
cluster_word cluster.Trim = codes "trim"
cluster_word cluster.Gaps = codes "gaps"
cluster_word cluster.Resend = codes "resend"
cluster_word cluster.Letters = codes "letters"
cluster_word cluster.Purge = codes "purge"
cluster_word cluster.MergeLetters = codes "mergeletters"

abbrev pub workflow_word : WorkflowVerb → List ℕ
workflow_word workflow.History = codes "history"
workflow_word workflow.Branches = codes "branches"
workflow_word workflow.Current = codes "current"
workflow_word workflow.State = codes "state"
workflow_word workflow.Dump = codes "dump"

abbrev pub verb_word : Verb → List ℕ
verb_word (verb.Command one) = command_word one
verb_word verb.Burst = codes "burst"
verb_word verb.Register = codes "register"
verb_word verb.Retain = codes "retain"
verb_word (verb.Domain one) = domain_word one
verb_word (verb.Target one) = target_word one
verb_word verb.Handover = codes "handover"
verb_word (verb.Pair one) = pair_word one
verb_word verb.Pull = codes "pull"
verb_word (verb.Place one) = place_word one
verb_word (verb.Places one) = places_word one
verb_word verb.Levels = codes "levels"
verb_word (verb.Cluster one) = cluster_word one
verb_word verb.Settle = codes "settle"
verb_word (verb.Workflow one) = workflow_word one
verb_word verb.Compare = codes "compare"
verb_word verb.Reset = codes "reset"
verb_word verb.Beat = codes "beat"
verb_word verb.Progress = codes "progress"

abbrev pub action_word : ActionVerb → List ℕ
action_word (action.Named named_action.Timer) = codes "timer"
action_word (action.Named named_action.Untimer) = codes "untimer"
action_word (action.Named named_action.Marker) = codes "marker"
action_word (action.Paired paired_action.Activity) = codes "activity"
action_word (action.Paired paired_action.Child) = codes "child"
action_word (action.Closing closing.Complete) = codes "complete"
action_word (action.Closing closing.Fail) = codes "fail"
action_word (action.Closing closing.Continue) = codes "continue"
action_word action.Canceled = codes "canceled"

-- what is read of a word is of this word
abbrev IsOfWord : {V : Type 0} → (V → List ℕ) → List ℕ → Option V → Type 0
IsOfWord {V} word_of word found = (v : V) → found ≡ Some v → word ≡ word_of v

none-of : {V : Type 0} (word_of : V → List ℕ) (word : List ℕ) → IsOfWord word_of word None
none-of word_of word v e = absurd (cc)

-- a word that is tested, and those after it
module _ {V : Type 0} (word_of : V → List ℕ) (word : List ℕ) where
  tested : (name : List ℕ) (one : V) (rest : Option V) → name ≡ word_of one → IsOfWord word_of word rest → IsOfWord word_of word (if bytes_eq word name then Some one else rest)
  tested name one rest is behind = by (bytes_eq word name) refl
    where
      by : (t : Bool) → bytes_eq word name ≡ t → IsOfWord word_of word (if t then Some one else rest)
      by true e v found = let same : one ≡ v = cc in (bytes_eq-Decides word name).0 e ∙ is ∙ ap word_of same
      by false e v found = behind v found

  either : (t : Bool) (one two : Option V) → IsOfWord word_of word one → IsOfWord word_of word two → IsOfWord word_of word (if t then one else two)
  either true one two first second = first
  either false one two first second = second

module _ (word : List ℕ) where
  none : IsOfWord verb_word word None
  none = none-of verb_word word

  to-b : IsOfWord verb_word word (verb_to_b word)
  unfolding verb_to_b
  to-b =
      tested verb_word word (codes "actstart") (verb.Command (command.Named named.ActivityStart)) _ refl
      (tested verb_word word (codes "actdone") (verb.Command (command.Paired paired.ActivityDone)) _ refl
      (tested verb_word word (codes "actfail") (verb.Command (command.Paired paired.ActivityFail)) _ refl
      (tested verb_word word (codes "acttimeout") (verb.Command (command.Named named.ActivityTimeout)) _ refl
      (tested verb_word word (codes "beat") verb.Beat _ refl
      (tested verb_word word (codes "bootstrap") (verb.Pair pair.Bootstrap) _ refl
      (tested verb_word word (codes "branches") (verb.Workflow workflow.Branches) _ refl
      (tested verb_word word (codes "burst") verb.Burst None refl none)))))))

  with-c : IsOfWord verb_word word (verb_c word)
  unfolding verb_c
  with-c =
      tested verb_word word (codes "cancel") (verb.Command (command.Bare bare.Cancel)) _ refl
      (tested verb_word word (codes "childstart") (verb.Command (command.Named named.ChildStart)) _ refl
      (tested verb_word word (codes "childdone") (verb.Command (command.Paired paired.ChildDone)) _ refl
      (tested verb_word word (codes "childfail") (verb.Command (command.Paired paired.ChildFail)) _ refl
      (tested verb_word word (codes "compare") verb.Compare _ refl
      (tested verb_word word (codes "complete") (verb.Domain domain.Complete) _ refl
      (tested verb_word word (codes "current") (verb.Workflow workflow.Current) None refl none))))))

  with-d : IsOfWord verb_word word (verb_d word)
  unfolding verb_d
  with-d =
      tested verb_word word (codes "damage") (verb.Places places.Damage) _ refl
      (tested verb_word word (codes "decide") (verb.Command (command.Bare bare.Decide)) _ refl
      (tested verb_word word (codes "domain") (verb.Domain domain.Domain) _ refl
      (tested verb_word word (codes "domains") (verb.Pair pair.Domains) _ refl
      (tested verb_word word (codes "dump") (verb.Workflow workflow.Dump) None refl none))))

  to-h : IsOfWord verb_word word (verb_to_h word)
  unfolding verb_to_h
  to-h =
      tested verb_word word (codes "faildecision") (verb.Command (command.Named named.FailDecision)) _ refl
      (tested verb_word word (codes "failover") (verb.Target target.Failover) _ refl
      (tested verb_word word (codes "fire") (verb.Command (command.Named named.Fire)) _ refl
      (tested verb_word word (codes "gaps") (verb.Cluster cluster.Gaps) _ refl
      (tested verb_word word (codes "handover") verb.Handover _ refl
      (tested verb_word word (codes "history") (verb.Workflow workflow.History) None refl none)))))

  to-m : IsOfWord verb_word word (verb_to_m word)
  unfolding verb_to_m
  to-m =
      tested verb_word word (codes "join") (verb.Target target.Join) _ refl
      (tested verb_word word (codes "letters") (verb.Cluster cluster.Letters) _ refl
      (tested verb_word word (codes "levels") verb.Levels _ refl
      (tested verb_word word (codes "lose") (verb.Place place.Lose) _ refl
      (tested verb_word word (codes "members") (verb.Domain domain.Members) _ refl
      (tested verb_word word (codes "mergeletters") (verb.Cluster cluster.MergeLetters) _ refl
      (tested verb_word word (codes "move") (verb.Places places.Move) None refl none))))))

  to-q : IsOfWord verb_word word (verb_to_q word)
  unfolding verb_to_q
  to-q =
      tested verb_word word (codes "progress") verb.Progress _ refl
      (tested verb_word word (codes "pull") verb.Pull _ refl (tested verb_word word (codes "purge") (verb.Cluster cluster.Purge) None refl none))

  with-r : IsOfWord verb_word word (verb_r word)
  unfolding verb_r
  with-r =
      tested verb_word word (codes "register") verb.Register _ refl
      (tested verb_word word (codes "repeat") (verb.Place place.Repeat) _ refl
      (tested verb_word word (codes "resend") (verb.Cluster cluster.Resend) _ refl
      (tested verb_word word (codes "reset") verb.Reset _ refl
      (tested verb_word word (codes "respond") (verb.Command command.Respond) _ refl
      (tested verb_word word (codes "retain") verb.Retain _ refl (tested verb_word word (codes "rewind") (verb.Pair pair.Rewind) None refl none))))))

  with-s : IsOfWord verb_word word (verb_s word)
  unfolding verb_s
  with-s =
      tested verb_word word (codes "settle") verb.Settle _ refl
      (tested verb_word word (codes "signal") (verb.Command (command.Paired paired.Signal)) _ refl
      (tested verb_word word (codes "start") (verb.Command (command.Named named.Start)) _ refl
      (tested verb_word word (codes "state") (verb.Workflow workflow.State) _ refl
      (tested verb_word word (codes "sync") (verb.Pair pair.Sync) None refl none))))

  from-t : IsOfWord verb_word word (verb_from_t word)
  unfolding verb_from_t
  from-t =
      tested verb_word word (codes "terminate") (verb.Command (command.Named named.Terminate)) _ refl
      (tested verb_word word (codes "timeoutdecision") (verb.Command (command.Bare bare.TimeoutDecision)) _ refl
      (tested verb_word word (codes "trim") (verb.Cluster cluster.Trim) _ refl
      (tested verb_word word (codes "work") (verb.Cluster cluster.Work) None refl none)))

  closing-is : IsOfWord action_word word (closing_verb word)
  unfolding closing_verb
  closing-is =
      tested action_word word (codes "complete") (action.Closing closing.Complete) _ refl
      (tested action_word word (codes "fail") (action.Closing closing.Fail) _ refl
      (tested action_word word (codes "canceled") action.Canceled _ refl
      (tested action_word word (codes "continue") (action.Closing closing.Continue) None refl (none-of action_word word))))

  -- an action
  pub action-is : IsOfWord action_word word (action_verb word)
  unfolding action_verb
  action-is =
      tested action_word word (codes "activity") (action.Paired paired_action.Activity) _ refl
      (tested action_word word (codes "timer") (action.Named named_action.Timer) _ refl
      (tested action_word word (codes "untimer") (action.Named named_action.Untimer) _ refl
      (tested action_word word (codes "child") (action.Paired paired_action.Child) _ refl
      (tested action_word word (codes "marker") (action.Named named_action.Marker) (closing_verb word) refl closing-is))))

-- a line
pub verb-is : (word : List ℕ) (v : Verb) → verb_of word ≡ Some v → word ≡ verb_word v
unfolding verb_of
verb-is [] v e = absurd (cc)
verb-is (letter ∷ letters) v e =
    (either verb_word word (nat_le letter 98) _ _ (to-b word)
    (either verb_word word (nat_le letter 99) _ _ (with-c word)
    (either verb_word word (nat_le letter 100) _ _ (with-d word)
    (either verb_word word (nat_le letter 104) _ _ (to-h word)
    (either verb_word word (nat_le letter 109) _ _ (to-m word)
    (either verb_word word (nat_le letter 113) _ _ (to-q word)
    (either verb_word word (nat_le letter 114) _ _ (with-r word) (either verb_word word (nat_le letter 115) _ _ (with-s word) (from-t word))))))))) v e
  where
    word : List ℕ
    word = letter ∷ letters
