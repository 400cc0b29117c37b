-- Printed commands are read again.
use Rattle.std.proofs.Common.{◌≡◌, ℕ, true, not, List, [], ◌∷◌, ◌++◌, flat_map, Some, Result, Ok, codes, refl, ap, ◌∙◌}
use Rattle.std.proofs.lemmas.Bool.{and_parts}
use Rattle.std.specs.List.{AllByRecursion as ByRecursion}
use Rattle.std.proofs.lemmas.List.Elements.{recursion_from_All}
use Rattle.ndc_event.specs.Outcome.{◌>>=◌}
use Rattle.ndc_command.specs.declared.command.Action.{Action}
use Rattle.ndc_command.specs.declared.command.Action.TheVariants as action
use Rattle.ndc_command.specs.declared.command.Command.{Command}
use Rattle.ndc_command.specs.declared.command.Command.TheVariants as command
use Rattle.ndc_script_types.specs.declared.script.ScriptError.{ScriptError}
use Rattle.ndc_script_words.specs.declared.verb.BareCommand.TheVariants as bare
use Rattle.ndc_script_words.specs.declared.verb.CommandVerb.{CommandVerb}
use Rattle.ndc_script_words.specs.declared.verb.CommandVerb.TheVariants as verb
use Rattle.ndc_script_words.specs.declared.verb.NamedCommand.TheVariants as named_verb
use Rattle.ndc_script_words.specs.declared.verb.PairedCommand.TheVariants as paired_verb
use Rattle.ndc_script_words.specs.declared.verb.Verb.TheVariants as line_verb
use Rattle.ndc_script_read.specs.Commands.{named_group, paired_group, closing_group, canceled_group, group_of, actions_behind, bare_of, named_of, paired_of, respond_of, command_of}
use Rattle.ndc_script_types.specs.Print.{action_words, command_words}
use Rattle.ndc_script_words.specs.Verbs.{verb_to_b, verb_c, verb_d, verb_to_h, verb_to_m, verb_to_q, verb_r, verb_s, verb_from_t, verb_of, closing_verb, action_verb}
use Rattle.ndc_script_types.specs.WellFormed.{IsWellFormedAction, IsWellFormedCommand, closes, closes_last}
use Rattle.ndc_script.proofs.PrintedOperands.{named-name}

-- the first word of a command line
abbrev pub first_word : Command → List ℕ
first_word (command.Start _) = codes "start"
first_word (command.Signal _ _) = codes "signal"
first_word command.Cancel = codes "cancel"
first_word (command.Terminate _) = codes "terminate"
first_word command.Decide = codes "decide"
first_word (command.FailDecision _) = codes "faildecision"
first_word command.TimeoutDecision = codes "timeoutdecision"
first_word (command.ActivityStart _) = codes "actstart"
first_word (command.ActivityDone _ _) = codes "actdone"
first_word (command.ActivityFail _ _) = codes "actfail"
first_word (command.ActivityTimeout _) = codes "acttimeout"
first_word (command.Fire _) = codes "fire"
first_word (command.ChildStart _) = codes "childstart"
first_word (command.ChildDone _ _) = codes "childdone"
first_word (command.ChildFail _ _) = codes "childfail"
first_word (command.Respond _) = codes "respond"

-- the verb of a command
abbrev pub verb_for : Command → CommandVerb
verb_for (command.Start _) = verb.Named named_verb.Start
verb_for (command.Signal _ _) = verb.Paired paired_verb.Signal
verb_for command.Cancel = verb.Bare bare.Cancel
verb_for (command.Terminate _) = verb.Named named_verb.Terminate
verb_for command.Decide = verb.Bare bare.Decide
verb_for (command.FailDecision _) = verb.Named named_verb.FailDecision
verb_for command.TimeoutDecision = verb.Bare bare.TimeoutDecision
verb_for (command.ActivityStart _) = verb.Named named_verb.ActivityStart
verb_for (command.ActivityDone _ _) = verb.Paired paired_verb.ActivityDone
verb_for (command.ActivityFail _ _) = verb.Paired paired_verb.ActivityFail
verb_for (command.ActivityTimeout _) = verb.Named named_verb.ActivityTimeout
verb_for (command.Fire _) = verb.Named named_verb.Fire
verb_for (command.ChildStart _) = verb.Named named_verb.ChildStart
verb_for (command.ChildDone _ _) = verb.Paired paired_verb.ChildDone
verb_for (command.ChildFail _ _) = verb.Paired paired_verb.ChildFail
verb_for (command.Respond _) = verb.Respond

-- the words of a command line after the workflow
abbrev pub operands : Command → List (List ℕ)
operands (command.Start workflow_type) = workflow_type ∷ []
operands (command.Signal name input) = name ∷ input ∷ []
operands command.Cancel = []
operands (command.Terminate reason) = reason ∷ []
operands command.Decide = []
operands (command.FailDecision cause) = cause ∷ []
operands command.TimeoutDecision = []
operands (command.ActivityStart id) = id ∷ []
operands (command.ActivityDone id result) = id ∷ result ∷ []
operands (command.ActivityFail id reason) = id ∷ reason ∷ []
operands (command.ActivityTimeout id) = id ∷ []
operands (command.Fire id) = id ∷ []
operands (command.ChildStart id) = id ∷ []
operands (command.ChildDone id result) = id ∷ result ∷ []
operands (command.ChildFail id reason) = id ∷ reason ∷ []
operands (command.Respond actions) = flat_map action_words actions

pub command_words-is : (cluster domain workflow : List ℕ) (asked : Command) → command_words cluster domain workflow asked ≡ first_word asked ∷ cluster ∷ domain ∷ workflow ∷ operands asked
command_words-is cluster domain workflow (command.Start _) = refl
command_words-is cluster domain workflow (command.Signal _ _) = refl
command_words-is cluster domain workflow command.Cancel = refl
command_words-is cluster domain workflow (command.Terminate _) = refl
command_words-is cluster domain workflow command.Decide = refl
command_words-is cluster domain workflow (command.FailDecision _) = refl
command_words-is cluster domain workflow command.TimeoutDecision = refl
command_words-is cluster domain workflow (command.ActivityStart _) = refl
command_words-is cluster domain workflow (command.ActivityDone _ _) = refl
command_words-is cluster domain workflow (command.ActivityFail _ _) = refl
command_words-is cluster domain workflow (command.ActivityTimeout _) = refl
command_words-is cluster domain workflow (command.Fire _) = refl
command_words-is cluster domain workflow (command.ChildStart _) = refl
command_words-is cluster domain workflow (command.ChildDone _ _) = refl
command_words-is cluster domain workflow (command.ChildFail _ _) = refl
command_words-is cluster domain workflow (command.Respond _) = refl

pub verb_of-first_word : (asked : Command) → verb_of (first_word asked) ≡ Some (line_verb.Command (verb_for asked))
unfolding verb_of verb_to_b verb_c verb_d verb_to_h verb_to_m verb_to_q verb_r verb_s verb_from_t
verb_of-first_word (command.Start _) = refl
verb_of-first_word (command.Signal _ _) = refl
verb_of-first_word command.Cancel = refl
verb_of-first_word (command.Terminate _) = refl
verb_of-first_word command.Decide = refl
verb_of-first_word (command.FailDecision _) = refl
verb_of-first_word command.TimeoutDecision = refl
verb_of-first_word (command.ActivityStart _) = refl
verb_of-first_word (command.ActivityDone _ _) = refl
verb_of-first_word (command.ActivityFail _ _) = refl
verb_of-first_word (command.ActivityTimeout _) = refl
verb_of-first_word (command.Fire _) = refl
verb_of-first_word (command.ChildStart _) = refl
verb_of-first_word (command.ChildDone _ _) = refl
verb_of-first_word (command.ChildFail _ _) = refl
verb_of-first_word (command.Respond _) = refl

-- an action is read again, and what is after it where it leaves the run open
action-again : (line : ℕ) (one : Action) (rest : List (List ℕ)) → IsWellFormedAction one → (closes one ≡ true → rest ≡ []) → actions_behind line 0 (action_words one ++ rest) ≡ (actions_behind line 0 rest >>= (λ more. Ok (one ∷ more)))
unfolding actions_behind group_of action_verb closing_verb named_group paired_group closing_group canceled_group
action-again line (action.Activity id activity_type) rest fit last = rw (named-name line id fit.0, named-name line activity_type fit.1) refl
action-again line (action.Timer id) rest fit last = rw (named-name line id fit) refl
action-again line (action.Untimer id) rest fit last = rw (named-name line id fit) refl
action-again line (action.Child id workflow_type) rest fit last = rw (named-name line id fit.0, named-name line workflow_type fit.1) refl
action-again line (action.Marker name) rest fit last = rw (named-name line name fit) refl
action-again line (action.Complete result) [] fit last = rw (named-name line result fit) refl
action-again line (action.Complete result) (word ∷ rest) fit last = absurd (cc (last refl))
action-again line (action.Fail reason) [] fit last = rw (named-name line reason fit) refl
action-again line (action.Fail reason) (word ∷ rest) fit last = absurd (cc (last refl))
action-again line action.Canceled [] fit last = refl
action-again line action.Canceled (word ∷ rest) fit last = absurd (cc (last refl))
action-again line (action.Continue workflow_type) [] fit last = rw (named-name line workflow_type fit) refl
action-again line (action.Continue workflow_type) (word ∷ rest) fit last = absurd (cc (last refl))

-- no action stands after one that closes the run
last_closes : (one : Action) (actions : List Action) → closes_last (one ∷ actions) ≡ true → closes one ≡ true → flat_map action_words actions ≡ []
last_closes one [] last h = refl
last_closes one (next ∷ actions) last h = absurd (cc ((and_parts (not (closes one)) (closes_last (next ∷ actions)) last).0, ap not h))

rest_last : (one : Action) (actions : List Action) → closes_last (one ∷ actions) ≡ true → closes_last actions ≡ true
rest_last one [] last = refl
rest_last one (next ∷ actions) last = (and_parts (not (closes one)) (closes_last (next ∷ actions)) last).1

actions-again : (line : ℕ) (actions : List Action) → ByRecursion IsWellFormedAction actions → closes_last actions ≡ true → actions_behind line 0 (flat_map action_words actions) ≡ Ok actions
unfolding actions_behind
actions-again line [] fit last = refl
actions-again line (one ∷ actions) fit last =
    action-again line one (flat_map action_words actions) fit.0 (last_closes one actions last)
    ∙ ap (λ (r : Result (List Action) ScriptError). r >>= (λ more. Ok (one ∷ more))) (actions-again line actions fit.1 (rest_last one actions last))

-- a command is read again
pub command-again : (line : ℕ) (asked : Command) → IsWellFormedCommand asked → command_of line (verb_for asked) (operands asked) ≡ Ok asked
unfolding command_of bare_of named_of paired_of respond_of
command-again line (command.Start workflow_type) fit = rw (named-name line workflow_type fit) refl
command-again line (command.Signal name input) fit = rw (named-name line name fit.0, named-name line input fit.1) refl
command-again line command.Cancel fit = refl
command-again line (command.Terminate reason) fit = rw (named-name line reason fit) refl
command-again line command.Decide fit = refl
command-again line (command.FailDecision cause) fit = rw (named-name line cause fit) refl
command-again line command.TimeoutDecision fit = refl
command-again line (command.ActivityStart id) fit = rw (named-name line id fit) refl
command-again line (command.ActivityDone id result) fit = rw (named-name line id fit.0, named-name line result fit.1) refl
command-again line (command.ActivityFail id reason) fit = rw (named-name line id fit.0, named-name line reason fit.1) refl
command-again line (command.ActivityTimeout id) fit = rw (named-name line id fit) refl
command-again line (command.Fire id) fit = rw (named-name line id fit) refl
command-again line (command.ChildStart id) fit = rw (named-name line id fit) refl
command-again line (command.ChildDone id result) fit = rw (named-name line id fit.0, named-name line result fit.1) refl
command-again line (command.ChildFail id reason) fit = rw (named-name line id fit.0, named-name line reason fit.1) refl
command-again line (command.Respond actions) fit =
    rw (actions-again line actions (recursion_from_All IsWellFormedAction actions fit.names) fit.last) refl
