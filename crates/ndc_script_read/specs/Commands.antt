-- Command lines, and the actions of `respond`.
use Rattle.std.specs.Prelude.{ℕ, zero, suc, Option, None, Some, List, [], ◌∷◌, Result, Ok}
use Rattle.ndc_event.specs.Outcome.{◌>>=◌}
use Rattle.ndc_command.specs.declared.command.Action.{Action}
use Rattle.ndc_command.specs.declared.command.Action.TheVariants as action
use Rattle.ndc_command.specs.declared.command.Command.{Command}
use Rattle.ndc_command.specs.declared.command.Command.TheVariants as command
use Rattle.ndc_script_read.specs.declared.command.Group.{Group}
use Rattle.ndc_script_types.specs.declared.script.Act.{Act}
use Rattle.ndc_script_types.specs.declared.script.Act.TheVariants as act
use Rattle.ndc_script_types.specs.declared.script.Header.{Header}
use Rattle.ndc_script_types.specs.declared.script.ScriptCause.TheVariants.{BadLine}
use Rattle.ndc_script_types.specs.declared.script.ScriptError.{ScriptError}
use Rattle.ndc_script_words.specs.declared.verb.ActionVerb.{ActionVerb}
use Rattle.ndc_script_words.specs.declared.verb.ActionVerb.TheVariants as group_verb
use Rattle.ndc_script_words.specs.declared.verb.BareCommand.{BareCommand}
use Rattle.ndc_script_words.specs.declared.verb.BareCommand.TheVariants as bare
use Rattle.ndc_script_words.specs.declared.verb.ClosingAction.{ClosingAction}
use Rattle.ndc_script_words.specs.declared.verb.ClosingAction.TheVariants as closing
use Rattle.ndc_script_words.specs.declared.verb.CommandVerb.{CommandVerb}
use Rattle.ndc_script_words.specs.declared.verb.CommandVerb.TheVariants as verb
use Rattle.ndc_script_words.specs.declared.verb.NamedAction.{NamedAction}
use Rattle.ndc_script_words.specs.declared.verb.NamedAction.TheVariants as named_action_verb
use Rattle.ndc_script_words.specs.declared.verb.NamedCommand.{NamedCommand}
use Rattle.ndc_script_words.specs.declared.verb.NamedCommand.TheVariants as named_verb
use Rattle.ndc_script_words.specs.declared.verb.PairedAction.{PairedAction}
use Rattle.ndc_script_words.specs.declared.verb.PairedAction.TheVariants as paired_action_verb
use Rattle.ndc_script_words.specs.declared.verb.PairedCommand.{PairedCommand}
use Rattle.ndc_script_words.specs.declared.verb.PairedCommand.TheVariants as paired_verb
use Rattle.ndc_script_words.specs.Header.{refused}
use Rattle.ndc_script_words.specs.Operands.{named, workflow_at}
use Rattle.ndc_script_words.specs.Verbs.{action_verb}

-- commands that need no name
abbrev pub bare_command : BareCommand → Command
bare_command bare.Cancel = command.Cancel
bare_command bare.Decide = command.Decide
bare_command bare.TimeoutDecision = command.TimeoutDecision

-- commands that need one name
abbrev pub named_command : NamedCommand → List ℕ → Command
named_command named_verb.Start name = command.Start name
named_command named_verb.Terminate name = command.Terminate name
named_command named_verb.FailDecision name = command.FailDecision name
named_command named_verb.ActivityStart name = command.ActivityStart name
named_command named_verb.ActivityTimeout name = command.ActivityTimeout name
named_command named_verb.Fire name = command.Fire name
named_command named_verb.ChildStart name = command.ChildStart name

-- commands that need two names
abbrev pub paired_command : PairedCommand → List ℕ → List ℕ → Command
paired_command paired_verb.Signal one two = command.Signal one two
paired_command paired_verb.ActivityDone one two = command.ActivityDone one two
paired_command paired_verb.ActivityFail one two = command.ActivityFail one two
paired_command paired_verb.ChildDone one two = command.ChildDone one two
paired_command paired_verb.ChildFail one two = command.ChildFail one two

-- actions that need one name and leave the run open
abbrev pub named_action : NamedAction → List ℕ → Action
named_action named_action_verb.Timer name = action.Timer name
named_action named_action_verb.Untimer name = action.Untimer name
named_action named_action_verb.Marker name = action.Marker name

-- actions that need two names
abbrev pub paired_action : PairedAction → List ℕ → List ℕ → Action
paired_action paired_action_verb.Activity one two = action.Activity one two
paired_action paired_action_verb.Child one two = action.Child one two

-- actions that need one name and close the run
abbrev pub closing_action : ClosingAction → List ℕ → Action
closing_action closing.Complete name = action.Complete name
closing_action closing.Fail name = action.Fail name
closing_action closing.Continue name = action.Continue name

-- a group of an action and one name
unfoldable pub named_group : ℕ → NamedAction → List (List ℕ) → Result Group ScriptError
named_group line verb (name ∷ words) = do
  name ← named line name
  Ok (record { action = named_action verb name; operands = 1 })
named_group line verb _ = refused line BadLine

-- a group of an action and two names
unfoldable pub paired_group : ℕ → PairedAction → List (List ℕ) → Result Group ScriptError
paired_group line verb (one ∷ two ∷ words) = do
  one ← named line one
  two ← named line two
  Ok (record { action = paired_action verb one two; operands = 2 })
paired_group line verb _ = refused line BadLine

-- a group of an action that closes the run and one name; it stands last
unfoldable pub closing_group : ℕ → ClosingAction → List (List ℕ) → Result Group ScriptError
closing_group line verb (name ∷ []) = do
  name ← named line name
  Ok (record { action = closing_action verb name; operands = 1 })
closing_group line verb _ = refused line BadLine

-- the group `canceled`; it stands last
unfoldable pub canceled_group : ℕ → List (List ℕ) → Result Group ScriptError
canceled_group line [] = Ok (record { action = action.Canceled; operands = 0 })
canceled_group line _ = refused line BadLine

-- the group that begins with an action, by the words after it
abbrev pub group_by : ℕ → Option ActionVerb → List (List ℕ) → Result Group ScriptError
group_by line None words = refused line BadLine
group_by line (Some (group_verb.Named verb)) words = named_group line verb words
group_by line (Some (group_verb.Paired verb)) words = paired_group line verb words
group_by line (Some (group_verb.Closing verb)) words = closing_group line verb words
group_by line (Some group_verb.Canceled) words = canceled_group line words

-- the group that begins with a word, by the words after it
unfoldable pub group_of : ℕ → List ℕ → List (List ℕ) → Result Group ScriptError
group_of line word words = group_by line (action_verb word) words

-- the actions that words are, after the operands of the action before
unfoldable pub actions_behind : ℕ → ℕ → List (List ℕ) → Result (List Action) ScriptError
actions_behind line operands [] = Ok []
actions_behind line (suc operands) (word ∷ words) = actions_behind line operands words
actions_behind line zero (word ∷ words) = do
  group ← group_of line word words
  more ← actions_behind line group.operands words
  Ok (group.action ∷ more)

-- the actions that words are, read from left to right
abbrev pub actions_of : ℕ → List (List ℕ) → Result (List Action) ScriptError
actions_of line words = actions_behind line 0 words

-- `cancel`, `decide`, `timeoutdecision`, after the workflow
unfoldable pub bare_of : ℕ → BareCommand → List (List ℕ) → Result Command ScriptError
bare_of line verb [] = Ok (bare_command verb)
bare_of line verb _ = refused line BadLine

-- `start TYPE`, `terminate REASON`, `faildecision CAUSE`, `actstart ID`, `acttimeout ID`, `fire ID`, `childstart ID`, after the workflow
unfoldable pub named_of : ℕ → NamedCommand → List (List ℕ) → Result Command ScriptError
named_of line verb (name ∷ []) = do
  name ← named line name
  Ok (named_command verb name)
named_of line verb _ = refused line BadLine

-- `signal NAME INPUT`, `actdone ID RESULT`, `actfail ID REASON`, `childdone ID RESULT`, `childfail ID REASON`, after the workflow
unfoldable pub paired_of : ℕ → PairedCommand → List (List ℕ) → Result Command ScriptError
paired_of line verb (one ∷ two ∷ []) = do
  one ← named line one
  two ← named line two
  Ok (paired_command verb one two)
paired_of line verb _ = refused line BadLine

-- `respond ACTION ..`, after the workflow
unfoldable pub respond_of : ℕ → List (List ℕ) → Result Command ScriptError
respond_of line words = do
  actions ← actions_of line words
  Ok (command.Respond actions)

-- the command of a verb, by the words after the workflow
unfoldable pub command_of : ℕ → CommandVerb → List (List ℕ) → Result Command ScriptError
command_of line (verb.Bare bare) words = bare_of line bare words
command_of line (verb.Named one) words = named_of line one words
command_of line (verb.Paired two) words = paired_of line two words
command_of line verb.Respond words = respond_of line words

-- a command line `WORD C D W ..`, after its first word
unfoldable pub command_line : Header → ℕ → CommandVerb → List (List ℕ) → Result Act ScriptError
command_line header line verb (cluster ∷ domain ∷ workflow ∷ operands) = do
  command ← command_of line verb operands
  at ← workflow_at header line cluster domain workflow
  Ok (act.Command at.cluster at.domain at.workflow command)
command_line header line verb _ = refused line BadLine
