-- Command lines that are read have the words that their commands are printed as.
use Rattle.std.proofs.Common.{◌≡◌, ℕ, zero, suc, List, [], ◌∷◌, ◌++◌, drop, flat_map, Option, Some, None, Ok, codes, refl, sym, ◌∙◌, ap, subst}
use Rattle.ndc_command.specs.declared.command.Action.{Action}
use Rattle.ndc_command.specs.declared.command.Action.TheVariants as action
use Rattle.ndc_command.specs.declared.command.Command.{Command}
use Rattle.ndc_command.specs.declared.command.Command.TheVariants as command
use Rattle.ndc_script_read.specs.declared.command.Group.{Group}
use Rattle.ndc_script_words.specs.declared.verb.ActionVerb.{ActionVerb}
use Rattle.ndc_script_words.specs.declared.verb.ActionVerb.TheVariants as group_verb
use Rattle.ndc_script_words.specs.declared.verb.BareCommand.{BareCommand}
use Rattle.ndc_script_words.specs.declared.verb.BareCommand.TheVariants as bare
use Rattle.ndc_script_words.specs.declared.verb.ClosingAction.{ClosingAction}
use Rattle.ndc_script_words.specs.declared.verb.ClosingAction.TheVariants as closing
use Rattle.ndc_script_words.specs.declared.verb.CommandVerb.{CommandVerb}
use Rattle.ndc_script_words.specs.declared.verb.CommandVerb.TheVariants as verb
use Rattle.ndc_script_words.specs.declared.verb.NamedAction.{NamedAction}
use Rattle.ndc_script_words.specs.declared.verb.NamedAction.TheVariants as named_verb
use Rattle.ndc_script_words.specs.declared.verb.NamedCommand.{NamedCommand}
use Rattle.ndc_script_words.specs.declared.verb.NamedCommand.TheVariants as named_command_verb
use Rattle.ndc_script_words.specs.declared.verb.PairedAction.{PairedAction}
use Rattle.ndc_script_words.specs.declared.verb.PairedAction.TheVariants as paired_verb
use Rattle.ndc_script_words.specs.declared.verb.PairedCommand.{PairedCommand}
use Rattle.ndc_script_words.specs.declared.verb.PairedCommand.TheVariants as paired_command_verb
use Rattle.ndc_script_words.specs.Operands.{named}
use Rattle.ndc_script_words.specs.Verbs.{action_verb}
use Rattle.ndc_script_read.specs.Commands.{actions_behind, bare_command, bare_of, canceled_group, closing_action, closing_group, command_of, group_by, group_of, named_action, named_command, named_group, named_of, paired_action, paired_command, paired_group, paired_of, respond_of}
use Rattle.ndc_script_types.specs.Print.{action_words, command_words}
use Rattle.ndc_script.proofs.PrintedCommands.{command_words-is, first_word, operands}
use Rattle.ndc_script.proofs.ReadOperands.{named-word, ok-same, steps}
use Rattle.ndc_script.proofs.ReadVerbs.{action-is, action_word, command_word}

-- a group of words is that of its action
record IsGroup (word : List ℕ) (words : List (List ℕ)) (group : Group) : Type 0 where
  pub mine : List (List ℕ)
  pub rest : List (List ℕ)
  pub parts : words ≡ mine ++ rest
  pub behind : drop group.operands words ≡ rest
  pub printed : action_words group.action ≡ word ∷ mine

named-action-words : (v : NamedAction) (name : List ℕ) → action_words (named_action v name) ≡ action_word (group_verb.Named v) ∷ name ∷ []
named-action-words named_verb.Timer name = refl
named-action-words named_verb.Untimer name = refl
named-action-words named_verb.Marker name = refl

paired-action-words : (v : PairedAction) (one two : List ℕ) → action_words (paired_action v one two) ≡ action_word (group_verb.Paired v) ∷ one ∷ two ∷ []
paired-action-words paired_verb.Activity one two = refl
paired-action-words paired_verb.Child one two = refl

closing-action-words : (v : ClosingAction) (name : List ℕ) → action_words (closing_action v name) ≡ action_word (group_verb.Closing v) ∷ name ∷ []
closing-action-words closing.Complete name = refl
closing-action-words closing.Fail name = refl
closing-action-words closing.Continue name = refl

named-group : (line : ℕ) (v : NamedAction) (words : List (List ℕ)) (group : Group) → named_group line v words ≡ Ok group → IsGroup (action_word (group_verb.Named v)) words group
unfolding named_group
named-group line v [] group e = absurd (cc)
named-group line v (name ∷ words) group e =
    let a = steps (named line name) _ group e in
    let same : record { action = named_action v a.value; operands = 1 } ≡ group = ok-same _ group a.rest in
    subst (IsGroup (action_word (group_verb.Named v)) (name ∷ words)) same
    (record {
      mine = name ∷ [];
      rest = words;
      parts = refl;
      behind = refl;
      printed = named-action-words v a.value ∙ ap (λ (n : List ℕ). action_word (group_verb.Named v) ∷ n ∷ []) (named-word line name a.value a.is);
    })

paired-group : (line : ℕ) (v : PairedAction) (words : List (List ℕ)) (group : Group) → paired_group line v words ≡ Ok group → IsGroup (action_word (group_verb.Paired v)) words group
unfolding paired_group
paired-group line v [] group e = absurd (cc)
paired-group line v (one ∷ []) group e = absurd (cc)
paired-group line v (one ∷ two ∷ words) group e =
    let a = steps (named line one) _ group e in
    let b = steps (named line two) _ group a.rest in
    let same : record { action = paired_action v a.value b.value; operands = 2 } ≡ group = ok-same _ group b.rest in
    subst (IsGroup (action_word (group_verb.Paired v)) (one ∷ two ∷ words)) same
    (record {
      mine = one ∷ two ∷ [];
      rest = words;
      parts = refl;
      behind = refl;
      printed = paired-action-words v a.value b.value ∙ ap (λ (n : List ℕ). action_word (group_verb.Paired v) ∷ n ∷ b.value ∷ []) (named-word line one a.value a.is)
          ∙ ap (λ (n : List ℕ). action_word (group_verb.Paired v) ∷ one ∷ n ∷ []) (named-word line two b.value b.is);
    })

closing-group : (line : ℕ) (v : ClosingAction) (words : List (List ℕ)) (group : Group) → closing_group line v words ≡ Ok group → IsGroup (action_word (group_verb.Closing v)) words group
unfolding closing_group
closing-group line v [] group e = absurd (cc)
closing-group line v (name ∷ other ∷ words) group e = absurd (cc)
closing-group line v (name ∷ []) group e =
    let a = steps (named line name) _ group e in
    let same : record { action = closing_action v a.value; operands = 1 } ≡ group = ok-same _ group a.rest in
    subst (IsGroup (action_word (group_verb.Closing v)) (name ∷ [])) same
    (record {
      mine = name ∷ [];
      rest = [];
      parts = refl;
      behind = refl;
      printed = closing-action-words v a.value ∙ ap (λ (n : List ℕ). action_word (group_verb.Closing v) ∷ n ∷ []) (named-word line name a.value a.is);
    })

canceled-group : (line : ℕ) (words : List (List ℕ)) (group : Group) → canceled_group line words ≡ Ok group → IsGroup (codes "canceled") words group
unfolding canceled_group
canceled-group line (word ∷ words) group e = absurd (cc)
canceled-group line [] group e =
    let same : record { action = action.Canceled; operands = 0 } ≡ group = ok-same _ group e in
    subst (IsGroup (codes "canceled") []) same (record { mine = []; rest = []; parts = refl; behind = refl; printed = refl })

group-is : (line : ℕ) (word : List ℕ) (words : List (List ℕ)) (group : Group) → group_of line word words ≡ Ok group → IsGroup word words group
unfolding group_of
group-is line word words group e = by (action_verb word) refl e
  where
    with_word : (v : ActionVerb) → action_verb word ≡ Some v → IsGroup (action_word v) words group → IsGroup word words group
    with_word v is g = subst (λ (w : List ℕ). IsGroup w words group) (sym (action-is word v is)) g

    by : (o : Option ActionVerb) → action_verb word ≡ o → group_by line o words ≡ Ok group → IsGroup word words group
    by None is h = absurd (cc)
    by (Some (group_verb.Named v)) is h = with_word (group_verb.Named v) is (named-group line v words group h)
    by (Some (group_verb.Paired v)) is h = with_word (group_verb.Paired v) is (paired-group line v words group h)
    by (Some (group_verb.Closing v)) is h = with_word (group_verb.Closing v) is (closing-group line v words group h)
    by (Some group_verb.Canceled) is h = with_word group_verb.Canceled is (canceled-group line words group h)

-- of no words none are dropped
none-dropped : (n : ℕ) (words rest : List (List ℕ)) → words ≡ [] → rest ≡ [] → drop n words ≡ rest
none-dropped zero words rest e f = e ∙ sym f
none-dropped (suc n) [] rest e f = sym f
none-dropped (suc n) (word ∷ words) rest e f = absurd (cc)

-- actions are read after the operands of the one before
actions-words : (line operands : ℕ) (words : List (List ℕ)) (actions : List Action) → actions_behind line operands words ≡ Ok actions → drop operands words ≡ flat_map action_words actions
unfolding actions_behind
actions-words line operands [] actions e =
    let none : [] ≡ actions = ok-same [] actions e in
    none-dropped operands [] (flat_map action_words actions) refl (sym (ap (flat_map action_words) none))
actions-words line (suc operands) (word ∷ words) actions e = actions-words line operands words actions e
actions-words line zero (word ∷ words) actions e =
    let a = steps (group_of line word words) _ actions e in
    let b = steps (actions_behind line a.value.operands words) _ actions a.rest in
    let same : a.value.action ∷ b.value ≡ actions = ok-same _ actions b.rest in
    let g = group-is line word words a.value a.is in
    let behind : g.rest ≡ flat_map action_words b.value = sym g.behind ∙ actions-words line a.value.operands words b.value b.is in
    ap (λ (l : List (List ℕ)). word ∷ l) (g.parts ∙ ap (λ (l : List (List ℕ)). g.mine ++ l) behind)
    ∙ sym (ap (λ (l : List (List ℕ)). l ++ flat_map action_words b.value) g.printed)
    ∙ ap (flat_map action_words) same

-- the words after the workflow are those of the command, and its first word is the verb's
pub record IsCommand (v : CommandVerb) (words : List (List ℕ)) (asked : Command) : Type 0 where
  pub first : first_word asked ≡ command_word v
  pub behind : operands asked ≡ words

bare-words : (v : BareCommand) → IsCommand (verb.Bare v) [] (bare_command v)
bare-words bare.Cancel = record { first = refl; behind = refl }
bare-words bare.Decide = record { first = refl; behind = refl }
bare-words bare.TimeoutDecision = record { first = refl; behind = refl }

named-words : (v : NamedCommand) (name : List ℕ) → IsCommand (verb.Named v) (name ∷ []) (named_command v name)
named-words named_command_verb.Start name = record { first = refl; behind = refl }
named-words named_command_verb.Terminate name = record { first = refl; behind = refl }
named-words named_command_verb.FailDecision name = record { first = refl; behind = refl }
named-words named_command_verb.ActivityStart name = record { first = refl; behind = refl }
named-words named_command_verb.ActivityTimeout name = record { first = refl; behind = refl }
named-words named_command_verb.Fire name = record { first = refl; behind = refl }
named-words named_command_verb.ChildStart name = record { first = refl; behind = refl }

paired-words : (v : PairedCommand) (one two : List ℕ) → IsCommand (verb.Paired v) (one ∷ two ∷ []) (paired_command v one two)
paired-words paired_command_verb.Signal one two = record { first = refl; behind = refl }
paired-words paired_command_verb.ActivityDone one two = record { first = refl; behind = refl }
paired-words paired_command_verb.ActivityFail one two = record { first = refl; behind = refl }
paired-words paired_command_verb.ChildDone one two = record { first = refl; behind = refl }
paired-words paired_command_verb.ChildFail one two = record { first = refl; behind = refl }

pub command-is : (line : ℕ) (v : CommandVerb) (words : List (List ℕ)) (asked : Command) → command_of line v words ≡ Ok asked → IsCommand v words asked
unfolding command_of bare_of named_of paired_of respond_of
command-is line (verb.Bare v) [] asked e = let same : bare_command v ≡ asked = ok-same _ asked e in subst (IsCommand (verb.Bare v) []) same (bare-words v)
command-is line (verb.Bare v) (word ∷ words) asked e = absurd (cc)
command-is line (verb.Named v) [] asked e = absurd (cc)
command-is line (verb.Named v) (name ∷ other ∷ words) asked e = absurd (cc)
command-is line (verb.Named v) (name ∷ []) asked e =
    let a = steps (named line name) _ asked e in
    let same : named_command v a.value ≡ asked = ok-same _ asked a.rest in
    subst (IsCommand (verb.Named v) (name ∷ [])) same (subst (λ (n : List ℕ). IsCommand (verb.Named v) (n ∷ []) (named_command v a.value)) (named-word line name a.value a.is) (named-words v a.value))
command-is line (verb.Paired v) [] asked e = absurd (cc)
command-is line (verb.Paired v) (one ∷ []) asked e = absurd (cc)
command-is line (verb.Paired v) (one ∷ two ∷ other ∷ words) asked e = absurd (cc)
command-is line (verb.Paired v) (one ∷ two ∷ []) asked e =
    let a = steps (named line one) _ asked e in
    let b = steps (named line two) _ asked a.rest in
    let same : paired_command v a.value b.value ≡ asked = ok-same _ asked b.rest in
    subst (IsCommand (verb.Paired v) (one ∷ two ∷ [])) same
    (subst (λ (n : List ℕ). IsCommand (verb.Paired v) (n ∷ two ∷ []) (paired_command v a.value b.value)) (named-word line one a.value a.is)
    (subst (λ (n : List ℕ). IsCommand (verb.Paired v) (a.value ∷ n ∷ []) (paired_command v a.value b.value)) (named-word line two b.value b.is) (paired-words v a.value b.value)))
command-is line verb.Respond words asked e =
    let a = steps (actions_behind line 0 words) _ asked e in
    let same : command.Respond a.value ≡ asked = ok-same _ asked a.rest in
    subst (IsCommand verb.Respond words) same (record { first = refl; behind = sym (actions-words line 0 words a.value a.is) })

-- so the words of the whole line are those that it is printed as
pub command-line : (line : ℕ) (v : CommandVerb) (cluster domain workflow : List ℕ) (words : List (List ℕ)) (asked : Command) → command_of line v words ≡ Ok asked
    → command_words cluster domain workflow asked ≡ command_word v ∷ cluster ∷ domain ∷ workflow ∷ words
command-line line v cluster domain workflow words asked e =
    let c = command-is line v words asked e in
    command_words-is cluster domain workflow asked ∙ ap (λ (w : List ℕ). w ∷ cluster ∷ domain ∷ workflow ∷ operands asked) c.first
    ∙ ap (λ (l : List (List ℕ)). command_word v ∷ cluster ∷ domain ∷ workflow ∷ l) c.behind
