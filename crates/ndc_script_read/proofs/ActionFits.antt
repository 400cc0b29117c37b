-- Actions that are read are well-formed: their names are names, and the last alone closes the run.
use Rattle.std.proofs.Common.{◌≡◌, ℕ, zero, suc, ◌≤◌, Bool, true, false, List, [], ◌∷◌, length, Option, Some, None, Ok, IfOk, refl, arith}
use Rattle.std.specs.List.{AllByRecursion as ByRecursion}
use Rattle.std.proofs.lemmas.List.Elements.{All-from_recursion}
use Rattle.ndc_command.specs.declared.command.Action.{Action}
use Rattle.ndc_script_read.specs.declared.command.Group.{Group}
use Rattle.ndc_script_words.specs.declared.verb.ActionVerb.{ActionVerb}
use Rattle.ndc_script_words.specs.declared.verb.ActionVerb.TheVariants as verb
use Rattle.ndc_script_words.specs.declared.verb.ClosingAction.{ClosingAction}
use Rattle.ndc_script_words.specs.declared.verb.ClosingAction.TheVariants as closing
use Rattle.ndc_script_words.specs.declared.verb.NamedAction.{NamedAction}
use Rattle.ndc_script_words.specs.declared.verb.NamedAction.TheVariants as named_verb
use Rattle.ndc_script_words.specs.declared.verb.PairedAction.{PairedAction}
use Rattle.ndc_script_words.specs.declared.verb.PairedAction.TheVariants as paired_verb
use Rattle.ndc_script_read.specs.Commands.{named_action, paired_action, closing_action, named_group, paired_group, closing_group, canceled_group, group_by, group_of, actions_behind}
use Rattle.ndc_script_words.specs.Operands.{named}
use Rattle.ndc_script_words.specs.Verbs.{action_verb}
use Rattle.ndc_script_types.specs.WellFormed.{IsName, IsWellFormedAction, closes, closes_last, AreWellFormedActions}
use Rattle.ndc_script_words.proofs.Fits.{after}
use Rattle.ndc_script_words.proofs.Names.{named_fits}
use Rattle.ndc_script_read.proofs.Short.{weaker}

-- a group as it should be: where it closes the run, nothing stands after it
record FitsBefore (words : List (List ℕ)) (group : Group) : Type 0 where
  pub names : IsWellFormedAction group.action
  pub last : closes group.action ≡ true → length words ≤ group.operands

named_fits_before : (words : List (List ℕ)) (one : NamedAction) (name : List ℕ) → IsName name → FitsBefore words (record { action = named_action one name; operands = 1 })
named_fits_before words named_verb.Timer name n = record { names = n; last = λ h. absurd (cc) }
named_fits_before words named_verb.Untimer name n = record { names = n; last = λ h. absurd (cc) }
named_fits_before words named_verb.Marker name n = record { names = n; last = λ h. absurd (cc) }

paired_fits_before : (words : List (List ℕ)) (two : PairedAction) (first second : List ℕ) → IsName first → IsName second → FitsBefore words (record { action = paired_action two first second; operands = 2 })
paired_fits_before words paired_verb.Activity first second m n = record { names = (m, n); last = λ h. absurd (cc) }
paired_fits_before words paired_verb.Child first second m n = record { names = (m, n); last = λ h. absurd (cc) }

closing_fits_before : (word : List ℕ) (one : ClosingAction) (name : List ℕ) → IsName name → FitsBefore (word ∷ []) (record { action = closing_action one name; operands = 1 })
closing_fits_before word closing.Complete name n = record { names = n; last = λ h. omega arith }
closing_fits_before word closing.Fail name n = record { names = n; last = λ h. omega arith }
closing_fits_before word closing.Continue name n = record { names = n; last = λ h. omega arith }

named_group_fits : (line : ℕ) (one : NamedAction) (words : List (List ℕ)) → IfOk (named_group line one words) (FitsBefore words)
unfolding named_group
named_group_fits line one [] = tt
named_group_fits line one (word ∷ words) =
    after (FitsBefore (word ∷ words)) _ (named line word) (λ name ok. named_fits_before (word ∷ words) one name (named_fits line word name ok))

paired_group_fits : (line : ℕ) (two : PairedAction) (words : List (List ℕ)) → IfOk (paired_group line two words) (FitsBefore words)
unfolding paired_group
paired_group_fits line two [] = tt
paired_group_fits line two (one ∷ []) = tt
paired_group_fits line two (one ∷ other ∷ words) =
    after (FitsBefore (one ∷ other ∷ words)) _ (named line one) (λ first ok.
    after (FitsBefore (one ∷ other ∷ words)) _ (named line other) (λ second fine.
    paired_fits_before (one ∷ other ∷ words) two first second (named_fits line one first ok) (named_fits line other second fine)))

closing_group_fits : (line : ℕ) (one : ClosingAction) (words : List (List ℕ)) → IfOk (closing_group line one words) (FitsBefore words)
unfolding closing_group
closing_group_fits line one [] = tt
closing_group_fits line one (word ∷ []) =
    after (FitsBefore (word ∷ [])) _ (named line word) (λ name ok. closing_fits_before word one name (named_fits line word name ok))
closing_group_fits line one (word ∷ other ∷ words) = tt

canceled_group_fits : (line : ℕ) (words : List (List ℕ)) → IfOk (canceled_group line words) (FitsBefore words)
unfolding canceled_group
canceled_group_fits line [] = record { names = tt; last = λ h. omega arith }
canceled_group_fits line (word ∷ words) = tt

group_fits : (line : ℕ) (begins : Option ActionVerb) (words : List (List ℕ)) → IfOk (group_by line begins words) (FitsBefore words)
group_fits line None words = tt
group_fits line (Some (verb.Named one)) words = named_group_fits line one words
group_fits line (Some (verb.Paired two)) words = paired_group_fits line two words
group_fits line (Some (verb.Closing one)) words = closing_group_fits line one words
group_fits line (Some verb.Canceled) words = canceled_group_fits line words

group_of_fits : (line : ℕ) (word : List ℕ) (words : List (List ℕ)) → IfOk (group_of line word words) (FitsBefore words)
unfolding group_of
group_of_fits line word words = group_fits line (action_verb word) words

-- no action stands after words that all belong to the action before
none_behind : (line operands : ℕ) (words : List (List ℕ)) → length words ≤ operands → actions_behind line operands words ≡ Ok []
unfolding actions_behind
none_behind line operands [] few = refl
none_behind line zero (word ∷ words) few = absurd (omega arith)
none_behind line (suc operands) (word ∷ words) few = none_behind line operands words (omega (arith, few))

-- actions as they should be
record Fit (actions : List Action) : Type 0 where
  pub names : ByRecursion IsWellFormedAction actions
  pub last : closes_last actions ≡ true

open_first : (one : Action) (actions : List Action) → closes one ≡ false → closes_last actions ≡ true → closes_last (one ∷ actions) ≡ true
open_first one [] opens h = refl
open_first one (next ∷ actions) opens h = rw opens h

more_fit : (line : ℕ) (words : List (List ℕ)) (group : Group) (actions : List Action) (b : Bool) → closes group.action ≡ b → FitsBefore words group → actions_behind line group.operands words ≡ Ok actions → Fit actions → Fit (group.action ∷ actions)
more_fit line words group [] true is fits ok fit = record { names = (fits.names, tt); last = refl }
more_fit line words group (next ∷ actions) true is fits ok fit = absurd (cc (none_behind line group.operands words (fits.last is), ok))
more_fit line words group actions false is fits ok fit = record { names = (fits.names, fit.names); last = open_first group.action actions is fit.last }

actions_fit : (line operands : ℕ) (words : List (List ℕ)) → IfOk (actions_behind line operands words) Fit
unfolding actions_behind
actions_fit line operands [] = record { names = tt; last = refl }
actions_fit line (suc operands) (word ∷ words) = actions_fit line operands words
actions_fit line zero (word ∷ words) =
    after Fit _ (group_of line word words) (λ group ok.
    after Fit _ (actions_behind line group.operands words) (λ actions fine.
    more_fit line words group actions (closes group.action) refl
    (weaker (group_of line word words) (FitsBefore words) group (group_of_fits line word words) ok) fine
    (weaker (actions_behind line group.operands words) Fit actions (actions_fit line group.operands words) fine)))

-- actions that are read are well-formed
pub actions_well_formed : (line : ℕ) (words : List (List ℕ)) (actions : List Action) → actions_behind line 0 words ≡ Ok actions → AreWellFormedActions actions
actions_well_formed line words actions ok =
    let fit : Fit actions = weaker (actions_behind line 0 words) Fit actions (actions_fit line 0 words) ok in
    record { names = All-from_recursion IsWellFormedAction actions fit.names; last = fit.last }
