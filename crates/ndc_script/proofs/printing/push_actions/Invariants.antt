use Rattle.std.proofs.Common.{◌≡◌, ◌++◌, drop}
use Rattle.std.specs.List.{flat_map}
use Rattle.ndc_script_types.specs.Print.{behind_spaces, action_words}
use Rattle.ndc_script.proofs.printing.push_actions.Given as goal

-- the text so far, with the actions that are left, is the whole
abbrev pub invariant-loop-action : goal.invariant-loop-action
invariant-loop-action l =
    l.text.items ++ behind_spaces (flat_map action_words (drop l.action-index l.actions))
    ≡ l.fn.text.items ++ behind_spaces (flat_map action_words l.actions)
