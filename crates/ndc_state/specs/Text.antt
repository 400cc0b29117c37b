-- How a state is shown in one line.
use Rattle.std.specs.Prelude.{ℕ, Bool, true, false, List, [], ◌∷◌, ◌++◌, length, Option, Some, None, codes, decimal}
use Rattle.std.specs.Map.{values_of}
use Rattle.ndc_state.specs.declared.pendings.Pending.{Pending}
use Rattle.ndc_state.specs.Value.{StateValue}

-- the event that started it, where it is started
abbrev pub start_text : Option ℕ → List ℕ
start_text None = []
start_text (Some id) = codes "+" ++ decimal id

-- the event that scheduled it, and the one that started it
abbrev pub pending_text : Pending → List ℕ
pending_text pending = decimal pending.scheduled ++ start_text pending.started

-- the pending decision, or a dash
abbrev pub decision_text : Option Pending → List ℕ
decision_text None = codes "-"
decision_text (Some pending) = pending_text pending

-- further entries, each after a comma
abbrev pub further_text : List Pending → List ℕ
further_text [] = []
further_text (pending ∷ others) = codes "," ++ pending_text pending ++ further_text others

-- entries with commas between them, or a dash
abbrev pub list_text : List Pending → List ℕ
list_text [] = codes "-"
list_text (pending ∷ others) = pending_text pending ++ further_text others

abbrev pub yes_or_no : Bool → List ℕ
yes_or_no true = codes "yes"
yes_or_no false = codes "no"

-- a state in one line
abbrev pub state_text : StateValue → List ℕ
state_text s =
    codes "next=" ++ decimal s.next ++ codes " decision=" ++ decision_text s.decision
    ++ codes " activities=" ++ list_text (values_of s.activities) ++ codes " timers=" ++ list_text (values_of s.timers)
    ++ codes " children=" ++ list_text (values_of s.children) ++ codes " signals=" ++ decimal (length s.origins)
    ++ codes " cancel=" ++ yes_or_no s.cancel
