-- Refusals as words.
use Rattle.std.specs.Prelude.{ℕ, List, codes, Option, Some, None}
use Rattle.ndc_command.specs.declared.refusal.Refusal.{Refusal}
use Rattle.ndc_command.specs.declared.refusal.Refusal.TheVariants.{UnknownDomain, NotActive, Behind, NoWorkflow, AlreadyRunning, Closed, NoDecision, DecisionNotStarted, DecisionStarted, NoSuchActivity, ActivityNotStarted, ActivityStarted, DuplicateActivity, NoSuchTimer, DuplicateTimer, NoSuchChild, ChildNotStarted, ChildStarted, DuplicateChild, HistoryFull, NoSuchPoint}

-- the name of a refusal
abbrev pub refusal_name_of : Refusal → List ℕ
refusal_name_of UnknownDomain = codes "UnknownDomain"
refusal_name_of (NotActive version) = codes "NotActive"
refusal_name_of (Behind version) = codes "Behind"
refusal_name_of NoWorkflow = codes "NoWorkflow"
refusal_name_of AlreadyRunning = codes "AlreadyRunning"
refusal_name_of Closed = codes "Closed"
refusal_name_of NoDecision = codes "NoDecision"
refusal_name_of DecisionNotStarted = codes "DecisionNotStarted"
refusal_name_of DecisionStarted = codes "DecisionStarted"
refusal_name_of NoSuchActivity = codes "NoSuchActivity"
refusal_name_of ActivityNotStarted = codes "ActivityNotStarted"
refusal_name_of ActivityStarted = codes "ActivityStarted"
refusal_name_of DuplicateActivity = codes "DuplicateActivity"
refusal_name_of NoSuchTimer = codes "NoSuchTimer"
refusal_name_of DuplicateTimer = codes "DuplicateTimer"
refusal_name_of NoSuchChild = codes "NoSuchChild"
refusal_name_of ChildNotStarted = codes "ChildNotStarted"
refusal_name_of ChildStarted = codes "ChildStarted"
refusal_name_of DuplicateChild = codes "DuplicateChild"
refusal_name_of HistoryFull = codes "HistoryFull"
refusal_name_of NoSuchPoint = codes "NoSuchPoint"

-- the version that a refusal carries, where it does
abbrev pub carried_version : Refusal → Option ℕ
carried_version (NotActive version) = Some version
carried_version (Behind version) = Some version
carried_version _ = None
