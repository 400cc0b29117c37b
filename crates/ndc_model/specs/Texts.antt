-- How answers are printed.
use Rattle.std.specs.Prelude.{ℕ, List, [], ◌∷◌, ◌++◌, codes, decimal}
use Rattle.std.specs.List.{flat_map}
use Rattle.ndc_command.specs.declared.refusal.Refusal.{Refusal}
use Rattle.ndc_command.specs.declared.refusal.Refusal.TheVariants.{UnknownDomain, NotActive, Behind, NoWorkflow, AlreadyRunning, Closed, NoDecision, DecisionNotStarted, DecisionStarted, NoSuchActivity, ActivityNotStarted, ActivityStarted, DuplicateActivity, NoSuchTimer, DuplicateTimer, NoSuchChild, ChildNotStarted, ChildStarted, DuplicateChild, HistoryFull, NoSuchPoint}
use Rattle.ndc_event.specs.Kind.{kind_name}
use Rattle.ndc_event.specs.declared.batch.Event.{Event}
use Rattle.ndc_model_sets.specs.Paths.{item_of}
use Rattle.ndc_text.specs.Views.{item_text}

-- words after a space each
abbrev pub spaced : List (List ℕ) → List ℕ
spaced words = flat_map (λ word. codes " " ++ word) words

-- the answer of a line that was done
abbrev pub ok : List (List ℕ) → List ℕ
ok words = codes "ok" ++ spaced words ++ codes "\n"

-- the answer of a line that was refused
abbrev pub refused : List (List ℕ) → List ℕ
refused words = codes "refused" ++ spaced words ++ codes "\n"

-- how a refusal of a command is printed
unfoldable pub refusal_words : Refusal → List (List ℕ)
refusal_words UnknownDomain = codes "UnknownDomain" ∷ []
refusal_words (NotActive version) = codes "NotActive" ∷ decimal version ∷ []
refusal_words (Behind version) = codes "Behind" ∷ decimal version ∷ []
refusal_words NoWorkflow = codes "NoWorkflow" ∷ []
refusal_words AlreadyRunning = codes "AlreadyRunning" ∷ []
refusal_words Closed = codes "Closed" ∷ []
refusal_words NoDecision = codes "NoDecision" ∷ []
refusal_words DecisionNotStarted = codes "DecisionNotStarted" ∷ []
refusal_words DecisionStarted = codes "DecisionStarted" ∷ []
refusal_words NoSuchActivity = codes "NoSuchActivity" ∷ []
refusal_words ActivityNotStarted = codes "ActivityNotStarted" ∷ []
refusal_words ActivityStarted = codes "ActivityStarted" ∷ []
refusal_words DuplicateActivity = codes "DuplicateActivity" ∷ []
refusal_words NoSuchTimer = codes "NoSuchTimer" ∷ []
refusal_words DuplicateTimer = codes "DuplicateTimer" ∷ []
refusal_words NoSuchChild = codes "NoSuchChild" ∷ []
refusal_words ChildNotStarted = codes "ChildNotStarted" ∷ []
refusal_words ChildStarted = codes "ChildStarted" ∷ []
refusal_words DuplicateChild = codes "DuplicateChild" ∷ []
refusal_words HistoryFull = codes "HistoryFull" ∷ []
refusal_words NoSuchPoint = codes "NoSuchPoint" ∷ []

-- `ID@VERSION KIND`
abbrev pub event_line : Event → List ℕ
event_line event = item_text (item_of event) ++ codes " " ++ kind_name event.kind ++ codes "\n"
