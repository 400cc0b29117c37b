-- How it is printed what keeps a handover from its end.
use Rattle.std.specs.Prelude.{ℕ, List, [], ◌∷◌, codes, decimal}
use Rattle.ndc_graceful.specs.declared.handover.ReadyError.{ReadyError}
use Rattle.ndc_graceful.specs.declared.handover.ReadyError.TheVariants.{Overtaken, BootstrapDue, NotYet}

-- the words of the refusal
abbrev pub ready_words : ReadyError → List (List ℕ)
ready_words (Overtaken version) = codes "Overtaken" ∷ decimal version ∷ []
ready_words BootstrapDue = codes "BootstrapDue" ∷ []
ready_words (NotYet shard done place) = codes "NotYet" ∷ decimal shard ∷ decimal done ∷ decimal place ∷ []
