-- Refusals as words.
use Rattle.std.proofs.Common.{◌≡◌, ℕ, List, [], ◌∷◌, decimal, Option, Some, None, Result, Ok, Err, IfOk, refl, sym, ap, ◌∙◌}
use Rattle.ndc_command.specs.declared.refusal.Refusal.{Refusal}
use Rattle.ndc_command.specs.declared.refusal.Refusal.TheVariants.{UnknownDomain, NotActive, Behind, NoWorkflow, AlreadyRunning, Closed, NoDecision, DecisionNotStarted, DecisionStarted, NoSuchActivity, ActivityNotStarted, ActivityStarted, DuplicateActivity, NoSuchTimer, DuplicateTimer, NoSuchChild, ChildNotStarted, ChildStarted, DuplicateChild, HistoryFull, NoSuchPoint}
use Rattle.ndc_model.specs.Texts.{refusal_words, refused}
use Rattle.ndc_world_answers.specs.Refusals.{carried_version, refusal_name_of}

-- a name, and the version after it, where there is one
abbrev pub with_version : List ℕ → Option ℕ → List (List ℕ)
with_version name None = name ∷ []
with_version name (Some version) = name ∷ decimal version ∷ []

words-by : (r : Refusal) → refusal_words r ≡ with_version (refusal_name_of r) (carried_version r)
unfolding refusal_words
words-by UnknownDomain = refl
words-by (NotActive version) = refl
words-by (Behind version) = refl
words-by NoWorkflow = refl
words-by AlreadyRunning = refl
words-by Closed = refl
words-by NoDecision = refl
words-by DecisionNotStarted = refl
words-by DecisionStarted = refl
words-by NoSuchActivity = refl
words-by ActivityNotStarted = refl
words-by ActivityStarted = refl
words-by DuplicateActivity = refl
words-by NoSuchTimer = refl
words-by DuplicateTimer = refl
words-by NoSuchChild = refl
words-by ChildNotStarted = refl
words-by ChildStarted = refl
words-by DuplicateChild = refl
words-by HistoryFull = refl
words-by NoSuchPoint = refl

-- the words of a refusal are its name, and the version that it carries
pub words_of : (r : Refusal) (version : Option ℕ) → carried_version r ≡ version → refusal_words r ≡ with_version (refusal_name_of r) version
words_of r version e = words-by r ∙ ap (with_version (refusal_name_of r)) e

-- what was answered with its name, and the version that it carries, is the answer of a refusal
pub answered : {T E : Type 0} (items : T → List ℕ) (result : Result T E) (r : Refusal) (name : List ℕ) (version : Option ℕ) → name ≡ refusal_name_of r → carried_version r ≡ version
    → IfOk result (λ text. items text ≡ refused (with_version name version)) → IfOk result (λ text. items text ≡ refused (refusal_words r))
answered items (Ok text) r name version e f g = g ∙ ap refused (ap (λ n. with_version n version) e ∙ sym (words_of r version f))
answered items (Err error) r name version e f g = tt
