-- What a call says of the words that reads what clap found, where clap and the table agree.
use Rattle.std.proofs.Common.{◌≡◌, ◌∙◌, List, ℕ, Option, Some, None, Result, Ok, Err, IfOk, sym, subst}
use Rattle.ndc_tool_words.specs.Reads.{Reads}
use Rattle.ndc_tool_words.specs.WellFormed.{IsWellFormedAsked}
use Rattle.ndc_tool_words.specs.Words.{asked_of}
use Rattle.ndc_tool_words.specs.declared.error.WordsError.{WordsError}
use Rattle.ndc_tool_words.specs.declared.error.WordsError.TheVariants.{Refused}
use Rattle.ndc_tool_words.specs.declared.words.Asked.{Asked}
use Rattle.ndc_tool_words.proofs.Asking.{asked_fits}

-- what is read is what the table gives
pub reads-asked : (r : Result Asked WordsError) (found asked : Option Asked) → found ≡ asked → Reads r found → IfOk r (λ a. asked ≡ Some a)
reads-asked (Ok a) found asked same reads = sym same ∙ reads
reads-asked (Err e) found asked same reads = tt

pub reads-fit : (words : List (List ℕ)) (r : Result Asked WordsError) (found : Option Asked) → found ≡ asked_of words → Reads r found → IfOk r IsWellFormedAsked
reads-fit words (Ok a) found same reads = asked_fits words a (sym same ∙ reads)
reads-fit words (Err e) found same reads = tt

refusal : (found asked : Option Asked) → found ≡ asked → Reads (Err Refused) found → asked ≡ None
refusal found asked same reads = sym same ∙ reads (λ memory. absurd (cc))

-- and it is refused where the table has none
pub reads-refused : (r : Result Asked WordsError) (found asked : Option Asked) → found ≡ asked → Reads r found → r ≡ Err Refused → asked ≡ None
reads-refused r found asked same reads e = refusal found asked same (subst (λ s. Reads s found) e reads)

error_or : {X E : Type 0} → E → Result X E → E
error_or other (Ok x) = other
error_or other (Err e) = e

-- an error is the same beside whatever else might have come
pub same-error : {X Y E : Type 0} (a b : E) → ◌≡◌ {A = Result X E} (Err a) (Err b) → ◌≡◌ {A = Result Y E} (Err a) (Err b)
unfolding error_or
same-error a b e = λ i. Err (error_or a (e i))
