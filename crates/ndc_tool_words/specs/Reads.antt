-- How the contract of a call that reads words cites the function that gives its answer.
use Rattle.std.specs.Prelude.{◌≡◌, ◌≢◌, Option, None, Some, option_and_then, Result, Ok, Err}
use Rattle.ndc_tool_words.specs.declared.error.WordsError.{WordsError}
use Rattle.ndc_tool_words.specs.declared.error.WordsError.TheVariants.{Memory}

-- what was returned is the answer, a refusal where there is none, unless memory ran out
abbrev pub Reads : {X : Type 0} → Result X WordsError → Option X → Type 0
Reads (Ok x) answer = answer ≡ Some x
Reads (Err e) answer = e ≢ Memory → answer ≡ None

infixl 10 ◌>>=◌
-- none, or what the next step makes of the value
abbrev pub ◌>>=◌ : {A B : Type 0} → Option A → (A → Option B) → Option B
o >>= f = option_and_then f o
