-- The words that the program is called with, and what they ask for.
use Rattle.std.specs.Prelude.{ℕ, ◌||◌, is_some, unwrap_or, codes, Option, None, Some, List, [], ◌∷◌, if◌then◌else◌}
use Rattle.std.specs.Str.{bytes_eq}
use Rattle.ndc_tool_words.specs.Reads.{◌>>=◌}
use Rattle.ndc_tool_words.specs.Numbers.{number_within}
use Rattle.ndc_tool_words.specs.Names.{share_a_name}
use Rattle.ndc_tool_words.specs.Options.{Options, no_options, options_on}
use Rattle.ndc_tool_words.specs.declared.words.Asked.{Asked}
use Rattle.ndc_tool_words.specs.declared.words.Asked.TheVariants.{Run, Rebuild, Inspect, Make, Demo}

-- a run with these options: none where a value is still awaited, or a name stands in both lists
abbrev pub run_with : Options → Option Asked
run_with options =
    if is_some options.awaited || share_a_name (unwrap_or options.index []) (unwrap_or options.late []) then None
    else Some (Run (unwrap_or options.workers 1) (unwrap_or options.index []) (unwrap_or options.late []))

-- `run` with its options
unfoldable pub run_of : List (List ℕ) → Option Asked
run_of words = options_on no_options words >>= run_with

-- a word that stands alone
abbrev pub alone : Asked → List (List ℕ) → Option Asked
alone asked [] = Some asked
alone asked (word ∷ words) = None

-- `make N SEED`
unfoldable pub make_of : List (List ℕ) → Option Asked
make_of (count ∷ seed ∷ []) =
    number_within 1 99000 count >>= (λ count. number_within 0 18446744073709551615 seed >>= (λ seed. Some (Make count seed)))
make_of _ = None

-- `demo N`
unfoldable pub demo_of : List (List ℕ) → Option Asked
demo_of (count ∷ []) = number_within 1 99000 count >>= (λ count. Some (Demo count))
demo_of _ = None

-- what the words ask for; none where they are refused
abbrev pub asked_of : List (List ℕ) → Option Asked
asked_of [] = None
asked_of (verb ∷ words) =
    if bytes_eq verb (codes "run") then run_of words
    else if bytes_eq verb (codes "rebuild") then alone Rebuild words
    else if bytes_eq verb (codes "inspect") then alone Inspect words
    else if bytes_eq verb (codes "make") then make_of words
    else if bytes_eq verb (codes "demo") then demo_of words
    else None
