-- What the values ask for that were found in the words.
use Rattle.std.specs.Prelude.{ℕ, codes, Option, None, Some, List, if◌then◌else◌}
use Rattle.std.specs.Str.{bytes_eq}
use Rattle.clap.specs.Words.{Row, Text, first_of}
use Rattle.ndc_tool_words.specs.Reads.{◌>>=◌}
use Rattle.ndc_tool_words.specs.Numbers.{number_within}
use Rattle.ndc_tool_words.specs.Names.{names_of}
use Rattle.ndc_tool_words.specs.Options.{Options}
use Rattle.ndc_tool_words.specs.Words.{run_with}
use Rattle.ndc_tool_words.specs.declared.words.Asked.{Asked}
use Rattle.ndc_tool_words.specs.declared.words.Asked.TheVariants.{Rebuild, Inspect, Make, Demo}

-- what a value is that may be given; none where it is given and wrong
abbrev pub given_by : {X : Type 0} → (Text → Option X) → Option Text → Option (Option X)
given_by read None = Some None
given_by read (Some value) = read value >>= (λ x. Some (Some x))

-- the options of `run` that were found
unfoldable pub options_in : List Row → Option Options
options_in rows =
    given_by (number_within 1 64) (first_of (codes "workers") rows) >>= (λ workers. given_by names_of (first_of (codes "index") rows) >>= (λ index. given_by names_of (first_of (codes "late") rows) >>= (λ late. Some (record {
      workers = workers;
      index = index;
      late = late;
      awaited = None;
    }))))

-- the number that was found
abbrev pub number_in : ℕ → ℕ → Text → List Row → Option ℕ
number_in least most name rows = first_of name rows >>= number_within least most

-- `run`
unfoldable pub run_in : List Row → Option Asked
run_in rows = options_in rows >>= run_with

-- `make`
unfoldable pub make_in : List Row → Option Asked
make_in rows =
    number_in 1 99000 (codes "count") rows >>= (λ count. number_in 0 18446744073709551615 (codes "seed") rows >>= (λ seed. Some (Make count seed)))

-- `demo`
unfoldable pub demo_in : List Row → Option Asked
demo_in rows = number_in 1 99000 (codes "count") rows >>= (λ count. Some (Demo count))

-- what the word that was found asks for, with the values after it
abbrev pub asked_in : Option (Text × List Row) → Option Asked
asked_in None = None
asked_in (Some (word, rows)) =
    if bytes_eq word (codes "run") then run_in rows
    else if bytes_eq word (codes "rebuild") then Some Rebuild
    else if bytes_eq word (codes "inspect") then Some Inspect
    else if bytes_eq word (codes "make") then make_in rows
    else if bytes_eq word (codes "demo") then demo_in rows
    else None
