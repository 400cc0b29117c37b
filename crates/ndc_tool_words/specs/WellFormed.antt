-- What holds of all that words ask for.
use Rattle.std.specs.Prelude.{◌≢◌, ◌≤◌, ◌++◌, AllPairs}
use Rattle.ndc_tool_words.specs.declared.words.Asked.{Asked}
use Rattle.ndc_tool_words.specs.declared.words.Asked.TheVariants.{Run, Rebuild, Inspect, Make, Demo}

-- 1 to 64 workers, names of indexers that all differ, and 1 to 99,000 lines
abbrev pub IsWellFormedAsked : Asked → Type 0
IsWellFormedAsked (Run workers index late) = (1 ≤ workers) × (workers ≤ 64) × AllPairs (λ one two. one ≢ two) (index ++ late)
IsWellFormedAsked Rebuild = Unit
IsWellFormedAsked Inspect = Unit
IsWellFormedAsked (Make count seed) = (1 ≤ count) × (count ≤ 99000) × (seed ≤ 18446744073709551615)
IsWellFormedAsked (Demo count) = (1 ≤ count) × (count ≤ 99000)
