-- The options of `run`.
use Rattle.std.specs.Prelude.{ℕ, Bool, ◌==◌, is_some, codes, Option, None, Some, List, [], ◌∷◌, drop, if◌then◌else◌}
use Rattle.std.specs.List.{starts_with}
use Rattle.std.specs.Str.{bytes_eq}
use Rattle.ndc_tool_words.specs.Reads.{◌>>=◌}
use Rattle.ndc_tool_words.specs.Numbers.{number_within}
use Rattle.ndc_tool_words.specs.Names.{names_of}

-- an option of `run`
pub data Flag : Type 0 where
  Workers : Flag
  Index : Flag
  Late : Flag

-- the options of `run` so far, and the one whose value is to come
pub record Options : Type 0 where
  pub workers : Option ℕ
  pub index : Option (List (List ℕ))
  pub late : Option (List (List ℕ))
  pub awaited : Option Flag

-- the option whose value the next word is
abbrev pub flag_of : List ℕ → Option Flag
flag_of word =
    if bytes_eq word (codes "--workers") then Some Workers
    else if bytes_eq word (codes "--index") then Some Index
    else if bytes_eq word (codes "--late") then Some Late
    else None

-- the word begins so
abbrev pub begins : List ℕ → List ℕ → Bool
begins word front = starts_with (λ a b. a == b) word front

-- the option and its value that stand in one word
abbrev pub joined_of : List ℕ → Option (Flag × List ℕ)
joined_of word =
    if begins word (codes "--workers=") then Some (Workers, drop 10 word)
    else if begins word (codes "--index=") then Some (Index, drop 8 word)
    else if begins word (codes "--late=") then Some (Late, drop 7 word)
    else None

-- no option is given, and no value awaited
abbrev pub no_options : Options
no_options = record { workers = None; index = None; late = None; awaited = None }

-- the options with a further one, which is not among them
unfoldable pub with_value : Flag → List ℕ → Options → Option Options
with_value Workers value options =
    if is_some options.workers then None else number_within 1 64 value >>= (λ workers. Some (record options { workers = Some workers; awaited = None }))
with_value Index value options =
    if is_some options.index then None else names_of value >>= (λ names. Some (record options { index = Some names; awaited = None }))
with_value Late value options =
    if is_some options.late then None else names_of value >>= (λ names. Some (record options { late = Some names; awaited = None }))

-- the options with a word that is an option, or an option and its value
abbrev pub option_by : Option Flag → Option (Flag × List ℕ) → Options → Option Options
option_by (Some flag) joined options = Some (record options { awaited = Some flag })
option_by None (Some (flag, value)) options = with_value flag value options
option_by None None options = None

-- the options with a word that stands where an option is to come
abbrev pub with_option : List ℕ → Options → Option Options
with_option word options = option_by (flag_of word) (joined_of word) options

-- the options with a word that is the value of the awaited option, or stands where an option is to come
abbrev pub word_by : Option Flag → List ℕ → Options → Option Options
word_by (Some flag) word options = with_value flag word options
word_by None word options = with_option word options

-- the options with a further word
unfoldable pub with_word : List ℕ → Options → Option Options
with_word word options = word_by options.awaited word options

-- the options with these further words
abbrev pub options_on : Options → List (List ℕ) → Option Options
options_on options [] = Some options
options_on options (word ∷ words) = with_word word options >>= (λ more. options_on more words)
