-- The line `register`, and the clusters that it names.
use Rattle.std.specs.Prelude.{ℕ, Bool, true, ◌&&◌, not, List, [], ◌∷◌, Result, Ok, if◌then◌else◌}
use Rattle.std.specs.List.{list_any}
use Rattle.std.specs.Str.{bytes_eq}
use Rattle.ndc_event.specs.Outcome.{◌>>=◌}
use Rattle.ndc_domain.specs.Clusters.{count_of}
use Rattle.ndc_domain.specs.Members.{members_of}
use Rattle.ndc_domain.specs.declared.clusters.ClusterNo.{ClusterNo}
use Rattle.ndc_script_types.specs.Below.{clusters_below}
use Rattle.ndc_script_types.specs.declared.script.Act.{Act}
use Rattle.ndc_script_types.specs.declared.script.Act.TheVariants as act
use Rattle.ndc_script_types.specs.declared.script.Header.{Header}
use Rattle.ndc_script_types.specs.declared.script.ScriptCause.TheVariants.{BadLine}
use Rattle.ndc_script_types.specs.declared.script.ScriptError.{ScriptError}
use Rattle.ndc_script_words.specs.Header.{refused}
use Rattle.ndc_script_words.specs.Operands.{named, numbered, known}

-- no word stands twice
abbrev pub all_differ : List (List ℕ) → Bool
all_differ [] = true
all_differ (word ∷ words) = not (list_any (λ other. bytes_eq other word) words) && all_differ words

-- the words, where they differ
abbrev pub differing : ℕ → List (List ℕ) → Result (List (List ℕ)) ScriptError
differing line words = if all_differ words then Ok words else refused line BadLine

-- the clusters of these names
unfoldable pub clusters_named : Header → ℕ → List (List ℕ) → Result (List ClusterNo) ScriptError
clusters_named header line [] = Ok []
clusters_named header line (word ∷ words) = do
  cluster ← known header line word
  more ← clusters_named header line words
  Ok (cluster ∷ more)

-- the clusters that a line names, all where it names none
unfoldable pub clusters_for : Header → ℕ → List (List ℕ) → Result (List ClusterNo) ScriptError
clusters_for header line [] = Ok (clusters_below (count_of header.clusters))
clusters_for header line (word ∷ words) = clusters_named header line (word ∷ words)

-- the members that a line names
unfoldable pub members_named : Header → ℕ → List (List ℕ) → Result (List ℕ) ScriptError
members_named header line words = do
  clusters ← clusters_for header line words
  Ok (members_of clusters)

-- a line `register`, by its domain and days, and the words for the clusters
unfoldable pub register_with : Header → ℕ → List ℕ → ℕ → List ℕ → List ℕ → List (List ℕ) → Result Act ScriptError
register_with header line domain days at target names = do
  at ← known header line at
  target ← known header line target
  members ← members_named header line names
  Ok (act.Register at domain target days members)

-- `register C D ACTIVE DAYS CLUSTER ..`, whose words CLUSTER differ
unfoldable pub register_line : Header → ℕ → List (List ℕ) → Result Act ScriptError
register_line header line (at ∷ domain ∷ target ∷ days ∷ names) = do
  domain ← named line domain
  days ← numbered line 1 1000 days
  names ← differing line names
  register_with header line domain days at target names
register_line header line _ = refused line BadLine
