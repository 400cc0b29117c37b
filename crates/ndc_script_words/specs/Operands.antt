-- The words after the first of a line: names, numbers, clusters, shards.
use Rattle.std.specs.Prelude.{ℕ, ◌-◌, Option, None, Some, List, Result, Ok, Err, if◌then◌else◌}
use Rattle.std.specs.Str.{bytes_eq}
use Rattle.ndc_event.specs.Outcome.{◌>>=◌}
use Rattle.ndc_event.specs.Name.{name_of}
use Rattle.ndc_event.specs.declared.name.NameError.{NameError}
use Rattle.ndc_domain.specs.Clusters.{find_of}
use Rattle.ndc_domain.specs.declared.clusters.ClusterNo.{ClusterNo}
use Rattle.ndc_script_types.specs.declared.script.Header.{Header}
use Rattle.ndc_script_types.specs.declared.script.ScriptCause.TheVariants.{BadLine, UnknownName}
use Rattle.ndc_script_types.specs.declared.script.ScriptError.{ScriptError}
use Rattle.ndc_script_words.specs.declared.operand.TwoClusters.{TwoClusters}
use Rattle.ndc_script_words.specs.declared.operand.WorkflowAt.{WorkflowAt}
use Rattle.ndc_script_words.specs.Number.{number_of}
use Rattle.ndc_script_words.specs.Header.{refused, within}

-- the name, or a bad line
abbrev pub name_or_bad : ℕ → Result (List ℕ) NameError → Result (List ℕ) ScriptError
name_or_bad line (Ok name) = Ok name
name_or_bad line (Err error) = refused line BadLine

-- the name that a word is
abbrev pub named : ℕ → List ℕ → Result (List ℕ) ScriptError
named line word = name_or_bad line (name_of word)

-- the number, or a bad line
abbrev pub number_or_bad : ℕ → Option ℕ → Result ℕ ScriptError
number_or_bad line (Some number) = Ok number
number_or_bad line None = refused line BadLine

-- the number within bounds that a word is
unfoldable pub numbered : ℕ → ℕ → ℕ → List ℕ → Result ℕ ScriptError
numbered line low high word = number_or_bad line (within low high (number_of word))

-- the shard of the header that a word is
abbrev pub shard_of : Header → ℕ → List ℕ → Result ℕ ScriptError
shard_of header line word = numbered line 0 (header.shards - 1) word

-- the place, count or cut that a word is
abbrev pub place_of : ℕ → List ℕ → Result ℕ ScriptError
place_of line word = numbered line 0 1000000 word

-- the cluster, or an unknown name
abbrev pub cluster_or_unknown : ℕ → Option ClusterNo → Result ClusterNo ScriptError
cluster_or_unknown line (Some cluster) = Ok cluster
cluster_or_unknown line None = refused line UnknownName

-- the cluster of this name in the header
unfoldable pub known : Header → ℕ → List ℕ → Result ClusterNo ScriptError
known header line word = cluster_or_unknown line (find_of header.clusters word)

-- the clusters of two names
unfoldable pub both_known : Header → ℕ → List ℕ → List ℕ → Result TwoClusters ScriptError
both_known header line one two = do
  one ← known header line one
  two ← known header line two
  Ok (record { one = one; two = two })

-- the clusters of two names, which have to differ
unfoldable pub two_clusters : Header → ℕ → List ℕ → List ℕ → Result TwoClusters ScriptError
two_clusters header line one two = if bytes_eq one two then refused line BadLine else both_known header line one two

-- the workflow at a cluster that three words name: a cluster, a domain, a workflow
unfoldable pub workflow_at : Header → ℕ → List ℕ → List ℕ → List ℕ → Result WorkflowAt ScriptError
workflow_at header line cluster domain workflow = do
  domain ← named line domain
  workflow ← named line workflow
  cluster ← known header line cluster
  Ok (record { cluster = cluster; domain = domain; workflow = workflow })
