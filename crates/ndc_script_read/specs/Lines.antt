-- Lines that are not command lines, by the words that they need after the first.
use Rattle.std.specs.Prelude.{ℕ, ◌==◌, List, [], ◌∷◌, length, Result, Ok, if◌then◌else◌}
use Rattle.ndc_event.specs.Outcome.{◌>>=◌}
use Rattle.ndc_domain.specs.declared.clusters.ClusterNo.{ClusterNo}
use Rattle.ndc_script_words.specs.declared.operand.WorkflowAt.{WorkflowAt}
use Rattle.ndc_script_types.specs.declared.script.Act.{Act}
use Rattle.ndc_script_types.specs.declared.script.Act.TheVariants as act
use Rattle.ndc_script_types.specs.declared.script.Header.{Header}
use Rattle.ndc_script_types.specs.declared.script.ScriptCause.TheVariants.{BadLine}
use Rattle.ndc_script_types.specs.declared.script.ScriptError.{ScriptError}
use Rattle.ndc_script_words.specs.declared.verb.ClusterVerb.{ClusterVerb}
use Rattle.ndc_script_words.specs.declared.verb.ClusterVerb.TheVariants as cluster_verb
use Rattle.ndc_script_words.specs.declared.verb.DomainVerb.{DomainVerb}
use Rattle.ndc_script_words.specs.declared.verb.DomainVerb.TheVariants as domain_verb
use Rattle.ndc_script_words.specs.declared.verb.PairVerb.{PairVerb}
use Rattle.ndc_script_words.specs.declared.verb.PairVerb.TheVariants as pair_verb
use Rattle.ndc_script_words.specs.declared.verb.PlaceVerb.{PlaceVerb}
use Rattle.ndc_script_words.specs.declared.verb.PlaceVerb.TheVariants as place_verb
use Rattle.ndc_script_words.specs.declared.verb.PlacesVerb.{PlacesVerb}
use Rattle.ndc_script_words.specs.declared.verb.PlacesVerb.TheVariants as places_verb
use Rattle.ndc_script_words.specs.declared.verb.TargetVerb.{TargetVerb}
use Rattle.ndc_script_words.specs.declared.verb.TargetVerb.TheVariants as target_verb
use Rattle.ndc_script_words.specs.declared.verb.WorkflowVerb.{WorkflowVerb}
use Rattle.ndc_script_words.specs.declared.verb.WorkflowVerb.TheVariants as workflow_verb
use Rattle.ndc_script_words.specs.Header.{refused}
use Rattle.ndc_script_words.specs.Operands.{named, numbered, shard_of, place_of, known, both_known, two_clusters, workflow_at}

-- what lines on one cluster ask for
abbrev pub cluster_act : ClusterVerb → ClusterNo → Act
cluster_act cluster_verb.Work cluster = act.Work cluster
cluster_act cluster_verb.Trim cluster = act.Trim cluster
cluster_act cluster_verb.Gaps cluster = act.Gaps cluster
cluster_act cluster_verb.Resend cluster = act.Resend cluster
cluster_act cluster_verb.Letters cluster = act.LettersOf cluster
cluster_act cluster_verb.Purge cluster = act.Purge cluster
cluster_act cluster_verb.MergeLetters cluster = act.MergeLetters cluster

-- `work C`, `trim SOURCE`, `gaps C`, `resend C`, `letters READER`, `purge READER`, `mergeletters READER`
unfoldable pub cluster_line : Header → ℕ → ClusterVerb → List (List ℕ) → Result Act ScriptError
cluster_line header line verb (cluster ∷ []) = do
  cluster ← known header line cluster
  Ok (cluster_act verb cluster)
cluster_line header line verb _ = refused line BadLine

-- what lines on two clusters that differ ask for
abbrev pub pair_act : PairVerb → ClusterNo → ClusterNo → Act
pair_act pair_verb.Pull one two = act.Pull one two
pair_act pair_verb.Rewind one two = act.Rewind one two
pair_act pair_verb.Bootstrap one two = act.Bootstrap one two
pair_act pair_verb.Domains one two = act.Domains one two
pair_act pair_verb.Sync one two = act.Sync one two

-- `pull READER SOURCE`, `rewind READER SOURCE`, `bootstrap READER SOURCE`, `domains TO FROM`, `sync TO FROM`
unfoldable pub pair_line : Header → ℕ → PairVerb → List (List ℕ) → Result Act ScriptError
pair_line header line verb (one ∷ two ∷ []) = do
  clusters ← two_clusters header line one two
  Ok (pair_act verb clusters.one clusters.two)
pair_line header line verb _ = refused line BadLine

-- what lines on a domain at a cluster ask for
abbrev pub domain_act : DomainVerb → ClusterNo → List ℕ → Act
domain_act domain_verb.Domain at domain = act.Domain at domain
domain_act domain_verb.Members at domain = act.MembersOf at domain
domain_act domain_verb.Complete at domain = act.Complete at domain

-- `domain C D`, `members C D`, `complete C D`
unfoldable pub domain_line : Header → ℕ → DomainVerb → List (List ℕ) → Result Act ScriptError
domain_line header line verb (at ∷ domain ∷ []) = do
  domain ← named line domain
  at ← known header line at
  Ok (domain_act verb at domain)
domain_line header line verb _ = refused line BadLine

-- `retain C D DAYS`
unfoldable pub retain_line : Header → ℕ → List (List ℕ) → Result Act ScriptError
retain_line header line (at ∷ domain ∷ days ∷ []) = do
  domain ← named line domain
  days ← numbered line 1 1000 days
  at ← known header line at
  Ok (act.Retain at domain days)
retain_line header line _ = refused line BadLine

-- what lines on a domain and another cluster ask for
abbrev pub target_act : TargetVerb → ClusterNo → List ℕ → ClusterNo → Act
target_act target_verb.Join at domain target = act.Join at domain target
target_act target_verb.Failover at domain target = act.Failover at domain target

-- `join C D CLUSTER`, `failover C D TARGET`
unfoldable pub target_line : Header → ℕ → TargetVerb → List (List ℕ) → Result Act ScriptError
target_line header line verb (at ∷ domain ∷ target ∷ []) = do
  domain ← named line domain
  clusters ← both_known header line at target
  Ok (target_act verb clusters.one domain clusters.two)
target_line header line verb _ = refused line BadLine

-- `handover C D TARGET`, where C and TARGET differ
unfoldable pub handover_line : Header → ℕ → List (List ℕ) → Result Act ScriptError
handover_line header line (at ∷ domain ∷ target ∷ []) = do
  domain ← named line domain
  clusters ← two_clusters header line at target
  Ok (act.Handover clusters.one domain clusters.two)
handover_line header line _ = refused line BadLine

-- `levels READER SOURCE SHARD`
unfoldable pub levels_line : Header → ℕ → List (List ℕ) → Result Act ScriptError
levels_line header line (reader ∷ source ∷ shard ∷ []) = do
  shard ← shard_of header line shard
  clusters ← two_clusters header line reader source
  Ok (act.LevelsOf clusters.one clusters.two shard)
levels_line header line _ = refused line BadLine

-- what lines on one number of one queue ask for
abbrev pub place_act : PlaceVerb → ClusterNo → ClusterNo → ℕ → ℕ → Act
place_act place_verb.Pull reader source shard number = act.PullSome reader source shard number
place_act place_verb.Lose reader source shard number = act.Lose reader source shard number
place_act place_verb.Repeat reader source shard number = act.Repeat reader source shard number

-- `pull READER SOURCE SHARD COUNT`, `lose READER SOURCE SHARD PLACE`, `repeat READER SOURCE SHARD PLACE`
unfoldable pub place_line : Header → ℕ → PlaceVerb → List (List ℕ) → Result Act ScriptError
place_line header line verb (reader ∷ source ∷ shard ∷ number ∷ []) = do
  shard ← shard_of header line shard
  number ← place_of line number
  clusters ← two_clusters header line reader source
  Ok (place_act verb clusters.one clusters.two shard number)
place_line header line verb _ = refused line BadLine

-- `pull READER SOURCE`, or `pull READER SOURCE SHARD COUNT`
unfoldable pub pull_line : Header → ℕ → List (List ℕ) → Result Act ScriptError
pull_line header line words =
    if length words == 2 then pair_line header line pair_verb.Pull words else place_line header line place_verb.Pull words

-- what lines on two numbers of one queue ask for
abbrev pub places_act : PlacesVerb → ClusterNo → ClusterNo → ℕ → ℕ → ℕ → Act
places_act places_verb.Move reader source shard place number = act.Move reader source shard place number
places_act places_verb.Damage reader source shard place number = act.Damage reader source shard place number

-- the numbers and clusters of a line on two numbers of one queue
unfoldable pub places_with : Header → ℕ → PlacesVerb → List ℕ → List ℕ → ℕ → List ℕ → List ℕ → Result Act ScriptError
places_with header line verb reader source shard place number = do
  place ← place_of line place
  number ← place_of line number
  clusters ← two_clusters header line reader source
  Ok (places_act verb clusters.one clusters.two shard place number)

-- `move READER SOURCE SHARD PLACE PLACE`, `damage READER SOURCE SHARD PLACE CUT`
unfoldable pub places_line : Header → ℕ → PlacesVerb → List (List ℕ) → Result Act ScriptError
places_line header line verb (reader ∷ source ∷ shard ∷ place ∷ number ∷ []) = do
  shard ← shard_of header line shard
  places_with header line verb reader source shard place number
places_line header line verb _ = refused line BadLine

-- `settle`
unfoldable pub settle_line : ℕ → List (List ℕ) → Result Act ScriptError
settle_line line [] = Ok act.Settle
settle_line line _ = refused line BadLine

-- what lines that read a workflow ask for
abbrev pub workflow_act : WorkflowVerb → WorkflowAt → Act
workflow_act workflow_verb.History at = act.History at.cluster at.domain at.workflow
workflow_act workflow_verb.Branches at = act.Branches at.cluster at.domain at.workflow
workflow_act workflow_verb.Current at = act.Current at.cluster at.domain at.workflow
workflow_act workflow_verb.State at = act.StateOf at.cluster at.domain at.workflow
workflow_act workflow_verb.Dump at = act.Dump at.cluster at.domain at.workflow

-- `history C D W`, `branches C D W`, `current C D W`, `state C D W`, `dump C D W`
unfoldable pub workflow_line : Header → ℕ → WorkflowVerb → List (List ℕ) → Result Act ScriptError
workflow_line header line verb (cluster ∷ domain ∷ workflow ∷ []) = do
  at ← workflow_at header line cluster domain workflow
  Ok (workflow_act verb at)
workflow_line header line verb _ = refused line BadLine

-- `compare C C D W`
unfoldable pub compare_line : Header → ℕ → List (List ℕ) → Result Act ScriptError
compare_line header line (one ∷ two ∷ domain ∷ workflow ∷ []) = do
  at ← workflow_at header line one domain workflow
  two ← known header line two
  Ok (act.Compare at.cluster two at.domain at.workflow)
compare_line header line _ = refused line BadLine

-- `reset C D W EVENT`
unfoldable pub reset_line : Header → ℕ → List (List ℕ) → Result Act ScriptError
reset_line header line (cluster ∷ domain ∷ workflow ∷ event ∷ []) = do
  event ← numbered line 1 1000000 event
  at ← workflow_at header line cluster domain workflow
  Ok (act.Reset at.cluster at.domain at.workflow event)
reset_line header line _ = refused line BadLine

-- the names of a line `beat`, and its workflow
unfoldable pub beat_with : Header → ℕ → List ℕ → List ℕ → List ℕ → List ℕ → List ℕ → Result Act ScriptError
beat_with header line cluster domain workflow id details = do
  id ← named line id
  details ← named line details
  at ← workflow_at header line cluster domain workflow
  Ok (act.Beat at.cluster at.domain at.workflow id details)

-- `beat C D W ID DETAILS`
unfoldable pub beat_line : Header → ℕ → List (List ℕ) → Result Act ScriptError
beat_line header line (cluster ∷ domain ∷ workflow ∷ id ∷ details ∷ []) = beat_with header line cluster domain workflow id details
beat_line header line _ = refused line BadLine

-- `progress C D W ID`
unfoldable pub progress_line : Header → ℕ → List (List ℕ) → Result Act ScriptError
progress_line header line (cluster ∷ domain ∷ workflow ∷ id ∷ []) = do
  id ← named line id
  at ← workflow_at header line cluster domain workflow
  Ok (act.ProgressOf at.cluster at.domain at.workflow id)
progress_line header line _ = refused line BadLine
