-- The header of a script, and where its faults stand.
use Rattle.std.specs.Prelude.{ℕ, ◌^◌, Bool, false, ◌&&◌, ◌||◌, ◌==◌, nat_lt, nat_le, length, drop, Option, None, Some, List, [], ◌∷◌, Result, Ok, Err, codes, slice_get, if◌then◌else◌}
use Rattle.std.specs.Option.{option_map_or}
use Rattle.std.specs.Str.{bytes_eq}
use Rattle.ndc_event.specs.Outcome.{◌>>=◌}
use Rattle.ndc_event.specs.Name.{name_of}
use Rattle.ndc_event.specs.declared.name.NameError.{NameError}
use Rattle.ndc_domain.specs.Clusters.{ClusterList, clusters_of}
use Rattle.ndc_domain.specs.declared.clusters.ClustersError.{ClustersError}
use Rattle.ndc_domain.specs.declared.clusters.ClustersError.TheVariants as clusters
use Rattle.ndc_script_types.specs.declared.script.Header.{Header}
use Rattle.ndc_script_types.specs.declared.script.ScriptCause.{ScriptCause}
use Rattle.ndc_script_types.specs.declared.script.ScriptCause.TheVariants.{BadHeader, IncrementLimit, NoClusters, TooMany, SameName, SameInitial, NotBelowIncrement, LineLimit}
use Rattle.ndc_script_types.specs.declared.script.ScriptError.{ScriptError}
use Rattle.ndc_script_types.specs.declared.script.ScriptError.TheVariants.{Refused, Memory}
use Rattle.ndc_script_words.specs.declared.text.Reading.{Reading}
use Rattle.ndc_script_words.specs.declared.text.Reading.TheVariants.{Readable, Unreadable, PastLimit}
use Rattle.ndc_script_words.specs.Text.{KeptLine}
use Rattle.ndc_script_words.specs.Number.{number_of}

-- a refusal at a line
abbrev pub refused : {A : Type 0} → ℕ → ScriptCause → Result A ScriptError
refused line cause = Err (Refused line cause)

-- the number of a line `KEY NUMBER`
abbrev pub keyed_number : List ℕ → List (List ℕ) → Option ℕ
keyed_number key (word ∷ number ∷ []) = if bytes_eq word key then number_of number else None
keyed_number key _ = None

-- the number, where it stands within bounds
abbrev pub within : ℕ → ℕ → Option ℕ → Option ℕ
within low high None = None
within low high (Some number) = if nat_le low number && nat_le number high then Some number else None

-- the number of a header line, by how the line can be read
abbrev pub number_read : ℕ → Reading → Option ℕ → Result ℕ ScriptError
number_read line PastLimit number = refused line LineLimit
number_read line Unreadable number = refused line BadHeader
number_read line Readable None = refused line BadHeader
number_read line Readable (Some number) = Ok number

-- what a header line gives: where it stands, its number, and the lines after it
pub record Setting : Type 0 where
  pub line : ℕ
  pub value : ℕ
  pub rest : List KeptLine

-- the header line `KEY NUMBER` with a number within bounds, which has to be the next line
unfoldable pub setting_of : List ℕ → ℕ → ℕ → ℕ → List KeptLine → Result Setting ScriptError
setting_of key low high end [] = refused end BadHeader
setting_of key low high end (line ∷ rest) = do
  value ← number_read line.number line.reading (within low high (keyed_number key line.words))
  Ok (record { line = line.number; value = value; rest = rest })

-- the increment, where it is 1 to 10^12
abbrev pub increment_at : ℕ → ℕ → Result ℕ ScriptError
increment_at line value = if (value == 0) || nat_lt (10 ^ 12) value then refused line IncrementLimit else Ok value

-- the name and initial version of a cluster line, where both words are such
abbrev pub named_initial : Result (List ℕ) NameError → Option ℕ → Option (List ℕ × ℕ)
named_initial (Err error) initial = None
named_initial (Ok name) None = None
named_initial (Ok name) (Some initial) = Some (name, initial)

-- the name and initial version of a line `cluster NAME INITIAL`
abbrev pub cluster_words : List (List ℕ) → Option (List ℕ × ℕ)
cluster_words (word ∷ name ∷ initial ∷ []) = if bytes_eq word (codes "cluster") then named_initial (name_of name) (number_of initial) else None
cluster_words _ = None

-- the member that a well-formed cluster line names
abbrev pub member_read : Reading → List (List ℕ) → Option (List ℕ × ℕ)
member_read Readable words = cluster_words words
member_read Unreadable words = None
member_read PastLimit words = None

-- the same of a line
abbrev pub member_of : KeptLine → Option (List ℕ × ℕ)
member_of line = member_read line.reading line.words

-- a member before others, or none
abbrev pub before_members : Option (List ℕ × ℕ) → List (List ℕ × ℕ) → List (List ℕ × ℕ)
before_members None members = []
before_members (Some member) members = member ∷ members

-- the members of the well-formed cluster lines at the beginning
abbrev pub members_of : List KeptLine → List (List ℕ × ℕ)
members_of [] = []
members_of (line ∷ lines) = before_members (member_of line) (members_of lines)

-- the lines after the well-formed cluster lines at the beginning
abbrev pub behind_members : List KeptLine → List KeptLine
behind_members lines = drop (length (members_of lines)) lines

-- the line's first word is `cluster`
abbrev pub is_cluster_line : List (List ℕ) → Bool
is_cluster_line [] = false
is_cluster_line (word ∷ words) = bytes_eq word (codes "cluster")

-- the cause at the first line after the limit line, where it is not a well-formed cluster line
abbrev pub no_member_cause : Reading → Bool → ScriptCause
no_member_cause PastLimit is_cluster = LineLimit
no_member_cause Readable is_cluster = if is_cluster then BadHeader else NoClusters
no_member_cause Unreadable is_cluster = if is_cluster then BadHeader else NoClusters

-- the refusal of a header without a well-formed cluster line
abbrev pub no_member : ℕ → List KeptLine → ScriptError
no_member end [] = Refused end NoClusters
no_member end (line ∷ lines) = Refused line.number (no_member_cause line.reading (is_cluster_line line.words))

-- the number of the line at a place
abbrev pub number_at : ℕ → List KeptLine → ℕ → ℕ
number_at end lines place = option_map_or (λ line. line.number) (slice_get lines place) end

-- where a fault of the clusters stands: at the increment line, after the limit line, or at a cluster line
abbrev pub clusters_refusal : ℕ → ℕ → List KeptLine → ClustersError → ScriptError
clusters_refusal end increment lines clusters.IncrementLimit = Refused increment IncrementLimit
clusters_refusal end increment lines clusters.NoClusters = no_member end lines
clusters_refusal end increment lines (clusters.TooMany place) = Refused (number_at end lines place) TooMany
clusters_refusal end increment lines (clusters.SameName place) = Refused (number_at end lines place) SameName
clusters_refusal end increment lines (clusters.SameInitial place) = Refused (number_at end lines place) SameInitial
clusters_refusal end increment lines (clusters.NotBelowIncrement place) = Refused (number_at end lines place) NotBelowIncrement
clusters_refusal end increment lines clusters.Memory = Memory

-- the clusters, or their fault where it stands
abbrev pub placed : ℕ → ℕ → List KeptLine → Result ClusterList ClustersError → Result ClusterList ScriptError
placed end increment lines (Ok clusters) = Ok clusters
placed end increment lines (Err error) = Err (clusters_refusal end increment lines error)

-- the lines after the cluster lines; a malformed cluster line is none of them
abbrev pub body_lines : List KeptLine → Result (List KeptLine) ScriptError
body_lines [] = Ok []
body_lines (line ∷ lines) = if is_cluster_line line.words then refused line.number BadHeader else Ok (line ∷ lines)

-- a header and the lines of the body
pub record HeaderRead : Type 0 where
  pub header : Header
  pub body : List KeptLine

-- the clusters of the cluster lines, and the lines of the body
unfoldable pub clusters_read : ℕ → Setting → ℕ → ℕ → List KeptLine → Result HeaderRead ScriptError
clusters_read end increment shards limit lines = do
  clusters ← placed end increment.line lines (clusters_of increment.value (members_of lines))
  body ← body_lines (behind_members lines)
  Ok (record { header = record { clusters = clusters; shards = shards; limit = limit }; body = body })

-- the header that lines begin with
unfoldable pub header_of : ℕ → List KeptLine → Result HeaderRead ScriptError
header_of end lines = do
  edition ← setting_of (codes "ndc") 1 1 end lines
  increment ← setting_of (codes "increment") 0 (10 ^ 18) end edition.rest
  lawful ← increment_at increment.line increment.value
  shards ← setting_of (codes "shards") 1 64 end increment.rest
  limit ← setting_of (codes "limit") 10 204800 end shards.rest
  clusters_read end increment shards.value limit.value limit.rest
