-- The parts of an input that holds dumps: each begins with a line `dump ..`, and a line `cluster NAME` says which cluster the dumps after it belong to.
use Rattle.std.specs.Prelude.{ℕ, ◌==◌, nat_lt, Bool, ◌&&◌, is_some, not, List, [], ◌∷◌, ◌++◌, codes, take, drop, length, Option, Some, None, if◌then◌else◌}
use Rattle.std.specs.List.{list_any, slice_split}
use Rattle.std.specs.Str.{bytes_eq}
use Rattle.ndc_event.specs.Name.{is_name}
use Rattle.ndc_event.specs.declared.name.Name.{Name}
use Rattle.ndc_explain_union.specs.declared.parts.Marker.{Marker}
use Rattle.ndc_explain_union.specs.declared.parts.Marker.TheVariants as marker

-- what stands after a word with which a line begins
abbrev pub behind_word : List ℕ → List ℕ → Option (List ℕ)
behind_word word line = if bytes_eq (take (length word) line) word then Some (drop (length word) line) else None

-- the cluster that is named, or no marker where it is not a name
abbrev pub named_marker : List ℕ → Marker
named_marker name = if is_name name then marker.Cluster name else marker.Other

abbrev pub cluster_marker : Option (List ℕ) → Marker
cluster_marker None = marker.Other
cluster_marker (Some name) = named_marker name

-- what a line is in an input: the first of a dump, a cluster's name, or one more of a dump
unfoldable pub marker_of : List ℕ → Marker
marker_of line = if is_some (behind_word (codes "dump ") line) then marker.Dump else cluster_marker (behind_word (codes "cluster ") line)

-- a part of an input: the cluster that was named last, where one was, and the bytes of a dump
pub record Parted : Type 0 where
  pub cluster : Option Name
  pub text : List ℕ

-- whether a name is listed, and the names with it
abbrev pub is_named : Name → List Name → Bool
is_named name names = list_any (bytes_eq name) names

abbrev pub with_name : Name → List Name → List Name
with_name name names = if is_named name names then names else names ++ name ∷ []

-- what was cut so far: the clusters that were named, the parts that are done, and the one that goes on, with its cluster
pub record Cut : Type 0 where
  pub clusters : List Name
  pub done : List Parted
  pub cluster : Option Name
  pub text : List ℕ

-- a part goes last, unless it is empty
abbrev pub with_part : Option Name → List ℕ → List Parted → List Parted
with_part cluster [] done = done
with_part cluster (byte ∷ text) done = done ++ record { cluster = cluster; text = byte ∷ text } ∷ []

-- a text with a line end, unless it is empty
abbrev pub with_end : List ℕ → List ℕ
with_end [] = []
with_end (byte ∷ text) = (byte ∷ text) ++ codes "\n"

-- a text with a line more
abbrev pub with_line : List ℕ → List ℕ → List ℕ
with_line text line = with_end text ++ line

-- the part that goes on is done
abbrev pub closed : Cut → Cut
closed it = record { clusters = it.clusters; done = with_part it.cluster (with_end it.text) it.done; cluster = it.cluster; text = [] }

-- a line goes after the part that goes on
abbrev pub with_text : List ℕ → Cut → Cut
with_text line it = record { clusters = it.clusters; done = it.done; cluster = it.cluster; text = with_line it.text line }

-- the parts after it are this cluster's
abbrev pub with_cluster : Name → Cut → Cut
with_cluster name it = record { clusters = with_name name it.clusters; done = it.done; cluster = Some name; text = it.text }

-- with a line that is marked so
abbrev pub with_marked : Marker → List ℕ → Cut → Cut
with_marked marker.Dump line it = with_text line (closed it)
with_marked (marker.Cluster name) line it = with_cluster name (closed it)
with_marked marker.Other line it = with_text line it

abbrev pub with_lines : List (List ℕ) → Cut → Cut
with_lines [] it = it
with_lines (line ∷ lines) it = with_lines lines (with_marked (marker_of line) line it)

abbrev pub no_part : Cut
no_part = record { clusters = []; done = []; cluster = None; text = [] }

-- the parts of an input, and the clusters that it names, each once
pub record Inputs : Type 0 where
  pub clusters : List Name
  pub parts : List Parted

abbrev pub ended : Cut → Inputs
ended it = record { clusters = it.clusters; parts = with_part it.cluster it.text it.done }

unfoldable pub parts_of : List ℕ → Inputs
parts_of bytes = ended (with_lines (slice_split (λ byte. byte == 10) bytes) no_part)

-- whether an input is one dump alone: it names no cluster, and has no second part
abbrev pub is_alone : Inputs → Bool
is_alone input = not (nat_lt 0 (length input.clusters)) && not (nat_lt 1 (length input.parts))
