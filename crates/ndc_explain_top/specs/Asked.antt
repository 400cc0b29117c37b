-- The words that the program is called with: in which form a dump is told, and the clusters whose names are to be told.
use Rattle.std.specs.Prelude.{ℕ, Bool, true, false, ◌==◌, ◌&&◌, List, [], ◌∷◌, ◌++◌, codes, Option, Some, None, Result, Ok, Err, if◌then◌else◌}
use Rattle.std.specs.List.{slice_split}
use Rattle.std.specs.Str.{bytes_eq}
use Rattle.ndc_domain.specs.Clusters.{ClusterList, clusters_of}
use Rattle.ndc_domain.specs.declared.clusters.ClustersError.{ClustersError}
use Rattle.ndc_event.specs.Name.{is_name}
use Rattle.ndc_event.specs.Outcome.{◌>>=◌}
use Rattle.ndc_event.specs.declared.name.Name.{Name}
use Rattle.ndc_script_words.specs.Number.{number_of}
use Rattle.ndc_explain_top.specs.declared.asked.Form.{Form}
use Rattle.ndc_explain_top.specs.declared.asked.Form.TheVariants.{Text, Picture, TreePicture, View}
use Rattle.ndc_explain_top.specs.declared.asked.Request.{Request}
use Rattle.ndc_tool_words.specs.declared.error.WordsError.{WordsError}
use Rattle.ndc_tool_words.specs.declared.error.WordsError.TheVariants.{Refused}

-- the number that a word is, or else the words are refused
abbrev pub number_or : Option ℕ → Result ℕ WordsError
number_or None = Err Refused
number_or (Some number) = Ok number

-- the name that a word is
abbrev pub name_on : List ℕ → Result Name WordsError
name_on word = if is_name word then Ok word else Err Refused

-- a cluster's name and initial version
unfoldable pub member_with : List ℕ → List ℕ → Result (Name × ℕ) WordsError
member_with name initial = do
  name ← name_on name
  initial ← number_or (number_of initial)
  Ok (name, initial)

-- `NAME=INITIAL`
abbrev pub member_in : List (List ℕ) → Result (Name × ℕ) WordsError
member_in (name ∷ initial ∷ []) = member_with name initial
member_in _ = Err Refused

unfoldable pub member_of : List ℕ → Result (Name × ℕ) WordsError
member_of word = member_in (slice_split (λ byte. byte == 61) word)

-- members after others
abbrev pub behind : List (Name × ℕ) → Result (List (Name × ℕ)) WordsError → Result (List (Name × ℕ)) WordsError
behind front (Ok members) = Ok (front ++ members)
behind front (Err error) = Err error

-- the members that these words are
abbrev pub members_on : List (List ℕ) → Result (List (Name × ℕ)) WordsError
members_on [] = Ok []
members_on (word ∷ words) = member_of word >>= (λ member. behind (member ∷ []) (members_on words))

-- the clusters, or else the words are refused
abbrev pub clusters_or : Result ClusterList ClustersError → Result ClusterList WordsError
clusters_or (Ok clusters) = Ok clusters
clusters_or (Err error) = Err Refused

-- the clusters of these members, between commas, and this increment
unfoldable pub clusters_on : List ℕ → List ℕ → Result (Option ClusterList) WordsError
clusters_on list increment = do
  increment ← number_or (number_of increment)
  members ← members_on (slice_split (λ byte. byte == 44) list)
  clusters ← clusters_or (clusters_of increment members)
  Ok (Some clusters)

-- the clusters that the words name: `--clusters NAME=INITIAL,.. --increment INCREMENT`, or none
abbrev pub named_by : List (List ℕ) → Result (Option ClusterList) WordsError
named_by [] = Ok None
named_by (one ∷ list ∷ two ∷ increment ∷ []) =
    if bytes_eq one (codes "--clusters") && bytes_eq two (codes "--increment") then clusters_on list increment else Err Refused
named_by _ = Err Refused

-- this form, with all events or without those of decisions, of dumps with their views or of bare ones, within this limit; with the clusters
-- that the words name
unfoldable pub request_with : Form → Bool → Bool → Option ℕ → List (List ℕ) → Result Request WordsError
request_with form all bare limit words = do
  clusters ← named_by words
  Ok (record { form = form; all = all; bare = bare; limit = limit; clusters = clusters })

-- the same within a limit of this word
unfoldable pub request_within : Form → Bool → Bool → List ℕ → List (List ℕ) → Result Request WordsError
request_within form all bare word words = do
  limit ← number_or (number_of word)
  request_with form all bare (Some limit) words

-- the same within the limit that `--limit BYTES` names, where it stands before the others
abbrev pub limited : Form → Bool → Bool → List (List ℕ) → Result Request WordsError
limited form all bare (word ∷ number ∷ words) =
    if bytes_eq word (codes "--limit") then request_within form all bare number words else request_with form all bare None (word ∷ number ∷ words)
limited form all bare words = request_with form all bare None words

-- the same of bare dumps where `--bare` stands before the others
abbrev pub bared : Form → Bool → List (List ℕ) → Result Request WordsError
bared form all [] = limited form all false []
bared form all (word ∷ words) = if bytes_eq word (codes "--bare") then limited form all true words else limited form all false (word ∷ words)

-- this form: with all events where `--all` stands before the others
unfoldable pub request_for : Form → List (List ℕ) → Result Request WordsError
request_for form [] = bared form false []
request_for form (word ∷ words) = if bytes_eq word (codes "--all") then bared form true words else bared form false (word ∷ words)

-- the dump itself where `view` stands before the others, or else text
unfoldable pub view_or_text : List (List ℕ) → Result Request WordsError
view_or_text [] = request_for Text []
view_or_text (word ∷ words) = if bytes_eq word (codes "view") then request_for View words else request_for Text (word ∷ words)

-- the picture in characters where `--picture=text` stands before the others, or else the dump itself or text
unfoldable pub tree_or_view : List (List ℕ) → Result Request WordsError
tree_or_view [] = view_or_text []
tree_or_view (word ∷ words) = if bytes_eq word (codes "--picture=text") then request_for TreePicture words else view_or_text (word ∷ words)

-- what the words ask for: a picture where `--picture` or `--picture=text` stands before the others, the dump itself where `view` does, or else text
abbrev pub asked_of : List (List ℕ) → Result Request WordsError
asked_of [] = tree_or_view []
asked_of (word ∷ words) = if bytes_eq word (codes "--picture") then request_for Picture words else tree_or_view (word ∷ words)
