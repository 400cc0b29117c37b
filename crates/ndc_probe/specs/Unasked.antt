-- What is told where the words of a comment are not question.
use Rattle.std.specs.Prelude.{ℕ, ◌-◌, List, [], ◌∷◌, ◌++◌, codes, decimal, Option, Some, None}
use Rattle.std.specs.List.{flat_map, range_with_len}
use Rattle.ndc_domain.specs.Clusters.{cluster_no, count_of, name_of}
use Rattle.ndc_script_types.specs.declared.script.Header.{Header}
use Rattle.ndc_probe_questions.specs.Questions.{verb_of}
use Rattle.ndc_probe_questions.specs.declared.reading.Verb.{Verb}
use Rattle.ndc_probe_questions.specs.declared.reading.Verb.TheVariants as verb

-- what stands after the word that begins a question
unfoldable pub usage_of : Option Verb → List ℕ
usage_of None = codes "flight, queue, holds, late, workflows, forks, differs or dumps"
usage_of (Some verb.Flight) = codes "flight READER SOURCE SHARD"
usage_of (Some verb.Queue) = codes "queue SOURCE SHARD"
usage_of (Some verb.Holds) = codes "holds READER SOURCE SHARD"
usage_of (Some verb.Late) = codes "late READER SOURCE"
usage_of (Some verb.Workflows) = codes "workflows CLUSTER DOMAIN"
usage_of (Some verb.Forks) = codes "forks CLUSTER DOMAIN"
usage_of (Some verb.Differs) = codes "differs CLUSTER CLUSTER DOMAIN"
usage_of (Some verb.Dumps) = codes "dumps CLUSTER DOMAIN"

-- the word that begins these, where it begins a question
abbrev pub verb_among : List (List ℕ) → Option Verb
verb_among [] = None
verb_among (word ∷ words) = verb_of word

-- the name of the cluster of a number, after a space
unfoldable pub name_word : Header → ℕ → List ℕ
name_word header number = codes " " ++ name_of header.clusters (cluster_no number)

-- the names of the clusters, each after a space
unfoldable pub names_text : Header → List ℕ
names_text header = flat_map (name_word header) (range_with_len 0 (count_of header.clusters))

-- from which to which a shard is
unfoldable pub shards_text : ℕ → List ℕ
shards_text last = codes ", shards 0 to " ++ (decimal last ++ codes "\n")

-- of what words the clusters and shards are to be
unfoldable pub range_text : Header → List ℕ
range_text header = codes "; clusters" ++ (names_text header ++ shards_text (header.shards - 1))

-- what was expected in the place of words
unfoldable pub unasked_text : Header → List (List ℕ) → List ℕ
unasked_text header words = codes "no question; expected: " ++ (usage_of (verb_among words) ++ range_text header)
