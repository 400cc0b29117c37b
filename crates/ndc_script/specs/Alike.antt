-- Which texts are read as the same script: those that have the same words in the lines that are not skipped, but for the clusters of a `register` line.
use Rattle.std.specs.Prelude.{◌≡◌, ◌⊎◌, ℕ, not, List, [], ◌∷◌, codes, filter, map}
use Rattle.std.specs.List.{list_any}
use Rattle.std.specs.Str.{bytes_eq}
use Rattle.ndc_script_types.specs.declared.script.Header.{Header}
use Rattle.ndc_script_words.specs.Text.{is_skipped, text_lines, words_of}

-- the words of each line of a text that is not skipped
abbrev pub word_lines : List ℕ → List (List (List ℕ))
word_lines bytes = filter (λ words. not (is_skipped words)) (map words_of (text_lines bytes))

-- two lists have the same words, in whatever order and however often: each word stands in both or in none
abbrev pub HaveTheSameWords : List (List ℕ) → List (List ℕ) → Type 0
HaveTheSameWords one two = (word : List ℕ) → list_any (λ other. bytes_eq other word) one ≡ list_any (λ other. bytes_eq other word) two

-- the clusters of a line `register`: those that it names, all where it names none
abbrev pub or_all : List (List ℕ) → List (List ℕ) → List (List ℕ)
or_all all [] = all
or_all all (name ∷ names) = name ∷ names

-- two lines `register C D ACTIVE DAYS CLUSTER ..` that differ at most in how they name their clusters
pub record RegistersTheSame (all one two : List (List ℕ)) : Type 0 where
  pub at : List ℕ
  pub domain : List ℕ
  pub target : List ℕ
  pub days : List ℕ
  pub names : List (List ℕ)
  pub others : List (List ℕ)
  pub one_is : one ≡ codes "register" ∷ at ∷ domain ∷ target ∷ days ∷ names
  pub two_is : two ≡ codes "register" ∷ at ∷ domain ∷ target ∷ days ∷ others
  pub same : HaveTheSameWords (or_all all names) (or_all all others)

-- two lines say the same, where these are the names of all clusters: they have the same words, or register the same
abbrev pub SaysTheSame : List (List ℕ) → List (List ℕ) → List (List ℕ) → Type 0
SaysTheSame all one two = (one ≡ two) ⊎ RegistersTheSame all one two

-- so do lines, one by one
abbrev pub SayTheSame : List (List ℕ) → List (List (List ℕ)) → List (List (List ℕ)) → Type 0
SayTheSame all [] [] = Unit {0}
SayTheSame all (one ∷ ones) (two ∷ twos) = SaysTheSame all one two × SayTheSame all ones twos
SayTheSame all [] (two ∷ twos) = ⊥
SayTheSame all (one ∷ ones) [] = ⊥

-- the names of all clusters of a header
abbrev pub cluster_names : Header → List (List ℕ)
cluster_names header = map (λ member. member.0) header.clusters.members
