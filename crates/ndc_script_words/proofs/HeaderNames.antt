-- The clusters of a header that is read have names.
use Rattle.std.proofs.Common.{◌≡◌, ℕ, ◌^◌, Bool, true, false, ◌||◌, ◌==◌, nat_lt, List, [], ◌∷◌, length, Option, Some, None, Result, Ok, Err, if◌then◌else◌, refl, sym, ap, ◌∙◌}
use Rattle.std.proofs.lemmas.Bool.{and_from}
use Rattle.std.specs.List.{list_all}
use Rattle.ndc_event.specs.Name.{is_name, name_of}
use Rattle.ndc_event.specs.declared.name.NameError.{NameError}
use Rattle.ndc_domain.specs.Clusters.{ClusterList, fault_from, clusters_without, clusters_of}
use Rattle.ndc_domain.specs.declared.clusters.ClustersError.{ClustersError}
use Rattle.ndc_domain.specs.declared.clusters.ClustersError.TheVariants.{IncrementLimit, NoClusters}
use Rattle.ndc_script_words.specs.declared.text.Reading.{Reading}
use Rattle.ndc_script_words.specs.declared.text.Reading.TheVariants.{Readable, Unreadable, PastLimit}
use Rattle.ndc_script_words.specs.Text.{KeptLine}
use Rattle.ndc_script_words.specs.Number.{number_of}
use Rattle.ndc_script_words.specs.Header.{named_initial, cluster_words, member_read, member_of, before_members, members_of}
use Rattle.ndc_script_words.proofs.Names.{name_fits}

-- a member that is read has a name
FitsMember : Option (List ℕ × ℕ) → Type 0
FitsMember None = Unit {0}
FitsMember (Some member) = is_name member.0 ≡ true

initial_fits : (word : List ℕ) (found : Result (List ℕ) NameError) (initial : Option ℕ) → name_of word ≡ found → FitsMember (named_initial found initial)
unfolding FitsMember
initial_fits word (Err error) initial is = tt
initial_fits word (Ok name) None is = tt
initial_fits word (Ok name) (Some initial) is = name_fits word name is

words_fit : (b : Bool) (name initial : List ℕ) → FitsMember (if b then named_initial (name_of name) (number_of initial) else None)
unfolding FitsMember
words_fit true name initial = initial_fits name (name_of name) (number_of initial) refl
words_fit false name initial = tt

member_fits : (words : List (List ℕ)) → FitsMember (cluster_words words)
unfolding FitsMember
member_fits [] = tt
member_fits (w ∷ []) = tt
member_fits (w ∷ n ∷ []) = tt
member_fits (w ∷ n ∷ i ∷ []) = words_fit _ n i
member_fits (w ∷ n ∷ i ∷ x ∷ xs) = tt

read_fits : (reading : Reading) (words : List (List ℕ)) → FitsMember (member_read reading words)
unfolding FitsMember
read_fits Readable words = member_fits words
read_fits Unreadable words = tt
read_fits PastLimit words = tt

before_fits : (member : Option (List ℕ × ℕ)) (members : List (List ℕ × ℕ)) → FitsMember member → list_all (λ m. is_name m.0) members ≡ true → list_all (λ m. is_name m.0) (before_members member members) ≡ true
unfolding FitsMember
before_fits None members fit all = refl
before_fits (Some member) members fit all = and_from _ _ fit all

members_fit : (lines : List KeptLine) → list_all (λ m. is_name m.0) (members_of lines) ≡ true
members_fit [] = refl
members_fit (line ∷ lines) = before_fits (member_of line) (members_of lines) (read_fits line.reading line.words) (members_fit lines)

without_same : (fault : Option ClustersError) (clusters made : ClusterList) → clusters_without fault clusters ≡ Ok made → clusters ≡ made
without_same None clusters made ok = cc
without_same (Some fault) clusters made ok = absurd (cc)

-- what clusters are made, by whether the increment is out of bounds and there is no member
made_by : Bool → Bool → Option ClustersError → ClusterList → Result ClusterList ClustersError
made_by out none fault clusters = if out then Err IncrementLimit else if none then Err NoClusters else clusters_without fault clusters

made_same : (out none : Bool) (fault : Option ClustersError) (clusters made : ClusterList) → made_by out none fault clusters ≡ Ok made → clusters ≡ made
unfolding made_by
made_same true none fault clusters made ok = absurd (cc)
made_same false true fault clusters made ok = absurd (cc)
made_same false false fault clusters made ok = without_same fault clusters made ok

pub clusters_same : (increment : ℕ) (members : List (List ℕ × ℕ)) (made : ClusterList) → clusters_of increment members ≡ Ok made → members ≡ made.members
unfolding made_by
clusters_same increment members made ok =
    let clusters : ClusterList = record { increment = increment; members = members } in
    ap (λ (c : ClusterList). c.members) (made_same ((increment == 0) || nat_lt (10 ^ 12) increment) (length members == 0) (fault_from increment [] members) clusters made ok)

-- the clusters of the cluster lines have names
pub clusters_named : (increment : ℕ) (lines : List KeptLine) (made : ClusterList) → clusters_of increment (members_of lines) ≡ Ok made → list_all (λ m. is_name m.0) made.members ≡ true
clusters_named increment lines made ok =
    ap (list_all (λ m. is_name m.0)) (sym (clusters_same increment (members_of lines) made ok)) ∙ members_fit lines
