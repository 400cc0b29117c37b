-- Printed words after the first of a line are read again.
use Rattle.std.proofs.Common.{◌≡◌, ℕ, ◌-◌, ◌<◌, ◌≤◌, List, Ok, decimal, refl, ap, arith}
use Rattle.ndc_domain.specs.Clusters.{AreClusters, name_of}
use Rattle.ndc_domain.specs.declared.clusters.ClusterNo.{ClusterNo}
use Rattle.ndc_script_types.specs.declared.script.Header.{Header}
use Rattle.ndc_script_words.specs.Operands.{named, name_or_bad, numbered, number_or_bad, shard_of, place_of, both_known, two_clusters, workflow_at}
use Rattle.ndc_script_types.specs.WellFormed.{IsWellFormedHeader, IsName, IsCluster, IsPlace, AreTwoClusters, IsWorkflowAt}
use Rattle.ndc_script.proofs.PrintedHeader.{name_of-name, within-decimal}
use Rattle.ndc_script.proofs.PrintedMembers.{known-name, names_differ}
use Rattle.ndc_script.proofs.PrintedWords.{differs}

pub named-name : (line : ℕ) (word : List ℕ) → IsName word → named line word ≡ Ok word
named-name line word h = ap (name_or_bad line) (name_of-name word h)

pub numbered-decimal : (line low high n : ℕ) → low ≤ n → n ≤ high → high ≤ 1000000 → numbered line low high (decimal n) ≡ Ok n
unfolding numbered
numbered-decimal line low high n l h few = ap (number_or_bad line) (within-decimal low high n (omega (arith, h, few)) l h)

pub shard-decimal : (header : Header) (line shard : ℕ) → IsWellFormedHeader header → shard < header.shards → shard_of header line (decimal shard) ≡ Ok shard
shard-decimal header line shard sound below =
    numbered-decimal line 0 (header.shards - 1) shard (omega arith) (omega (arith, below)) (omega (arith, sound.shards_most))

pub place-decimal : (line place : ℕ) → IsPlace place → place_of line (decimal place) ≡ Ok place
place-decimal line place fits = numbered-decimal line 0 1000000 place (omega arith) fits (omega arith)

pub both-names : (header : Header) (line : ℕ) (one two : ClusterNo) → AreClusters header.clusters → IsCluster header one → IsCluster header two → both_known header line (name_of header.clusters one) (name_of header.clusters two) ≡ Ok (record { one = one; two = two })
unfolding both_known
both-names header line one two sound first second = rw (known-name header line one sound first, known-name header line two sound second) refl

pub two-names : (header : Header) (line : ℕ) (one two : ClusterNo) → AreClusters header.clusters → AreTwoClusters header one two → two_clusters header line (name_of header.clusters one) (name_of header.clusters two) ≡ Ok (record { one = one; two = two })
unfolding two_clusters
two-names header line one two sound fit =
    rw (names_differ header sound one.number two.number fit.first fit.second (differs one.number two.number fit.differ))
    (both-names header line one two sound fit.first fit.second)

pub workflow-names : (header : Header) (line : ℕ) (cluster : ClusterNo) (domain workflow : List ℕ) → AreClusters header.clusters → IsWorkflowAt header cluster domain workflow → workflow_at header line (name_of header.clusters cluster) domain workflow ≡ Ok (record { cluster = cluster; domain = domain; workflow = workflow })
unfolding workflow_at
workflow-names header line cluster domain workflow sound fit =
    rw (named-name line domain fit.domain_name, named-name line workflow fit.workflow_name, known-name header line cluster sound fit.known) refl
