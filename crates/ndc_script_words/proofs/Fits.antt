-- What is read keeps the rules of well-formed lines.
use Rattle.std.proofs.Common.{◌≡◌, ◌≢◌, ℕ, true, false, List, Option, Some, None, Result, Ok, Err, IfOk, refl, sym, ap, ◌∙◌}
use Rattle.std.specs.Str.{bytes_eq}
use Rattle.std.proofs.lemmas.Slice.Eq.{bytes_eq-Decides}
use Rattle.ndc_event.specs.Outcome.{◌>>=◌}
use Rattle.ndc_domain.specs.Clusters.{find_of, name_of}
use Rattle.ndc_domain.specs.declared.clusters.ClusterNo.{ClusterNo}
use Rattle.ndc_domain.proofs.Writers.{name_of_found}
use Rattle.ndc_script_words.specs.declared.operand.TwoClusters.{TwoClusters}
use Rattle.ndc_script_types.specs.declared.script.Header.{Header}
use Rattle.ndc_script_words.specs.Operands.{cluster_or_unknown, known, both_known}
use Rattle.ndc_script_types.specs.WellFormed.{IsCluster, AreTwoClusters}

-- a fact on what a step answers, from one on what it is given
pub after : {A B E : Type 0} (P : B → Type 0) (f : A → Result B E) (r : Result A E) → ((x : A) → r ≡ Ok x → IfOk (f x) P) → IfOk (r >>= f) P
after P f (Ok x) step = step x refl
after P f (Err e) step = tt

-- a known cluster is one of the header, and has the name
named_cluster : (header : Header) (line : ℕ) (word : List ℕ) (found : Option ClusterNo) (cluster : ClusterNo) → find_of header.clusters word ≡ found → cluster_or_unknown line found ≡ Ok cluster → IsCluster header cluster × (name_of header.clusters cluster ≡ word)
named_cluster header line word None cluster is ok = absurd (cc)
named_cluster header line word (Some found) cluster is ok =
    let same : Some found ≡ Some cluster = cc in name_of_found header.clusters word cluster (is ∙ same)

known_cluster : (header : Header) (line : ℕ) (word : List ℕ) (cluster : ClusterNo) → known header line word ≡ Ok cluster → IsCluster header cluster × (name_of header.clusters cluster ≡ word)
unfolding known
known_cluster header line word cluster ok = named_cluster header line word (find_of header.clusters word) cluster refl ok

-- clusters of names that differ do
differ : (header : Header) (one two : List ℕ) (first second : ClusterNo) → bytes_eq one two ≡ false → name_of header.clusters first ≡ one → name_of header.clusters second ≡ two → first.number ≢ second.number
differ header one two first second apart is_first is_second same =
    let names : name_of header.clusters first ≡ name_of header.clusters second = ap (λ (n : ℕ). name_of header.clusters (record { number = n })) same in
    let equal : bytes_eq one two ≡ true = (bytes_eq-Decides one two).1 (sym is_first ∙ names ∙ is_second) in
    cc

pub two_fit : (header : Header) (line : ℕ) (one two : List ℕ) → bytes_eq one two ≡ false → IfOk (both_known header line one two) (λ clusters. AreTwoClusters header clusters.one clusters.two)
unfolding both_known
two_fit header line one two apart =
    after (λ (clusters : TwoClusters). AreTwoClusters header clusters.one clusters.two) _ (known header line one) (λ first ok.
    after (λ (clusters : TwoClusters). AreTwoClusters header clusters.one clusters.two) _ (known header line two) (λ second fine.
    let a = known_cluster header line one first ok in
    let b = known_cluster header line two second fine in
    record { first = a.0; second = b.0; differ = differ header one two first second apart a.1 b.1 }))
