-- Which cluster writes with a version, by remainders.
use Rattle.std.proofs.Common.{◌≡◌, ℕ, ◌%◌, ◌<◌, Bool, true, false, List, [], length, get_or, Option, Some, None, refl, sym, ◌∙◌, ap, eq-eqb, arith}
use Rattle.std.specs.Prelude.{option_map, position, ◌==◌, nat_lt}
use Rattle.std.specs.List.{position_or_len}
use Rattle.std.specs.Str.{bytes_eq}
use Rattle.std.proofs.lemmas.Slice.Eq.{bytes_eq-Decides}
use Rattle.std.proofs.lemmas.List.Quantifiers.{position-Some}
use Rattle.std.proofs.lemmas.List.Sums.{position_or_len_is}
use Rattle.std.proofs.lemmas.Bool.{eqb-true, lt-ltb}
use Rattle.ndc_domain.specs.declared.clusters.ClusterNo.{ClusterNo}
use Rattle.ndc_domain.specs.Clusters.{ClusterList, AreClusters, count_of, cluster_no, name_of, initial_of, find_of, writer_of}

-- the place of a cluster
pub place_of : (found : Option ℕ) (cluster : ClusterNo) → option_map cluster_no found ≡ Some cluster → found ≡ Some cluster.number
place_of (Some place) cluster h = ap (option_map (λ (c : ClusterNo). c.number)) h
place_of None cluster h = absurd (cc)

-- the first place that passes
pub position_is : {X : Type 0} (p : X → Bool) (xs : List X) (i : ℕ) (d : X) →
    i < length xs → ((k : ℕ) → k < i → p (get_or xs k d) ≡ false) → p (get_or xs i d) ≡ true → position p xs ≡ Some i
position_is p xs i d l before here =
    let e : position_or_len p xs ≡ i = position_or_len_is p xs i d (omega arith) before (λ _. here) in
    let t : nat_lt i (length xs) ≡ true = lt-ltb i (length xs) l in
    rw (e, t) refl

-- a test that is not passed
pub not_true : (t : Bool) → (t ≡ true → ⊥) → t ≡ false
not_true true h = absurd (h refl)
not_true false h = refl

-- the writer's initial version is the version modulo the increment
pub rest_of_writer : (clusters : ClusterList) (version : ℕ) (to : ClusterNo) → writer_of clusters version ≡ Some to →
    (to.number < count_of clusters) × (initial_of clusters to ≡ version % clusters.increment)
rest_of_writer clusters version to h =
    let p : List ℕ × ℕ → Bool = λ member. member.1 == version % clusters.increment in
    let found : position p clusters.members ≡ Some to.number = place_of _ to h in
    let at : (to.number < length clusters.members) × (p (get_or clusters.members to.number ([], 0)) ≡ true) × ((k : ℕ) → k < to.number → p (get_or clusters.members k ([], 0)) ≡ false) =
    position-Some p clusters.members to.number ([], 0) found in
    (at.0, eqb-true _ _ at.1)

-- and the cluster with that initial version is the writer
pub writer_of_rest : (clusters : ClusterList) (version : ℕ) (to : ClusterNo) → AreClusters clusters →
    to.number < count_of clusters → initial_of clusters to ≡ version % clusters.increment → writer_of clusters version ≡ Some to
writer_of_rest clusters version to sound l e =
    let p : List ℕ × ℕ → Bool = λ member. member.1 == version % clusters.increment in
    let before : (k : ℕ) → k < to.number → p (get_or clusters.members k ([], 0)) ≡ false =
    λ k h. not_true _ (λ t. sound.initials_differ k to.number h l (eqb-true _ _ t ∙ sym e)) in
    ap (option_map cluster_no) (position_is p clusters.members to.number ([], 0) l before (eq-eqb _ _ e))

-- a cluster that is found by name has that name
pub name_of_found : (clusters : ClusterList) (name : List ℕ) (cluster : ClusterNo) → find_of clusters name ≡ Some cluster →
    (cluster.number < count_of clusters) × (name_of clusters cluster ≡ name)
name_of_found clusters name cluster h =
    let p : List ℕ × ℕ → Bool = λ member. bytes_eq member.0 name in
    let found : position p clusters.members ≡ Some cluster.number = place_of _ cluster h in
    let at : (cluster.number < length clusters.members) × (p (get_or clusters.members cluster.number ([], 0)) ≡ true) × ((k : ℕ) → k < cluster.number → p (get_or clusters.members k ([], 0)) ≡ false) =
    position-Some p clusters.members cluster.number ([], 0) found in
    (at.0, (bytes_eq-Decides _ _).0 at.1)

-- and each cluster is found by its name
pub found_by_name : (clusters : ClusterList) (cluster : ClusterNo) → AreClusters clusters → cluster.number < count_of clusters →
    find_of clusters (name_of clusters cluster) ≡ Some cluster
found_by_name clusters cluster sound l =
    let p : List ℕ × ℕ → Bool = λ member. bytes_eq member.0 (name_of clusters cluster) in
    let before : (k : ℕ) → k < cluster.number → p (get_or clusters.members k ([], 0)) ≡ false =
    λ k h. not_true _ (λ t. sound.names_differ k cluster.number h l ((bytes_eq-Decides _ _).0 t)) in
    ap (option_map cluster_no) (position_is p clusters.members cluster.number ([], 0) l before ((bytes_eq-Decides (name_of clusters cluster) (name_of clusters cluster)).1 refl))
