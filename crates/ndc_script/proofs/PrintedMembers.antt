-- The words CLUSTER of a printed line are read again.
use Rattle.std.proofs.Common.{◌≡◌, ℕ, ◌<◌, Bool, true, false, ◌&&◌, ◌||◌, ◌==◌, not, List, [], ◌∷◌, length, map, filter, cond, All, Option, Some, None, Ok, if◌then◌else◌, refl, sym, ap, ◌∙◌, arith}
use Rattle.std.proofs.lemmas.Bool.{eq-eqb, and_parts}
use Rattle.std.specs.List.{list_any, AllByRecursion as ByRecursion}
use Rattle.std.specs.Str.{bytes_eq}
use Rattle.std.proofs.lemmas.List.Elements.{recursion_from_All}
use Rattle.ndc_domain.specs.Clusters.{AreClusters, count_of, cluster_no, name_of, find_of}
use Rattle.ndc_domain.specs.Members.{AreMembers, has_member, members_of, numbers, numbers_where}
use Rattle.ndc_domain.specs.declared.clusters.ClusterNo.{ClusterNo}
use Rattle.ndc_domain.proofs.Writers.{not_true, found_by_name}
use Rattle.ndc_script_types.specs.Below.{clusters_below}
use Rattle.ndc_script_types.specs.declared.script.Header.{Header}
use Rattle.ndc_script_words.specs.Operands.{known, cluster_or_unknown}
use Rattle.ndc_script_read.specs.Register.{all_differ, clusters_named, clusters_for, members_named}
use Rattle.ndc_script_types.specs.Print.{member_name, member_words}
use Rattle.std.proofs.lemmas.Slice.Eq.{bytes_eq-Decides}

-- a cluster's name is that of the cluster again
pub known-name : (header : Header) (line : ℕ) (cluster : ClusterNo) → AreClusters header.clusters → cluster.number < count_of header.clusters → known header line (name_of header.clusters cluster) ≡ Ok cluster
unfolding known
known-name header line cluster sound below = ap (cluster_or_unknown line) (found_by_name header.clusters cluster sound below)

-- no number stands twice
distinct : List ℕ → Bool
distinct [] = true
distinct (n ∷ ns) = not (list_any (λ m. m == n) ns) && distinct ns

pub not_false : (b : Bool) → not b ≡ true → b ≡ false
not_false true h = absurd (cc)
not_false false h = refl

none_kept : (b : Bool) (q : ℕ → Bool) (n : ℕ) (rest kept : List ℕ) → q n ≡ false → list_any q kept ≡ false → list_any q (cond b (n ∷ kept) kept) ≡ false
none_kept true q n rest kept h none = rw h none
none_kept false q n rest kept h none = none

-- what no number passes, no kept number passes
none_filtered : (q p : ℕ → Bool) (ns : List ℕ) → list_any q ns ≡ false → list_any q (filter p ns) ≡ false
none_filtered q p [] h = refl
none_filtered q p (n ∷ ns) h =
    let here : q n ≡ false = not_true (q n) (λ e. absurd (cc (ap (λ (b : Bool). b || list_any q ns) e, h))) in
    let later : list_any q ns ≡ false = sym (ap (λ (b : Bool). b || list_any q ns) here) ∙ h in
    none_kept (p n) q n ns (filter p ns) here (none_filtered q p ns later)

distinct_kept : (b : Bool) (n : ℕ) (kept : List ℕ) → list_any (λ m. m == n) kept ≡ false → distinct kept ≡ true → distinct (cond b (n ∷ kept) kept) ≡ true
unfolding distinct
distinct_kept true n kept none h = rw (none, h) refl
distinct_kept false n kept none h = h

distinct_filtered : (p : ℕ → Bool) (ns : List ℕ) → distinct ns ≡ true → distinct (filter p ns) ≡ true
unfolding distinct
distinct_filtered p [] h = refl
distinct_filtered p (n ∷ ns) h =
    let parts : (not (list_any (λ m. m == n) ns) ≡ true) × (distinct ns ≡ true) = and_parts (not (list_any (λ m. m == n) ns)) (distinct ns) h in
    distinct_kept (p n) n (filter p ns) (none_filtered (λ m. m == n) p ns (not_false (list_any (λ m. m == n) ns) parts.0)) (distinct_filtered p ns parts.1)

distinct_where : (p : ℕ → Bool) → distinct (numbers_where p) ≡ true
unfolding numbers_where numbers distinct
distinct_where p = distinct_filtered p numbers refl

number_or_zero : Option ClusterNo → ℕ
number_or_zero None = 0
number_or_zero (Some cluster) = cluster.number

number_is : (m n : ℕ) → Some (cluster_no m) ≡ Some (cluster_no n) → m ≡ n
unfolding number_or_zero
number_is m n e = ap number_or_zero e

pub names_differ : (header : Header) → AreClusters header.clusters → (m n : ℕ) → m < count_of header.clusters → n < count_of header.clusters → (m == n) ≡ false → bytes_eq (member_name header m) (member_name header n) ≡ false
names_differ header sound m n below_m below_n other =
    not_true (bytes_eq (member_name header m) (member_name header n)) (λ e.
    let same_name : member_name header m ≡ member_name header n = (bytes_eq-Decides (member_name header m) (member_name header n)).0 e in
    let found : Some (cluster_no m) ≡ Some (cluster_no n) =
    sym (found_by_name header.clusters (cluster_no m) sound below_m) ∙ ap (find_of header.clusters) same_name ∙ found_by_name header.clusters (cluster_no n) sound below_n in
    let same : m ≡ n = number_is m n found in
    absurd (cc (eq-eqb m n same, other)))

none_named : (header : Header) → AreClusters header.clusters → (n : ℕ) (ms : List ℕ) → n < count_of header.clusters → ByRecursion (λ m. m < count_of header.clusters) ms → list_any (λ m. m == n) ms ≡ false → list_any (λ other. bytes_eq other (member_name header n)) (map (member_name header) ms) ≡ false
none_named header sound n [] below all none = refl
none_named header sound n (m ∷ ms) below all none =
    let here : (m == n) ≡ false = not_true (m == n) (λ e. absurd (cc (ap (λ (b : Bool). b || list_any (λ k. k == n) ms) e, none))) in
    let later : list_any (λ k. k == n) ms ≡ false = sym (ap (λ (b : Bool). b || list_any (λ k. k == n) ms) here) ∙ none in
    ap (λ (b : Bool). b || list_any (λ other. bytes_eq other (member_name header n)) (map (member_name header) ms)) (names_differ header sound m n all.0 below here)
    ∙ none_named header sound n ms below all.1 later

-- the names of members that differ do
all_differ-names : (header : Header) → AreClusters header.clusters → (ms : List ℕ) → ByRecursion (λ m. m < count_of header.clusters) ms → distinct ms ≡ true → all_differ (map (member_name header) ms) ≡ true
unfolding distinct
all_differ-names header sound [] all h = refl
all_differ-names header sound (m ∷ ms) all h =
    let parts : (not (list_any (λ k. k == m) ms) ≡ true) × (distinct ms ≡ true) = and_parts (not (list_any (λ k. k == m) ms)) (distinct ms) h in
    let none : list_any (λ other. bytes_eq other (member_name header m)) (map (member_name header) ms) ≡ false =
    none_named header sound m ms all.0 all.1 (not_false (list_any (λ k. k == m) ms) parts.0) in
    rw none (all_differ-names header sound ms all.1 parts.1)

-- the clusters of the names of members
clusters_named-names : (header : Header) (line : ℕ) → AreClusters header.clusters → (ms : List ℕ) → ByRecursion (λ m. m < count_of header.clusters) ms → clusters_named header line (map (member_name header) ms) ≡ Ok (map cluster_no ms)
unfolding clusters_named
clusters_named-names header line sound [] all = refl
clusters_named-names header line sound (m ∷ ms) all =
    rw (known-name header line (cluster_no m) sound all.0, clusters_named-names header line sound ms all.1) refl

any-clusters : (ms : List ℕ) (n : ℕ) → list_any (λ cluster. cluster.number == n) (map cluster_no ms) ≡ has_member ms n
any-clusters [] n = refl
any-clusters (m ∷ ms) n = ap (λ (b : Bool). (m == n) || b) (any-clusters ms n)

-- members are those that their clusters are
members_of-clusters : (ms : List ℕ) → AreMembers ms → members_of (map cluster_no ms) ≡ ms
members_of-clusters ms are = ap numbers_where (λ i n. any-clusters ms n i) ∙ sym are

-- what the words CLUSTER of a line are, by whether all clusters are members
words_by : Header → List ℕ → Bool → List (List ℕ)
words_by header ms b = if b then [] else map (member_name header) ms

words_differ : (header : Header) (ms : List ℕ) (b : Bool) → AreClusters header.clusters → ByRecursion (λ m. m < count_of header.clusters) ms → distinct ms ≡ true → all_differ (words_by header ms b) ≡ true
unfolding words_by
words_differ header ms true sound all h = refl
words_differ header ms false sound all h = all_differ-names header sound ms all h

words_again : (header : Header) (line : ℕ) (ms : List ℕ) (b : Bool) → AreClusters header.clusters → AreMembers ms → 0 < length ms → ByRecursion (λ m. m < count_of header.clusters) ms → (b ≡ true → ms ≡ members_of (clusters_below (count_of header.clusters))) → members_named header line (words_by header ms b) ≡ Ok ms
unfolding words_by members_named clusters_for
words_again header line ms true sound are some all every = ap Ok (sym (every refl))
words_again header line [] false sound are some all every = absurd (omega (arith, some))
words_again header line (m ∷ ms) false sound are some all every =
    rw (clusters_named-names header line sound (m ∷ ms) all) (ap Ok (members_of-clusters (m ∷ ms) are))

-- the words CLUSTER that are printed differ, and name the members
pub member_words-again : (header : Header) (line : ℕ) (ms : List ℕ) → AreClusters header.clusters → AreMembers ms → 0 < length ms → All (λ m. m < count_of header.clusters) ms → (all_differ (member_words header ms) ≡ true) × (members_named header line (member_words header ms) ≡ Ok ms)
unfolding words_by
member_words-again header line ms sound are some all =
    let below : ByRecursion (λ m. m < count_of header.clusters) ms = recursion_from_All (λ (m : ℕ). m < count_of header.clusters) ms all in
    let every : List ℕ = members_of (clusters_below (count_of header.clusters)) in
    let single : distinct ms ≡ true = ap distinct are ∙ distinct_where (has_member ms) in (
      words_differ header ms (bytes_eq ms every) sound below single,
      words_again header line ms (bytes_eq ms every) sound are some below (λ e. (bytes_eq-Decides ms every).0 e),
    )
