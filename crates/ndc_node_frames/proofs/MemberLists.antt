-- Members as lists of numbers.
use Rattle.std.proofs.Common.{◌≡◌, ℕ, zero, suc, ◌+◌, ◌<◌, ◌≤◌, ◌==◌, Bool, true, false, ◌||◌, List, [], ◌∷◌, ◌++◌, map, drop, All, Ok, refl, sym, ap, ◌∙◌, arith, append-nil, append_assoc, leb-true, subst}
use Rattle.std.specs.Prelude.{nat_le, cond, filter}
use Rattle.std.specs.List.{AllByRecursion, list_any}
use Rattle.std.proofs.lemmas.Bool.{and_parts}
use Rattle.std.proofs.lemmas.List.{map-append}
use Rattle.std.proofs.lemmas.Slice.Eq.{bytes_eq-Decides}
use Rattle.std.proofs.lemmas.List.Elements.{All-nil, All-cons}
use Rattle.ndc_domain.specs.Members.{numbers, numbers_where, has_member, members_of, AreMembers}
use Rattle.ndc_domain.specs.declared.clusters.ClusterNo.{ClusterNo}
use Rattle.ndc_node_frames.specs.Parts.{member_shape, members_shape, member_value, cluster_of, number_of, are_members}
use Rattle.ndc_node_frames.specs.declared.record.Member.{Member}
use Rattle.ndc_node_shapes.specs.Fits.{Fits}
use Rattle.ndc_node_shapes.specs.Read.{read_of}
use Rattle.ndc_node_shapes.specs.Shapes.{list}
use Rattle.ndc_node_shapes.proofs.Both.{only}

-- ---- from members to a list

next_number : (n : ℕ) → n < 8 → drop n numbers ≡ n ∷ drop (n + 1) numbers
unfolding numbers
next_number zero h = refl
next_number (suc zero) h = refl
next_number (suc (suc zero)) h = refl
next_number (suc (suc (suc zero))) h = refl
next_number (suc (suc (suc (suc zero)))) h = refl
next_number (suc (suc (suc (suc (suc zero))))) h = refl
next_number (suc (suc (suc (suc (suc (suc zero)))))) h = refl
next_number (suc (suc (suc (suc (suc (suc (suc zero))))))) h = refl
next_number (suc (suc (suc (suc (suc (suc (suc (suc n)))))))) h = absurd (omega (arith, h))

-- a number that is not a member
pub passed : (members : List ℕ) (n : ℕ) → n < 8 → has_member members n ≡ false → filter (has_member members) (drop n numbers) ≡ filter (has_member members) (drop (n + 1) numbers)
passed members n h e = ap (filter (has_member members)) (next_number n h) ∙ rw e refl

-- a number that is one
pub taken : (members all : List ℕ) (items now : List Member) (one : Member) → one.number < 8 → has_member members one.number ≡ true → now ≡ items ++ one ∷ []
    → map member_value items ++ filter (has_member members) (drop one.number numbers) ≡ all
    → map member_value now ++ filter (has_member members) (drop (one.number + 1) numbers) ≡ all
taken members all items now one h e is so_far =
    let rest = filter (has_member members) (drop (one.number + 1) numbers) in
    let step : filter (has_member members) (drop one.number numbers) ≡ one.number ∷ rest = ap (filter (has_member members)) (next_number one.number h) ∙ rw e refl in
    ap (λ (ms : List Member). map member_value ms ++ rest) is ∙ ap (λ (ns : List ℕ). ns ++ rest) (map-append member_value items (one ∷ []))
    ∙ append_assoc (map member_value items) (one.number ∷ []) rest ∙ ap (λ (ns : List ℕ). map member_value items ++ ns) (sym step) ∙ so_far

pub first : (members : List ℕ) → [] ++ filter (has_member members) (drop 0 numbers) ≡ numbers_where (has_member members)
unfolding numbers_where numbers
first members = refl

pub last : (members ns : List ℕ) (n : ℕ) → n ≡ 8 → AreMembers members → ns ++ filter (has_member members) (drop n numbers) ≡ numbers_where (has_member members) → ns ≡ members
unfolding numbers
last members ns n eight are h = sym (append-nil ns) ∙ ap (λ k. ns ++ filter (has_member members) (drop k numbers)) (sym eight) ∙ h ∙ sym are

-- ---- from a list to members

below : (items : List Member) → AllByRecursion (Fits member_shape) (map member_value items) → All (λ (c : ClusterNo). c.number < 8) (map cluster_of items)
below [] h = All-nil (λ (c : ClusterNo). c.number < 8)
below (m ∷ items) h =
    let most : m.number ≤ 7 = leb-true m.number 7 (and_parts (nat_le 0 m.number) (nat_le m.number 7) h.0).1 in
    All-cons (λ (c : ClusterNo). c.number < 8) (cluster_of m) (map cluster_of items) (omega (arith, most)) (below items h.1)

pub all_below : (left rest : List ℕ) (items : List Member) → read_of (list member_shape) left ≡ Ok (map member_value items, rest) → All (λ (c : ClusterNo). c.number < 8) (map cluster_of items)
all_below left rest items h = below items (only (list member_shape) left (map member_value items) rest refl h).0

any_same : (items : List Member) (n : ℕ) → list_any (λ (c : ClusterNo). c.number == n) (map cluster_of items) ≡ has_member (map member_value items) n
any_same [] n = refl
any_same (m ∷ items) n = ap (λ b. (m.number == n) || b) (any_same items n)

same_filter : (p q : ℕ → Bool) (ns : List ℕ) → ((n : ℕ) → p n ≡ q n) → filter p ns ≡ filter q ns
same_filter p q [] h = refl
same_filter p q (n ∷ ns) h = ap (λ b. cond b (n ∷ filter p ns) (filter p ns)) (h n) ∙ ap (λ (xs : List ℕ). cond (q n) (n ∷ xs) xs) (same_filter p q ns h)

pub members_are : (items : List Member) → members_of (map cluster_of items) ≡ numbers_where (has_member (map member_value items))
unfolding numbers_where
members_are items = same_filter _ _ numbers (any_same items)

-- ---- clusters that were taken

numbers_same : (items : List Member) → map number_of (map cluster_of items) ≡ map member_value items
numbers_same [] = refl
numbers_same (m ∷ items) = ap (λ (ns : List ℕ). m.number ∷ ns) (numbers_same items)

module _ (left rest : List ℕ) (items : List Member) (clusters : List ClusterNo) (is : clusters ≡ map cluster_of items) where
  pub clusters_below : read_of (list member_shape) left ≡ Ok (map member_value items, rest) → All (λ (c : ClusterNo). c.number < 8) clusters
  clusters_below h = subst (λ (cs : List ClusterNo). All (λ (c : ClusterNo). c.number < 8) cs) (sym is) (all_below left rest items h)

  pub given : read_of (list member_shape) left ≡ Ok (map member_value items, rest) → are_members (map member_value items) ≡ true → read_of members_shape left ≡ Ok (map number_of clusters, rest)
  given h are = rw (h, are) (ap (λ (ns : List ℕ). Ok (ns, rest)) (sym (ap (map number_of) is ∙ numbers_same items)))

  pub same : are_members (map member_value items) ≡ true → members_of clusters ≡ map number_of clusters
  same are =
      let ns = map member_value items in
      ap members_of is ∙ members_are items ∙ (bytes_eq-Decides (numbers_where (has_member ns)) ns).0 are ∙ sym (ap (map number_of) is ∙ numbers_same items)
