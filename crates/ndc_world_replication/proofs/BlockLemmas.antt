-- What each cluster of a header has of each other, reader by reader: where those of one reader stand.
use Rattle.std.proofs.Common.{◌≡◌, ◌≤◌, ◌<◌, ◌+◌, ◌==◌, ◌++◌, ℕ, zero, suc, Bool, true, false, not, List, [], ◌∷◌, map, take, drop, length, cond, refl, ap, sym, subst, ◌∙◌, append_assoc, arith, length-append, ne_eqb}
use Rattle.std.proofs.Math.Seq.{take-append_seam, drop-append_seam}
use Rattle.std.proofs.lemmas.Bool.{eqb-false, eqb-true}
use Rattle.std.proofs.lemmas.Grind.{flat_map-append}
use Rattle.std.proofs.lemmas.List.{append-nil, length-map}
use Rattle.std.specs.List.{AllByRecursion, filter, flat_map}
use Rattle.ndc_domain.specs.Clusters.{cluster_no}
use Rattle.ndc_domain.specs.declared.clusters.ClusterNo.{ClusterNo}
use Rattle.ndc_model_cells.specs.Writing.{same_cluster}
use Rattle.ndc_script_types.specs.Below.{clusters_below}
use Rattle.ndc_world_replication.specs.Own.{blocks}

-- an item that passes, or does not, after a list
kept-last : (p : ClusterNo → Bool) (xs : List ClusterNo) (x : ClusterNo) → p x ≡ true → length (filter p (xs ++ x ∷ [])) ≡ suc (length (filter p xs))
kept-last p [] x e = rw e refl
kept-last p (y ∷ ys) x e = by (p y) (kept-last p ys x e)
  where
    by : (b : Bool) → length (filter p (ys ++ x ∷ [])) ≡ suc (length (filter p ys)) → length (cond b (y ∷ filter p (ys ++ x ∷ [])) (filter p (ys ++ x ∷ []))) ≡ suc (length (cond b (y ∷ filter p ys) (filter p ys)))
    by true rest = ap suc rest
    by false rest = rest

left-last : (p : ClusterNo → Bool) (xs : List ClusterNo) (x : ClusterNo) → p x ≡ false → length (filter p (xs ++ x ∷ [])) ≡ length (filter p xs)
left-last p [] x e = rw e refl
left-last p (y ∷ ys) x e = by (p y) (left-last p ys x e)
  where
    by : (b : Bool) → length (filter p (ys ++ x ∷ [])) ≡ length (filter p ys) → length (cond b (y ∷ filter p (ys ++ x ∷ [])) (filter p (ys ++ x ∷ []))) ≡ length (cond b (y ∷ filter p ys) (filter p ys))
    by true rest = ap suc rest
    by false rest = rest

-- of the first clusters all differ from one after them, and all but one from one of them
all-others : (c : ClusterNo) (count : ℕ) → count ≤ c.number → length (filter (λ other. not (same_cluster c other)) (clusters_below count)) ≡ count
all-others c zero most = refl
all-others c (suc count) most =
    kept-last (λ other. not (same_cluster c other)) (clusters_below count) (cluster_no count) (ap not (ne_eqb c.number count (λ same. absurd (omega (arith, same, most)))))
    ∙ ap suc (all-others c count (omega (arith, most)))

others-but : (c : ClusterNo) (count : ℕ) → c.number < count → length (filter (λ other. not (same_cluster c other)) (clusters_below count)) + 1 ≡ count
others-but c zero below = absurd (omega (arith, below))
others-but c (suc count) below = by (c.number == count) refl (others-but c count)
  where
    by : (b : Bool) → (c.number == count) ≡ b → (c.number < count → length (filter (λ other. not (same_cluster c other)) (clusters_below count)) + 1 ≡ count)
        → length (filter (λ other. not (same_cluster c other)) (clusters_below (suc count))) + 1 ≡ suc count
    by true same rest =
        let own = left-last (λ other. not (same_cluster c other)) (clusters_below count) (cluster_no count) (ap not same) in
        omega (arith, own, all-others c count (omega (arith, eqb-true c.number count same)))
    by false differs rest =
        let kept = kept-last (λ other. not (same_cluster c other)) (clusters_below count) (cluster_no count) (ap not differs) in
        omega (arith, kept, rest (omega (arith, below, eqb-false c.number count differs)))

-- what holds of two lists holds of both
all-both : {X : Type 0} (P : X → Type 0) (xs ys : List X) → AllByRecursion P xs → AllByRecursion P ys → AllByRecursion P (xs ++ ys)
all-both P [] ys one two = two
all-both P (x ∷ xs) ys one two = (one.0, all-both P xs ys one.1 two)

module _ {L : Type 0} (reader_of : L → ClusterNo) (mk : ClusterNo → ClusterNo → L) (made : (a b : ClusterNo) → reader_of (mk a b) ≡ a) (n : ℕ) where
  -- what a reader has of each other
  abbrev pub block : ClusterNo → List L
  block c = map (mk c) (filter (λ other. not (same_cluster c other)) (clusters_below n))

  -- what the first readers have
  abbrev pub flat : ℕ → List L
  flat count = flat_map block (clusters_below count)

  -- none of them is a reader's
  abbrev pub Others : ClusterNo → List L → Type 0
  Others reader ls = AllByRecursion (λ l. same_cluster (reader_of l) reader ≡ false) ls

  flat-more : (count : ℕ) → flat (suc count) ≡ flat count ++ block (cluster_no count)
  flat-more count = flat_map-append block (clusters_below count) (cluster_no count ∷ []) ∙ ap (λ l. flat count ++ l) (append-nil (block (cluster_no count)))

  block-len : (m : ℕ) → m + 1 ≡ n → (c : ClusterNo) → c.number < n → length (block c) ≡ m
  block-len m one c below =
      length-map (filter (λ other. not (same_cluster c other)) (clusters_below n)) (mk c) ∙ omega (arith, one, others-but c n below)

  flat-len : (m : ℕ) → m + 1 ≡ n → (count : ℕ) → count ≤ n → length (flat count) ≡ blocks count m
  flat-len m one zero most = refl
  flat-len m one (suc count) most =
      ap length (flat-more count) ∙ length-append (flat count) (block (cluster_no count))
      ∙ ap (λ k. k + length (block (cluster_no count))) (flat-len m one count (omega (arith, most)))
      ∙ ap (λ k. blocks count m + k) (block-len m one (cluster_no count) (omega (arith, most)))

  block-other : (reader c : ClusterNo) → same_cluster c reader ≡ false → Others reader (block c)
  block-other reader c other = each (filter (λ one. not (same_cluster c one)) (clusters_below n))
    where
      each : (os : List ClusterNo) → Others reader (map (mk c) os)
      each [] = tt
      each (o ∷ os) = (ap (λ (a : ClusterNo). same_cluster a reader) (made c o) ∙ other, each os)

  flat-below : (reader : ClusterNo) (count : ℕ) → count ≤ reader.number → Others reader (flat count)
  flat-below reader zero most = tt
  flat-below reader (suc count) most =
      subst (Others reader) (sym (flat-more count))
      (all-both (λ l. same_cluster (reader_of l) reader ≡ false) (flat count) (block (cluster_no count)) (flat-below reader count (omega (arith, most)))
      (block-other reader (cluster_no count) (ne_eqb count reader.number (λ same. absurd (omega (arith, same, most))))))

  -- what the readers after one have
  flat-behind : (reader : ClusterNo) (count : ℕ) → reader.number < count → (more : List L) × (flat count ≡ flat (suc reader.number) ++ more) × Others reader more
  flat-behind reader zero below = absurd (omega (arith, below))
  flat-behind reader (suc count) below = by (reader.number == count) refl (flat-behind reader count)
    where
      by : (b : Bool) → (reader.number == count) ≡ b → (reader.number < count → (more : List L) × (flat count ≡ flat (suc reader.number) ++ more) × Others reader more) → (more : List L) × (flat (suc count) ≡ flat (suc reader.number) ++ more) × Others reader more
      by true same behind = ([], ap (λ k. flat (suc k)) (sym (eqb-true reader.number count same)) ∙ sym (append-nil (flat (suc reader.number))), tt)
      by false differs behind =
          let less : reader.number < count = omega (arith, below, eqb-false reader.number count differs) in
          let rest = behind less in (
            rest.0 ++ block (cluster_no count),
            flat-more count ∙ ap (λ l. l ++ block (cluster_no count)) rest.1 ∙ append_assoc (flat (suc reader.number)) rest.0 (block (cluster_no count)),
            all-both (λ l. same_cluster (reader_of l) reader ≡ false) rest.0 (block (cluster_no count)) rest.2
                (block-other reader (cluster_no count) (ne_eqb count reader.number (λ same. absurd (omega (arith, same, less))))),
          )

  module _ (reader : ClusterNo) (known : reader.number < n) (m : ℕ) (one : m + 1 ≡ n) where
    -- before those of a reader there is none of its
    pub own_front : Others reader (take (blocks reader.number m) (flat n))
    own_front =
        let cut = flat-behind reader n known in
        let apart : flat n ≡ flat reader.number ++ (block (cluster_no reader.number) ++ cut.0) =
        cut.1 ∙ ap (λ l. l ++ cut.0) (flat-more reader.number) ∙ append_assoc (flat reader.number) (block (cluster_no reader.number)) cut.0 in
        subst (λ l. Others reader l)
        (sym (ap (take (blocks reader.number m)) apart ∙ ap (λ k. take k (flat reader.number ++ (block (cluster_no reader.number) ++ cut.0))) (sym (flat-len m one reader.number (omega (arith, known))))
        ∙ take-append_seam (flat reader.number) (block (cluster_no reader.number) ++ cut.0)))
        (flat-below reader reader.number (omega arith))

    -- nor after them
    pub own_back : Others reader (drop (blocks reader.number m + m) (flat n))
    own_back =
        let cut = flat-behind reader n known in
        subst (λ l. Others reader l)
        (sym (ap (drop (blocks reader.number m + m)) cut.1 ∙ ap (λ k. drop k (flat (suc reader.number) ++ cut.0)) (sym (flat-len m one (suc reader.number) known))
        ∙ drop-append_seam (flat (suc reader.number)) cut.0))
        cut.2

    pub own_within : blocks reader.number m + m ≤ length (flat n)
    own_within =
        let cut = flat-behind reader n known in
        omega (arith, ap length cut.1, length-append (flat (suc reader.number)) cut.0, flat-len m one (suc reader.number) known)
