-- Lists of batches in order, and lists that grew somewhere.
use Rattle.std.proofs.Common.{◌≡◌, ◌≢◌, ◌<◌, ◌+◌, ℕ, zero, suc, Bool, true, false, cond, List, [], ◌∷◌, ◌++◌, length, ◌⊎◌, inl, inr, Option, Some, None, refl, sym, ◌∙◌, subst, ap, arith}
use Rattle.std.specs.List.{filter, flat_map, fold}
use Rattle.std.specs.Option.{option_or}
use Rattle.std.specs.Prelude.{find}
use Rattle.std.proofs.lemmas.Grind.{flat_map-append}
use Rattle.std.proofs.lemmas.List.{append-nil, append_assoc}
use Rattle.std.proofs.lemmas.List.Folds.{find-append}
use Rattle.ndc_script_types.specs.Below.{clusters_below}
use Rattle.ndc_model_cells.specs.declared.place.Place.{Place}
use Rattle.ndc_model_cells.specs.Places.{AreBehind, AreInOrder, batch_there, is_at, place_lt, place_of, placed}
use Rattle.ndc_model_cells.proofs.PlaceLemmas.{place-trans, placed-cases, placed-in-order}
use Rattle.ndc_domain.specs.Clusters.{cluster_no}
use Rattle.ndc_domain.specs.declared.clusters.ClusterNo.{ClusterNo}
use Rattle.ndc_event.specs.declared.batch.Batch.{Batch}
use Rattle.ndc_model_sets.specs.Sets.{arrived, batch_at}
use Rattle.ndc_model_sets.proofs.Lists.{Among, all-among}
use Rattle.ndc_laws_cells.proofs.FoundLemmas.{at-place, is_at-own, none-behind, place-irrefl, placed-there, there-among}
use Rattle.ndc_laws_cells.proofs.CountLemmas.{arrived-cases}
use Rattle.ndc_laws_cells.proofs.NamedLemmas.{either-way}

-- the first of a list in order is found at its place
there-first : (b : Batch) (bs : List Batch) → batch_there (b ∷ bs) (place_of b) ≡ Some b
there-first b bs = ap (λ t. cond t (Some b) (batch_there bs (place_of b))) (is_at-own b)

-- lists in order that have the same at each place are one
pub same-arrivals : (one two : List Batch) → AreInOrder one → AreInOrder two → ((q : Place) → batch_there one q ≡ batch_there two q) → one ≡ two
same-arrivals [] [] order other same = refl
same-arrivals [] (y ∷ ys) order other same = let none : None ≡ Some y = same (place_of y) ∙ there-first y ys in absurd (cc)
same-arrivals (x ∷ xs) [] order other same = let none : Some x ≡ None = sym (there-first x xs) ∙ same (place_of x) in absurd (cc)
same-arrivals (x ∷ xs) (y ∷ ys) order other same =
    by (there-among (y ∷ ys) (place_of x) x (sym (same (place_of x)) ∙ there-first x xs)) (there-among (x ∷ xs) (place_of y) y (same (place_of y) ∙ there-first y ys)) (same-arrivals xs ys order.1 other.1)
  where
    tails : x ≡ y → (q : Place) → batch_there xs q ≡ batch_there ys q
    tails one q = at (is_at q x) refl
      where
        at : (t : Bool) → is_at q x ≡ t → batch_there xs q ≡ batch_there ys q
        at true e =
            let place : q ≡ place_of x = at-place q x e in
            subst (λ (p : Place). batch_there xs p ≡ batch_there ys p) (sym place)
            (none-behind (place_of x) xs order.0 ∙ sym (none-behind (place_of x) ys (subst (λ (b : Batch). AreBehind (place_of b) ys) (sym one) other.0)))
        at false e =
            sym (ap (λ t. cond t (Some x) (batch_there xs q)) e) ∙ same q ∙ ap (λ t. cond t (Some y) (batch_there ys q)) (subst (λ (b : Batch). is_at q b ≡ false) one e)

    joined : x ≡ y → (((q : Place) → batch_there xs q ≡ batch_there ys q) → xs ≡ ys) → x ∷ xs ≡ y ∷ ys
    joined one rest = let more : xs ≡ ys = rest (tails one) in λ i. one i ∷ more i

    by : (x ≡ y) ⊎ Among x ys → (y ≡ x) ⊎ Among y xs → (((q : Place) → batch_there xs q ≡ batch_there ys q) → xs ≡ ys) → x ∷ xs ≡ y ∷ ys
    by (inl one) _ rest = joined one rest
    by (inr h) (inl one) rest = joined (sym one) rest
    by (inr h) (inr k) rest =
        absurd (place-irrefl (place_of x) (place-trans (place_of x) (place_of y) (place_of x)
        (all-among (λ (b : Batch). place_lt (place_of x) (place_of b) ≡ true) xs y order.0 k) (all-among (λ (b : Batch). place_lt (place_of y) (place_of b) ≡ true) ys x other.0 h)))

pub or-assoc : {X : Type 0} (a b c : Option X) → option_or (option_or a b) c ≡ option_or a (option_or b c)
or-assoc None b c = refl
or-assoc (Some x) b c = refl

-- what is found where batches are put into order
pub order-there : (bs front : List Batch) (q : Place) → AreInOrder front → batch_there (fold (λ ordered b. placed b ordered) front bs) q ≡ option_or (batch_there front q) (batch_there bs q)
order-there [] front q order = sym (none (batch_there front q))
  where
    none : (o : Option Batch) → option_or o None ≡ o
    none None = refl
    none (Some x) = refl
order-there (b ∷ bs) front q order =
    order-there bs (placed b front) q (placed-in-order b front order)
    ∙ ap (λ o. option_or o (batch_there bs q)) (placed-there b front q order)
    ∙ or-assoc (batch_there front q) (batch_there (b ∷ []) q) (batch_there bs q)
    ∙ ap (option_or (batch_there front q)) (one (is_at q b))
  where
    one : (t : Bool) → option_or (cond t (Some b) None) (batch_there bs q) ≡ cond t (Some b) (batch_there bs q)
    one true = refl
    one false = refl

pub there-append : (xs ys : List Batch) (q : Place) → batch_there (xs ++ ys) q ≡ option_or (batch_there xs q) (batch_there ys q)
there-append xs ys q = find-append (is_at q) xs ys

-- a list that has more somewhere
pub record IsMore {X : Type 0} (xs extra ys : List X) : Type 0 where
  pub front : List X
  pub back : List X
  pub before : xs ≡ front ++ back
  pub after : ys ≡ front ++ (extra ++ back)

-- what is read of clusters below a count, where one has more
module _ {X : Type 0} (f g : ClusterNo → List X) where
  pub flat-same : (count : ℕ) → ((c : ClusterNo) → c.number < count → f c ≡ g c) → flat_map f (clusters_below count) ≡ flat_map g (clusters_below count)
  flat-same zero same = refl
  flat-same (suc count) same =
      flat_map-append f (clusters_below count) (cluster_no count ∷ [])
      ∙ ap (λ l. l ++ (f (cluster_no count) ++ [])) (flat-same count (λ c less. same c (omega (arith, less))))
      ∙ ap (λ l. flat_map g (clusters_below count) ++ (l ++ [])) (same (cluster_no count) (omega arith))
      ∙ sym (flat_map-append g (clusters_below count) (cluster_no count ∷ []))

  pub flat-more : (count : ℕ) (cluster : ClusterNo) (extra : List X) → cluster.number < count → g cluster ≡ f cluster ++ extra → ((c : ClusterNo) → c.number ≢ cluster.number → f c ≡ g c)
      → IsMore (flat_map f (clusters_below count)) extra (flat_map g (clusters_below count))
  flat-more zero cluster extra less here there = absurd (omega (arith, less))
  flat-more (suc count) cluster extra less here there = by (either-way cluster.number count) (flat-more count cluster extra)
    where
      last : (h : ClusterNo → List X) → flat_map h (clusters_below (suc count)) ≡ flat_map h (clusters_below count) ++ (h (cluster_no count) ++ [])
      last h = flat_map-append h (clusters_below count) (cluster_no count ∷ [])

      by : (cluster.number < count) ⊎ ((cluster.number ≡ count) ⊎ (count < cluster.number))
          → (cluster.number < count → g cluster ≡ f cluster ++ extra → ((c : ClusterNo) → c.number ≢ cluster.number → f c ≡ g c) → IsMore (flat_map f (clusters_below count)) extra (flat_map g (clusters_below count)))
          → IsMore (flat_map f (clusters_below (suc count))) extra (flat_map g (clusters_below (suc count)))
      by (inl l) rest =
          let m = rest l here there in
          let same : f (cluster_no count) ≡ g (cluster_no count) = there (cluster_no count) (λ e. omega (arith, l, e)) in
          record {
            front = m.front;
            back = m.back ++ (f (cluster_no count) ++ []);
            before = last f ∙ ap (λ l. l ++ (f (cluster_no count) ++ [])) m.before ∙ append_assoc m.front m.back (f (cluster_no count) ++ []);
            after = last g ∙ ap (λ l. l ++ (g (cluster_no count) ++ [])) m.after ∙ ap (λ l. (m.front ++ (extra ++ m.back)) ++ (l ++ [])) (sym same)
                ∙ append_assoc m.front (extra ++ m.back) (f (cluster_no count) ++ []) ∙ ap (λ l. m.front ++ l) (append_assoc extra m.back (f (cluster_no count) ++ []));
          }
      by (inr (inl e)) rest =
          let one : cluster ≡ cluster_no count = ap cluster_no e in
          let mine : g (cluster_no count) ≡ f (cluster_no count) ++ extra = subst (λ (c : ClusterNo). g c ≡ f c ++ extra) one here in
          record {
            front = flat_map f (clusters_below count) ++ f (cluster_no count);
            back = [];
            before = last f ∙ ap (λ l. flat_map f (clusters_below count) ++ l) (append-nil (f (cluster_no count))) ∙ sym (append-nil (flat_map f (clusters_below count) ++ f (cluster_no count)));
            after = last g
                ∙ ap (λ l. l ++ (g (cluster_no count) ++ [])) (sym (flat-same count (λ c below. there c (λ n. omega (arith, below, n, e)))))
                ∙ ap (λ l. flat_map f (clusters_below count) ++ (l ++ [])) mine
                ∙ ap (λ l. flat_map f (clusters_below count) ++ l) (append_assoc (f (cluster_no count)) extra [])
                ∙ sym (append_assoc (flat_map f (clusters_below count)) (f (cluster_no count)) (extra ++ []));
          }
      by (inr (inr l)) rest = absurd (omega (arith, l, less))

-- what is put in a set passes no test that it does not pass
pub filter-arrived : (p : Batch → Bool) (new : Batch) (bs : List Batch) → batch_at new.key bs ≡ None → p new ≡ false → filter p (arrived new bs) ≡ filter p bs
filter-arrived p new [] fresh no_pass = ap (λ t. cond t (new ∷ []) []) no_pass
filter-arrived p new (b ∷ bs) fresh no_pass =
    arrived-cases (λ l. filter p l ≡ filter p (b ∷ bs)) new b bs fresh
    (ap (λ t. cond t (new ∷ filter p (b ∷ bs)) (filter p (b ∷ bs))) no_pass)
    (λ rest. ap (λ l. cond (p b) (b ∷ l) l) (filter-arrived p new bs rest no_pass))

-- and makes one more that pass, where it passes
pub filter-one-more : (p : Batch → Bool) (new : Batch) (bs : List Batch) → batch_at new.key bs ≡ None → p new ≡ true → length (filter p (arrived new bs)) ≡ length (filter p bs) + 1
filter-one-more p new [] fresh pass = ap (λ t. length (cond t (new ∷ []) [])) pass
filter-one-more p new (b ∷ bs) fresh pass =
    arrived-cases (λ l. length (filter p l) ≡ length (filter p (b ∷ bs)) + 1) new b bs fresh
    (ap (λ t. length (cond t (new ∷ filter p (b ∷ bs)) (filter p (b ∷ bs)))) pass ∙ omega arith)
    (λ rest. by (p b) (filter-one-more p new bs rest pass))
  where
    by : (t : Bool) → length (filter p (arrived new bs)) ≡ length (filter p bs) + 1 → length (cond t (b ∷ filter p (arrived new bs)) (filter p (arrived new bs))) ≡ length (cond t (b ∷ filter p bs) (filter p bs)) + 1
    by true e = omega (arith, e)
    by false e = e

pub find-placed : (p : Batch → Bool) (new : Batch) (bs : List Batch) → p new ≡ false → find p (placed new bs) ≡ find p bs
find-placed p new [] no_pass = ap (λ t. cond t (Some new) None) no_pass
find-placed p new (b ∷ bs) no_pass =
    placed-cases (λ l. find p l ≡ find p (b ∷ bs)) new b bs
    (λ _. ap (λ t. cond t (Some new) (find p (b ∷ bs))) no_pass)
    (λ _ _. refl)
    (λ _ _. ap (λ o. cond (p b) (Some b) o) (find-placed p new bs no_pass))
