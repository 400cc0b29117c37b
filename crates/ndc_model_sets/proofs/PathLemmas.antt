-- What the walk down a set finds.
use Rattle.std.proofs.Common.{◌≡◌, Bool, true, false, List, [], ◌∷◌, ◌++◌, Option, Some, None, if◌then◌else◌, refl, sym, ◌∙◌, subst, ap}
use Rattle.ndc_event.specs.Key.{key_lt, key_eq}
use Rattle.ndc_event.specs.declared.batch.Batch.{Batch}
use Rattle.ndc_event.specs.declared.key.BatchKey.{BatchKey}
use Rattle.ndc_model_sets.specs.Sets.{earlier_of, earlier, PointsBack, ComeAfter, Rise, IsSet, batch_at, Has}
use Rattle.ndc_model_sets.specs.Learned.{ReachesTop, top, up, IsClosed, IsPart}
use Rattle.ndc_model_sets.specs.Paths.{Walk, is_wanted, walk_over, walk_down, path_from, path_to, IsPath, first, below}
use Rattle.ndc_model_sets.proofs.KeyLemmas.{before-irrefl, same-keys, key_eq-self}
use Rattle.ndc_model_sets.proofs.SetLemmas.{at-cases, found-key, found-all, has-found, after-trans}
use Rattle.ndc_model_sets.proofs.LearnedLemmas.{learned-reaches, closed_whole}

-- a walk that wants this, and has found nothing yet
abbrev pub from : Option BatchKey → Walk
from wanted = record { wanted = wanted; path = [] }

-- the first walk wants what the second wants, and its path goes on with these batches
pub record GoesOn (more : List Batch) (one two : Walk) : Type 0 where
  pub wanted : one.wanted ≡ two.wanted
  pub path : one.path ≡ two.path ++ more

-- a step keeps how walks go on
goes_on-over : (b : Batch) (more : List Batch) (one two : Walk) → GoesOn more one two → GoesOn more (walk_over b one) (walk_over b two)
goes_on-over b more one two g = by (is_wanted two.wanted b) refl
  where
    same : is_wanted one.wanted b ≡ is_wanted two.wanted b
    same = ap (λ w. is_wanted w b) g.wanted

    by : (t : Bool) → is_wanted two.wanted b ≡ t → GoesOn more (walk_over b one) (walk_over b two)
    by true e = let f : is_wanted one.wanted b ≡ true = same ∙ e in
        record { wanted = rw (e, f) refl; path = rw (e, f) (ap (λ p. b ∷ p) g.path) }
    by false e = let f : is_wanted one.wanted b ≡ false = same ∙ e in
        record { wanted = rw (e, f) g.wanted; path = rw (e, f) g.path }

-- nothing is found where nothing is wanted
pub none-wanted : (batches : List Batch) → walk_down batches (from None) ≡ from None
none-wanted [] = refl
none-wanted (b ∷ batches) = ap (walk_over b) (none-wanted batches)

-- a key that comes before another is not it
pub other-key : (low high : BatchKey) → key_lt low high ≡ true → key_eq high low ≡ false
other-key low high l = by (key_eq high low) refl
  where
    by : (t : Bool) → key_eq high low ≡ t → key_eq high low ≡ false
    by true e = absurd (before-irrefl low (subst (λ (k : BatchKey). key_lt low k ≡ true) (same-keys high low e) l))
    by false e = e

-- a key that comes before all is not found
pub none-found : (batches : List Batch) (key : BatchKey) → ComeAfter key batches → walk_down batches (from (Some key)) ≡ from (Some key)
none-found [] key after = refl
none-found (b ∷ batches) key after =
    ap (walk_over b) (none-found batches key after.1)
    ∙ ap (λ t. if t then record { wanted = b.parent; path = b ∷ [] } else from (Some key)) (other-key key b.key after.0)

-- what is wanted after a batch comes before all that come after it
pub none-behind : (b : Batch) (batches : List Batch) (wanted : Option BatchKey) → ((key : BatchKey) → wanted ≡ Some key → key_lt key b.key ≡ true) →
    ComeAfter b.key batches → walk_down (b ∷ batches) (from wanted) ≡ from wanted
none-behind b batches None back after = none-wanted (b ∷ batches)
none-behind b batches (Some key) back after = none-found (b ∷ batches) key (back key refl, after-trans key b.key batches (back key refl) after)

-- a parent's key comes before the batch's own
pub parent-back : (b : Batch) → PointsBack b → (key : BatchKey) → b.parent ≡ Some key → key_lt key b.key ≡ true
parent-back b back key e = back key (ap (λ p. earlier_of p b.carrier) e)

-- the walk from a batch goes on after the walk from its parent
walk-parent : (batches : List Batch) (b : Batch) → Rise batches → PointsBack b → Has batches b →
    GoesOn (b ∷ []) (walk_down batches (from (Some b.key))) (walk_down batches (from b.parent))
walk-parent [] b rise back = λ h. absurd (cc)
walk-parent (c ∷ cs) b rise back =
    at-cases (λ o. o ≡ Some b → GoesOn (b ∷ []) (walk_down (c ∷ cs) (from (Some b.key))) (walk_down (c ∷ cs) (from b.parent))) c cs b.key
    (λ _ h. let same : c ≡ b = cc in subst (λ (x : Batch). GoesOn (x ∷ []) (walk_down (c ∷ cs) (from (Some x.key))) (walk_down (c ∷ cs) (from x.parent))) same (here (subst PointsBack (sym same) back)))
    (λ _ h. goes_on-over c (b ∷ []) (walk_down cs (from (Some b.key))) (walk_down cs (from b.parent)) (walk-parent cs b rise.1 back h))
  where
    here : PointsBack c → GoesOn (c ∷ []) (walk_down (c ∷ cs) (from (Some c.key))) (walk_down (c ∷ cs) (from c.parent))
    here own =
        let start : walk_down (c ∷ cs) (from (Some c.key)) ≡ record { wanted = c.parent; path = c ∷ [] } =
        ap (walk_over c) (none-found cs c.key rise.0)
        ∙ ap (λ t. if t then record { wanted = c.parent; path = c ∷ [] } else from (Some c.key)) (key_eq-self c.key) in
        let rest : walk_down (c ∷ cs) (from c.parent) ≡ from c.parent = none-behind c cs c.parent (parent-back c own) rise.0 in
        record {
          wanted = ap (λ (w : Walk). w.wanted) start ∙ sym (ap (λ (w : Walk). w.wanted) rest);
          path = ap (λ (w : Walk). w.path) start ∙ sym (ap (λ (w : Walk). w.path ++ c ∷ []) rest);
        }

-- the path to a batch is the path that ends at its parent, and then the batch
pub path-parent : (batches : List Batch) (b : Batch) → IsSet batches → Has batches b → path_to b.key batches ≡ path_from b.parent batches ++ b ∷ []
path-parent batches b set has = (walk-parent batches b set.ordered (found-all PointsBack batches b.key b set.back has) has).path

-- the path to a batch with this parent
pub path-below : (batches : List Batch) (b : Batch) (key : BatchKey) → IsSet batches → Has batches b → b.parent ≡ Some key → path_to b.key batches ≡ path_to key batches ++ b ∷ []
path-below batches b key set has e = path-parent batches b set has ∙ ap (λ wanted. path_from wanted batches ++ b ∷ []) e

-- the path to a batch without a parent
pub path-first : (batches : List Batch) (b : Batch) → IsSet batches → Has batches b → b.parent ≡ None → path_to b.key batches ≡ b ∷ []
path-first batches b set has e =
    path-parent batches b set has ∙ ap (λ wanted. path_from wanted batches ++ b ∷ []) e ∙ ap (λ (w : Walk). w.path ++ b ∷ []) (none-wanted batches)

-- a batch that reaches the top has its path
pub reaches-path : (batches : List Batch) (b : Batch) → IsSet batches → ReachesTop batches b → IsPath batches b (path_to b.key batches)
reaches-path batches b set (top _ has e) = by b.parent refl
  where
    by : (o : Option BatchKey) → b.parent ≡ o → IsPath batches b (path_to b.key batches)
    by None p = subst (IsPath batches b) (sym (path-first batches b set has p)) (first b has p)
    by (Some key) p = let some : earlier b ≡ Some key = ap (λ q. earlier_of q b.carrier) p in absurd (cc)
reaches-path batches b set (up _ before key has e at r) = by b.parent refl (reaches-path batches before set r)
  where
    by : (o : Option BatchKey) → b.parent ≡ o → IsPath batches before (path_to before.key batches) → IsPath batches b (path_to b.key batches)
    by None p path = subst (IsPath batches b) (sym (path-first batches b set has p)) (first b has p)
    by (Some parent) p path =
        let some : earlier b ≡ Some parent = ap (λ q. earlier_of q b.carrier) p in
        let one : parent ≡ key = cc in
        let named : b.parent ≡ Some key = cc in
        let own : before.key ≡ key = found-key batches key before at in
        subst (IsPath batches b) (sym (path-below batches b key set has named))
        (below b before key (path_to key batches) has named at (subst (λ (k : BatchKey). IsPath batches before (path_to k batches)) own path))

-- in a closed set each batch reaches the top
pub closed-reaches : (batches : List Batch) (b : Batch) → IsSet batches → IsClosed batches → Has batches b → ReachesTop batches b
closed-reaches batches b set closed has =
    learned-reaches batches b set (subst (λ (l : List Batch). Has l b) (sym (closed_whole batches set closed)) has)

-- in a closed set each batch has its path
pub path_is : (batches : List Batch) (b : Batch) → IsSet batches → IsClosed batches → Has batches b → IsPath batches b (path_to b.key batches)
path_is batches b set closed has = reaches-path batches b set (closed-reaches batches b set closed has)

-- a batch has one path
pub one-path : (batches : List Batch) (b : Batch) (p q : List Batch) → IsPath batches b p → IsPath batches b q → p ≡ q
one-path batches b p q (first _ has e) (first _ _ _) = refl
one-path batches b p q (first _ has e) (below _ before key path _ parent _ _) = absurd (cc)
one-path batches b p q (below _ before key path _ parent _ _) (first _ has e) = absurd (cc)
one-path batches b p q (below _ before key path has e at r) (below _ other key2 path2 has2 f at2 s) =
    let keys : key ≡ key2 = cc in
    let there : batch_at key batches ≡ Some other = subst (λ (k : BatchKey). batch_at k batches ≡ Some other) (sym keys) at2 in
    let one : before ≡ other = cc in
    let same : path ≡ path2 = one-path batches before path path2 r (subst (λ (x : Batch). IsPath batches x path2) (sym one) s) in
    ap (λ l. l ++ b ∷ []) same

-- the batch of a path is one of the batches
pub path-has : (batches : List Batch) (b : Batch) (p : List Batch) → IsPath batches b p → Has batches b
path-has batches b p (first _ has _) = has
path-has batches b p (below _ _ _ _ has _ _ _) = has

-- a path in a part is the path in the whole
pub path-more : (part batches : List Batch) (b : Batch) (p : List Batch) → IsPart part batches → IsPath part b p → IsPath batches b p
path-more part batches b p within (first _ has e) = first b (within b has) e
path-more part batches b p within (below _ before key path has e at r) =
    below b before key path (within b has) e (has-found batches key before (found-key part key before at) (within before (path-has part before path r))) (path-more part batches before path within r)

-- in a closed part the path to a batch is that in the whole
pub part-path : (part batches : List Batch) (b : Batch) → IsSet part → IsClosed part → IsSet batches → IsClosed batches → IsPart part batches → Has part b → path_to b.key part ≡ path_to b.key batches
part-path part batches b set closed whole whole_closed within has =
    one-path batches b (path_to b.key part) (path_to b.key batches)
    (path-more part batches b (path_to b.key part) within (path_is part b set closed has))
    (path_is batches b whole whole_closed (within b has))
