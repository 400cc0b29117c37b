-- Two paths of one run: they begin alike, and then share no version.
use Rattle.std.proofs.Common.{◌≡◌, ℕ, Bool, true, false, ◌==◌, List, [], ◌∷◌, ◌++◌, ◌⊎◌, inl, inr, Option, Some, None, refl, sym, ◌∙◌, subst, ap, true≢false}
use Rattle.std.specs.Prelude.{if◌then◌else◌}
use Rattle.std.specs.List.{AllByRecursion}
use Rattle.std.proofs.lemmas.Bool.{and_parts, eqb-true}
use Rattle.std.proofs.lemmas.List.{append_assoc, append-nil}
use Rattle.ndc_event.specs.declared.batch.Batch.{Batch}
use Rattle.ndc_event.specs.declared.batch.Event.{Event}
use Rattle.ndc_event.specs.declared.key.BatchKey.{BatchKey}
use Rattle.ndc_event.specs.Batch.{are_of_version}
use Rattle.ndc_event.specs.Key.{key_lt, key_eq}
use Rattle.ndc_state.specs.Replay.{history_of}
use Rattle.ndc_model_sets.specs.Sets.{IsSet, PointsBack, Rise, Has}
use Rattle.ndc_model_sets.specs.Paths.{IsPath, first, below, GoApart, last_id_of, later_id}
use Rattle.ndc_model_sets.specs.Sound.{ParentsFit, AreFaultless}
use Rattle.ndc_model_sets.proofs.KeyLemmas.{before-irrefl, before-trans, same-keys, key_eq-self}
use Rattle.ndc_model_sets.proofs.SetLemmas.{found-key, found-all}
use Rattle.ndc_model_sets.proofs.Lists.{Among, all-among}
use Rattle.ndc_model_sets.proofs.PathLemmas.{parent-back}
use Rattle.ndc_model_sets.proofs.BranchLemmas.{same-batch}
use Rattle.ndc_model_sets.proofs.FaultLemmas.{passes}
use Rattle.ndc_model_sets.proofs.CommonLemmas.{either_id, last-id-append}

pub among-left : {X : Type 0} (x : X) (xs ys : List X) → Among x xs → Among x (xs ++ ys)
among-left x [] ys h = absurd h
among-left x (z ∷ zs) ys (inl e) = inl e
among-left x (z ∷ zs) ys (inr h) = inr (among-left x zs ys h)

pub among-right : {X : Type 0} (x : X) (xs ys : List X) → Among x ys → Among x (xs ++ ys)
among-right x [] ys h = h
among-right x (z ∷ zs) ys h = inr (among-right x zs ys h)

pub among-cases : {X : Type 0} (x : X) (xs ys : List X) → Among x (xs ++ ys) → Among x xs ⊎ Among x ys
among-cases x [] ys h = inr h
among-cases x (z ∷ zs) ys (inl e) = inl (inl e)
among-cases {X = X} x (z ∷ zs) ys (inr h) = by (among-cases x zs ys h)
  where
    by : Among x zs ⊎ Among x ys → ((x ≡ z) ⊎ Among x zs) ⊎ Among x ys
    by (inl k) = inl (inr k)
    by (inr k) = inr k

-- where a path comes to one of its batches
pub record ComesTo (batches : List Batch) (path : List Batch) (c : Batch) : Type 0 where
  pub front : List Batch
  pub rest : List Batch
  pub whole : path ≡ (front ++ c ∷ []) ++ rest
  pub path_is : IsPath batches c (front ++ c ∷ [])

pub comes-to : (batches : List Batch) (b c : Batch) (path : List Batch) → IsPath batches b path → Among c path → ComesTo batches path c
comes-to batches b c path (first _ has e) (inl same) =
    subst (ComesTo batches (b ∷ [])) (sym same) (record { front = []; rest = []; whole = refl; path_is = first b has e })
comes-to batches b c path (first _ has e) (inr h) = absurd h
comes-to batches b c path (below _ before key up has e at r) h = by (among-cases c up (b ∷ []) h) (comes-to batches before c up r)
  where
    by : Among c up ⊎ Among c (b ∷ []) → (Among c up → ComesTo batches up c) → ComesTo batches (up ++ b ∷ []) c
    by (inl k) rest =
        let t = rest k in
        record { front = t.front; rest = t.rest ++ b ∷ []; whole = ap (λ l. l ++ b ∷ []) t.whole ∙ append_assoc (t.front ++ c ∷ []) t.rest (b ∷ []); path_is = t.path_is }
    by (inr (inl same)) rest =
        subst (ComesTo batches (up ++ b ∷ [])) (sym same) (record { front = up; rest = []; whole = sym (append-nil (up ++ b ∷ [])); path_is = below b before key up has e at r })
    by (inr (inr k)) rest = absurd k

-- the batches of a path are batches of the run
pub path-run : (batches : List Batch) (b c : Batch) (path : List Batch) → ParentsFit batches → IsPath batches b path → Among c path → Has batches c × (c.run ≡ b.run)
path-run batches b c path fit (first _ has e) (inl same) = (subst (λ (x : Batch). Has batches x) (sym same) has, ap (λ (x : Batch). x.run) same)
path-run batches b c path fit (first _ has e) (inr h) = absurd h
path-run batches b c path fit (below _ before key up has e at r) h = by (among-cases c up (b ∷ []) h) (path-run batches before c up fit r)
  where
    by : Among c up ⊎ Among c (b ∷ []) → (Among c up → Has batches c × (c.run ≡ before.run)) → Has batches c × (c.run ≡ b.run)
    by (inl k) rest = let t = rest k in (t.0, t.1 ∙ (fit b before key has e at).run)
    by (inr (inl same)) rest = (subst (λ (x : Batch). Has batches x) (sym same) has, ap (λ (x : Batch). x.run) same)
    by (inr (inr k)) rest = absurd k

-- all of the batches come before the key
abbrev pub ComeBefore : BatchKey → List Batch → Type 0
ComeBefore key batches = AllByRecursion (λ b. key_lt b.key key ≡ true) batches

before-weaken : (low high : BatchKey) (batches : List Batch) → key_lt low high ≡ true → ComeBefore low batches → ComeBefore high batches
before-weaken low high [] l all = tt
before-weaken low high (x ∷ xs) l all = (before-trans x.key low high all.0 l, before-weaken low high xs l all.1)

push-all : (P : Batch → Type 0) (xs : List Batch) (b : Batch) → AllByRecursion P xs → P b → AllByRecursion P (xs ++ b ∷ [])
push-all P [] b all p = (p, tt)
push-all P (x ∷ xs) b all p = (all.0, push-all P xs b all.1 p)

rise-push : (xs : List Batch) (b : Batch) → Rise xs → ComeBefore b.key xs → Rise (xs ++ b ∷ [])
rise-push [] b rise all = (tt, tt)
rise-push (x ∷ xs) b rise all = (push-all (λ y. key_lt x.key y.key ≡ true) xs b rise.0 all.0, rise-push xs b rise.1 all.1)

-- a path rises
pub path-rises : (batches : List Batch) (b : Batch) (path : List Batch) → IsSet batches → IsPath batches b path
    → Rise path × ((high : BatchKey) → key_lt b.key high ≡ true → ComeBefore high path)
path-rises batches b path set (first _ has e) = ((tt, tt), λ high l. (l, tt))
path-rises batches b path set (below _ before key up has e at r) =
    let t = path-rises batches before up set r in
    let own : before.key ≡ key = found-key batches key before at in
    let l : key_lt before.key b.key ≡ true = subst (λ (k : BatchKey). key_lt k b.key ≡ true) (sym own) (parent-back b (found-all PointsBack batches b.key b set.back has) key e) in
    (rise-push up b t.0 (t.1 b.key l), λ high m. push-all (λ x. key_lt x.key high ≡ true) up b (before-weaken b.key high up m (t.1 b.key l)) m)

-- in a list that rises, what stands in the prefix does not stand after it
pub not-twice : (front rest : List Batch) (c : Batch) → Rise (front ++ rest) → Among c front → Among c rest → ⊥
not-twice [] rest c rise h k = h
not-twice (x ∷ xs) rest c rise (inl same) k =
    before-irrefl c.key (subst (λ (y : Batch). key_lt y.key c.key ≡ true) (sym same) (all-among (λ y. key_lt x.key y.key ≡ true) (xs ++ rest) c rise.0 (among-right c xs rest k)))
not-twice (x ∷ xs) rest c rise (inr h) k = not-twice xs rest c rise.1 h k

-- where two lists that go apart begin alike, what both begin with stands in the prefix
pub shared-front : {X : Type 0} (front one two alike three four : List X) → front ++ one ≡ alike ++ three → front ++ two ≡ alike ++ four → GoApart one two
    → (more : List X) × (front ≡ alike ++ more)
shared-front front one two [] three four e f apart = (front, refl)
shared-front {X = X} [] one two (x ∷ alike) three four e f apart = absurd (begin one two e f apart)
  where
    begin : (one two : List X) → one ≡ x ∷ alike ++ three → two ≡ x ∷ alike ++ four → GoApart one two → ⊥
    begin [] two e f apart = absurd (cc)
    begin (y ∷ ys) [] e f apart = absurd (cc)
    begin (y ∷ ys) (z ∷ zs) e f apart = let h : y ≡ x = cc in let k : z ≡ x = cc in apart (h ∙ sym k)
shared-front (y ∷ front) one two (x ∷ alike) three four e f apart =
    let head : y ≡ x = cc in
    let one_is : front ++ one ≡ alike ++ three = cc in
    let two_is : front ++ two ≡ alike ++ four = cc in
    let t = shared-front front one two alike three four one_is two_is apart in
    (t.0, ap (λ h. h ∷ front) head ∙ ap (λ l. x ∷ l) t.1)

-- lists go apart in one way
pub apart-once : {X : Type 0} (front one two other three four : List X) → front ++ one ≡ other ++ three → front ++ two ≡ other ++ four → GoApart one two → GoApart three four → front ≡ other
apart-once [] one two [] three four e f a b = refl
apart-once {X = X} [] one two (x ∷ other) three four e f a b = absurd (begin one two e f a)
  where
    begin : (one two : List X) → one ≡ x ∷ other ++ three → two ≡ x ∷ other ++ four → GoApart one two → ⊥
    begin [] two e f apart = absurd (cc)
    begin (y ∷ ys) [] e f apart = absurd (cc)
    begin (y ∷ ys) (z ∷ zs) e f apart = let h : y ≡ x = cc in let k : z ≡ x = cc in apart (h ∙ sym k)
apart-once {X = X} (x ∷ front) one two [] three four e f a b = absurd (begin three four (sym e) (sym f) b)
  where
    begin : (three four : List X) → three ≡ x ∷ front ++ one → four ≡ x ∷ front ++ two → GoApart three four → ⊥
    begin [] four e f apart = absurd (cc)
    begin (y ∷ ys) [] e f apart = absurd (cc)
    begin (y ∷ ys) (z ∷ zs) e f apart = let h : y ≡ x = cc in let k : z ≡ x = cc in apart (h ∙ sym k)
apart-once (x ∷ front) one two (y ∷ other) three four e f a b =
    let head : x ≡ y = cc in
    let one_is : front ++ one ≡ other ++ three = cc in
    let two_is : front ++ two ≡ other ++ four = cc in
    ap (λ h. h ∷ front) head ∙ ap (λ l. y ∷ l) (apart-once front one two other three four one_is two_is a b)

-- two lists of batches, as what they begin with alike and what comes after it
pub record Fork (one two : List Batch) : Type 0 where
  pub front : List Batch
  pub rest : List Batch
  pub other : List Batch
  pub one_is : one ≡ front ++ rest
  pub two_is : two ≡ front ++ other
  pub apart : GoApart rest other

pub fork : (batches one two : List Batch) → ((c : Batch) → Among c one → Has batches c) → ((c : Batch) → Among c two → Has batches c) → Fork one two
fork batches [] two h k = record { front = []; rest = []; other = two; one_is = refl; two_is = refl; apart = tt }
fork batches (x ∷ xs) [] h k = record { front = []; rest = x ∷ xs; other = []; one_is = refl; two_is = refl; apart = tt }
fork batches (x ∷ xs) (y ∷ ys) h k =
    by (key_eq x.key y.key) refl (fork batches xs ys (λ c m. h c (inr m)) (λ c m. k c (inr m)))
  where
    by : (t : Bool) → key_eq x.key y.key ≡ t → Fork xs ys → Fork (x ∷ xs) (y ∷ ys)
    by true e rest =
        let same : x ≡ y = same-batch batches x y (h x (inl refl)) (k y (inl refl)) (same-keys x.key y.key e) in
        record {
          front = x ∷ rest.front;
          rest = rest.rest;
          other = rest.other;
          one_is = ap (λ l. x ∷ l) rest.one_is;
          two_is = ap (λ b. b ∷ ys) (sym same) ∙ ap (λ l. x ∷ l) rest.two_is;
          apart = rest.apart;
        }
    by false e rest =
        record {
          front = [];
          rest = x ∷ xs;
          other = y ∷ ys;
          one_is = refl;
          two_is = refl;
          apart = (λ same. true≢false (sym (subst (λ (b : Batch). key_eq x.key b.key ≡ true) same (key_eq-self x.key)) ∙ e));
        }

-- a version of the events is that of one of the batches
pub version-batch : (batches path : List Batch) (version id : ℕ) → AreFaultless batches → ((c : Batch) → Among c path → Has batches c) → last_id_of version (history_of path) ≡ Some id
    → (c : Batch) × Among c path × (c.key.version ≡ version)
version-batch batches [] version id faultless has h = absurd (cc)
version-batch batches (b ∷ path) version id faultless has h =
    by (last_id_of version (history_of path)) refl (version-batch batches path version id faultless (λ c m. has c (inr m))) (sym (last-id-append version b.events (history_of path)) ∙ h)
  where
    own : (w : ℕ) (events : List Event) (id : ℕ) → are_of_version w events ≡ true → last_id_of version events ≡ Some id → w ≡ version
    own w [] id a h = absurd (cc)
    own w (e ∷ es) id a h = step (last_id_of version es) (own w es id (and_parts (e.version == w) (are_of_version w es) a).1) h refl
      where
        step : (o : Option ℕ) → (last_id_of version es ≡ Some id → w ≡ version) → later_id o (e.version == version) e.id ≡ Some id → last_id_of version es ≡ o → w ≡ version
        step (Some i) rest h at = let same : i ≡ id = cc in rest (at ∙ ap Some same)
        step None rest h at = mine (e.version == version) refl h
          where
            mine : (t : Bool) → (e.version == version) ≡ t → (if t then Some e.id else None) ≡ Some id → w ≡ version
            mine true q h = sym (eqb-true e.version w (and_parts (e.version == w) (are_of_version w es) a).0) ∙ eqb-true e.version version q
            mine false q h = absurd (cc)

    by : (o : Option ℕ) → last_id_of version (history_of path) ≡ o → (last_id_of version (history_of path) ≡ Some id → (c : Batch) × Among c path × (c.key.version ≡ version))
        → either_id o (last_id_of version b.events) ≡ Some id → (c : Batch) × Among c (b ∷ path) × (c.key.version ≡ version)
    by (Some i) at rest h = let same : i ≡ id = cc in let t = rest (at ∙ ap Some same) in (t.0, inr t.1, t.2)
    by None at rest h = (b, inl refl, own b.key.version b.events id (passes b (faultless b (has b (inl refl)))).versions h)
