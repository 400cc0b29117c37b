-- Batches that arrive one after the other.
use Rattle.std.proofs.Common.{◌≡◌, ℕ, Bool, true, false, max, List, [], ◌∷◌, Some, None, if◌then◌else◌, cond, refl, sym, ◌∙◌, subst, ap, true≢false, arith}
use Rattle.std.specs.List.{filter}
use Rattle.ndc_event.specs.Key.{key_lt, key_eq}
use Rattle.ndc_event.specs.declared.batch.Batch.{Batch}
use Rattle.ndc_event.specs.declared.key.BatchKey.{BatchKey}
use Rattle.ndc_model_cells.specs.Writing.{greatest_task}
use Rattle.ndc_model_sets.specs.Sets.{ComeAfter, Rise, batch_at, arrived}
use Rattle.ndc_model_sets.proofs.BranchLemmas.{All-filter}
use Rattle.ndc_model_sets.proofs.KeyLemmas.{before-irrefl, before-trans, before-total, same-keys, key_eq-self}
use Rattle.ndc_model_sets.proofs.SetLemmas.{after-trans}

-- how two keys stand to each other
pub data Compared (one two : BatchKey) : Type 0 where
  less : key_lt one two ≡ true → Compared one two
  same : one ≡ two → Compared one two
  more : key_lt two one ≡ true → Compared one two

pub compared : (one two : BatchKey) → Compared one two
compared one two = by (key_lt one two) refl (key_eq one two) refl
  where
    by : (l : Bool) → key_lt one two ≡ l → (e : Bool) → key_eq one two ≡ e → Compared one two
    by true f e g = less f
    by false f true g = same (same-keys one two g)
    by false f false g = more (before-total one two f g)

pub not-less : (a b : BatchKey) → key_lt b a ≡ true → key_lt a b ≡ false
not-less a b l = by (key_lt a b) refl
  where
    by : (t : Bool) → key_lt a b ≡ t → key_lt a b ≡ false
    by true e = absurd (before-irrefl a (before-trans a b a e l))
    by false e = e

pub not-same : (a b : BatchKey) → key_lt b a ≡ true → key_eq a b ≡ false
not-same a b l = by (key_eq a b) refl
  where
    by : (t : Bool) → key_eq a b ≡ t → key_eq a b ≡ false
    by true e = absurd (before-irrefl b (subst (λ (k : BatchKey). key_lt b k ≡ true) (same-keys a b e) l))
    by false e = e

irrefl : (a : BatchKey) → key_lt a a ≡ false
irrefl a = by (key_lt a a) refl
  where
    by : (t : Bool) → key_lt a a ≡ t → key_lt a a ≡ false
    by true e = absurd (before-irrefl a e)
    by false e = e

-- arrival, by how the key compares with the first
pub arrived-less : (b x : Batch) (xs : List Batch) → key_lt b.key x.key ≡ true → arrived b (x ∷ xs) ≡ b ∷ x ∷ xs
arrived-less b x xs l = rw l refl

pub arrived-same : (b x : Batch) (xs : List Batch) → b.key ≡ x.key → arrived b (x ∷ xs) ≡ x ∷ xs
arrived-same b x xs e =
    let l : key_lt b.key x.key ≡ false = subst (λ (k : BatchKey). key_lt b.key k ≡ false) e (irrefl b.key) in
    let s : key_eq b.key x.key ≡ true = subst (λ (k : BatchKey). key_eq b.key k ≡ true) e (key_eq-self b.key) in
    rw (l, s) refl

pub arrived-more : (b x : Batch) (xs : List Batch) → key_lt x.key b.key ≡ true → arrived b (x ∷ xs) ≡ x ∷ arrived b xs
arrived-more b x xs l = rw (not-less b.key x.key l, not-same b.key x.key l) refl

-- two batches arrive in either order
arrived-rising : (a b : Batch) (batches : List Batch) → key_lt a.key b.key ≡ true → arrived a (arrived b batches) ≡ arrived b (arrived a batches)
arrived-rising a b [] l = arrived-less a b [] l ∙ sym (arrived-more b a [] l)
arrived-rising a b (x ∷ xs) l = by (compared a.key x.key) (arrived-rising a b xs l)
  where
    front : key_lt a.key x.key ≡ true → Compared b.key x.key → arrived a (arrived b (x ∷ xs)) ≡ a ∷ arrived b (x ∷ xs)
    front h (less g) = ap (arrived a) (arrived-less b x xs g) ∙ arrived-less a b (x ∷ xs) l ∙ ap (λ t. a ∷ t) (sym (arrived-less b x xs g))
    front h (same g) = ap (arrived a) (arrived-same b x xs g) ∙ arrived-less a x xs h ∙ ap (λ t. a ∷ t) (sym (arrived-same b x xs g))
    front h (more g) = ap (arrived a) (arrived-more b x xs g) ∙ arrived-less a x (arrived b xs) h ∙ ap (λ t. a ∷ t) (sym (arrived-more b x xs g))

    by : Compared a.key x.key → arrived a (arrived b xs) ≡ arrived b (arrived a xs) → arrived a (arrived b (x ∷ xs)) ≡ arrived b (arrived a (x ∷ xs))
    by (less h) rest = front h (compared b.key x.key) ∙ sym (arrived-more b a (x ∷ xs) l) ∙ ap (arrived b) (sym (arrived-less a x xs h))
    by (same h) rest =
        let up : key_lt x.key b.key ≡ true = subst (λ (k : BatchKey). key_lt k b.key ≡ true) h l in
        ap (arrived a) (arrived-more b x xs up) ∙ arrived-same a x (arrived b xs) h ∙ sym (arrived-more b x xs up) ∙ ap (arrived b) (sym (arrived-same a x xs h))
    by (more h) rest =
        let up : key_lt x.key b.key ≡ true = before-trans x.key a.key b.key h l in
        ap (arrived a) (arrived-more b x xs up) ∙ arrived-more a x (arrived b xs) h ∙ ap (λ t. x ∷ t) rest
        ∙ sym (arrived-more b x (arrived a xs) up) ∙ ap (arrived b) (sym (arrived-more a x xs h))

pub arrived-swap : (a b : Batch) (batches : List Batch) → key_eq a.key b.key ≡ false → arrived a (arrived b batches) ≡ arrived b (arrived a batches)
arrived-swap a b batches apart = by (compared a.key b.key)
  where
    by : Compared a.key b.key → arrived a (arrived b batches) ≡ arrived b (arrived a batches)
    by (less l) = arrived-rising a b batches l
    by (same e) = absurd (true≢false (sym (subst (λ (k : BatchKey). key_eq a.key k ≡ true) e (key_eq-self a.key)) ∙ apart))
    by (more l) = sym (arrived-rising b a batches l)

-- a key that is not there is not that of the first, nor there after it
pub none-parts : (c : Batch) (cs : List Batch) (key : BatchKey) → batch_at key (c ∷ cs) ≡ None → (key_eq c.key key ≡ false) × (batch_at key cs ≡ None)
none-parts c cs key none = by (key_eq c.key key) refl none
  where
    by : (t : Bool) → key_eq c.key key ≡ t → cond t (Some c) (batch_at key cs) ≡ None → (key_eq c.key key ≡ false) × (batch_at key cs ≡ None)
    by true e h = absurd (cc)
    by false e h = (e, h)

-- nor was it there before a batch arrived, nor is it this batch's
pub none-before : (b : Batch) (batches : List Batch) (key : BatchKey) → batch_at key (arrived b batches) ≡ None → (key_eq b.key key ≡ false) × (batch_at key batches ≡ None)
none-before b [] key none = none-parts b [] key none
none-before b (x ∷ xs) key none = by (compared b.key x.key) (λ h. none-before b xs key h)
  where
    whole : (l : List Batch) → arrived b (x ∷ xs) ≡ l → batch_at key l ≡ None
    whole l e = subst (λ (t : List Batch). batch_at key t ≡ None) e none

    with-first : (batch_at key xs ≡ None) × (key_eq b.key key ≡ false) → key_eq x.key key ≡ false → (key_eq b.key key ≡ false) × (batch_at key (x ∷ xs) ≡ None)
    with-first (h, e) f = (e, rw f h)

    by : Compared b.key x.key → (batch_at key (arrived b xs) ≡ None → (key_eq b.key key ≡ false) × (batch_at key xs ≡ None)) → (key_eq b.key key ≡ false) × (batch_at key (x ∷ xs) ≡ None)
    by (less l) rest = none-parts b (x ∷ xs) key (whole (b ∷ x ∷ xs) (arrived-less b x xs l))
    by (same e) rest =
        let h = whole (x ∷ xs) (arrived-same b x xs e) in
        (subst (λ (k : BatchKey). key_eq k key ≡ false) (sym e) (none-parts x xs key h).0, h)
    by (more l) rest =
        let p = none-parts x (arrived b xs) key (whole (x ∷ arrived b xs) (arrived-more b x xs l)) in
        let r = rest p.1 in
        with-first (r.1, r.0) p.0

-- what comes before all of the batches goes first
in-front : (b : Batch) (batches : List Batch) → ComeAfter b.key batches → arrived b batches ≡ b ∷ batches
in-front b [] after = refl
in-front b (x ∷ xs) after = arrived-less b x xs after.0

-- those of the batches that pass, with one more
pub filter-arrived : (p : Batch → Bool) (b : Batch) (batches : List Batch) → Rise batches → batch_at b.key batches ≡ None
    → filter p (arrived b batches) ≡ (if p b then arrived b (filter p batches) else filter p batches)
filter-arrived p b [] rise none = by (p b) refl
  where
    by : (t : Bool) → p b ≡ t → filter p (b ∷ []) ≡ (if p b then b ∷ [] else [])
    by true e = rw e refl
    by false e = rw e refl
filter-arrived p b (x ∷ xs) rise none = by (compared b.key x.key) (filter-arrived p b xs rise.1 (none-parts x xs b.key none).1)
  where
    front : key_lt b.key x.key ≡ true → (t : Bool) → p b ≡ t → filter p (b ∷ x ∷ xs) ≡ (if p b then arrived b (filter p (x ∷ xs)) else filter p (x ∷ xs))
    front l true e =
        let after : ComeAfter b.key (filter p (x ∷ xs)) = All-filter (λ y. key_lt b.key y.key ≡ true) p (x ∷ xs) (l, after-trans b.key x.key xs l rise.0) in
        ap (λ t. cond t (b ∷ filter p (x ∷ xs)) (filter p (x ∷ xs))) e ∙ sym (in-front b (filter p (x ∷ xs)) after)
        ∙ ap (λ t. if t then arrived b (filter p (x ∷ xs)) else filter p (x ∷ xs)) (sym e)
    front l false e = ap (λ t. cond t (b ∷ filter p (x ∷ xs)) (filter p (x ∷ xs))) e ∙ ap (λ t. if t then arrived b (filter p (x ∷ xs)) else filter p (x ∷ xs)) (sym e)

    behind : key_lt x.key b.key ≡ true → filter p (arrived b xs) ≡ (if p b then arrived b (filter p xs) else filter p xs) → (t s : Bool) → p x ≡ t → p b ≡ s
        → filter p (x ∷ arrived b xs) ≡ (if p b then arrived b (filter p (x ∷ xs)) else filter p (x ∷ xs))
    behind l rest true true e f =
        ap (λ t. cond t (x ∷ filter p (arrived b xs)) (filter p (arrived b xs))) e ∙ ap (λ m. x ∷ m) (rest ∙ ap (λ t. if t then arrived b (filter p xs) else filter p xs) f)
        ∙ sym (arrived-more b x (filter p xs) l) ∙ ap (λ t. arrived b (cond t (x ∷ filter p xs) (filter p xs))) (sym e)
        ∙ ap (λ t. if t then arrived b (filter p (x ∷ xs)) else filter p (x ∷ xs)) (sym f)
    behind l rest true false e f =
        ap (λ t. cond t (x ∷ filter p (arrived b xs)) (filter p (arrived b xs))) e ∙ ap (λ m. x ∷ m) (rest ∙ ap (λ t. if t then arrived b (filter p xs) else filter p xs) f)
        ∙ ap (λ t. cond t (x ∷ filter p xs) (filter p xs)) (sym e) ∙ ap (λ t. if t then arrived b (filter p (x ∷ xs)) else filter p (x ∷ xs)) (sym f)
    behind l rest false s e f =
        ap (λ t. cond t (x ∷ filter p (arrived b xs)) (filter p (arrived b xs))) e ∙ rest
        ∙ ap (λ m. if p b then arrived b m else m) (ap (λ t. cond t (x ∷ filter p xs) (filter p xs)) (sym e))

    by : Compared b.key x.key → filter p (arrived b xs) ≡ (if p b then arrived b (filter p xs) else filter p xs)
        → filter p (arrived b (x ∷ xs)) ≡ (if p b then arrived b (filter p (x ∷ xs)) else filter p (x ∷ xs))
    by (less l) rest = ap (filter p) (arrived-less b x xs l) ∙ front l (p b) refl
    by (same e) rest =
        let h : key_eq x.key b.key ≡ true = subst (λ (k : BatchKey). key_eq k b.key ≡ true) e (key_eq-self b.key) in
        let n : key_eq x.key b.key ≡ false = (none-parts x xs b.key none).0 in absurd (cc)
    by (more l) rest = ap (filter p) (arrived-more b x xs l) ∙ behind l rest (p x) (p b) refl refl

-- the greatest task with one more batch
pub greatest-arrived : (b : Batch) (batches : List Batch) → batch_at b.key batches ≡ None → greatest_task (arrived b batches) ≡ max b.key.task (greatest_task batches)
greatest-arrived b [] none = refl
greatest-arrived b (x ∷ xs) none = by (compared b.key x.key) (greatest-arrived b xs (none-parts x xs b.key none).1)
  where
    turn : (k m n : ℕ) → max k (max m n) ≡ max m (max k n)
    turn k m n = omega arith

    by : Compared b.key x.key → greatest_task (arrived b xs) ≡ max b.key.task (greatest_task xs) → greatest_task (arrived b (x ∷ xs)) ≡ max b.key.task (max x.key.task (greatest_task xs))
    by (less l) rest = ap greatest_task (arrived-less b x xs l)
    by (same e) rest =
        let h : key_eq x.key b.key ≡ true = subst (λ (k : BatchKey). key_eq k b.key ≡ true) e (key_eq-self b.key) in
        let n : key_eq x.key b.key ≡ false = (none-parts x xs b.key none).0 in absurd (cc)
    by (more l) rest = ap greatest_task (arrived-more b x xs l) ∙ ap (max x.key.task) rest ∙ turn x.key.task b.key.task (greatest_task xs)

-- a list that rises still does, with one more batch
pub Rise-arrived : (b : Batch) (batches : List Batch) → Rise batches → Rise (arrived b batches)
Rise-arrived b [] rise = (tt, tt)
Rise-arrived b (x ∷ xs) rise = by (compared b.key x.key) (Rise-arrived b xs rise.1)
  where
    each : key_lt x.key b.key ≡ true → (ys : List Batch) → ComeAfter x.key ys → ComeAfter x.key (arrived b ys)
    each l [] after = (l, tt)
    each l (y ∷ ys) after = cases (compared b.key y.key) (each l ys after.1)
      where
        cases : Compared b.key y.key → ComeAfter x.key (arrived b ys) → ComeAfter x.key (arrived b (y ∷ ys))
        cases (less m) rest = subst (ComeAfter x.key) (sym (arrived-less b y ys m)) (l, after)
        cases (same e) rest = subst (ComeAfter x.key) (sym (arrived-same b y ys e)) after
        cases (more m) rest = subst (ComeAfter x.key) (sym (arrived-more b y ys m)) (after.0, rest)

    by : Compared b.key x.key → Rise (arrived b xs) → Rise (arrived b (x ∷ xs))
    by (less l) rest = subst Rise (sym (arrived-less b x xs l)) ((l, after-trans b.key x.key xs l rise.0), rise)
    by (same e) rest = subst Rise (sym (arrived-same b x xs e)) rise
    by (more l) rest = subst Rise (sym (arrived-more b x xs l)) (each l xs rise.0, rest)

-- a key that is not there is not among those that pass
pub none-filter : (p : Batch → Bool) (batches : List Batch) (key : BatchKey) → batch_at key batches ≡ None → batch_at key (filter p batches) ≡ None
none-filter p [] key none = refl
none-filter p (x ∷ xs) key none = by (p x) (none-parts x xs key none) (none-filter p xs key (none-parts x xs key none).1)
  where
    by : (t : Bool) → (key_eq x.key key ≡ false) × (batch_at key xs ≡ None) → batch_at key (filter p xs) ≡ None → batch_at key (cond t (x ∷ filter p xs) (filter p xs)) ≡ None
    by true q rest = rw q.0 rest
    by false q rest = rest

-- nor there once a batch of another key has arrived
pub none-after : (b : Batch) (batches : List Batch) (key : BatchKey) → key_eq b.key key ≡ false → batch_at key batches ≡ None → batch_at key (arrived b batches) ≡ None
none-after b [] key e none = rw e refl
none-after b (x ∷ xs) key e none = by (compared b.key x.key) (none-parts x xs key none) (none-after b xs key e (none-parts x xs key none).1)
  where
    by : Compared b.key x.key → (key_eq x.key key ≡ false) × (batch_at key xs ≡ None) → batch_at key (arrived b xs) ≡ None → batch_at key (arrived b (x ∷ xs)) ≡ None
    by (less l) q rest = ap (batch_at key) (arrived-less b x xs l) ∙ rw e none
    by (same s) q rest = ap (batch_at key) (arrived-same b x xs s) ∙ none
    by (more l) q rest = ap (batch_at key) (arrived-more b x xs l) ∙ rw q.0 rest
