-- What is known of a path that is gone over for origins.
use Rattle.std.proofs.Common.{◌≡◌, ℕ, zero, suc, ◌+◌, ◌≤◌, ◌<◌, Bool, true, false, ◌||◌, List, [], ◌∷◌, ◌++◌, length, take, drop, get_or, ◌⊎◌, inl, inr, Option, Some, None, Ok, if◌then◌else◌, refl, sym, ap, ◌∙◌, subst, arith}
use Rattle.std.proofs.lemmas.List.{append-nil, length-append, length-take-le, take_all, take-append-le}
use Rattle.std.proofs.lemmas.List.Folds.{list_any-append}
use Rattle.ndc_event.specs.Key.{key_eq}
use Rattle.ndc_event.specs.declared.batch.Batch.{Batch}
use Rattle.ndc_event.specs.declared.batch.Event.{Event}
use Rattle.ndc_event.specs.declared.key.BatchKey.{BatchKey}
use Rattle.ndc_event.specs.declared.key.Origin.{Origin}
use Rattle.ndc_event.specs.declared.key.RunId.{RunId}
use Rattle.ndc_model_sets.specs.Origins.{origins_in, signals_in}
use Rattle.ndc_model_sets.specs.Paths.{events_to, path_to}
use Rattle.ndc_model_sets.specs.Sets.{Rise, Has}
use Rattle.ndc_model_sets.specs.Sound.{ParentsFit}
use Rattle.ndc_model_sets.proofs.BranchLemmas.{same-batch, among-has}
use Rattle.ndc_model_sets.proofs.KeyLemmas.{same-keys}
use Rattle.ndc_model_sets.proofs.Lists.{Among}
use Rattle.ndc_model_sets.proofs.PathIds.{history-push}
use Rattle.ndc_model_sets.proofs.PathLemmas.{path-below, path-first}
use Rattle.ndc_model_sets.proofs.SetLemmas.{found-key}
use Rattle.ndc_state.specs.Origins.{is_among}
use Rattle.ndc_state.specs.Replay.{collected, history_of}
use Rattle.ndc_dump_causes.specs.Causes.{comes_again, has_origin_twice, has_twice, holds_of_none, is_ill_formed}
use Rattle.ndc_dump_causes.specs.Given.{AreRead}
use Rattle.ndc_dump_causes.specs.Keys.{is_listed, with_key}
use Rattle.ndc_dump_causes.specs.Trails.{AreKnown, AreOpen, IsAt, IsListed, IsTrail, TrailValue, path_origins, signal_again, signal_listed}
use Rattle.ndc_dump_causes.specs.declared.error.KeyCause.TheVariants.{NotWellFormed}
use Rattle.ndc_dump_causes.specs.declared.trail.Opened.{Opened}
use Rattle.ndc_dump_causes.proofs.ComesAgain.{AreAmong, again-append, again-kind, again-less, among-either, among-front, listed-front, listed-grows, own-listed}
use Rattle.ndc_dump_causes.proofs.NoCause.{fit-from, holds-not}
use Rattle.ndc_dump_causes.proofs.OnPaths.{left-one, origins-append}

-- ---- open batches

-- a path that is listed is listed in each list that begins with it
grown : (batches : List Batch) (few many : List Origin) (key : BatchKey) → AreAmong few many → IsListed batches few key → IsListed batches many key
grown batches few many key h l = record { batch = l.batch; at = l.at; once = l.once; among = λ o k. h o (l.among o k) }

-- the first of the open ones stay open
pub open-take : (batches : List Batch) (listed : List Origin) (low n : ℕ) (os : List Opened) → AreOpen batches listed low os → AreOpen batches listed low (take n os)
open-take batches listed low zero os h = tt
open-take batches listed low (suc n) [] h = tt
open-take batches listed low (suc n) (o ∷ os) h = (h.0, h.1, h.2, open-take batches listed o.count n os h.3)

-- counts do not fall up to the last one
last-count : (batches : List Batch) (listed : List Origin) (low : ℕ) (os : List Opened) (x : Opened) → AreOpen batches listed low (os ++ x ∷ []) → low ≤ x.count
last-count batches listed low [] x h = h.0
last-count batches listed low (o ∷ os) x h = let a = h.0 in let b = last-count batches listed o.count os x h.3 in omega (arith, a, b)

take-twice : (n m : ℕ) (xs : List Origin) → n ≤ m → m ≤ length xs → take n (take m xs) ≡ take n xs
take-twice zero m xs a b = refl
take-twice (suc n) zero xs a b = absurd (omega (arith, a))
take-twice (suc n) (suc m) [] a b = refl
take-twice (suc n) (suc m) (x ∷ xs) a b = ap (λ l. x ∷ l) (take-twice n m xs (omega (arith, a)) (omega (arith, b)))

-- where the origins after those of the last open one are dropped, all stay open
pub open-back : (batches : List Batch) (listed : List Origin) (low : ℕ) (os : List Opened) (x : Opened) → AreOpen batches listed low (os ++ x ∷ []) → AreOpen batches (take x.count listed) low (os ++ x ∷ [])
open-back batches listed low [] x h = (
  h.0,
  subst (λ n. x.count ≤ n) (sym (length-take-le x.count listed h.1)) (omega arith),
  subst (λ l. IsListed batches l x.key) (sym (take-twice x.count x.count listed (omega arith) h.1)) h.2,
  tt,
)
open-back batches listed low (o ∷ os) x h =
    let most : o.count ≤ x.count = last-count batches listed o.count os x h.3 in
    let top : x.count ≤ length listed = top-count o.count os h.3 in (
      h.0,
      subst (λ n. o.count ≤ n) (sym (length-take-le x.count listed top)) most,
      subst (λ l. IsListed batches l o.key) (sym (take-twice o.count x.count listed most top)) h.2,
      open-back batches listed o.count os x h.3,
    )
  where
    top-count : (low : ℕ) (os : List Opened) → AreOpen batches listed low (os ++ x ∷ []) → x.count ≤ length listed
    top-count low [] h = h.1
    top-count low (o ∷ os) h = top-count o.count os h.3

-- the path to the last open one is listed among as many origins as its count
pub open-last : (batches : List Batch) (listed : List Origin) (low : ℕ) (os : List Opened) (x : Opened) → AreOpen batches listed low (os ++ x ∷ []) → IsListed batches (take x.count listed) x.key
open-last batches listed low [] x h = h.2
open-last batches listed low (o ∷ os) x h = open-last batches listed o.count os x h.3

-- more origins may be listed
pub open-grow : (batches : List Batch) (listed more : List Origin) (low : ℕ) (os : List Opened) → AreOpen batches listed low os → AreOpen batches (listed ++ more) low os
open-grow batches listed more low [] h = tt
open-grow batches listed more low (o ∷ os) h =
    let b = h.1 in let e = length-append listed more in
    (h.0, subst (λ n. o.count ≤ n) (sym e) (omega (arith, b)), subst (λ l. IsListed batches l o.key) (sym (take-append-le o.count listed more h.1)) h.2, open-grow batches listed more o.count os h.3)

-- a batch whose path is listed is open after all others
pub open-push : (batches : List Batch) (listed : List Origin) (low : ℕ) (os : List Opened) (x : Opened) → low ≤ x.count → x.count ≡ length listed → AreOpen batches listed low os → IsListed batches listed x.key
    → AreOpen batches listed low (os ++ x ∷ [])
open-push batches listed low [] x least is h l = (least, omega (arith, is), subst (λ k. IsListed batches k x.key) (sym (take_all x.count listed (omega (arith, is)))) l, tt)
open-push batches listed low (o ∷ os) x least is h l = let b = h.1 in (h.0, h.1, h.2, open-push batches listed o.count os x (omega (arith, b, is)) is h.3 l)

-- ---- one batch more

nothing-among : (xs : List Origin) → AreAmong [] xs
nothing-among xs o h = absurd (cc)

module _ (batches : List Batch) (read : AreRead batches) (formed : holds_of_none NotWellFormed (is_ill_formed batches) batches ≡ Ok tt) where
  fit : ParentsFit batches
  fit = fit-from batches (holds-not NotWellFormed (is_ill_formed batches) batches tt formed)

  -- the path of a batch is listed where its parent's is and no origin comes again
  pub listed-next : (b : Batch) (listed : List Origin) → Has batches b → IsAt batches listed b.parent → comes_again listed (origins_in b.run b.events) ≡ false
      → IsListed batches (collected b.run listed b.events) b.key
  listed-next b listed has at once = by b.parent refl at
    where
      own : List Origin
      own = origins_in b.run b.events

      by : (o : Option BatchKey) → b.parent ≡ o → IsAt batches listed o → IsListed batches (collected b.run listed b.events) b.key
      by None e at =
          let path : path_origins batches b ≡ own = ap (origins_in b.run) (ap history_of (path-first batches b read.set has e) ∙ append-nil b.events) in
          record {
            batch = b;
            at = has;
            once = ap has_twice path ∙ again-less [] listed own (nothing-among listed) once;
            among = λ o k. own-listed b.run b.events listed o (sym (ap (is_among o) path) ∙ k);
          }
      by (Some key) e at =
          let run : at.batch.run ≡ b.run = (fit b at.batch key has e at.at).run in
          let path : path_origins batches b ≡ path_origins batches at.batch ++ own =
          ap (origins_in b.run) (ap history_of (path-below batches b key read.set has e) ∙ history-push (path_to key batches) b)
          ∙ origins-append b.run (events_to key batches) b.events
          ∙ ap (λ l. l ++ own) (ap (λ r. origins_in r (events_to key batches)) (sym run) ∙ ap (λ k. origins_in at.batch.run (events_to k batches)) (sym (found-key batches key at.batch at.at))) in
          record {
            batch = b;
            at = has;
            once = ap has_twice path ∙ again-append [] (path_origins batches at.batch) own at.once ∙ again-less (path_origins batches at.batch) listed own at.among once;
            among = λ o k. from at o (among-either o (path_origins batches at.batch) own (sym (ap (is_among o) path) ∙ k));
          }
        where
          from : (at : IsListed batches listed key) (o : Origin) → (is_among o (path_origins batches at.batch) ≡ true) ⊎ (is_among o own ≡ true) → is_among o (collected b.run listed b.events) ≡ true
          from at o (inl k) = let g = listed-grows b.run listed b.events in ap (is_among o) g.1 ∙ among-front o listed g.0 (at.among o k)
          from at o (inr k) = own-listed b.run b.events listed o k

-- no origin stands twice on a path that is listed
pub listed-once : (batches : List Batch) (listed : List Origin) (b : Batch) → Has batches b → IsListed batches listed b.key → has_origin_twice batches b ≡ false
listed-once batches listed b has l = subst (λ x. has_origin_twice batches x ≡ false) same l.once
  where
    same : l.batch ≡ b
    same = some-same l.batch b (sym l.at ∙ has)
      where
        some-same : (x y : Batch) → Some x ≡ Some y → x ≡ y
        some-same x y e = cc

-- ---- the trail after a batch

-- where what was listed since is dropped, the trail is as before
pub trail-kept : (batches : List Batch) (old : TrailValue) (opened : List Opened) (keys now : List Origin) (n : ℕ) (run : RunId) (events : List Event) → IsTrail batches old → opened ≡ old.opened
    → keys ≡ collected run old.listed events → n ≡ length old.listed → now ≡ take n keys → AreOpen batches now 0 opened
trail-kept batches old opened keys now n run events trail same listed count back =
    subst (AreOpen batches now 0) (sym same) (subst (λ l. AreOpen batches l 0 old.opened)
    (sym (back ∙ ap (λ m. take m keys) count ∙ ap (take (length old.listed)) listed ∙ listed-front run old.listed events)) trail)

-- a batch whose path is listed is opened after the others
pub trail-more : (batches : List Batch) (old : TrailValue) (opened now : List Opened) (keys : List Origin) (x : Opened) (run : RunId) (events : List Event) → IsTrail batches old → opened ≡ old.opened
    → keys ≡ collected run old.listed events → x.count ≡ length keys → IsListed batches (collected run old.listed events) x.key → now ≡ opened ++ x ∷ [] → AreOpen batches keys 0 now
trail-more batches old opened now keys x run events trail same listed count known more =
    let g = listed-grows run old.listed events in
    subst (AreOpen batches keys 0) (sym more)
    (open-push batches keys 0 opened x (omega arith) count
    (subst (AreOpen batches keys 0) (sym same) (subst (λ l. AreOpen batches l 0 old.opened) (sym (listed ∙ g.1)) (open-grow batches old.listed g.0 0 old.opened trail)))
    (subst (λ l. IsListed batches l x.key) (sym listed) known))

-- ---- known keys

known-cases : (key new : BatchKey) (keys : List BatchKey) → is_listed key (with_key new keys) ≡ true → (key ≡ new) ⊎ (is_listed key keys ≡ true)
known-cases key new keys h = by (is_listed new keys) refl h
  where
    by : (t : Bool) → is_listed new keys ≡ t → is_listed key (if t then keys else keys ++ new ∷ []) ≡ true → (key ≡ new) ⊎ (is_listed key keys ≡ true)
    by true e h = inr h
    by false e h = at (is_listed key keys) refl (key_eq key new) refl (sym (list_any-append (key_eq key) keys (new ∷ [])) ∙ h)
      where
        at : (s : Bool) → is_listed key keys ≡ s → (t : Bool) → key_eq key new ≡ t → (s || (t || false)) ≡ true → (key ≡ new) ⊎ (is_listed key keys ≡ true)
        at true f t g h = inr f
        at false f true g h = inl (same-keys key new g)
        at false f false g h = absurd (cc)

-- one key more is known
pub known-more : (P : Batch → Type 0) (batches : List Batch) (keys : List BatchKey) (b : Batch) → Has batches b → P b → AreKnown P batches keys → AreKnown P batches (with_key b.key keys)
known-more P batches keys b has p known x has_x h = by (known-cases x.key b.key keys h)
  where
    by : (x.key ≡ b.key) ⊎ (is_listed x.key keys ≡ true) → P x
    by (inl same) = subst P (sym (same-batch batches x b has_x has same)) p
    by (inr k) = known x has_x k

pub known-none : (P : Batch → Type 0) (batches : List Batch) → AreKnown P batches []
known-none P batches x has h = absurd (cc)

-- the batch at a place is one of the set
pub place-has : (batches xs : List Batch) (i : ℕ) (b : Batch) → Rise batches → xs ≡ batches → i < length xs → b ≡ get_or xs i b → Has batches b
place-has batches xs i b rise e l is = among-has batches b rise (subst (λ (k : List Batch). Among b k) e (at xs i l is))
  where
    at : (ys : List Batch) (j : ℕ) → j < length ys → b ≡ get_or ys j b → Among b ys
    at [] j l is = absurd (omega (arith, l))
    at (y ∷ ys) zero l is = inl is
    at (y ∷ ys) (suc j) l is = inr (at ys j (omega (arith, l)) is)

-- the next event's origin is listed
pub again-next : (run : RunId) (xs : List Event) (i : ℕ) (e : Event) (listed now : List Origin) (again is_again all : Bool) → i < length xs → e ≡ get_or xs i e
    → is_again ≡ signal_again run e listed → now ≡ signal_listed run e listed
    → (again || comes_again listed (origins_in run (drop i xs))) ≡ all → ((again || is_again) || comes_again now (origins_in run (drop (i + 1) xs))) ≡ all
again-next run xs i e listed now again is_again all l is f g h =
    ap (λ t. (again || t) || comes_again now (origins_in run (drop (i + 1) xs))) f
    ∙ ap (λ k. (again || signal_again run e listed) || comes_again k (origins_in run (drop (i + 1) xs))) g
    ∙ join again (signal_again run e listed) (comes_again (signal_listed run e listed) (origins_in run (drop (i + 1) xs)))
    ∙ ap (λ t. again || t) (sym (again-kind run e.id e.version e.kind listed (signals_in run (drop (i + 1) xs))))
    ∙ ap (λ k. again || comes_again listed (origins_in run k)) (sym (left-one xs i e l is)) ∙ h
  where
    join : (a b c : Bool) → ((a || b) || c) ≡ (a || (b || c))
    join true b c = refl
    join false b c = refl

pub listed-more : (run : RunId) (xs : List Event) (i : ℕ) (e : Event) (listed now all : List Origin) → i < length xs → e ≡ get_or xs i e → now ≡ signal_listed run e listed
    → collected run listed (drop i xs) ≡ all → collected run now (drop (i + 1) xs) ≡ all
listed-more run xs i e listed now all l is g h = ap (λ k. collected run k (drop (i + 1) xs)) g ∙ sym (ap (collected run listed) (left-one xs i e l is)) ∙ h
