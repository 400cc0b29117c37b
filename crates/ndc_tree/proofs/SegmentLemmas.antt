-- Batches as segments: what is found in them, and where a new one goes.
use Rattle.std.proofs.Common.{◌≡◌, ℕ, zero, suc, ◌<◌, ◌≤◌, ◌-◌, Bool, true, false, not, nat_lt, ◌&&◌, ◌||◌, ◌==◌, List, [], ◌∷◌, ◌++◌, length, get_or, set, drop, cond, Option, Some, None, Result, Ok, Err, IfOk, IfErr, OnOk, OnErr, slice_get, refl, sym, ◌∙◌, subst, ap, arith, if◌then◌else◌}
use Rattle.std.specs.Prelude.{insert}
use Rattle.std.specs.Option.{option_or}
use Rattle.std.specs.List.{AllByRecursion}
use Rattle.std.specs.List.Sorted.{IsSearchInRange, IsBinarySearchResult}
use Rattle.std.specs.Ordering.{nat_cmp, ordering_index}
use Rattle.std.specs.declared.cmp.Ordering.TheVariants.{Less, Equal, Greater}
use Rattle.std.proofs.lemmas.Bool.{ne_eqb}
use Rattle.std.proofs.lemmas.Bool.Decides.{nat_tests}
use Rattle.std.proofs.lemmas.List.{append-nil, get_or_default}
use Rattle.ndc_event.specs.Key.{key_lt, key_eq}
use Rattle.ndc_event.specs.declared.batch.Batch.{Batch}
use Rattle.ndc_event.specs.declared.key.BatchKey.{BatchKey}
use Rattle.ndc_model_sets.specs.Last.{first_from, last_batch, is_nil}
use Rattle.ndc_model_sets.specs.Sets.{ComeAfter, batch_at, arrived}
use Rattle.ndc_model_sets.proofs.Lists.{all-join}
use Rattle.ndc_model_sets.proofs.SetLemmas.{at-append, none-there}
use Rattle.ndc_tree.specs.declared.batches.Segment.{Segment}
use Rattle.ndc_tree.specs.Segments.{AreSegments, IsSegment, against, flat}
use Rattle.ndc_event.specs.Sorted.{Hits, Parts}
use Rattle.ndc_event.proofs.SortedLemmas.{searched, hits, all_follow, all-insert, order-insert}
use Rattle.ndc_model_sets.proofs.EventLemmas.{before-suc}

pub cmp-less : (a b : ℕ) → nat_cmp a b ≡ Less → a < b
cmp-less a b = grind (arith, nat_tests)

pub cmp-greater : (a b : ℕ) → nat_cmp a b ≡ Greater → b < a
cmp-greater a b = grind (arith, nat_tests)

pub cmp-equal : (a b : ℕ) → nat_cmp a b ≡ Equal → a ≡ b
cmp-equal a b = grind (arith, nat_tests)

less-cmp : (a b : ℕ) → a < b → nat_cmp a b ≡ Less
less-cmp a b = grind (arith, nat_tests)

equal-cmp : (a b : ℕ) → a ≡ b → nat_cmp a b ≡ Equal
equal-cmp a b = grind (arith, nat_tests)

cmp-rises : (v a b : ℕ) → a < b → ordering_index (nat_cmp a v) ≤ ordering_index (nat_cmp b v)
cmp-rises v a b l = grind (arith, nat_tests)

-- the versions of two segments rise
abbrev pub rises : Segment → Segment → Type 0
rises one two = one.version < two.version

module _ (version : ℕ) where
  before-hit : (one two : Segment) → rises one two → against version two ≡ Equal → against version one ≡ Less
  before-hit one two l e = less-cmp one.version version (let same = cmp-equal two.version version e in omega (arith, l, same))

  -- a search among the versions hits or parts
  pub version-place : (segments : List Segment) → AreSegments segments → (r : Result ℕ ℕ) → IsSearchInRange r (length segments) → IsBinarySearchResult (against version) segments r
      → record { found : IfOk r (Hits (against version) segments); absent : IfErr r (Parts (against version) segments) }
  version-place segments are r within ends =
      searched rises (against version) (λ one two l. cmp-rises version one.version two.version l) before-hit segments are.0 r within ends

  -- a segment of the version hits
  pub hinted : (segments : List Segment) (place : ℕ) (s : Segment) → AreSegments segments → place < length segments → s ≡ get_or segments place s → s.version ≡ version
      → Hits (against version) segments place
  hinted segments place s are l at own =
      hits rises (against version) (λ one two l. cmp-rises version one.version two.version l) before-hit segments place are.0 l
      (λ d. equal-cmp (get_or segments place d).version version (ap (λ (t : Segment). t.version) (get_or_default segments place d s l ∙ sym at) ∙ own))

-- the tests of keys of different versions
pub record Apart (one two : BatchKey) : Type 0 where
  pub lt : key_lt one two ≡ true
  pub gt : key_lt two one ≡ false
  pub eq : key_eq one two ≡ false
  pub qe : key_eq two one ≡ false

numbers-lt : (a b x y : ℕ) → a < x → (nat_lt a x || (a == x) && nat_lt b y) ≡ true
numbers-lt a b x y l = grind (arith, nat_tests)

numbers-gt : (a b x y : ℕ) → a < x → (nat_lt x a || (x == a) && nat_lt y b) ≡ false
numbers-gt a b x y l = grind (arith, nat_tests)

numbers-eq : (a b x y : ℕ) → a < x → ((a == x) && (b == y)) ≡ false
numbers-eq a b x y l = grind (arith, nat_tests)

numbers-qe : (a b x y : ℕ) → a < x → ((x == a) && (y == b)) ≡ false
numbers-qe a b x y l = grind (arith, nat_tests)

pub apart : (one two : BatchKey) → one.version < two.version → Apart one two
apart one two l = record {
  lt = numbers-lt one.version one.task two.version two.task l;
  gt = numbers-gt one.version one.task two.version two.task l;
  eq = numbers-eq one.version one.task two.version two.task l;
  qe = numbers-qe one.version one.task two.version two.task l;
}

-- batches of smaller versions before it are passed over
abbrev pub AreBelow : ℕ → List Batch → Type 0
AreBelow version batches = AllByRecursion (λ b. b.key.version < version) batches

skip-at : (key : BatchKey) (front back : List Batch) → AreBelow key.version front → batch_at key (front ++ back) ≡ batch_at key back
skip-at key [] back below = refl
skip-at key (b ∷ front) back below = rw (apart b.key key below.0).eq (skip-at key front back below.1)

skip-first : (key : BatchKey) (front back : List Batch) → AreBelow key.version front → first_from key (front ++ back) ≡ first_from key back
skip-first key [] back below = refl
skip-first key (b ∷ front) back below = rw (apart b.key key below.0).lt (skip-first key front back below.1)

skip-arrived : (new : Batch) (front back : List Batch) → AreBelow new.key.version front → arrived new (front ++ back) ≡ front ++ arrived new back
skip-arrived new [] back below = refl
skip-arrived new (b ∷ front) back below =
    let t = apart b.key new.key below.0 in rw (t.gt, t.qe) (ap (λ l. b ∷ l) (skip-arrived new front back below.1))

-- batches of greater versions after it are not reached
none-or : (o : Option Batch) → option_or o None ≡ o
none-or None = refl
none-or (Some b) = refl

keep-at : (key : BatchKey) (front back : List Batch) → ComeAfter key back → batch_at key (front ++ back) ≡ batch_at key front
keep-at key front back after = at-append front back key ∙ ap (option_or (batch_at key front)) (none-there back key after) ∙ none-or (batch_at key front)

first-after : (key : BatchKey) (batches : List Batch) → ComeAfter key batches → first_from key batches ≡ slice_get batches 0
first-after key [] after = refl
first-after key (b ∷ batches) after = rw (not-before b.key after.0) refl
  where
    numbers : (a b x y : ℕ) → (nat_lt a x || (a == x) && nat_lt b y) ≡ true → (nat_lt x a || (x == a) && nat_lt y b) ≡ false
    numbers a b x y l = grind (arith, nat_tests)

    not-before : (other : BatchKey) → key_lt key other ≡ true → key_lt other key ≡ false
    not-before other l = numbers key.version key.task other.version other.task l

keep-first : (key : BatchKey) (front back : List Batch) → ComeAfter key back → first_from key (front ++ back) ≡ option_or (first_from key front) (slice_get back 0)
keep-first key [] back after = first-after key back after
keep-first key (b ∷ front) back after = by (key_lt b.key key) (keep-first key front back after)
  where
    by : (t : Bool) → first_from key (front ++ back) ≡ option_or (first_from key front) (slice_get back 0)
        → cond (not t) (Some b) (first_from key (front ++ back)) ≡ option_or (cond (not t) (Some b) (first_from key front)) (slice_get back 0)
    by true rest = rest
    by false rest = refl

first-arrived : (new : Batch) (batches : List Batch) → ComeAfter new.key batches → arrived new batches ≡ new ∷ batches
first-arrived new [] after = refl
first-arrived new (b ∷ batches) after = rw after.0 refl

keep-arrived : (new : Batch) (front back : List Batch) → ComeAfter new.key back → arrived new (front ++ back) ≡ arrived new front ++ back
keep-arrived new [] back after = first-arrived new back after
keep-arrived new (b ∷ front) back after = by (key_lt new.key b.key) (key_eq new.key b.key) refl refl (keep-arrived new front back after)
  where
    by : (l e : Bool) → key_lt new.key b.key ≡ l → key_eq new.key b.key ≡ e → arrived new (front ++ back) ≡ arrived new front ++ back
        → arrived new (b ∷ front ++ back) ≡ arrived new (b ∷ front) ++ back
    by true e f g rest = rw f refl
    by false true f g rest = rw (f, g) refl
    by false false f g rest = rw (f, g) (ap (λ l. b ∷ l) rest)

-- the batches of a segment of a smaller version are below
segment-below : (version : ℕ) (s : Segment) → IsSegment s → s.version < version → AreBelow version s.chain
segment-below version s is l =
    all_follow (λ (b : Batch). b.key.version ≡ s.version) (λ b. b.key.version < version) s.chain (λ b e. omega (arith, e, l)) is.own

-- the batches of segments of greater versions come after
segments-after : (key : BatchKey) (segments : List Segment) → AllByRecursion IsSegment segments → AllByRecursion (λ s. key.version < s.version) segments → ComeAfter key (flat segments)
segments-after key [] are above = tt
segments-after key (s ∷ segments) are above =
    all-join (λ b. key_lt key b.key ≡ true) s.chain (flat segments)
    (all_follow (λ (b : Batch). b.key.version ≡ s.version) (λ b. key_lt key b.key ≡ true) s.chain
    (λ b e. let l = above.0 in (apart key b.key (omega (arith, e, l))).lt) are.0.own)
    (segments-after key segments are.1 above.1)

module _ (key : BatchKey) where
  above-all : (version : ℕ) (segments : List Segment) → version ≡ key.version → AllByRecursion (λ s. version < s.version) segments → AllByRecursion (λ (s : Segment). key.version < s.version) segments
  above-all version segments e all = all_follow (λ (s : Segment). version < s.version) (λ s. key.version < s.version) segments (λ s l. omega (arith, e, l)) all

  -- what is found among all batches is found in the segment of the version
  pub hit-at : (segments : List Segment) (place : ℕ) (s : Segment) → AreSegments segments → Hits (against key.version) segments place → s ≡ get_or segments place s
      → batch_at key (flat segments) ≡ batch_at key s.chain
  hit-at [] place s are h at = absurd h
  hit-at (x ∷ segments) zero s are h at =
      ap (λ (t : Segment). batch_at key (t.chain ++ flat segments)) (sym at)
      ∙ keep-at key s.chain (flat segments) (segments-after key segments are.1.1 (above-all x.version segments (cmp-equal x.version key.version h) are.0.0))
  hit-at (x ∷ segments) (suc place) s are h at =
      skip-at key x.chain (flat segments) (segment-below key.version x are.1.0 (cmp-less x.version key.version h.0))
      ∙ hit-at segments place s (are.0.1, are.1.1) h.1 at

  pub hit-first : (segments : List Segment) (place : ℕ) (s : Segment) → AreSegments segments → Hits (against key.version) segments place → s ≡ get_or segments place s
      → first_from key (flat segments) ≡ option_or (first_from key s.chain) (slice_get (flat (drop (suc place) segments)) 0)
  hit-first [] place s are h at = absurd h
  hit-first (x ∷ segments) zero s are h at =
      ap (λ (t : Segment). first_from key (t.chain ++ flat segments)) (sym at)
      ∙ keep-first key s.chain (flat segments) (segments-after key segments are.1.1 (above-all x.version segments (cmp-equal x.version key.version h) are.0.0))
  hit-first (x ∷ segments) (suc place) s are h at =
      skip-first key x.chain (flat segments) (segment-below key.version x are.1.0 (cmp-less x.version key.version h.0))
      ∙ hit-first segments place s (are.0.1, are.1.1) h.1 at

  greater-all : (segments : List Segment) → AllByRecursion (λ s. against key.version s ≡ Greater) segments → AllByRecursion (λ s. key.version < s.version) segments
  greater-all segments all = all_follow (λ s. against key.version s ≡ Greater) (λ s. key.version < s.version) segments (λ s l. cmp-greater s.version key.version l) all

  -- where there is no segment of the version, no batch of it is found
  pub part-at : (segments : List Segment) (place : ℕ) → AreSegments segments → Parts (against key.version) segments place → batch_at key (flat segments) ≡ None
  part-at segments zero are h = none-there (flat segments) key (segments-after key segments are.1 (greater-all segments h))
  part-at [] (suc place) are h = absurd h
  part-at (x ∷ segments) (suc place) are h =
      skip-at key x.chain (flat segments) (segment-below key.version x are.1.0 (cmp-less x.version key.version h.0))
      ∙ part-at segments place (are.0.1, are.1.1) h.1

  pub part-first : (segments : List Segment) (place : ℕ) → AreSegments segments → Parts (against key.version) segments place
      → first_from key (flat segments) ≡ slice_get (flat (drop place segments)) 0
  part-first segments zero are h = first-after key (flat segments) (segments-after key segments are.1 (greater-all segments h))
  part-first [] (suc place) are h = absurd h
  part-first (x ∷ segments) (suc place) are h =
      skip-first key x.chain (flat segments) (segment-below key.version x are.1.0 (cmp-less x.version key.version h.0))
      ∙ part-first segments place (are.0.1, are.1.1) h.1

-- the segment with a batch more
abbrev pub with_chain : Segment → List Batch → Segment
with_chain s chain = record s { chain = chain }

module _ (new : Batch) where
  -- the segments with this batch in one of them
  abbrev pub filled : List Segment → ℕ → Segment → List Segment
  filled segments place s = set segments place (with_chain s (arrived new s.chain))

  pub hit-arrived : (segments : List Segment) (place : ℕ) (s : Segment) → AreSegments segments → Hits (against new.key.version) segments place → s ≡ get_or segments place s
      → flat (filled segments place s) ≡ arrived new (flat segments)
  hit-arrived [] place s are h at = absurd h
  hit-arrived (x ∷ segments) zero s are h at =
      sym (ap (λ (t : Segment). arrived new (t.chain ++ flat segments)) (sym at)
      ∙ keep-arrived new s.chain (flat segments) (segments-after new.key segments are.1.1 (above-all new.key x.version segments (cmp-equal x.version new.key.version h) are.0.0)))
  hit-arrived (x ∷ segments) (suc place) s are h at =
      ap (λ l. x.chain ++ l) (hit-arrived segments place s (are.0.1, are.1.1) h.1 at)
      ∙ sym (skip-arrived new x.chain (flat segments) (segment-below new.key.version x are.1.0 (cmp-less x.version new.key.version h.0)))

  arrived-some : (batches : List Batch) → is_nil (arrived new batches) ≡ false
  arrived-some [] = refl
  arrived-some (b ∷ batches) = by (key_lt new.key b.key) (key_eq new.key b.key)
    where
      by : (l e : Bool) → is_nil (if l then new ∷ b ∷ batches else if e then b ∷ batches else b ∷ arrived new batches) ≡ false
      by true e = refl
      by false true = refl
      by false false = refl

  arrived-all : (P : Batch → Type 0) (batches : List Batch) → P new → AllByRecursion P batches → AllByRecursion P (arrived new batches)
  arrived-all P [] p all = (p, tt)
  arrived-all P (b ∷ batches) p all = by (key_lt new.key b.key) (key_eq new.key b.key) (arrived-all P batches p all.1)
    where
      by : (l e : Bool) → AllByRecursion P (arrived new batches) → AllByRecursion P (if l then new ∷ b ∷ batches else if e then b ∷ batches else b ∷ arrived new batches)
      by true e rest = (p, all)
      by false true rest = all
      by false false rest = (all.0, rest)

  filled-above : (version : ℕ) (segments : List Segment) (place : ℕ) (s : Segment) → s ≡ get_or segments place s
      → AllByRecursion (λ t. version < t.version) segments → AllByRecursion (λ t. version < t.version) (filled segments place s)
  filled-above version [] place s at all = all
  filled-above version (x ∷ segments) zero s at all = (subst (λ (t : Segment). version < t.version) (sym at) all.0, all.1)
  filled-above version (x ∷ segments) (suc place) s at all = (all.0, filled-above version segments place s at all.1)

  -- they stay segments
  pub filled-are : (segments : List Segment) (place : ℕ) (s : Segment) → AreSegments segments → Hits (against new.key.version) segments place → s ≡ get_or segments place s
      → AreSegments (filled segments place s)
  filled-are [] place s are h at = absurd h
  filled-are (x ∷ segments) zero s are h at =
      let own : IsSegment s = subst IsSegment (sym at) are.1.0 in
      let version : new.key.version ≡ s.version = sym (cmp-equal x.version new.key.version h) ∙ sym (ap (λ (t : Segment). t.version) at) in (
        (subst (λ (t : Segment). AllByRecursion (λ u. t.version < u.version) segments) (sym at) are.0.0, are.0.1),
        (record { some = arrived-some s.chain; own = arrived-all (λ b. b.key.version ≡ s.version) s.chain version own.own }, are.1.1),
      )
  filled-are (x ∷ segments) (suc place) s are h at =
      let rest = filled-are segments place s (are.0.1, are.1.1) h.1 at in
      ((filled-above x.version segments place s at are.0.0, rest.0), (are.1.0, rest.1))

  -- a segment with this batch alone
  module _ (s : Segment) (version : s.version ≡ new.key.version) (chain : s.chain ≡ new ∷ []) where
    pub part-arrived : (segments : List Segment) (place : ℕ) → AreSegments segments → Parts (against new.key.version) segments place
        → flat (insert segments place s) ≡ arrived new (flat segments)
    part-arrived segments zero are h =
        ap (λ l. l ++ flat segments) chain ∙ sym (first-arrived new (flat segments) (segments-after new.key segments are.1 (greater-all new.key segments h)))
    part-arrived [] (suc place) are h = absurd h
    part-arrived (x ∷ segments) (suc place) are h =
        ap (λ l. x.chain ++ l) (part-arrived segments place (are.0.1, are.1.1) h.1)
        ∙ sym (skip-arrived new x.chain (flat segments) (segment-below new.key.version x are.1.0 (cmp-less x.version new.key.version h.0)))

    alone : IsSegment s
    alone = record {
      some = ap is_nil chain;
      own = subst (λ l. AllByRecursion (λ b. b.key.version ≡ s.version) l) (sym chain) (sym version, tt);
    }

    pub part-are : (segments : List Segment) (place : ℕ) → AreSegments segments → Parts (against new.key.version) segments place → AreSegments (insert segments place s)
    part-are segments place are h = (
      order-insert rises (against new.key.version) s
          (λ t e. let l = cmp-less t.version new.key.version e in omega (arith, l, version))
          (λ t e. let l = cmp-greater t.version new.key.version e in omega (arith, l, version)) segments place h are.0,
      all-insert IsSegment segments place s are.1 alone,
    )

-- a segment put in its own place is no change
pub same-segment : (segments : List Segment) (place : ℕ) (s : Segment) (chain : List Batch) → s ≡ get_or segments place s → chain ≡ s.chain → set segments place (with_chain s chain) ≡ segments
same-segment [] place s chain at e = refl
same-segment (x ∷ segments) zero s chain at e =
    ap (λ (t : Segment). t ∷ segments) (ap (with_chain s) e ∙ at)
same-segment (x ∷ segments) (suc place) s chain at e = ap (λ l. x ∷ l) (same-segment segments place s chain at e)

-- segments with no batch are none
pub flat-nil : (segments : List Segment) → AllByRecursion IsSegment segments → is_nil (flat segments) ≡ (length segments == 0)
flat-nil [] are = refl
flat-nil (s ∷ segments) are = by s.chain are.0.some ∙ sym (ne_eqb (suc (length segments)) 0 (λ e. absurd (omega (arith, e))))
  where
    by : (chain : List Batch) → is_nil chain ≡ false → is_nil (chain ++ flat segments) ≡ false
    by [] h = absurd (cc)
    by (b ∷ chain) h = refl

last-join : (xs ys : List Batch) → last_batch (xs ++ ys) ≡ option_or (last_batch ys) (last_batch xs)
last-join [] ys = by (last_batch ys)
  where
    by : (o : Option Batch) → o ≡ option_or o None
    by None = refl
    by (Some b) = refl
last-join (x ∷ xs) ys = ap (λ o. option_or o (Some x)) (last-join xs ys) ∙ by (last_batch ys) (last_batch xs)
  where
    by : (o p : Option Batch) → option_or (option_or o p) (Some x) ≡ option_or o (option_or p (Some x))
    by None p = refl
    by (Some b) p = refl

last-some : (x : Batch) (xs : List Batch) (o : Option Batch) → option_or (last_batch (x ∷ xs)) o ≡ last_batch (x ∷ xs)
last-some x xs o = by (last_batch xs)
  where
    by : (p : Option Batch) → option_or (option_or p (Some x)) o ≡ option_or p (Some x)
    by None = refl
    by (Some b) = refl

-- the last batch is that of the last segment
flat-last-up : (segments : List Segment) (i : ℕ) (s : Segment) → AllByRecursion IsSegment segments → length segments ≡ suc i → slice_get segments i ≡ Some s → last_batch (flat segments) ≡ last_batch s.chain
flat-last-up [] i s are n at = absurd (cc)
flat-last-up (x ∷ []) zero s are n at = let same : x ≡ s = cc in ap last_batch (append-nil x.chain) ∙ ap (λ (t : Segment). last_batch t.chain) same
flat-last-up (x ∷ []) (suc i) s are n at = absurd (cc)
flat-last-up (x ∷ y ∷ segments) zero s are n at = absurd (omega (arith, n))
flat-last-up (x ∷ y ∷ segments) (suc i) s are n at =
    last-join x.chain (flat (y ∷ segments)) ∙ by y.chain are.1.0.some ∙ flat-last-up (y ∷ segments) i s are.1 (omega (arith, n)) at
  where
    by : (chain : List Batch) → is_nil chain ≡ false → option_or (last_batch (chain ++ flat segments)) (last_batch x.chain) ≡ last_batch (chain ++ flat segments)
    by [] h = absurd (cc)
    by (b ∷ chain) h = last-some b (chain ++ flat segments) (last_batch x.chain)

pub flat-last : (segments : List Segment) (s : Segment) → AllByRecursion IsSegment segments → slice_get segments (length segments - 1) ≡ Some s → last_batch (flat segments) ≡ last_batch s.chain
flat-last [] s are at = absurd (cc)
flat-last (x ∷ segments) s are at =
    flat-last-up (x ∷ segments) (length segments) s are refl (sym (ap (slice_get (x ∷ segments)) (before-suc (length segments))) ∙ at)

-- the last of a chain
last-at-up : (batches : List Batch) (i : ℕ) → length batches ≡ suc i → slice_get batches i ≡ last_batch batches
last-at-up [] i n = absurd (cc)
last-at-up (b ∷ []) zero n = refl
last-at-up (b ∷ []) (suc i) n = absurd (cc)
last-at-up (b ∷ x ∷ batches) zero n = absurd (omega (arith, n))
last-at-up (b ∷ x ∷ batches) (suc i) n = last-at-up (x ∷ batches) i (omega (arith, n)) ∙ by (last_batch batches)
  where
    by : (o : Option Batch) → option_or o (Some x) ≡ option_or (option_or o (Some x)) (Some b)
    by None = refl
    by (Some y) = refl

pub last-at : (batches : List Batch) → slice_get batches (length batches - 1) ≡ last_batch batches
last-at [] = refl
last-at (b ∷ batches) = ap (slice_get (b ∷ batches)) (before-suc (length batches)) ∙ last-at-up (b ∷ batches) (length batches) refl

-- no segment is left after the last
pub beyond : (segments : List Segment) (place : ℕ) → length segments ≤ place → flat (drop place segments) ≡ []
beyond [] zero l = refl
beyond [] (suc place) l = refl
beyond (s ∷ segments) zero l = absurd (omega (arith, l))
beyond (s ∷ segments) (suc place) l = beyond segments place (omega (arith, l))

-- the first of the segments from a place on has the first of their batches
pub first-at : (segments : List Segment) (place : ℕ) (s : Segment) → AllByRecursion IsSegment segments → place < length segments → s ≡ get_or segments place s → slice_get s.chain 0 ≡ slice_get (flat (drop place segments)) 0
first-at [] place s are l at = absurd (omega (arith, l))
first-at (x ∷ segments) zero s are l at = ap (λ (t : Segment). slice_get t.chain 0) at ∙ by x.chain are.0.some
  where
    by : (chain : List Batch) → is_nil chain ≡ false → slice_get chain 0 ≡ slice_get (chain ++ flat segments) 0
    by [] h = absurd (cc)
    by (b ∷ chain) h = refl
first-at (x ∷ segments) (suc place) s are l at = first-at segments place s are.1 (omega (arith, l)) at

-- what became of a segment that a batch was put into, or that stayed for want of memory
module _ {Y Z : Type 0} (new : Batch) (segments : List Segment) (place : ℕ) (s : Segment) (chain : List Batch) (are : AreSegments segments)
    (hit : Hits (against new.key.version) segments place) (at : s ≡ get_or segments place s) where
  pub put-are : (r : Result Y Z) → OnOk r (chain ≡ arrived new s.chain) → OnErr r (chain ≡ s.chain) → AreSegments (set segments place (with_chain s chain))
  put-are (Ok y) ok err = subst (λ (l : List Batch). AreSegments (set segments place (with_chain s l))) (sym ok) (filled-are new segments place s are hit at)
  put-are (Err z) ok err = subst AreSegments (sym (same-segment segments place s chain at err)) are

  pub put-ok : (r : Result Y Z) → OnOk r (chain ≡ arrived new s.chain) → OnOk r (flat (set segments place (with_chain s chain)) ≡ arrived new (flat segments))
  put-ok (Ok y) ok = ap (λ (l : List Batch). flat (set segments place (with_chain s l))) ok ∙ hit-arrived new segments place s are hit at
  put-ok (Err z) ok = tt

  pub put-err : (r : Result Y Z) → OnErr r (chain ≡ s.chain) → OnErr r (flat (set segments place (with_chain s chain)) ≡ flat segments)
  put-err (Ok y) err = tt
  put-err (Err z) err = ap flat (same-segment segments place s chain at err)

-- what became of the segments that a new one was put into, or that stayed
module _ {Y Z : Type 0} (new : Batch) (segments after : List Segment) (place : ℕ) (s : Segment) (are : AreSegments segments)
    (part : Parts (against new.key.version) segments place) (version : s.version ≡ new.key.version) (chain : s.chain ≡ new ∷ []) where
  pub begun-are : (r : Result Y Z) → OnOk r (after ≡ insert segments place s) → OnErr r (after ≡ segments) → AreSegments after
  begun-are (Ok y) ok err = subst AreSegments (sym ok) (part-are new s version chain segments place are part)
  begun-are (Err z) ok err = subst AreSegments (sym err) are

  pub begun-ok : (r : Result Y Z) → OnOk r (after ≡ insert segments place s) → OnOk r (flat after ≡ arrived new (flat segments))
  begun-ok (Ok y) ok = ap flat ok ∙ part-arrived new s version chain segments place are part
  begun-ok (Err z) ok = tt
