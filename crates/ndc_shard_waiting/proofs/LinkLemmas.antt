-- Links in their set.
use Rattle.std.proofs.Common.{◌≡◌, ℕ, nat_lt, ◌==◌, Bool, true, false, not, ◌&&◌, ◌||◌, List, [], ◌∷◌, cond, if◌then◌else◌, refl, ap, sym, ◌∙◌, subst, arith, true≢false}
use Rattle.std.proofs.lemmas.Bool.Decides.{nat_tests}
use Rattle.std.proofs.lemmas.Map.Views.{any-filter_same}
use Rattle.std.specs.BTreeMap.{is_at}
use Rattle.std.specs.Ordering.{nat_cmp, ordering_then, is_eq, is_le}
use Rattle.std.specs.List.{AllByRecursion, list_any, filter}
use Rattle.std.specs.List.Sorted.{IsStrictlySortedBy}
use Rattle.std.specs.declared.cmp.Ordering.{Ordering}
use Rattle.std.specs.declared.cmp.Ordering.TheVariants.{Less, Equal, Greater}
use Rattle.ndc_event.specs.Key.{key_lt, key_eq}
use Rattle.ndc_event.specs.declared.key.BatchKey.{BatchKey}
use Rattle.ndc_model_sets.proofs.KeyLemmas.{key_eq-self, same-keys, before-irrefl, before-trans, before-total}
use Rattle.ndc_model_sets.proofs.Lists.{filter-cases}
use Rattle.std.proofs.lemmas.Bool.{and_parts, and_from}
use Rattle.ndc_shard_waiting.proofs.OrderLemmas.{all-more}
use Rattle.ndc_model_sets.proofs.KeyOrder.{key_cmp, key_cmp-by, key_cmp-same, key_cmp-from}
use Rattle.ndc_model_sets.specs.Keys.{is_key_among, with_key}
use Rattle.ndc_shard_waiting.specs.Linking.{is_link, is_linked}
use Rattle.ndc_shard_waiting.specs.declared.links.Link.{Link}

-- links compare by earlier key and then by own key
abbrev pub link_cmp : Link → Link → Ordering
link_cmp one two = ordering_then (key_cmp one.earlier two.earlier) (key_cmp one.own two.own)

-- the same, by numbers
abbrev pub link_order : Link → Link → Ordering
link_order one two =
    ordering_then (ordering_then (nat_cmp one.earlier.version two.earlier.version) (nat_cmp one.earlier.task two.earlier.task))
    (ordering_then (nat_cmp one.own.version two.own.version) (nat_cmp one.own.task two.own.task))

pub link_cmp-by : (one two : Link) → link_order one two ≡ link_cmp one two
link_cmp-by one two =
    ap (λ o. ordering_then o (ordering_then (nat_cmp one.own.version two.own.version) (nat_cmp one.own.task two.own.task))) (key_cmp-by one.earlier two.earlier)
    ∙ ap (ordering_then (key_cmp one.earlier two.earlier)) (key_cmp-by one.own two.own)

then-eq : (a b : Ordering) → is_eq (ordering_then a b) ≡ (is_eq a && is_eq b)
then-eq Less b = refl
then-eq Equal b = refl
then-eq Greater b = refl

-- keys are one either way round
pub turn : (a b : BatchKey) → key_eq a b ≡ key_eq b a
turn a b = by (key_eq a b) refl (key_eq b a) refl
  where
    by : (t : Bool) → key_eq a b ≡ t → (u : Bool) → key_eq b a ≡ u → t ≡ u
    by true e true f = refl
    by false e false f = refl
    by true e false f = absurd (true≢false (sym (subst (λ (k : BatchKey). key_eq b k ≡ true) (sym (same-keys a b e)) (key_eq-self b)) ∙ f))
    by false e true f = absurd (true≢false (sym (subst (λ (k : BatchKey). key_eq a k ≡ true) (sym (same-keys b a f)) (key_eq-self a)) ∙ e))

flip : (earlier own before one : BatchKey) → is_link earlier own before one ≡ is_link before one earlier own
flip earlier own before one = ap (λ t. t && key_eq one own) (turn before earlier) ∙ ap (λ t. key_eq earlier before && t) (turn one own)

module _ (cmp : Link → Link → Ordering) (law : (a b : Link) → cmp a b ≡ link_cmp a b) where
  pub at-link : (earlier own : BatchKey) (other : Link) → is_at (cmp (record { earlier = earlier; own = own })) other ≡ is_link earlier own other.earlier other.own
  at-link earlier own other =
      ap is_eq (law (record { earlier = earlier; own = own }) other)
      ∙ then-eq (key_cmp earlier other.earlier) (key_cmp own other.own)
      ∙ ap (λ t. t && is_eq (key_cmp own other.own)) (key_cmp-same earlier other.earlier) ∙ ap (λ t. key_eq other.earlier earlier && t) (key_cmp-same own other.own)

  pub contains-link : (earlier own : BatchKey) (links : List Link) → list_any (is_at (cmp (record { earlier = earlier; own = own }))) links ≡ is_linked earlier own links
  contains-link earlier own links = ap (λ t. list_any t links) (λ i other. at-link earlier own other i)

  -- a link that was put is there beside the others
  pub linked-more : (earlier own : BatchKey) (links more : List Link)
      → ((q : Link) → list_any (is_at (cmp q)) more ≡ cond (is_at (cmp (record { earlier = earlier; own = own })) q) true (list_any (is_at (cmp q)) links))
      → (before one : BatchKey) → is_linked before one more ≡ (is_link before one earlier own || is_linked before one links)
  linked-more earlier own links more e before one =
      sym (contains-link before one more) ∙ e (record { earlier = before; own = one })
      ∙ ap (λ t. cond t true (list_any (is_at (cmp (record { earlier = before; own = one }))) links)) (at-link earlier own (record { earlier = before; own = one }) ∙ flip earlier own before one)
      ∙ ap (λ t. cond (is_link before one earlier own) true t) (contains-link before one links) ∙ or-is (is_link before one earlier own) (is_linked before one links)
    where
      or-is : (t u : Bool) → cond t true u ≡ (t || u)
      or-is true u = refl
      or-is false u = refl

  -- a link that was taken is there no more
  pub linked-less : (earlier own : BatchKey) (links less : List Link)
      → ((q : Link) → list_any (is_at (cmp q)) less ≡ cond (is_at (cmp (record { earlier = earlier; own = own })) q) false (list_any (is_at (cmp q)) links))
      → (before one : BatchKey) → is_linked before one less ≡ (not (is_link before one earlier own) && is_linked before one links)
  linked-less earlier own links less e before one =
      sym (contains-link before one less) ∙ e (record { earlier = before; own = one })
      ∙ ap (λ t. cond t false (list_any (is_at (cmp (record { earlier = before; own = one }))) links)) (at-link earlier own (record { earlier = before; own = one }) ∙ flip earlier own before one)
      ∙ ap (λ t. cond (is_link before one earlier own) false t) (contains-link before one links) ∙ and-is (is_link before one earlier own) (is_linked before one links)
    where
      and-is : (t u : Bool) → cond t false u ≡ (not t && u)
      and-is true u = refl
      and-is false u = refl

-- the links stand by earlier key
abbrev pub Climb : List Link → Type 0
Climb [] = Unit {0}
Climb (link ∷ links) = AllByRecursion (λ other. key_lt other.earlier link.earlier ≡ false) links × Climb links

-- the keys now, with those that wait for a key by the links left, are the keys before with those that wait for it by all links
pub record Wakes (earlier : BatchKey) (links : List Link) (before now : List BatchKey) (rest : List Link) : Type 0 where
  pub all : (one : BatchKey) → (is_key_among one now || is_linked earlier one rest) ≡ (is_key_among one before || is_linked earlier one links)
  pub climb : Climb rest
  pub from : AllByRecursion (λ link. key_lt link.earlier earlier ≡ false) rest

not-greater : (one two : BatchKey) → is_le (key_cmp one two) ≡ true → key_lt two one ≡ false
not-greater one two h = unnot (key_lt two one) (sym (key_cmp-from one two) ∙ h)
  where
    unnot : (t : Bool) → not t ≡ true → t ≡ false
    unnot true e = absurd (true≢false (sym e))
    unnot false e = refl

then-le : (a b : Ordering) → is_le (ordering_then a b) ≡ true → is_le a ≡ true
then-le Less b h = refl
then-le Equal b h = refl
then-le Greater b h = h

then-less : (a b : Ordering) → ordering_then a b ≡ Less → is_le a ≡ true
then-less Less b h = refl
then-less Equal b h = refl
then-less Greater b h = absurd (cc)

-- the least key
abbrev pub least : BatchKey
least = record { version = 0; task = 0 }

none-less : (a b : ℕ) → (nat_lt a 0 || (a == 0) && nat_lt b 0) ≡ false
none-less a b = grind (arith, nat_tests)

least-first : (key : BatchKey) → is_le (key_cmp least key) ≡ true
least-first key = key_cmp-from least key ∙ ap not (none-less key.version key.task)

all-filter : (P : Link → Type 0) (p : Link → Bool) (links : List Link) → AllByRecursion P links → AllByRecursion P (filter p links)
all-filter P p [] all = tt
all-filter P p (x ∷ xs) all = filter-cases (AllByRecursion P) p x xs (λ _. (all.0, all-filter P p xs all.1)) (λ _. all-filter P p xs all.1)

filter-passes : (p : Link → Bool) (links : List Link) → AllByRecursion (λ link. p link ≡ true) (filter p links)
filter-passes p [] = tt
filter-passes p (x ∷ xs) = filter-cases (AllByRecursion (λ link. p link ≡ true)) p x xs (λ e. (e, filter-passes p xs)) (λ _. filter-passes p xs)

climb-filter : (p : Link → Bool) (links : List Link) → Climb links → Climb (filter p links)
climb-filter p [] climb = tt
climb-filter p (x ∷ xs) climb =
    filter-cases Climb p x xs (λ _. (all-filter (λ other. key_lt other.earlier x.earlier ≡ false) p xs climb.0, climb-filter p xs climb.1)) (λ _. climb-filter p xs climb.1)

module _ (cmp : Link → Link → Ordering) (law : (a b : Link) → cmp a b ≡ link_cmp a b) where
  sorted-climb : (links : List Link) → IsStrictlySortedBy cmp links → Climb links
  unfolding IsStrictlySortedBy
  sorted-climb [] sorted = tt
  sorted-climb (x ∷ xs) sorted = (
    all-more (λ y. cmp x y ≡ Less) (λ other. key_lt other.earlier x.earlier ≡ false)
        (λ y h. not-greater x.earlier y.earlier (then-less (key_cmp x.earlier y.earlier) (key_cmp x.own y.own) (sym (law x y) ∙ h))) xs sorted.0,
    sorted-climb xs sorted.1,
  )

  -- at the first link from a key on
  pub wakes-start : (earlier : BatchKey) (links : List Link) (before : List BatchKey) (part : List Link) → IsStrictlySortedBy cmp links
      → part ≡ filter (λ q. is_le (cmp (record { earlier = earlier; own = least }) q) && not false) links → Wakes earlier links before before part
  wakes-start earlier links before part sorted e = subst (Wakes earlier links before before) (sym e) (record {
    all = λ one. ap (λ t. is_key_among one before || t)
        (any-filter_same (λ link. is_link earlier one link.earlier link.own) (λ q. is_le (cmp (record { earlier = earlier; own = least }) q) && not false) true (λ k h. reached one k h) links);
    climb = climb-filter (λ q. is_le (cmp (record { earlier = earlier; own = least }) q) && not false) links (sorted-climb links sorted);
    from = all-more (λ q. (is_le (cmp (record { earlier = earlier; own = least }) q) && not false) ≡ true) (λ link. key_lt link.earlier earlier ≡ false)
        (λ q h. not-greater earlier q.earlier
        (then-le (key_cmp earlier q.earlier) (key_cmp least q.own) (sym (ap is_le (law (record { earlier = earlier; own = least }) q)) ∙ (and_parts (is_le (cmp (record { earlier = earlier; own = least }) q)) true h).0)))
        (filter (λ q. is_le (cmp (record { earlier = earlier; own = least }) q) && not false) links) (filter-passes (λ q. is_le (cmp (record { earlier = earlier; own = least }) q) && not false) links);
  })
    where
      reached : (one : BatchKey) (k : Link) → is_link earlier one k.earlier k.own ≡ true → (is_le (cmp (record { earlier = earlier; own = least }) k) && not false) ≡ true
      reached one k h =
          let same : k.earlier ≡ earlier = same-keys k.earlier earlier (and_parts (key_eq k.earlier earlier) (key_eq k.own one) h).0 in
          let eq : is_eq (key_cmp earlier k.earlier) ≡ true = key_cmp-same earlier k.earlier ∙ (and_parts (key_eq k.earlier earlier) (key_eq k.own one) h).0 in
          and_from (is_le (cmp (record { earlier = earlier; own = least }) k)) true
          (ap is_le (law (record { earlier = earlier; own = least }) k) ∙ by (key_cmp earlier k.earlier) (key_cmp least k.own) eq (least-first k.own)) refl
        where
          by : (a b : Ordering) → is_eq a ≡ true → is_le b ≡ true → is_le (ordering_then a b) ≡ true
          by Less b e l = refl
          by Equal b e l = l
          by Greater b e l = e

-- a key is there where it was, or is the one that was put
pub with-among : (key : BatchKey) (keys : List BatchKey) (one : BatchKey) → is_key_among one (with_key key keys) ≡ (key_eq key one || is_key_among one keys)
with-among key [] one = refl
with-among key (k ∷ keys) one = by (key_lt key k) (key_eq key k) refl (with-among key keys one)
  where
    swap : (a b c : Bool) → (b || (a || c)) ≡ (a || (b || c))
    swap true true c = refl
    swap true false c = refl
    swap false true c = refl
    swap false false c = refl

    twice : (a c : Bool) → (a || c) ≡ (a || (a || c))
    twice true c = refl
    twice false c = refl

    by : (l e : Bool) → key_eq key k ≡ e → is_key_among one (with_key key keys) ≡ (key_eq key one || is_key_among one keys)
        → is_key_among one (if l then key ∷ k ∷ keys else if e then k ∷ keys else k ∷ with_key key keys) ≡ (key_eq key one || is_key_among one (k ∷ keys))
    by true e g rest = refl
    by false true g rest = twice (key_eq k one) (is_key_among one keys) ∙ ap (λ x. key_eq x one || (key_eq k one || is_key_among one keys)) (sym (same-keys key k g))
    by false false g rest = ap (λ t. key_eq k one || t) rest ∙ swap (key_eq key one) (key_eq k one) (is_key_among one keys)

-- one link more
pub wakes-more : (earlier : BatchKey) (links : List Link) (before now : List BatchKey) (link : Link) (rest : List Link) → key_eq link.earlier earlier ≡ true
    → Wakes earlier links before now (link ∷ rest) → Wakes earlier links before (with_key link.own now) rest
wakes-more earlier links before now link rest e wakes = record {
  all = λ one. ap (λ t. t || is_linked earlier one rest) (with-among link.own now one)
      ∙ move (key_eq link.own one) (is_key_among one now) (is_linked earlier one rest)
      ∙ ap (λ t. is_key_among one now || ((t && key_eq link.own one) || is_linked earlier one rest)) (sym e) ∙ wakes.all one;
  climb = wakes.climb.1;
  from = wakes.from.1;
}
  where
    move : (a b c : Bool) → ((a || b) || c) ≡ (b || (a || c))
    move true true c = refl
    move true false c = refl
    move false true c = refl
    move false false c = refl

-- after the links of a key none is of it
none-linked : (earlier one : BatchKey) (links : List Link) → AllByRecursion (λ link. key_lt earlier link.earlier ≡ true) links → is_linked earlier one links ≡ false
none-linked earlier one [] all = refl
none-linked earlier one (x ∷ xs) all = by (key_eq x.earlier earlier) refl (none-linked earlier one xs all.1)
  where
    by : (t : Bool) → key_eq x.earlier earlier ≡ t → is_linked earlier one xs ≡ false → (t && key_eq x.own one || is_linked earlier one xs) ≡ false
    by true e rest = absurd (before-irrefl earlier (subst (λ (k : BatchKey). key_lt earlier k ≡ true) (same-keys x.earlier earlier e) all.0))
    by false e rest = rest

or-false : (t : Bool) → t ≡ (t || false)
or-false true = refl
or-false false = refl

-- at a link of another key all are gone over
pub wakes-last : (earlier : BatchKey) (links : List Link) (before now : List BatchKey) (link : Link) (rest : List Link) → key_eq link.earlier earlier ≡ false
    → Wakes earlier links before now (link ∷ rest) → (one : BatchKey) → is_key_among one now ≡ (is_key_among one before || is_linked earlier one links)
wakes-last earlier links before now link rest e wakes one =
    or-false (is_key_among one now) ∙ ap (λ t. is_key_among one now || t) (sym (none-linked earlier one (link ∷ rest) (after, behind))) ∙ wakes.all one
  where
    after : key_lt earlier link.earlier ≡ true
    after = before-total link.earlier earlier wakes.from.0 e

    low : (other : Link) → key_lt other.earlier link.earlier ≡ false → (t : Bool) → key_eq other.earlier link.earlier ≡ t → key_lt earlier other.earlier ≡ true
    low other l true f = subst (λ (k : BatchKey). key_lt earlier k ≡ true) (sym (same-keys other.earlier link.earlier f)) after
    low other l false f = before-trans earlier link.earlier other.earlier after (before-total other.earlier link.earlier l f)

    behind : AllByRecursion (λ other. key_lt earlier other.earlier ≡ true) rest
    behind =
        all-more (λ (other : Link). key_lt other.earlier link.earlier ≡ false) (λ other. key_lt earlier other.earlier ≡ true)
        (λ other l. low other l (key_eq other.earlier link.earlier) refl) rest wakes.climb.0

-- at the end all are gone over
pub wakes-all : (earlier : BatchKey) (links : List Link) (before now : List BatchKey) (rest : List Link) → rest ≡ []
    → Wakes earlier links before now rest → (one : BatchKey) → is_key_among one now ≡ (is_key_among one before || is_linked earlier one links)
wakes-all earlier links before now rest e wakes one =
    or-false (is_key_among one now) ∙ ap (λ l. is_key_among one now || is_linked earlier one l) (sym e) ∙ wakes.all one

-- what a test on two keys says
pub other-key : (one two : BatchKey) → not (key_eq one two) ≡ true → key_eq one two ≡ false
other-key one two h = by (key_eq one two) h
  where
    by : (t : Bool) → not t ≡ true → t ≡ false
    by true e = sym e
    by false e = refl

pub same-key : (one two : BatchKey) → not (key_eq one two) ≡ false → key_eq one two ≡ true
same-key one two h = by (key_eq one two) h
  where
    by : (t : Bool) → not t ≡ false → t ≡ true
    by true e = refl
    by false e = sym e
