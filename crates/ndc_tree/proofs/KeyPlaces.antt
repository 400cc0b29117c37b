-- Keys in order, and batches in key order: what is found in them, and where a new one goes.
use Rattle.std.proofs.Common.{◌≡◌, ℕ, zero, suc, ◌≤◌, Bool, true, false, nat_lt, ◌&&◌, ◌||◌, ◌==◌, List, [], ◌∷◌, length, None, slice_get, Result, Ok, Err, IfOk, IfErr, if◌then◌else◌, refl, sym, ◌∙◌, subst, ap, arith}
use Rattle.std.specs.Prelude.{insert}
use Rattle.std.specs.List.{remove}
use Rattle.std.specs.List.Sorted.{IsSearchInRange, IsBinarySearchResult}
use Rattle.std.specs.Ordering.{ordering_index, is_eq, is_lt, is_gt}
use Rattle.std.specs.declared.cmp.Ordering.{Ordering}
use Rattle.std.specs.declared.cmp.Ordering.TheVariants.{Less, Equal, Greater}
use Rattle.std.proofs.lemmas.Bool.Decides.{nat_tests}
use Rattle.ndc_event.specs.Key.{key_lt, key_eq}
use Rattle.ndc_event.specs.declared.batch.Batch.{Batch}
use Rattle.ndc_event.specs.declared.key.BatchKey.{BatchKey}
use Rattle.ndc_model_sets.specs.Keys.{is_key_among, with_key, without_key}
use Rattle.ndc_model_sets.specs.Last.{first_from}
use Rattle.ndc_model_sets.specs.Sets.{batch_at, arrived}
use Rattle.ndc_model_sets.proofs.KeyLemmas.{before-trans, same-keys}
use Rattle.ndc_model_sets.proofs.KeyOrder.{key_cmp}
use Rattle.ndc_tree.specs.Places.{key_before, comes_before, IsAt, IsGap, IsKeyAt, IsKeyGap}
use Rattle.ndc_event.specs.Sorted.{InOrder, Hits, Parts}
use Rattle.ndc_event.proofs.SortedLemmas.{searched, hit-within, part-within, order-insert, order-remove}

-- the tests of two keys, by how they compare
pub record Tested (one two : BatchKey) (less same greater : Bool) : Type 0 where
  pub lt : key_lt one two ≡ less
  pub gt : key_lt two one ≡ greater
  pub eq : key_eq one two ≡ same
  pub qe : key_eq two one ≡ same

number-lt : (a b x y : ℕ) → is_lt (if nat_lt a x || (a == x) && nat_lt b y then Less else if (a == x) && (b == y) then Equal else Greater) ≡ (nat_lt a x || (a == x) && nat_lt b y)
number-lt a b x y = grind (arith, nat_tests)

number-gt : (a b x y : ℕ) → is_gt (if nat_lt a x || (a == x) && nat_lt b y then Less else if (a == x) && (b == y) then Equal else Greater) ≡ (nat_lt x a || (x == a) && nat_lt y b)
number-gt a b x y = grind (arith, nat_tests)

number-eq : (a b x y : ℕ) → is_eq (if nat_lt a x || (a == x) && nat_lt b y then Less else if (a == x) && (b == y) then Equal else Greater) ≡ ((a == x) && (b == y))
number-eq a b x y = grind (arith, nat_tests)

number-qe : (a b x y : ℕ) → is_eq (if nat_lt a x || (a == x) && nat_lt b y then Less else if (a == x) && (b == y) then Equal else Greater) ≡ ((x == a) && (y == b))
number-qe a b x y = grind (arith, nat_tests)

pub tested : (one two : BatchKey) (o : Ordering) → key_cmp one two ≡ o → Tested one two (is_lt o) (is_eq o) (is_gt o)
tested one two o h = record {
  lt = sym (number-lt one.version one.task two.version two.task) ∙ ap is_lt h;
  gt = sym (number-gt one.version one.task two.version two.task) ∙ ap is_gt h;
  eq = sym (number-eq one.version one.task two.version two.task) ∙ ap is_eq h;
  qe = sym (number-qe one.version one.task two.version two.task) ∙ ap is_eq h;
}

-- a key that comes before another one compares as less
pub less-from : (one two : BatchKey) → key_lt one two ≡ true → key_cmp one two ≡ Less
less-from one two h = rw h refl

most : (o : Ordering) → ordering_index o ≤ 2
most Less = omega arith
most Equal = omega arith
most Greater = omega arith

-- later keys compare later with any key
pub cmp-rises : (key one two : BatchKey) → key_before one two → ordering_index (key_cmp one key) ≤ ordering_index (key_cmp two key)
cmp-rises key one two l = by (key_cmp two key) refl
  where
    by : (o : Ordering) → key_cmp two key ≡ o → ordering_index (key_cmp one key) ≤ ordering_index o
    by Less e = let h : key_cmp one key ≡ Less = less-from one key (before-trans one two key l (tested two key Less e).lt) in rw h (omega arith)
    by Equal e =
        let h : key_cmp one key ≡ Less = less-from one key (subst (λ (k : BatchKey). key_lt one k ≡ true) (same-keys two key (tested two key Equal e).eq) l) in rw h (omega arith)
    by Greater e = most (key_cmp one key)

-- and those before the one that is sought as less
pub cmp-less : (key one two : BatchKey) → key_before one two → key_cmp two key ≡ Equal → key_cmp one key ≡ Less
cmp-less key one two l e = less-from one key (subst (λ (k : BatchKey). key_lt one k ≡ true) (same-keys two key (tested two key Equal e).eq) l)

module _ (key : BatchKey) where
  abbrev pub c : Batch → Ordering
  c b = key_cmp b.key key

  hit-found : (batches : List Batch) (place : ℕ) → Hits c batches place → batch_at key batches ≡ slice_get batches place
  hit-found [] place h = absurd h
  hit-found (b ∷ batches) zero h = rw (tested b.key key Equal h).eq refl
  hit-found (b ∷ batches) (suc place) h = rw (tested b.key key Less h.0).eq (hit-found batches place h.1)

  hit-first : (batches : List Batch) (place : ℕ) → Hits c batches place → first_from key batches ≡ slice_get batches place
  hit-first [] place h = absurd h
  hit-first (b ∷ batches) zero h = rw (tested b.key key Equal h).lt refl
  hit-first (b ∷ batches) (suc place) h = rw (tested b.key key Less h.0).lt (hit-first batches place h.1)

  hit-same : (batches : List Batch) (place : ℕ) → Hits c batches place → (new : Batch) → new.key ≡ key → arrived new batches ≡ batches
  hit-same [] place h new e = absurd h
  hit-same (b ∷ batches) zero h new e = let t = tested b.key key Equal h in rw (e, t.gt, t.qe) refl
  hit-same (b ∷ batches) (suc place) h new e = let t = tested b.key key Less h.0 in rw (e, t.gt, t.qe) (ap (λ l. b ∷ l) (hit-same batches place h.1 new e))

  part-absent : (batches : List Batch) (place : ℕ) → Parts c batches place → batch_at key batches ≡ None
  part-absent [] zero h = refl
  part-absent [] (suc place) h = absurd h
  part-absent (b ∷ batches) zero h = rw (tested b.key key Greater h.0).eq (part-absent batches zero h.1)
  part-absent (b ∷ batches) (suc place) h = rw (tested b.key key Less h.0).eq (part-absent batches place h.1)

  part-first : (batches : List Batch) (place : ℕ) → Parts c batches place → first_from key batches ≡ slice_get batches place
  part-first [] zero h = refl
  part-first [] (suc place) h = absurd h
  part-first (b ∷ batches) zero h = rw (tested b.key key Greater h.0).lt refl
  part-first (b ∷ batches) (suc place) h = rw (tested b.key key Less h.0).lt (part-first batches place h.1)

  part-put : (batches : List Batch) (place : ℕ) → Parts c batches place → (new : Batch) → new.key ≡ key → arrived new batches ≡ insert batches place new
  part-put [] zero h new e = refl
  part-put [] (suc place) h new e = absurd h
  part-put (b ∷ batches) zero h new e =
      let l : key_lt new.key b.key ≡ true = ap (λ (k : BatchKey). key_lt k b.key) e ∙ (tested b.key key Greater h.0).gt in rw l refl
  part-put (b ∷ batches) (suc place) h new e =
      let t = tested b.key key Less h.0 in
      let l : key_lt new.key b.key ≡ false = ap (λ (k : BatchKey). key_lt k b.key) e ∙ t.gt in
      let q : key_eq new.key b.key ≡ false = ap (λ (k : BatchKey). key_eq k b.key) e ∙ t.qe in
      rw (l, q) (ap (λ l. b ∷ l) (part-put batches place h.1 new e))

  part-order : (batches : List Batch) (place : ℕ) → Parts c batches place → InOrder comes_before batches → (new : Batch) → new.key ≡ key → InOrder comes_before (insert batches place new)
  part-order batches place h order new e =
      order-insert comes_before (λ b. key_cmp b.key key) new
      (λ b l. subst (λ (k : BatchKey). key_before b.key k) (sym e) (tested b.key key Less l).lt)
      (λ b l. subst (λ (k : BatchKey). key_before k b.key) (sym e) (tested b.key key Greater l).gt)
      batches place h order

  pub batch-place : (batches : List Batch) → InOrder comes_before batches → (r : Result ℕ ℕ) → IsSearchInRange r (length batches) → IsBinarySearchResult (λ b. key_cmp b.key key) batches r
      → record { found : IfOk r (IsAt batches key); absent : IfErr r (IsGap batches key) }
  batch-place batches order r within ends = by r (searched comes_before (λ b. key_cmp b.key key) (λ one two l. cmp-rises key one.key two.key l) (λ one two l e. cmp-less key one.key two.key l e) batches order r within ends)
    where
      by : (r : Result ℕ ℕ) → record { found : IfOk r (Hits (λ b. key_cmp b.key key) batches); absent : IfErr r (Parts (λ b. key_cmp b.key key) batches) }
          → record { found : IfOk r (IsAt batches key); absent : IfErr r (IsGap batches key) }
      by (Ok place) at = record {
        found = record {
          in_range = hit-within (λ b. key_cmp b.key key) batches place at.found;
          found = hit-found batches place at.found;
          first = hit-first batches place at.found;
          same = hit-same batches place at.found;
        };
        absent = tt;
      }
      by (Err place) at = record {
        found = tt;
        absent = record {
          in_range = part-within (λ b. key_cmp b.key key) batches place at.absent;
          absent = part-absent batches place at.absent;
          first = part-first batches place at.absent;
          put = part-put batches place at.absent;
          order = part-order batches place at.absent order;
        };
      }

module _ (key : BatchKey) where
  hit-among : (keys : List BatchKey) (place : ℕ) → Hits (λ k. key_cmp k key) keys place → is_key_among key keys ≡ true
  hit-among [] place h = absurd h
  hit-among (k ∷ keys) zero h = rw (tested k key Equal h).eq refl
  hit-among (k ∷ keys) (suc place) h = rw (tested k key Less h.0).eq (hit-among keys place h.1)

  hit-with : (keys : List BatchKey) (place : ℕ) → Hits (λ k. key_cmp k key) keys place → with_key key keys ≡ keys
  hit-with [] place h = absurd h
  hit-with (k ∷ keys) zero h = let t = tested k key Equal h in rw (t.gt, t.qe) refl
  hit-with (k ∷ keys) (suc place) h = let t = tested k key Less h.0 in rw (t.gt, t.qe) (ap (λ l. k ∷ l) (hit-with keys place h.1))

  hit-without : (keys : List BatchKey) (place : ℕ) → Hits (λ k. key_cmp k key) keys place → without_key key keys ≡ remove keys place
  hit-without [] place h = absurd h
  hit-without (k ∷ keys) zero h = rw (tested k key Equal h).eq refl
  hit-without (k ∷ keys) (suc place) h = rw (tested k key Less h.0).eq (ap (λ l. k ∷ l) (hit-without keys place h.1))

  part-among : (keys : List BatchKey) (place : ℕ) → Parts (λ k. key_cmp k key) keys place → is_key_among key keys ≡ false
  part-among [] zero h = refl
  part-among [] (suc place) h = absurd h
  part-among (k ∷ keys) zero h = rw (tested k key Greater h.0).eq (part-among keys zero h.1)
  part-among (k ∷ keys) (suc place) h = rw (tested k key Less h.0).eq (part-among keys place h.1)

  part-with : (keys : List BatchKey) (place : ℕ) → Parts (λ k. key_cmp k key) keys place → with_key key keys ≡ insert keys place key
  part-with [] zero h = refl
  part-with [] (suc place) h = absurd h
  part-with (k ∷ keys) zero h = rw (tested k key Greater h.0).gt refl
  part-with (k ∷ keys) (suc place) h = let t = tested k key Less h.0 in rw (t.gt, t.qe) (ap (λ l. k ∷ l) (part-with keys place h.1))

  part-without : (keys : List BatchKey) (place : ℕ) → Parts (λ k. key_cmp k key) keys place → without_key key keys ≡ keys
  part-without [] zero h = refl
  part-without [] (suc place) h = absurd h
  part-without (k ∷ keys) zero h = rw (tested k key Greater h.0).eq (ap (λ l. k ∷ l) (part-without keys zero h.1))
  part-without (k ∷ keys) (suc place) h = rw (tested k key Less h.0).eq (ap (λ l. k ∷ l) (part-without keys place h.1))

  pub key-place : (keys : List BatchKey) → InOrder key_before keys → (r : Result ℕ ℕ) → IsSearchInRange r (length keys) → IsBinarySearchResult (λ k. key_cmp k key) keys r
      → record { found : IfOk r (IsKeyAt keys key); absent : IfErr r (IsKeyGap keys key) }
  key-place keys order r within ends = by r (searched key_before (λ k. key_cmp k key) (cmp-rises key) (cmp-less key) keys order r within ends)
    where
      by : (r : Result ℕ ℕ) → record { found : IfOk r (Hits (λ k. key_cmp k key) keys); absent : IfErr r (Parts (λ k. key_cmp k key) keys) }
          → record { found : IfOk r (IsKeyAt keys key); absent : IfErr r (IsKeyGap keys key) }
      by (Ok place) at = record {
        found = record {
          in_range = hit-within (λ k. key_cmp k key) keys place at.found;
          among = hit-among keys place at.found;
          same = hit-with keys place at.found;
          taken = hit-without keys place at.found;
          order = order-remove key_before keys place order;
        };
        absent = tt;
      }
      by (Err place) at = record {
        found = tt;
        absent = record {
          in_range = part-within (λ k. key_cmp k key) keys place at.absent;
          absent = part-among keys place at.absent;
          same = part-without keys place at.absent;
          put = part-with keys place at.absent;
          order = order-insert key_before (λ k. key_cmp k key) key (λ k l. (tested k key Less l).lt) (λ k l. (tested k key Greater l).gt) keys place at.absent order;
        };
      }
