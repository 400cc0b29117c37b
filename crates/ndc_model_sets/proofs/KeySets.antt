-- Sets of keys, as ascending lists.
use Rattle.std.proofs.Common.{◌≡◌, Bool, true, false, Option, Some, None, if◌then◌else◌, List, [], ◌∷◌, refl, ◌∙◌, ap, sym}
use Rattle.std.specs.List.{All, AllByRecursion, list_any}
use Rattle.std.specs.Option.{IfSome}
use Rattle.std.specs.BTreeMap.Range.{IsLtBy}
use Rattle.std.proofs.lemmas.List.Elements.{recursion_from_All}
use Rattle.ndc_event.specs.Key.{key_lt, key_eq}
use Rattle.ndc_event.specs.declared.key.BatchKey.{BatchKey}
use Rattle.std.specs.Set.{remove_key}
use Rattle.std.specs.BTreeMap.{is_at}
use Rattle.std.specs.BTreeSet.{insert_key}
use Rattle.std.specs.Ordering.{is_eq}
use Rattle.std.specs.declared.cmp.Ordering.{Ordering}
use Rattle.std.specs.declared.cmp.Ordering.TheVariants.{Less, Equal, Greater}
use Rattle.ndc_model_sets.proofs.KeyOrder.{key_cmp, key_cmp-same}
use Rattle.ndc_model_sets.specs.Keys.{is_key_among, with_key, without_key}

-- keys that compare as less come before
less-before : (one two : BatchKey) → key_cmp one two ≡ Less → key_lt one two ≡ true
less-before one two h = by (key_lt one two) refl (key_eq one two) h
  where
    by : (t : Bool) → key_lt one two ≡ t → (e : Bool) → (if t then Less else if e then Equal else Greater) ≡ Less → key_lt one two ≡ true
    by true e f h = e
    by false e true h = absurd (cc)
    by false e false h = absurd (cc)

-- sets of keys
module _ (cmp : BatchKey → BatchKey → Ordering) (law : (a b : BatchKey) → cmp a b ≡ key_cmp a b) where
  pub insert_key-with : (key : BatchKey) (keys : List BatchKey) → insert_key cmp keys key ≡ with_key key keys
  insert_key-with key [] = refl
  insert_key-with key (k ∷ keys) = by (key_lt key k) (key_eq key k) refl refl (insert_key-with key keys)
    where
      by : (l e : Bool) → key_lt key k ≡ l → key_eq key k ≡ e → insert_key cmp keys key ≡ with_key key keys → insert_key cmp (k ∷ keys) key ≡ with_key key (k ∷ keys)
      by true e f g rest = rw (law key k, f) refl
      by false true f g rest = rw (law key k, f, g) refl
      by false false f g rest = rw (law key k, f, g) (ap (λ l. k ∷ l) rest)

  test-is : (key other : BatchKey) → is_at (cmp key) other ≡ key_eq other key
  test-is key other = ap is_eq (law key other) ∙ key_cmp-same key other

  pub any-at : (key : BatchKey) (keys : List BatchKey) → list_any (is_at (cmp key)) keys ≡ is_key_among key keys
  any-at key keys = ap (λ t. list_any t keys) (λ i other. test-is key other i)

  pub remove-at : (key : BatchKey) (keys : List BatchKey) → remove_key (is_at (cmp key)) keys ≡ without_key key keys
  remove-at key keys = ap (λ t. remove_key t keys) (λ i other. test-is key other i)

  -- keys that come after by comparison come after
  all-after : (key : BatchKey) (keys : List BatchKey) → AllByRecursion (λ other. cmp key other ≡ Less) keys → AllByRecursion (λ other. key_lt key other ≡ true) keys
  all-after key [] all = tt
  all-after key (k ∷ keys) all = (less-before key k (sym (law key k) ∙ all.0), all-after key keys all.1)

  -- the key that is taken comes before the others
  pub least-of : (o : Option BatchKey) (keys : List BatchKey) → IfSome o (λ key. All (IsLtBy cmp key) keys) → IfSome o (λ key. AllByRecursion (λ other. key_lt key other ≡ true) keys)
  least-of None keys all = tt
  least-of (Some key) keys all = all-after key keys (recursion_from_All (IsLtBy cmp key) keys all)
