-- Values under names: what is found under each, and the items of all of them.
use Rattle.std.proofs.Common.{◌≡◌, Bool, true, false, List, [], ◌∷◌, ◌++◌, Option, Some, None, cond, map, refl, sym, ◌∙◌, subst, ap, true≢false}
use Rattle.std.specs.Prelude.{if◌then◌else◌}
use Rattle.std.specs.List.{AllByRecursion, filter}
use Rattle.std.specs.Map.{keys_of}
use Rattle.std.specs.Ordering.{is_eq}
use Rattle.std.specs.Str.{bytes_eq}
use Rattle.std.specs.declared.cmp.Ordering.TheVariants.{Less}
use Rattle.std.proofs.lemmas.Map.Keys.{sorted_head, sorted_tail}
use Rattle.std.proofs.lemmas.Map.Text.{is_eq-slice_cmp}
use Rattle.std.proofs.lemmas.Slice.Eq.{bytes_eq-Decides}
use Rattle.ndc_model_cells.specs.Places.{AreBehind, AreInOrder, place_lt, place_of}
use Rattle.ndc_domain.specs.Records.{names_cmp}
use Rattle.ndc_event.specs.declared.batch.Batch.{Batch}
use Rattle.ndc_event.specs.declared.name.Name.{Name}
use Rattle.ndc_shard_workflows.specs.Named.{under, HoldUnder, IsPut, all_under}

-- names that differ, the other way round
pub names-turn : (a b : Name) → bytes_eq a b ≡ false → bytes_eq b a ≡ false
names-turn a b n = by (bytes_eq b a) refl
  where
    by : (t : Bool) → bytes_eq b a ≡ t → t ≡ false
    by true e = absurd (true≢false (sym ((bytes_eq-Decides a b).1 (sym ((bytes_eq-Decides b a).0 e))) ∙ n))
    by false e = refl

pub name-itself : (a : Name) → bytes_eq a a ≡ true
name-itself a = (bytes_eq-Decides a a).1 refl

module _ {X : Type 0} where
  pub under-first : (name : Name) (entry : Name × X) (entries : List (Name × X)) → bytes_eq entry.0 name ≡ true → under name (entry ∷ entries) ≡ Some entry.1
  under-first name entry entries e =
      ap (λ t. cond t (Some entry.1) (under name entries)) (is_eq-slice_cmp name entry.0 ∙ (bytes_eq-Decides name entry.0).1 (sym ((bytes_eq-Decides entry.0 name).0 e)))

  pub under-rest : (name : Name) (entry : Name × X) (entries : List (Name × X)) → bytes_eq entry.0 name ≡ false → under name (entry ∷ entries) ≡ under name entries
  under-rest name entry entries n = ap (λ t. cond t (Some entry.1) (under name entries)) (is_eq-slice_cmp name entry.0 ∙ names-turn entry.0 name n)

  -- nothing stands under a name before all
  none-before : (name : Name) (entries : List (Name × X)) → AllByRecursion (λ k. names_cmp name k ≡ Less) (keys_of entries) → under name entries ≡ None
  none-before name [] all = refl
  none-before name (entry ∷ entries) all = ap (λ o. cond (is_eq o) (Some entry.1) (under name entries)) all.0 ∙ none-before name entries all.1

  module _ (P : Name → X → Type 0) (entry : Name × X) (entries : List (Name × X)) (hold : HoldUnder P (entry ∷ entries)) where
    pub hold-first : P entry.0 entry.1
    hold-first = hold.each entry.0 entry.1 (under-first entry.0 entry entries (name-itself entry.0))

    pub later-names : AllByRecursion (λ k. names_cmp entry.0 k ≡ Less) (keys_of entries)
    later-names = sorted_head names_cmp entry.0 (keys_of entries) hold.ordered

    pub none-later : (name : Name) → bytes_eq entry.0 name ≡ true → under name entries ≡ None
    none-later name e = subst (λ (k : Name). under k entries ≡ None) ((bytes_eq-Decides entry.0 name).0 e) (none-before entry.0 entries later-names)

    pub hold-rest : HoldUnder P entries
    hold-rest = record {
      ordered = sorted_tail names_cmp entry.0 (keys_of entries) hold.ordered;
      each = λ name x f. hold.each name x (by name x f (bytes_eq entry.0 name) refl);
    }
      where
        by : (name : Name) (x : X) → under name entries ≡ Some x → (t : Bool) → bytes_eq entry.0 name ≡ t → under name (entry ∷ entries) ≡ Some x
        by name x f true e = let n : under name entries ≡ None = none-later name e in absurd (cc)
        by name x f false e = under-rest name entry entries e ∙ f

  pub hold-as : (P Q : Name → X → Type 0) → ((name : Name) (x : X) → P name x → Q name x) → (entries : List (Name × X)) → HoldUnder P entries → HoldUnder Q entries
  hold-as P Q turn entries hold = record { ordered = hold.ordered; each = λ name x f. turn name x (hold.each name x f) }

  -- what is put, and what is not
  pub put-there : (name : Name) (x : X) (before after : List (Name × X)) → IsPut name x before after → under name after ≡ Some x
  put-there name x before after put = put.found name ∙ ap (λ t. if t then Some x else under name before) (name-itself name)

  pub put-holds : (P : Name → X → Type 0) (name : Name) (x : X) (before after : List (Name × X)) → IsPut name x before after → P name x → HoldUnder P before → HoldUnder P after
  put-holds P name x before after put new hold = record { ordered = put.ordered; each = λ other y f. by other y (bytes_eq name other) refl (sym (put.found other) ∙ f) }
    where
      by : (other : Name) (y : X) (t : Bool) → bytes_eq name other ≡ t → (if t then Some x else under other before) ≡ Some y → P other y
      by other y true e f = let same : x ≡ y = cc in subst (λ (k : Name). P k y) ((bytes_eq-Decides name other).0 e) (subst (P name) same new)
      by other y false e f = hold.each other y f

  module _ {Y : Type 0} (items : X → List Y) where
    -- what holds of the items of each value holds of all
    pub all-items : (P : Y → Type 0) (entries : List (Name × X)) → HoldUnder (λ name x. AllByRecursion P (items x)) entries → AllByRecursion P (all_under items entries)
    all-items P [] hold = tt
    all-items P (entry ∷ entries) hold =
        join (items entry.1) (all_under items entries) (hold-first (λ name x. AllByRecursion P (items x)) entry entries hold)
        (all-items P entries (hold-rest (λ name x. AllByRecursion P (items x)) entry entries hold))
      where
        join : (front rest : List Y) → AllByRecursion P front → AllByRecursion P rest → AllByRecursion P (front ++ rest)
        join [] rest all more = more
        join (y ∷ ys) rest all more = (all.0, join ys rest all.1 more)

    abbrev pub items_of : Option X → List Y
    items_of None = []
    items_of (Some x) = items x

    -- what has a name is what stands under the name
    module _ (name_of : Y → Name) where
      abbrev pub AreNamed : Name → X → Type 0
      AreNamed name x = AllByRecursion (λ y. name_of y ≡ name) (items x)

      all-kept : (name : Name) (ys : List Y) → AllByRecursion (λ y. name_of y ≡ name) ys → filter (λ y. bytes_eq (name_of y) name) ys ≡ ys
      all-kept name [] all = refl
      all-kept name (y ∷ ys) all =
          ap (λ t. cond t (y ∷ filter (λ z. bytes_eq (name_of z) name) ys) (filter (λ z. bytes_eq (name_of z) name) ys)) ((bytes_eq-Decides (name_of y) name).1 all.0)
          ∙ ap (λ l. y ∷ l) (all-kept name ys all.1)

      none-kept : (name other : Name) (ys : List Y) → bytes_eq other name ≡ false → AllByRecursion (λ y. name_of y ≡ other) ys → filter (λ y. bytes_eq (name_of y) name) ys ≡ []
      none-kept name other [] n all = refl
      none-kept name other (y ∷ ys) n all =
          ap (λ t. cond t (y ∷ filter (λ z. bytes_eq (name_of z) name) ys) (filter (λ z. bytes_eq (name_of z) name) ys)) (ap (λ (k : Name). bytes_eq k name) all.0 ∙ n)
          ∙ none-kept name other ys n all.1

      filter-join : (p : Y → Bool) (front rest : List Y) → filter p (front ++ rest) ≡ filter p front ++ filter p rest
      filter-join p [] rest = refl
      filter-join p (y ∷ ys) rest = by (p y) (filter-join p ys rest)
        where
          by : (t : Bool) → filter p (ys ++ rest) ≡ filter p ys ++ filter p rest
              → cond t (y ∷ filter p (ys ++ rest)) (filter p (ys ++ rest)) ≡ cond t (y ∷ filter p ys) (filter p ys) ++ filter p rest
          by true e = ap (λ l. y ∷ l) e
          by false e = e

      join-nothing : (ys : List Y) → ys ++ [] ≡ ys
      join-nothing [] = refl
      join-nothing (y ∷ ys) = ap (λ l. y ∷ l) (join-nothing ys)

      pub named-items : (name : Name) (entries : List (Name × X)) → HoldUnder AreNamed entries → filter (λ y. bytes_eq (name_of y) name) (all_under items entries) ≡ items_of (under name entries)
      named-items name [] hold = refl
      named-items name (entry ∷ entries) hold =
          filter-join (λ y. bytes_eq (name_of y) name) (items entry.1) (all_under items entries)
          ∙ ap (λ l. filter (λ y. bytes_eq (name_of y) name) (items entry.1) ++ l) (named-items name entries (hold-rest AreNamed entry entries hold)) ∙ by (bytes_eq entry.0 name) refl
        where
          own : AreNamed entry.0 entry.1
          own = hold-first AreNamed entry entries hold

          by : (t : Bool) → bytes_eq entry.0 name ≡ t → filter (λ y. bytes_eq (name_of y) name) (items entry.1) ++ items_of (under name entries) ≡ items_of (under name (entry ∷ entries))
          by true e =
              ap (λ l. l ++ items_of (under name entries)) (all-kept name (items entry.1) (subst (λ (k : Name). AreNamed k entry.1) ((bytes_eq-Decides entry.0 name).0 e) own))
              ∙ ap (λ o. items entry.1 ++ items_of o) (none-later AreNamed entry entries hold name e) ∙ join-nothing (items entry.1)
              ∙ sym (ap items_of (under-first name entry entries e))
          by false e =
              ap (λ l. l ++ items_of (under name entries)) (none-kept name entry.0 (items entry.1) e own) ∙ sym (ap items_of (under-rest name entry entries e))

    -- where the items of each value stand in order, and those of later names later, all do
    module _ (batch : Y → Batch) (name_of : Batch → Name) (S : Batch → Type 0)
        (cross : (a b : Batch) → S a → S b → names_cmp (name_of a) (name_of b) ≡ Less → place_lt (place_of a) (place_of b) ≡ true) where
      abbrev pub AreOrdered : Name → X → Type 0
      AreOrdered name x = AllByRecursion (λ y. (name_of (batch y) ≡ name) × S (batch y)) (items x) × AreInOrder (map batch (items x))

      behind-join : (a : Batch) (front rest : List Y) → AreBehind (place_of a) (map batch front) → AreBehind (place_of a) (map batch rest) → AreBehind (place_of a) (map batch (front ++ rest))
      behind-join a [] rest one two = two
      behind-join a (y ∷ ys) rest one two = (one.0, behind-join a ys rest one.1 two)

      behind-items : (a : Batch) (name : Name) → S a → names_cmp (name_of a) name ≡ Less → (ys : List Y) → AllByRecursion (λ y. (name_of (batch y) ≡ name) × S (batch y)) ys
          → AreBehind (place_of a) (map batch ys)
      behind-items a name s l [] all = tt
      behind-items a name s l (y ∷ ys) all =
          (cross a (batch y) s all.0.1 (subst (λ (k : Name). names_cmp (name_of a) k ≡ Less) (sym all.0.0) l), behind-items a name s l ys all.1)

      behind-all : (a : Batch) → S a → (entries : List (Name × X)) → AllByRecursion (λ k. names_cmp (name_of a) k ≡ Less) (keys_of entries) → HoldUnder AreOrdered entries
          → AreBehind (place_of a) (map batch (all_under items entries))
      behind-all a s [] later hold = tt
      behind-all a s (entry ∷ entries) later hold =
          behind-join a (items entry.1) (all_under items entries) (behind-items a entry.0 s later.0 (items entry.1) (hold-first AreOrdered entry entries hold).0)
          (behind-all a s entries later.1 (hold-rest AreOrdered entry entries hold))

      order-join : (front rest : List Y) → AreInOrder (map batch front) → AllByRecursion (λ y. AreBehind (place_of (batch y)) (map batch rest)) front → AreInOrder (map batch rest)
          → AreInOrder (map batch (front ++ rest))
      order-join [] rest order all more = more
      order-join (y ∷ ys) rest order all more = (behind-join (batch y) ys rest order.0 all.0, order-join ys rest order.1 all.1 more)

      pub all-ordered : (entries : List (Name × X)) → HoldUnder AreOrdered entries → AreInOrder (map batch (all_under items entries))
      all-ordered [] hold = tt
      all-ordered (entry ∷ entries) hold =
          order-join (items entry.1) (all_under items entries) own.1 (each (items entry.1) own.0) (all-ordered entries rest)
        where
          own : AreOrdered entry.0 entry.1
          own = hold-first AreOrdered entry entries hold

          rest : HoldUnder AreOrdered entries
          rest = hold-rest AreOrdered entry entries hold

          each : (ys : List Y) → AllByRecursion (λ y. (name_of (batch y) ≡ entry.0) × S (batch y)) ys → AllByRecursion (λ y. AreBehind (place_of (batch y)) (map batch (all_under items entries))) ys
          each [] all = tt
          each (y ∷ ys) all = (
            behind-all (batch y) all.0.1 entries
                (subst (λ (k : Name). AllByRecursion (λ j. names_cmp k j ≡ Less) (keys_of entries)) (sym all.0.0) (later-names AreOrdered entry entries hold)) rest,
            each ys all.1,
          )
