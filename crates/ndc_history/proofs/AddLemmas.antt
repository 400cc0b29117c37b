-- Histories keep rising.
use Rattle.std.proofs.Common.{◌≡◌, ℕ, suc, ◌-◌, ◌<◌, true, ◌&&◌, nat_lt, List, [], ◌∷◌, ◌++◌, length, Some, slice_get, slice_set, refl, sym, subst, arith}
use Rattle.std.proofs.lemmas.Bool.{and_parts, and_from, lt-ltb, ltb-true}
use Rattle.ndc_history.specs.declared.item.Item.{Item}
use Rattle.ndc_history.specs.History.{rise_from, rises, last_item}

is_before : (one two : Item) → one.id < two.id → one.version < two.version → (nat_lt one.id two.id && nat_lt one.version two.version) ≡ true
is_before one two i v = and_from (nat_lt one.id two.id) (nat_lt one.version two.version) (lt-ltb one.id two.id i) (lt-ltb one.version two.version v)

-- an item after the last one
rise_from-push : (first : Item) (items : List Item) (last item : Item) → rise_from first items ≡ true → slice_get (first ∷ items) (length items) ≡ Some last
    → last.id < item.id → last.version < item.version → rise_from first (items ++ item ∷ []) ≡ true
rise_from-push first [] last item h at i v =
    let same : first ≡ last = cc in
    and_from _ true (is_before first item (subst (λ (x : Item). x.id < item.id) (sym same) i) (subst (λ (x : Item). x.version < item.version) (sym same) v)) refl
rise_from-push first (z ∷ zs) last item h at i v =
    let p = and_parts (nat_lt first.id z.id && nat_lt first.version z.version) (rise_from z zs) h in
    and_from _ (rise_from z (zs ++ item ∷ [])) p.0 (rise_from-push z zs last item p.1 at i v)

-- the last item, with a greater id
rise_from-set : (first z : Item) (zs : List Item) (last item : Item) → rise_from first (z ∷ zs) ≡ true → slice_get (z ∷ zs) (length zs) ≡ Some last
    → last.id < item.id → item.version ≡ last.version → rise_from first (slice_set (z ∷ zs) (length zs) item) ≡ true
rise_from-set first z [] last item h at i v =
    let same : z ≡ last = cc in
    let p = and_parts (nat_lt first.id z.id && nat_lt first.version z.version) true h in
    let q = and_parts (nat_lt first.id z.id) (nat_lt first.version z.version) p.0 in
    let ids : first.id < z.id = ltb-true first.id z.id q.0 in
    let versions : first.version < z.version = ltb-true first.version z.version q.1 in
    let id_is : z.id ≡ last.id = cc in
    let version_is : z.version ≡ last.version = cc in
    and_from _ true (is_before first item (omega arith) (omega arith)) refl
rise_from-set first z (w ∷ ws) last item h at i v =
    let p = and_parts (nat_lt first.id z.id && nat_lt first.version z.version) (rise_from z (w ∷ ws)) h in
    and_from _ _ p.0 (rise_from-set z w ws last item p.1 at i v)

pub rises_push : (items : List Item) (last item : Item) → rises items ≡ true → last_item items ≡ Some last
    → last.id < item.id → last.version < item.version → rises (items ++ item ∷ []) ≡ true
rises_push [] last item h at i v = refl
rises_push (first ∷ items) last item h at i v =
    let end : length (first ∷ items) - 1 ≡ length items = omega arith in
    rise_from-push first items last item h (subst (λ (n : ℕ). slice_get (first ∷ items) n ≡ Some last) end at) i v

pub rises_set : (items : List Item) (last item : Item) → rises items ≡ true → last_item items ≡ Some last
    → last.id < item.id → item.version ≡ last.version → rises (slice_set items (length items - 1) item) ≡ true
rises_set [] last item h at i v = refl
rises_set (first ∷ []) last item h at i v = refl
rises_set (first ∷ z ∷ zs) last item h at i v =
    let end : length (first ∷ z ∷ zs) - 1 ≡ suc (length zs) = omega arith in
    subst (λ (n : ℕ). rises (slice_set (first ∷ z ∷ zs) n item) ≡ true) (sym end)
    (rise_from-set first z zs last item h (subst (λ (n : ℕ). slice_get (first ∷ z ∷ zs) n ≡ Some last) end at) i v)
