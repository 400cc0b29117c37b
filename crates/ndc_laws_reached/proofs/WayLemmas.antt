-- Following earlier keys upwards through a closed set meets the batch of each.
use Rattle.std.proofs.Common.{◌≡◌, Bool, true, false, cond, List, [], ◌∷◌, Option, Some, None, ◌⊎◌, inl, inr, refl, sym, ◌∙◌, subst, ap, true≢false}
use Rattle.std.specs.Prelude.{is_some}
use Rattle.std.specs.List.{AllByRecursion}
use Rattle.ndc_model_cells.specs.Cells.{ancestors_down, ancestry}
use Rattle.ndc_event.specs.Key.{key_eq, key_lt}
use Rattle.ndc_event.specs.declared.batch.Batch.{Batch}
use Rattle.ndc_event.specs.declared.key.BatchKey.{BatchKey}
use Rattle.ndc_model_sets.specs.Learned.{IsClosed, has_key}
use Rattle.ndc_model_sets.specs.Paths.{Walk, is_wanted}
use Rattle.ndc_model_sets.specs.Sets.{ComeAfter, Has, IsSet, PointsBack, Rise, batch_at, earlier}
use Rattle.ndc_model_sets.proofs.BranchLemmas.{among-has, has-among}
use Rattle.ndc_model_sets.proofs.KeyLemmas.{before-irrefl, before-trans, key_eq-self}
use Rattle.ndc_model_sets.proofs.Lists.{Among, all-among, all-from}
use Rattle.ndc_model_sets.proofs.SetLemmas.{found-has, found-key}
use Rattle.ndc_laws_reached.proofs.WrittenLemmas.{wanted-some}

-- one of these has a batch's earlier key
abbrev pub Follows : List Batch → Batch → Type 0
Follows path x = (y : Batch) × Among y path × (earlier x ≡ Some y.key)

-- a way from a batch through some of a set: what is on it is one of those; what is wanted next is not a key, or that of a batch of the
-- set that is none of those; the earlier key of the batch, and of each on the way, is wanted next or is that of one on the way
record IsWay (b : Batch) (all bs : List Batch) (walk : Walk) : Type 0 where
  inside : (x : Batch) → Among x walk.path → Among x bs
  wanted : (walk.wanted ≡ None) ⊎ ((x : Batch) × Has all x × (walk.wanted ≡ Some x.key) × (Among x bs → ⊥))
  follows : (x : Batch) → (x ≡ b) ⊎ Among x walk.path → (earlier x ≡ walk.wanted) ⊎ Follows walk.path x

-- the earlier key of a batch of a closed set is none, or that of a batch of the set
earlier-there : (all : List Batch) (b : Batch) → IsClosed all → Has all b → (earlier b ≡ None) ⊎ ((x : Batch) × Has all x × (earlier b ≡ Some x.key))
earlier-there all b closed has = by (earlier b) refl (closed b has)
  where
    found : (key : BatchKey) → earlier b ≡ Some key → (o : Option Batch) → batch_at key all ≡ o → is_some o ≡ true → (earlier b ≡ None) ⊎ ((x : Batch) × Has all x × (earlier b ≡ Some x.key))
    found key e None at h = absurd (true≢false (sym h))
    found key e (Some x) at h = inr (x, found-has all key x at, e ∙ ap (λ (k : BatchKey). Some k) (sym (found-key all key x at)))

    by : (o : Option BatchKey) → earlier b ≡ o → has_key o all ≡ true → (earlier b ≡ None) ⊎ ((x : Batch) × Has all x × (earlier b ≡ Some x.key))
    by None e h = inl e
    by (Some key) e h = found key e (batch_at key all) refl h

module _ (b : Batch) (all : List Batch) (set : IsSet all) (closed : IsClosed all) (has : Has all b) where
  -- one more batch, which is wanted
  over-wanted : (c : Batch) (bs : List Batch) (walk : Walk) → ComeAfter c.key bs → Has all c → walk.wanted ≡ Some c.key → IsWay b all bs walk → IsWay b all (c ∷ bs) (record { wanted = earlier c; path = c ∷ walk.path })
  over-wanted c bs walk after c_has wants way = record { inside = within; wanted = next (earlier-there all c closed c_has); follows = still }
    where
      within : (x : Batch) → Among x (c ∷ walk.path) → Among x (c ∷ bs)
      within x (inl same) = inl same
      within x (inr among) = inr (way.inside x among)

      next : (earlier c ≡ None) ⊎ ((x : Batch) × Has all x × (earlier c ≡ Some x.key)) → (earlier c ≡ None) ⊎ ((x : Batch) × Has all x × (earlier c ≡ Some x.key) × (Among x (c ∷ bs) → ⊥))
      next (inl none) = inl none
      next (inr found) = inr (found.0, found.1, found.2, behind)
        where
          back : key_lt found.0.key c.key ≡ true
          back = all-among PointsBack all c set.back (has-among all c c_has) found.0.key found.2

          behind : Among found.0 (c ∷ bs) → ⊥
          behind (inl same) = before-irrefl c.key (subst (λ (x : Batch). key_lt x.key c.key ≡ true) same back)
          behind (inr among) = before-irrefl c.key (before-trans c.key found.0.key c.key (all-among (λ x. key_lt c.key x.key ≡ true) bs found.0 after among) back)

      old : (x : Batch) → (earlier x ≡ walk.wanted) ⊎ Follows walk.path x → (earlier x ≡ earlier c) ⊎ Follows (c ∷ walk.path) x
      old x (inl wanted) = inr (c, inl refl, wanted ∙ wants)
      old x (inr found) = inr (found.0, inr found.1, found.2)

      still : (x : Batch) → (x ≡ b) ⊎ Among x (c ∷ walk.path) → (earlier x ≡ earlier c) ⊎ Follows (c ∷ walk.path) x
      still x (inl same) = old x (way.follows x (inl same))
      still x (inr (inl same)) = inl (ap earlier same)
      still x (inr (inr among)) = old x (way.follows x (inr among))

  -- one more batch, which is not
  over-other : (c : Batch) (bs : List Batch) (walk : Walk) → is_wanted walk.wanted c ≡ false → IsWay b all bs walk → IsWay b all (c ∷ bs) walk
  over-other c bs walk other way = record { inside = λ x among. inr (way.inside x among); wanted = next way.wanted; follows = way.follows }
    where
      next : (walk.wanted ≡ None) ⊎ ((x : Batch) × Has all x × (walk.wanted ≡ Some x.key) × (Among x bs → ⊥)) → (walk.wanted ≡ None) ⊎ ((x : Batch) × Has all x × (walk.wanted ≡ Some x.key) × (Among x (c ∷ bs) → ⊥))
      next (inl none) = inl none
      next (inr found) = inr (found.0, found.1, found.2, behind)
        where
          behind : Among found.0 (c ∷ bs) → ⊥
          behind (inl same) =
              true≢false (sym (subst (λ (o : Option BatchKey). is_wanted o c ≡ true) (sym found.2) (subst (λ (x : Batch). key_eq c.key x.key ≡ true) (sym same) (key_eq-self c.key))) ∙ other)
          behind (inr among) = found.3 among

  -- the way through these of the set
  way : (bs : List Batch) → Rise bs → AllByRecursion (Has all) bs → IsWay b all bs (ancestors_down bs (record { wanted = earlier b; path = [] }))
  way [] rise there = record { inside = λ x none. absurd none; wanted = start (earlier-there all b closed has); follows = first }
    where
      start : (earlier b ≡ None) ⊎ ((x : Batch) × Has all x × (earlier b ≡ Some x.key)) → (earlier b ≡ None) ⊎ ((x : Batch) × Has all x × (earlier b ≡ Some x.key) × (⊥ → ⊥))
      start (inl none) = inl none
      start (inr found) = inr (found.0, found.1, found.2, λ none. none)

      first : (x : Batch) → (x ≡ b) ⊎ ⊥ → (earlier x ≡ earlier b) ⊎ Follows [] x
      first x (inl same) = inl (ap earlier same)
      first x (inr none) = absurd none
  way (c ∷ bs) rise there = by (is_wanted (ancestors_down bs (record { wanted = earlier b; path = [] })).wanted c) refl (way bs rise.1 there.1)
    where
      walk : Walk
      walk = ancestors_down bs (record { wanted = earlier b; path = [] })

      by : (t : Bool) → is_wanted (ancestors_down bs (record { wanted = earlier b; path = [] })).wanted c ≡ t → IsWay b all bs (ancestors_down bs (record { wanted = earlier b; path = [] }))
          → IsWay b all (c ∷ bs) (cond t (record { wanted = earlier c; path = c ∷ (ancestors_down bs (record { wanted = earlier b; path = [] })).path }) (ancestors_down bs (record { wanted = earlier b; path = [] })))
      by true e rest = over-wanted c bs walk rise.0 there.0 (wanted-some walk.wanted c e) rest
      by false e rest = over-other c bs walk e rest

  whole : IsWay b all all (ancestry b all)
  whole = way all set.ordered (all-from (Has all) all (λ x among. among-has all x set.ordered among))

  -- what is on the way to ancestors is of the set
  pub way-inside : (x : Batch) → Among x (ancestry b all).path → Among x all
  way-inside x among = whole.inside x among

  -- the earlier key of a batch, and of each of its ancestors, is none or that of an ancestor
  pub way-follows : (x : Batch) → (x ≡ b) ⊎ Among x (ancestry b all).path → (earlier x ≡ None) ⊎ Follows (ancestry b all).path x
  way-follows x on = by (whole.follows x on) whole.wanted
    where
      by : (earlier x ≡ (ancestry b all).wanted) ⊎ Follows (ancestry b all).path x
          → ((ancestry b all).wanted ≡ None) ⊎ ((y : Batch) × Has all y × ((ancestry b all).wanted ≡ Some y.key) × (Among y all → ⊥)) → (earlier x ≡ None) ⊎ Follows (ancestry b all).path x
      by (inr found) ends = inr found
      by (inl last) (inl none) = inl (last ∙ none)
      by (inl last) (inr found) = absurd (found.3 (has-among all found.0 found.1))
