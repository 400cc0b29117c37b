-- The batches that lead to one are its ancestors.
use Rattle.std.proofs.Common.{◌≡◌, ℕ, nat_lt, Bool, true, false, List, [], ◌∷◌, ◌++◌, ◌⊎◌, inl, inr, Option, Some, None, refl, sym, ◌∙◌, subst, ap, true≢false}
use Rattle.std.specs.Prelude.{if◌then◌else◌, is_some}
use Rattle.std.specs.List.{list_all}
use Rattle.std.proofs.lemmas.List.{append_assoc}
use Rattle.ndc_event.specs.Batch.{fault_of, is_carrier_fit}
use Rattle.ndc_event.specs.declared.batch.Batch.{Batch}
use Rattle.ndc_event.specs.declared.key.BatchKey.{BatchKey}
use Rattle.ndc_model_sets.specs.Learned.{IsClosed, IsPart, ReachesTop, WaitsFor, behind, has_key, itself, top, up}
use Rattle.ndc_model_sets.specs.Paths.{IsPath, Walk, below, first, first_id, is_wanted, path_to, walk_down}
use Rattle.ndc_model_sets.specs.Reading.{named}
use Rattle.ndc_model_sets.specs.Sets.{Has, IsSet, batch_at, earlier, earlier_of}
use Rattle.ndc_model_sets.proofs.FaultLemmas.{passes}
use Rattle.ndc_model_sets.proofs.ForkLemmas.{among-cases}
use Rattle.ndc_model_sets.proofs.Lists.{Among, filter-among}
use Rattle.ndc_model_sets.proofs.PathLemmas.{closed-reaches}
use Rattle.ndc_model_sets.proofs.SetLemmas.{found-has, found-key, has-found}
use Rattle.ndc_model_cells.specs.Cells.{ancestors_down}
use Rattle.ndc_resend.specs.declared.serving.Gap.{Gap}
use Rattle.ndc_resend.specs.Gaps.{end_behind, is_between, served}
use Rattle.ndc_resend.specs.Serving.{answered, chain_to, first_carrier, with_carriers}
use Rattle.ndc_resend.proofs.ChainLemmas.{chain-named, chain-step, chain_of, none-wanted}

pub among-front : (x : Batch) (xs ys : List Batch) → Among x xs → Among x (xs ++ ys)
among-front x [] ys h = absurd h
among-front x (y ∷ xs) ys (inl e) = inl e
among-front x (y ∷ xs) ys (inr h) = inr (among-front x xs ys h)

pub among-back : (x : Batch) (xs ys : List Batch) → Among x ys → Among x (xs ++ ys)
among-back x [] ys h = h
among-back x (y ∷ xs) ys h = inr (among-back x xs ys h)

-- ancestors of ancestors
pub waits-trans : (batches : List Batch) (x y z : Batch) → WaitsFor batches x y → WaitsFor batches y z → WaitsFor batches x z
waits-trans batches x y z h itself = h
waits-trans batches x y z h (behind _ before key has e at rest) = behind z before key has e at (waits-trans batches x y before h rest)

module _ (part all : List Batch) (within : IsPart part all) where
  pub waits-more : (x y : Batch) → WaitsFor part x y → WaitsFor all x y
  waits-more x y itself = itself
  waits-more x y (behind _ before key has e at rest) =
      behind y before key (within y has) e (has-found all key before (found-key part key before at) (within before (found-has part key before at))) (waits-more x before rest)

  module _ (closed : IsClosed part) where
    -- the earlier batch of one in a closed part is in the part
    earlier-in : (y before : Batch) (key : BatchKey) → Has part y → earlier y ≡ Some key → batch_at key all ≡ Some before → batch_at key part ≡ Some before
    earlier-in y before key has e at = by (batch_at key part) refl (subst (λ (o : Option BatchKey). has_key o part ≡ true) e (closed y has))
      where
        by : (o : Option Batch) → batch_at key part ≡ o → is_some o ≡ true → batch_at key part ≡ Some before
        by None f h = absurd (true≢false (sym h))
        by (Some z) f h =
            let there : batch_at key all ≡ Some z = has-found all key z (found-key part key z f) (within z (found-has part key z f)) in
            let same : Some z ≡ Some before = sym there ∙ at in
            f ∙ same

    pub waits-in : (x y : Batch) → Has part y → WaitsFor all x y → WaitsFor part x y
    waits-in x y has itself = itself
    waits-in x y has (behind _ before key _ e at rest) =
        let there : batch_at key part ≡ Some before = earlier-in y before key has e at in
        behind y before key has e there (waits-in x before (found-has part key before there) rest)

    pub above-in : (x y : Batch) → Has part y → WaitsFor all x y → Has part x
    above-in x y has itself = has
    above-in x y has (behind _ before key _ e at rest) = above-in x before (found-has part key before (earlier-in y before key has e at)) rest

module _ (batches : List Batch) (set : IsSet batches) where
  before-is : (c before : Batch) (key : BatchKey) → earlier c ≡ Some key → batch_at key batches ≡ Some before → chain_of (named (earlier c) batches) batches ≡ chain_of (Some before) batches
  before-is c before key e at = ap (λ (o : Option BatchKey). chain_of (named o batches) batches) e ∙ ap (λ (o : Option Batch). chain_of o batches) at

  -- each ancestor leads to the batch
  pub chain-all : (x c : Batch) → Has batches c → WaitsFor batches x c → Among x (chain_of (Some c) batches)
  chain-all x c has itself = subst (Among c) (sym (chain-step batches c set has)) (among-back c (chain_of (named (earlier c) batches) batches) (c ∷ []) (inl refl))
  chain-all x c has (behind _ before key _ e at rest) =
      subst (Among x) (sym (chain-step batches c set has ∙ ap (λ (l : List Batch). l ++ c ∷ []) (before-is c before key e at)))
      (among-front x (chain_of (Some before) batches) (c ∷ []) (chain-all x before (found-has batches key before at) rest))

  -- and no other batch does
  chain-reached : (c : Batch) → ReachesTop batches c → (x : Batch) → Among x (chain_of (Some c) batches) → WaitsFor batches x c
  chain-reached c (top _ has e) x among =
      by (among-cases x (chain_of (named (earlier c) batches) batches) (c ∷ []) (subst (Among x) (chain-step batches c set has) among))
    where
      by : Among x (chain_of (named (earlier c) batches) batches) ⊎ Among x (c ∷ []) → WaitsFor batches x c
      by (inl h) = absurd (subst (λ (o : Option BatchKey). Among x (chain_of (named o batches) batches)) e h)
      by (inr (inl same)) = subst (λ (y : Batch). WaitsFor batches y c) (sym same) itself
      by (inr (inr h)) = absurd h
  chain-reached c (up _ before key has e at rest) x among =
      by (among-cases x (chain_of (named (earlier c) batches) batches) (c ∷ []) (subst (Among x) (chain-step batches c set has) among)) (chain-reached before rest x)
    where
      by : Among x (chain_of (named (earlier c) batches) batches) ⊎ Among x (c ∷ []) → (Among x (chain_of (Some before) batches) → WaitsFor batches x before) → WaitsFor batches x c
      by (inl h) above = behind c before key has e at (above (subst (Among x) (before-is c before key e at) h))
      by (inr (inl same)) above = subst (λ (y : Batch). WaitsFor batches y c) (sym same) itself
      by (inr (inr h)) above = absurd h

  module _ (closed : IsClosed batches) where
    pub chain-only : (c : Batch) → Has batches c → (x : Batch) → Among x (chain_of (Some c) batches) → WaitsFor batches x c
    chain-only c has x among = chain-reached c (closed-reaches batches c set closed has) x among

    -- a batch without a fault that has a carrier has no parent
    pub carried-top : (c : Batch) → fault_of c ≡ None → (x : Batch) → Among x (chain_to c.carrier batches) → c.parent ≡ None
    carried-top c fault x among = by c.carrier refl among
      where
        no_parent : (o : Option BatchKey) (key : BatchKey) → is_carrier_fit c.key o (Some key) ≡ true → o ≡ None
        no_parent None key h = refl
        no_parent (Some parent) key h = absurd (true≢false (sym h))

        by : (o : Option BatchKey) → c.carrier ≡ o → Among x (chain_to o batches) → c.parent ≡ None
        by None e h = absurd (subst (Among x) (ap (λ (w : Walk). w.path) (none-wanted batches)) h)
        by (Some key) e h = no_parent c.parent key (subst (λ (o : Option BatchKey). is_carrier_fit c.key c.parent o ≡ true) e (passes c fault).carrier)

    -- what leads to its carrier is above it
    pub carried-above : (c : Batch) → Has batches c → fault_of c ≡ None → (x : Batch) → Among x (chain_to c.carrier batches) → WaitsFor batches x c
    carried-above c has fault x among =
        chain-only c has x
        (subst (Among x) (sym (chain-step batches c set has ∙ ap (λ (l : List Batch). l ++ c ∷ []) (chain-named (earlier c) batches ∙ ap (λ (o : Option BatchKey). chain_to (earlier_of o c.carrier) batches) (carried-top c fault x among))))
        (among-front x (chain_to c.carrier batches) (c ∷ []) among))

  -- the batches that lead to one are its path, after those that lead to the carrier of the first
  some-path : (b : Batch) (path : List Batch) → IsPath batches b path → path ≡ [] → ⊥
  some-path b path (first _ has e) none = absurd (cc)
  some-path b path (below _ before key front has e at rest) none = by front none
    where
      by : (l : List Batch) → l ++ b ∷ [] ≡ [] → ⊥
      by [] h = absurd (cc)
      by (x ∷ xs) h = absurd (cc)

  first-same : (path more : List Batch) → (path ≡ [] → ⊥) → first_carrier (path ++ more) ≡ first_carrier path
  first-same [] more some = absurd (some refl)
  first-same (x ∷ xs) more some = refl

  pub chain-path : (b : Batch) (path : List Batch) → IsPath batches b path → chain_of (Some b) batches ≡ with_carriers batches path
  chain-path b path (first _ has e) =
      chain-step batches b set has
      ∙ ap (λ (l : List Batch). l ++ b ∷ []) (chain-named (earlier b) batches ∙ ap (λ (o : Option BatchKey). chain_to (earlier_of o b.carrier) batches) e)
  chain-path b path (below _ before key front has e at rest) =
      chain-step batches b set has
      ∙ ap (λ (l : List Batch). l ++ b ∷ []) (before-is b before key (ap (λ (o : Option BatchKey). earlier_of o b.carrier) e) at ∙ chain-path before front rest)
      ∙ append_assoc (chain_to (first_carrier front) batches) front (b ∷ [])
      ∙ ap (λ (o : Option BatchKey). chain_to o batches ++ (front ++ b ∷ [])) (sym (first-same front (b ∷ []) (some-path before front rest)))

-- what is found going upwards is one of the batches
down-in : (bs : List Batch) (walk : Walk) (x : Batch) → Among x (ancestors_down bs walk).path → Among x bs ⊎ Among x walk.path
down-in [] walk x = λ among. inr among
down-in (b ∷ bs) walk x = by (is_wanted (ancestors_down bs walk).wanted b) (down-in bs walk x)
  where
    more : Among x bs ⊎ Among x walk.path → Among x (b ∷ bs) ⊎ Among x walk.path
    more (inl h) = inl (inr h)
    more (inr h) = inr h

    by : (t : Bool) → (Among x (ancestors_down bs walk).path → Among x bs ⊎ Among x walk.path)
        → Among x (if t then record { wanted = earlier b; path = b ∷ (ancestors_down bs walk).path } else ancestors_down bs walk).path → Among x (b ∷ bs) ⊎ Among x walk.path
    by true rest (inl same) = inl (inl same)
    by true rest (inr h) = more (rest h)
    by false rest h = more (rest h)

walk-in : (bs : List Batch) (walk : Walk) (x : Batch) → Among x (walk_down bs walk).path → Among x bs ⊎ Among x walk.path
walk-in [] walk x = λ among. inr among
walk-in (b ∷ bs) walk x = by (is_wanted (walk_down bs walk).wanted b) (walk-in bs walk x)
  where
    more : Among x bs ⊎ Among x walk.path → Among x (b ∷ bs) ⊎ Among x walk.path
    more (inl h) = inl (inr h)
    more (inr h) = inr h

    by : (t : Bool) → (Among x (walk_down bs walk).path → Among x bs ⊎ Among x walk.path)
        → Among x (if t then record { wanted = b.parent; path = b ∷ (walk_down bs walk).path } else walk_down bs walk).path → Among x (b ∷ bs) ⊎ Among x walk.path
    by true rest (inl same) = inl (inl same)
    by true rest (inr h) = more (rest h)
    by false rest h = more (rest h)

-- a path is of batches that are there
pub path-in : (key : BatchKey) (bs : List Batch) (x : Batch) → Among x (path_to key bs) → Among x bs
path-in key bs x among = by (walk-in bs (record { wanted = Some key; path = [] }) x among)
  where
    by : Among x bs ⊎ Among x [] → Among x bs
    by (inl h) = h
    by (inr h) = absurd h

-- the end of a path is of its batches
end-in : (id : ℕ) (path : List Batch) (x : Batch) → Among x (end_behind id path) → Among x path
end-in id [] x = λ none. none
end-in id (b ∷ path) x = by (list_all (λ c. nat_lt id (first_id c.events)) (b ∷ path)) (end-in id path x)
  where
    by : (t : Bool) → (Among x (end_behind id path) → Among x path) → Among x (if t then b ∷ path else end_behind id path) → Among x (b ∷ path)
    by true rest h = h
    by false rest h = inr (rest h)

-- and so is what is answered
pub answered_in : (mine : List Batch) (gap : Gap) (key : BatchKey) (x : Batch) → Among x (answered mine gap key) → Among x mine
answered_in mine gap key x among = by (among-cases x (chain_to (first_carrier (served gap (end_behind gap.after.id (path_to key mine)))) mine) (served gap (end_behind gap.after.id (path_to key mine))) among)
  where
    chained : Among x mine ⊎ Among x [] → Among x mine
    chained (inl h) = h
    chained (inr h) = absurd h

    by : Among x (chain_to (first_carrier (served gap (end_behind gap.after.id (path_to key mine)))) mine) ⊎ Among x (served gap (end_behind gap.after.id (path_to key mine))) → Among x mine
    by (inl h) = chained (down-in mine (record { wanted = first_carrier (served gap (end_behind gap.after.id (path_to key mine))); path = [] }) x h)
    by (inr h) = path-in key mine x (end-in gap.after.id (path_to key mine) x ((filter-among (is_between gap) (end_behind gap.after.id (path_to key mine)) x h).1))
