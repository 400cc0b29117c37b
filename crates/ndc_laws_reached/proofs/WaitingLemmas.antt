-- Messages in order of place, beside their batches.
use Rattle.std.proofs.Common.{◌≡◌, Bool, true, false, cond, if◌then◌else◌, List, [], ◌∷◌, Option, Some, None, refl, sym, ◌∙◌, subst, ap, true≢false}
use Rattle.std.specs.List.{AllByRecursion, cons_option, filter, filter_map}
use Rattle.ndc_model_cells.specs.declared.message.Message.{Message}
use Rattle.ndc_model_cells.specs.declared.place.Place.{Place}
use Rattle.ndc_model_cells.specs.Arrival.{message_placed}
use Rattle.ndc_model_cells.specs.Places.{AreBehind, AreInOrder, is_at, place_lt, place_of, placed}
use Rattle.ndc_model_cells.proofs.PlaceLemmas.{behind-trans, placed-cases}
use Rattle.ndc_event.specs.declared.batch.Batch.{Batch}

-- what passes a test passes a weaker one: filtering by the weaker test first changes nothing
filter-within : (p q : Batch → Bool) (bs : List Batch) → ((b : Batch) → p b ≡ true → q b ≡ true) → filter p (filter q bs) ≡ filter p bs
filter-within p q [] weaker = refl
filter-within p q (b ∷ bs) weaker = by (q b) refl (p b) refl (filter-within p q bs weaker)
  where
    by : (t : Bool) → q b ≡ t → (u : Bool) → p b ≡ u → filter p (filter q bs) ≡ filter p bs → filter p (cond t (b ∷ filter q bs) (filter q bs)) ≡ cond u (b ∷ filter p bs) (filter p bs)
    by true e u f rest = ap (λ v. cond v (b ∷ filter p (filter q bs)) (filter p (filter q bs))) f ∙ ap (λ l. cond u (b ∷ l) l) rest
    by false e true f rest = absurd (true≢false (sym (weaker b f) ∙ e))
    by false e false f rest = rest

-- each batch comes after a place where it is none of the place's
abbrev pub IsFresh : Place → List Batch → Type 0
IsFresh place bs = AllByRecursion (λ b. is_at place b ≡ false) bs

-- a batch before all goes first
placed-first : (new : Batch) (bs : List Batch) → AreBehind (place_of new) bs → placed new bs ≡ new ∷ bs
placed-first new [] all = refl
placed-first new (b ∷ bs) all = ap (λ t. if t then new ∷ b ∷ bs else if is_at (place_of new) b then b ∷ bs else b ∷ placed new bs) all.0

behind-filter : (place : Place) (q : Batch → Bool) (bs : List Batch) → AreBehind place bs → AreBehind place (filter q bs)
behind-filter place q [] all = tt
behind-filter place q (b ∷ bs) all = by (q b) (behind-filter place q bs all.1)
  where
    by : (t : Bool) → AreBehind place (filter q bs) → AreBehind place (cond t (b ∷ filter q bs) (filter q bs))
    by true rest = (all.0, rest)
    by false rest = rest

-- placing a batch among those that pass a weaker test
pub placed-within : (p q : Batch → Bool) (new : Batch) (bs : List Batch) → AreInOrder bs → IsFresh (place_of new) bs → ((b : Batch) → p b ≡ true → q b ≡ true)
    → filter p (placed new (filter q bs)) ≡ filter p (placed new bs)
placed-within p q new [] order fresh weaker = refl
placed-within p q new (b ∷ bs) order fresh weaker =
    placed-cases (λ l. filter p (placed new (filter q (b ∷ bs))) ≡ filter p l) new b bs
    (λ l. front l)
    (λ l s. absurd (true≢false (sym s ∙ fresh.0)))
    (λ l s. later l s (q b) refl (placed-within p q new bs order.1 fresh.1 weaker))
  where
    front : place_lt (place_of new) (place_of b) ≡ true → filter p (placed new (filter q (b ∷ bs))) ≡ filter p (new ∷ b ∷ bs)
    front l =
        let behind : AreBehind (place_of new) (b ∷ bs) = (l, behind-trans (place_of new) (place_of b) bs l order.0) in
        ap (filter p) (placed-first new (filter q (b ∷ bs)) (behind-filter (place_of new) q (b ∷ bs) behind))
        ∙ ap (λ r. cond (p new) (new ∷ r) r) (filter-within p q (b ∷ bs) weaker)

    kept : place_lt (place_of new) (place_of b) ≡ false → (rest : List Batch) → placed new (b ∷ rest) ≡ b ∷ placed new rest
    kept l rest =
        ap (λ t. if t then new ∷ b ∷ rest else if is_at (place_of new) b then b ∷ rest else b ∷ placed new rest) l
        ∙ ap (λ t. if t then b ∷ rest else b ∷ placed new rest) fresh.0

    later : place_lt (place_of new) (place_of b) ≡ false → is_at (place_of new) b ≡ false → (t : Bool) → q b ≡ t → filter p (placed new (filter q bs)) ≡ filter p (placed new bs)
        → filter p (placed new (cond t (b ∷ filter q bs) (filter q bs))) ≡ filter p (b ∷ placed new bs)
    later l s true e rest = ap (filter p) (kept l (filter q bs)) ∙ ap (λ r. cond (p b) (b ∷ r) r) rest
    later l s false e rest = rest ∙ sym (ap (λ u. cond u (b ∷ filter p (placed new bs)) (filter p (placed new bs))) (fails (p b) refl))
      where
        fails : (u : Bool) → p b ≡ u → u ≡ false
        fails true f = absurd (true≢false (sym (weaker b f) ∙ e))
        fails false f = refl

module _ (f : Batch → Option Message) (own : (b : Batch) (sent : Message) → f b ≡ Some sent → sent.batch ≡ b) where
  -- a message before all goes first
  message-first : (sent : Message) (place : Place) (bs : List Batch) → place_of sent.batch ≡ place → AreBehind place bs → message_placed sent (filter_map f bs) ≡ sent ∷ filter_map f bs
  message-first sent place [] at all = refl
  message-first sent place (b ∷ bs) at all = by (f b) refl (message-first sent place bs at all.1)
    where
      by : (o : Option Message) → f b ≡ o → message_placed sent (filter_map f bs) ≡ sent ∷ filter_map f bs → message_placed sent (cons_option o (filter_map f bs)) ≡ sent ∷ cons_option o (filter_map f bs)
      by None e rest = rest
      by (Some other) e rest =
          let less : place_lt (place_of sent.batch) (place_of other.batch) ≡ true =
          subst (λ (p : Place). place_lt p (place_of other.batch) ≡ true) (sym at) (subst (λ (x : Batch). place_lt place (place_of x) ≡ true) (sym (own b other e)) all.0) in
          ap (λ t. if t then sent ∷ other ∷ filter_map f bs else if is_at (place_of sent.batch) other.batch then other ∷ filter_map f bs else other ∷ message_placed sent (filter_map f bs)) less

  -- a message goes to the place of its batch
  pub message-there : (sent : Message) (new : Batch) (bs : List Batch) → f new ≡ Some sent → AreInOrder bs → IsFresh (place_of new) bs → message_placed sent (filter_map f bs) ≡ filter_map f (placed new bs)
  message-there sent new [] e order fresh = sym (ap (λ o. cons_option o []) e)
  message-there sent new (b ∷ bs) e order fresh =
      placed-cases (λ l. message_placed sent (filter_map f (b ∷ bs)) ≡ filter_map f l) new b bs
      (λ l. message-first sent (place_of new) (b ∷ bs) (ap place_of (own new sent e)) (l, behind-trans (place_of new) (place_of b) bs l order.0)
      ∙ sym (ap (λ o. cons_option o (filter_map f (b ∷ bs))) e))
      (λ l s. absurd (true≢false (sym s ∙ fresh.0)))
      (λ l s. later l s (f b) refl (message-there sent new bs e order.1 fresh.1))
    where
      later : place_lt (place_of new) (place_of b) ≡ false → is_at (place_of new) b ≡ false → (o : Option Message) → f b ≡ o → message_placed sent (filter_map f bs) ≡ filter_map f (placed new bs)
          → message_placed sent (cons_option o (filter_map f bs)) ≡ cons_option o (filter_map f (placed new bs))
      later l s None g rest = rest
      later l s (Some other) g rest =
          let less : place_lt (place_of sent.batch) (place_of other.batch) ≡ false =
          subst (λ (x : Batch). place_lt (place_of x) (place_of other.batch) ≡ false) (sym (own new sent e)) (subst (λ (x : Batch). place_lt (place_of new) (place_of x) ≡ false) (sym (own b other g)) l) in
          let apart : is_at (place_of sent.batch) other.batch ≡ false =
          subst (λ (x : Batch). is_at (place_of x) other.batch ≡ false) (sym (own new sent e)) (subst (λ (x : Batch). is_at (place_of new) x ≡ false) (sym (own b other g)) s) in
          ap (λ t. if t then sent ∷ other ∷ filter_map f bs else if is_at (place_of sent.batch) other.batch then other ∷ filter_map f bs else other ∷ message_placed sent (filter_map f bs)) less
          ∙ ap (λ t. if t then other ∷ filter_map f bs else other ∷ message_placed sent (filter_map f bs)) apart
          ∙ ap (λ r. other ∷ r) rest

  -- messages that pass a test by their batches
  pub filter-messages : (p : Batch → Bool) (bs : List Batch) → filter (λ sent. p sent.batch) (filter_map f bs) ≡ filter_map f (filter p bs)
  filter-messages p [] = refl
  filter-messages p (b ∷ bs) = by (f b) refl (filter-messages p bs)
    where
      by : (o : Option Message) → f b ≡ o → filter (λ sent. p sent.batch) (filter_map f bs) ≡ filter_map f (filter p bs)
          → filter (λ sent. p sent.batch) (cons_option o (filter_map f bs)) ≡ filter_map f (cond (p b) (b ∷ filter p bs) (filter p bs))
      by None e rest = rest ∙ pass (p b)
        where
          pass : (t : Bool) → filter_map f (filter p bs) ≡ filter_map f (cond t (b ∷ filter p bs) (filter p bs))
          pass true = sym (ap (λ o. cons_option o (filter_map f (filter p bs))) e)
          pass false = refl
      by (Some sent) e rest = ap (λ x. cond (p x) (sent ∷ filter (λ m. p m.batch) (filter_map f bs)) (filter (λ m. p m.batch) (filter_map f bs))) (own b sent e) ∙ pass (p b)
        where
          pass : (t : Bool) → cond t (sent ∷ filter (λ m. p m.batch) (filter_map f bs)) (filter (λ m. p m.batch) (filter_map f bs)) ≡ filter_map f (cond t (b ∷ filter p bs) (filter p bs))
          pass true = ap (λ r. sent ∷ r) rest ∙ sym (ap (λ o. cons_option o (filter_map f (filter p bs))) e)
          pass false = rest

  -- a batch without a message brings none
  pub placed-without : (p : Batch → Bool) (new : Batch) (bs : List Batch) → f new ≡ None → filter_map f (filter p (placed new bs)) ≡ filter_map f (filter p bs)
  placed-without p new [] e = by (p new)
    where
      by : (t : Bool) → filter_map f (cond t (new ∷ []) []) ≡ []
      by true = ap (λ o. cons_option o []) e
      by false = refl
  placed-without p new (b ∷ bs) e =
      placed-cases (λ l. filter_map f (filter p l) ≡ filter_map f (filter p (b ∷ bs))) new b bs
      (λ l. front (p new))
      (λ l s. refl)
      (λ l s. later (p b) (placed-without p new bs e))
    where
      front : (t : Bool) → filter_map f (cond t (new ∷ filter p (b ∷ bs)) (filter p (b ∷ bs))) ≡ filter_map f (filter p (b ∷ bs))
      front true = ap (λ o. cons_option o (filter_map f (filter p (b ∷ bs)))) e
      front false = refl

      later : (t : Bool) → filter_map f (filter p (placed new bs)) ≡ filter_map f (filter p bs) → filter_map f (cond t (b ∷ filter p (placed new bs)) (filter p (placed new bs))) ≡ filter_map f (cond t (b ∷ filter p bs) (filter p bs))
      later true rest = ap (λ r. cons_option (f b) r) rest
      later false rest = rest
