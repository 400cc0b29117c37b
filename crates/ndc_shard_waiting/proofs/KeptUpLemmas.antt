-- Upwards through what is kept where some is freed.
use Rattle.std.proofs.Common.{◌≡◌, Bool, true, false, not, ◌||◌, List, [], ◌∷◌, ◌++◌, ◌⊎◌, inl, inr, Option, Some, None, IfSome, cond, refl, sym, ◌∙◌, subst, ap, true≢false}
use Rattle.std.specs.Prelude.{is_some, option_to_list, if◌then◌else◌}
use Rattle.std.specs.Option.{option_or}
use Rattle.std.specs.List.{AllByRecursion, filter}
use Rattle.ndc_model_cells.specs.declared.message.Message.{Message}
use Rattle.ndc_model_cells.specs.Cells.{both}
use Rattle.ndc_event.specs.Key.{key_eq}
use Rattle.ndc_event.specs.declared.batch.Batch.{Batch}
use Rattle.ndc_event.specs.declared.key.BatchKey.{BatchKey}
use Rattle.ndc_model_sets.specs.Learned.{has_key}
use Rattle.ndc_model_sets.specs.Sets.{ComeAfter, Rise, earlier, batch_at}
use Rattle.ndc_model_sets.proofs.KeyLemmas.{same-keys}
use Rattle.ndc_model_sets.proofs.SetLemmas.{found-key, found-all}
use Rattle.ndc_model_sets.proofs.CurrentLemmas.{wanted-key}
use Rattle.ndc_model_sets.proofs.BranchLemmas.{Rise-filter}
use Rattle.ndc_model_cells.specs.Messages.{batches_of, IsCarriedBy, IsMessage, IsNewTo}
use Rattle.ndc_shard_waiting.specs.Waiting.{CanWait, AreWaiting, freed_by, kept_by, freed, still_put_off, missing_from}
use Rattle.ndc_shard_waiting.specs.Shortcuts.{LeadsUp}
use Rattle.ndc_model_sets.proofs.Lists.{all-join, Among, all-among}
use Rattle.ndc_shard_waiting.proofs.OrderLemmas.{all-front, all-back, all-more, Precede, rise-back, rise-precede, same-found, has-append}
use Rattle.ndc_shard_waiting.proofs.FreedLemmas.{freed-cases, found-parts, rise-freed}
use Rattle.ndc_shard_waiting.proofs.KeptLemmas.{IsApart, apart-join, carried-earlier, kept-apart, all-each, has-back, has-front}
use Rattle.ndc_shard_waiting.proofs.OffLemmas.{kept-off}
use Rattle.ndc_shard_waiting.proofs.PutLemmas.{apart-flip, none-parts, both-rise}
use Rattle.ndc_shard_waiting.proofs.FreeLemmas.{filter-found, all-there}
use Rattle.ndc_shard_waiting.proofs.MissingLemmas.{missing-step, missing-before, missing-absent, filter-missing}
use Rattle.ndc_shard_waiting.proofs.UpLemmas.{missing-none, missing-append}

-- a key among some batches, of none of these, stays wanted there
stays-wanted : (so_far batches : List Batch) (o : Option BatchKey) → IsApart so_far batches → has_key o so_far ≡ true → missing_from o batches ≡ o
stays-wanted so_far batches None apart h = missing-none batches
stays-wanted so_far batches (Some key) apart h = missing-absent key batches (by (batch_at key batches) refl (batch_at key so_far) refl h)
  where
    by : (p : Option Batch) → batch_at key batches ≡ p → (q : Option Batch) → batch_at key so_far ≡ q → is_some q ≡ true → p ≡ None
    by None e q f s = refl
    by (Some x) e None f s = absurd (true≢false (sym s))
    by (Some x) e (Some y) f s =
        let out : batch_at key so_far ≡ None = subst (λ (k : BatchKey). batch_at k so_far ≡ None) (found-key batches key x e) (found-all (λ b. batch_at b.key so_far ≡ None) batches key x apart e) in absurd (cc)

-- through both batches of a message that waits for one of some batches, one comes to one of these
up-both : (so_far : List Batch) (sent : Message) (o : Option BatchKey) → IsMessage sent → has_key (earlier sent.batch) so_far ≡ true → IsApart so_far (both sent)
    → has_key o (so_far ++ both sent) ≡ true → has_key (missing_from o (both sent)) so_far ≡ true
up-both so_far sent None message frees apart h = ap (λ o. has_key o so_far) (missing-none (both sent))
up-both so_far sent (Some key) message frees apart h = by (has_key (Some key) so_far) refl (sym (has-append key so_far (both sent)) ∙ h)
  where
    own : missing_from (Some sent.batch.key) (sent.batch ∷ []) ≡ earlier sent.batch
    own = missing-step (Some sent.batch.key) sent.batch [] ∙ ap (λ t. if t then earlier sent.batch else Some sent.batch.key) (wanted-key sent.batch.key sent.batch refl)

    -- through the one that is carried, where the key is that of it or of the carrier
    carried : (s : Batch) → IsCarriedBy sent.batch s → (key_eq s.key key ≡ true) ⊎ (key ≡ sent.batch.key) → missing_from (Some key) (s ∷ []) ≡ Some sent.batch.key
    carried s c (inl e) =
        missing-step (Some key) s [] ∙ ap (λ t. if t then earlier s else Some key) e ∙ carried-earlier sent.batch s c
    carried s c (inr e) = missing-step (Some key) s [] ∙ go (key_eq s.key key)
      where
        go : (t : Bool) → (if t then earlier s else Some key) ≡ Some sent.batch.key
        go true = carried-earlier sent.batch s c
        go false = ap Some e

    here : (p : Option Batch) → IfSome p (IsCarriedBy sent.batch) → is_some (batch_at key (sent.batch ∷ option_to_list p)) ≡ true
        → missing_from (Some key) (sent.batch ∷ option_to_list p) ≡ earlier sent.batch
    here None c k = single (key_eq sent.batch.key key) refl k
      where
        single : (t : Bool) → key_eq sent.batch.key key ≡ t → is_some (cond t (Some sent.batch) None) ≡ true → missing_from (Some key) (sent.batch ∷ []) ≡ earlier sent.batch
        single true e k = ap (λ x. missing_from (Some x) (sent.batch ∷ [])) (sym (same-keys sent.batch.key key e)) ∙ own
        single false e k = absurd (true≢false (sym k))
    here (Some s) c k = pair (key_eq sent.batch.key key) refl (key_eq s.key key) refl k
      where
        pair : (t : Bool) → key_eq sent.batch.key key ≡ t → (u : Bool) → key_eq s.key key ≡ u → is_some (cond t (Some sent.batch) (cond u (Some s) None)) ≡ true
            → missing_from (Some key) (sent.batch ∷ s ∷ []) ≡ earlier sent.batch
        pair true e u f k = missing-append (Some key) (sent.batch ∷ []) (s ∷ []) ∙ ap (λ o. missing_from o (sent.batch ∷ [])) (carried s c (inr (sym (same-keys sent.batch.key key e)))) ∙ own
        pair false e true f k = missing-append (Some key) (sent.batch ∷ []) (s ∷ []) ∙ ap (λ o. missing_from o (sent.batch ∷ [])) (carried s c (inl f)) ∙ own
        pair false e false f k = absurd (true≢false (sym k))

    by : (t : Bool) → has_key (Some key) so_far ≡ t → (t || has_key (Some key) (both sent)) ≡ true → has_key (missing_from (Some key) (both sent)) so_far ≡ true
    by true e g = ap (λ o. has_key o so_far) (stays-wanted so_far (both sent) (Some key) apart e) ∙ e
    by false e g = ap (λ o. has_key o so_far) (here sent.second message.second g) ∙ frees

-- from what is freed one comes to one of the batches that free it
pub freed-missing : (so_far : List Batch) (waiting : List Message) → AllByRecursion CanWait waiting → Rise (batches_of waiting) → IsApart so_far (batches_of waiting)
    → AllByRecursion (λ b. has_key (missing_from (Some b.key) (batches_of waiting)) so_far ≡ true) (batches_of (freed_by so_far waiting))
freed-missing so_far [] each rise apart = tt
freed-missing so_far (sent ∷ waiting) each rise apart =
    let rest = rise-back (both sent) (batches_of waiting) rise in
    let before = rise-precede (both sent) (batches_of waiting) rise in
    let own = all-front (λ (b : Batch). batch_at b.key so_far ≡ None) (both sent) (batches_of waiting) apart in
    freed-cases (λ f _. AllByRecursion (λ b. has_key (missing_from (Some b.key) (both sent ++ batches_of waiting)) so_far ≡ true) (batches_of f)) so_far sent waiting
    (λ frees. let f = batches_of (freed_by (so_far ++ both sent) waiting) in
    all-join (λ b. has_key (missing_from (Some b.key) (both sent ++ batches_of waiting)) so_far ≡ true) (both sent) f
    (each-own frees own before (both sent) (λ x h. h))
    (all-more (λ b. has_key (missing_from (Some b.key) (batches_of waiting)) (so_far ++ both sent) ≡ true) (λ b. has_key (missing_from (Some b.key) (both sent ++ batches_of waiting)) so_far ≡ true)
    (λ b h. ap (λ o. has_key o so_far) (missing-append (Some b.key) (both sent) (batches_of waiting))
    ∙ up-both so_far sent (missing_from (Some b.key) (batches_of waiting)) each.0.message frees own h) f
    (freed-missing (so_far ++ both sent) waiting each.1 rest (apart-join so_far (both sent) (batches_of waiting) apart before))))
    (λ _. let f = batches_of (freed_by so_far waiting) in
    all-more (λ b. has_key (missing_from (Some b.key) (batches_of waiting)) so_far ≡ true) (λ b. has_key (missing_from (Some b.key) (both sent ++ batches_of waiting)) so_far ≡ true)
    (λ b h. ap (λ o. has_key o so_far) (missing-append (Some b.key) (both sent) (batches_of waiting)
    ∙ stays-wanted so_far (both sent) (missing_from (Some b.key) (batches_of waiting)) own h) ∙ h) f
    (freed-missing so_far waiting each.1 rest (all-back (λ (b : Batch). batch_at b.key so_far ≡ None) (both sent) (batches_of waiting) apart)))
  where
    each-own : has_key (earlier sent.batch) so_far ≡ true → IsApart so_far (both sent) → Precede (both sent) (batches_of waiting)
        → (part : List Batch) → ((x : Batch) → Among x part → Among x (both sent))
        → AllByRecursion (λ b. has_key (missing_from (Some b.key) (both sent ++ batches_of waiting)) so_far ≡ true) part
    each-own frees own before [] within = tt
    each-own frees own before (b ∷ part) within = (
      ap (λ o. has_key o so_far) (missing-append (Some b.key) (both sent) (batches_of waiting)
          ∙ ap (λ o. missing_from o (both sent)) (missing-before b.key (batches_of waiting) (all-among (λ (x : Batch). ComeAfter x.key (batches_of waiting)) (both sent) b before (within b (inl refl)))))
          ∙ up-both so_far sent (Some b.key) each.0.message frees own
          (has-back (Some b.key) so_far (both sent)
          (all-among (λ (x : Batch). has_key (Some x.key) (both sent) ≡ true) (both sent) b
          (all-more (λ (x : Batch). batch_at x.key (both sent) ≡ Some x) (λ x. has_key (Some x.key) (both sent) ≡ true) (λ x h. ap is_some h) (both sent)
          (all-there (both sent) (both-rise sent each.0.message))) (within b (inl refl)))),
      each-own frees own before part (λ x h. within x (inr h)),
    )

module _ (waiting : List Message) (new : Message) (are : AreWaiting waiting) (apart : IsNewTo (batches_of waiting) new) where
  abbrev out : List Batch
  out = both new ++ batches_of (freed_by (both new) waiting)

  apart-new : IsApart (both new) (batches_of waiting)
  apart-new = apart-flip (batches_of waiting) (both new) apart

  kept-out : IsApart out (batches_of (kept_by (both new) waiting))
  kept-out = kept-apart (both new) waiting are.set.ordered apart-new

  -- what is kept is what waits and is not out
  kept-parts : filter (λ b. not (has_key (Some b.key) out)) (batches_of waiting) ≡ batches_of (kept_by (both new) waiting)
  kept-parts =
      same-found (filter (λ b. not (has_key (Some b.key) out)) (batches_of waiting)) (batches_of (kept_by (both new) waiting))
      (Rise-filter (λ b. not (has_key (Some b.key) out)) (batches_of waiting) are.set.ordered) (rise-freed (both new) waiting are.set.ordered).1
      (λ q. filter-found (λ k. not (has_key (Some k) out)) (batches_of waiting) q ∙ by q (batch_at q out) refl)
    where
      none : (q : BatchKey) (x : Batch) → batch_at q out ≡ Some x → (o : Option Batch) → batch_at q (batches_of (kept_by (both new) waiting)) ≡ o → None ≡ batch_at q (batches_of (kept_by (both new) waiting))
      none q x e None g = sym g
      none q x e (Some y) g =
          let off : batch_at q out ≡ None =
          subst (λ (k : BatchKey). batch_at k out ≡ None) (found-key (batches_of (kept_by (both new) waiting)) q y g)
          (found-all (λ b. batch_at b.key out ≡ None) (batches_of (kept_by (both new) waiting)) q y kept-out g) in absurd (cc)

      by : (q : BatchKey) (o : Option Batch) → batch_at q out ≡ o → cond (not (is_some (batch_at q out))) (batch_at q (batches_of waiting)) None ≡ batch_at q (batches_of (kept_by (both new) waiting))
      by q None e =
          ap (λ o. cond (not (is_some o)) (batch_at q (batches_of waiting)) None) e ∙ found-parts (both new) waiting q are.set.ordered
          ∙ ap (λ o. option_or o (batch_at q (batches_of (kept_by (both new) waiting)))) (none-parts q (both new) (batches_of (freed_by (both new) waiting)) e).1
      by q (Some x) e = ap (λ o. cond (not (is_some o)) (batch_at q (batches_of waiting)) None) e ∙ none q x e (batch_at q (batches_of (kept_by (both new) waiting))) refl

  -- what waits and is not out, waits for none that is out
  off-out : AllByRecursion (λ b. not (has_key (Some b.key) out) ≡ true → has_key (earlier b) out ≡ false) (batches_of waiting)
  off-out =
      all-more (λ (b : Batch). batch_at b.key (batches_of waiting) ≡ Some b) (λ b. not (has_key (Some b.key) out) ≡ true → has_key (earlier b) out ≡ false)
      (λ b h e. by b h e (batch_at b.key out) refl) (batches_of waiting) (all-there (batches_of waiting) are.set.ordered)
    where
      by : (b : Batch) → batch_at b.key (batches_of waiting) ≡ Some b → not (has_key (Some b.key) out) ≡ true → (o : Option Batch) → batch_at b.key out ≡ o → has_key (earlier b) out ≡ false
      by b h e (Some x) f = absurd (true≢false (sym e ∙ ap (λ o. not (is_some o)) f))
      by b h e None f =
          let here : batch_at b.key (batches_of (kept_by (both new) waiting)) ≡ Some b =
          sym (found-parts (both new) waiting b.key are.set.ordered
          ∙ ap (λ o. option_or o (batch_at b.key (batches_of (kept_by (both new) waiting)))) (none-parts b.key (both new) (batches_of (freed_by (both new) waiting)) f).1) ∙ h in
          found-all (λ x. has_key (earlier x) out ≡ false) (batches_of (kept_by (both new) waiting)) b.key b (kept-off (both new) waiting are.each are.set.ordered apart-new) here

  through-kept : (key : BatchKey) → has_key (Some key) out ≡ false
      → (missing_from (Some key) (batches_of (kept_by (both new) waiting)) ≡ missing_from (Some key) (batches_of waiting)) × (has_key (missing_from (Some key) (batches_of waiting)) out ≡ false)
  through-kept key h =
      let r = filter-missing (λ b. not (has_key (Some b.key) out)) out (batches_of waiting) (Some key) off-out
      (all-each (λ (b : Batch). not (has_key (Some b.key) out) ≡ false → has_key (Some b.key) out ≡ true) (λ b e. unnot (has_key (Some b.key) out) e) (batches_of waiting)) h in
      (ap (missing_from (Some key)) (sym kept-parts) ∙ r.0, r.1)
    where
      unnot : (t : Bool) → not t ≡ false → t ≡ true
      unnot true e = refl
      unnot false e = absurd (true≢false e)

  -- from what is out one comes to what is out
  out-missing : (key : BatchKey) → has_key (Some key) out ≡ true → has_key (missing_from (Some key) (batches_of waiting)) out ≡ true
  out-missing key h = by (batch_at key (both new)) refl (batch_at key (batches_of (freed_by (both new) waiting))) refl
    where
      by : (o : Option Batch) → batch_at key (both new) ≡ o → (p : Option Batch) → batch_at key (batches_of (freed_by (both new) waiting)) ≡ p
          → has_key (missing_from (Some key) (batches_of waiting)) out ≡ true
      by (Some x) e p f = ap (λ o. has_key o out) (stays-wanted (both new) (batches_of waiting) (Some key) apart-new (ap is_some e)) ∙ h
      by None e (Some x) f =
          has-front (missing_from (Some key) (batches_of waiting)) (both new) (batches_of (freed_by (both new) waiting))
          (subst (λ (k : BatchKey). has_key (missing_from (Some k) (batches_of waiting)) (both new) ≡ true) (found-key (batches_of (freed_by (both new) waiting)) key x f)
          (found-all (λ b. has_key (missing_from (Some b.key) (batches_of waiting)) (both new) ≡ true) (batches_of (freed_by (both new) waiting)) key x
          (freed-missing (both new) waiting are.each are.set.ordered apart-new) f))
      by None e None f =
          absurd (true≢false (sym h ∙ has-append key (both new) (batches_of (freed_by (both new) waiting)) ∙ ap (λ t. t || has_key (Some key) (batches_of (freed_by (both new) waiting))) (ap is_some e) ∙ ap is_some f))

  -- a shortcut of a key that is not out stays one
  pub kept-leads : (key to : BatchKey) → LeadsUp (batches_of waiting) key to → batch_at key (batches_of (freed new waiting)) ≡ None → LeadsUp (batches_of (still_put_off new waiting)) key to
  unfolding freed still_put_off
  kept-leads key to leads absent =
      let inside : has_key (Some key) out ≡ false = ap is_some absent in
      let one = through-kept key inside in
      record {
        there = ap is_some (sym (found-parts (both new) waiting key are.set.ordered
            ∙ ap (λ o. option_or o (batch_at key (batches_of (kept_by (both new) waiting)))) (none-parts key (both new) (batches_of (freed_by (both new) waiting)) absent).1)) ∙ leads.there;
        before = leads.before;
        same = (through-kept to (by one.1 (has_key (Some to) out) refl)).0 ∙ leads.same ∙ sym one.0;
      }
    where
      by : has_key (missing_from (Some key) (batches_of waiting)) out ≡ false → (t : Bool) → has_key (Some to) out ≡ t → t ≡ false
      by off false e = refl
      by off true e = absurd (true≢false (sym (out-missing to e) ∙ ap (λ o. has_key o out) leads.same ∙ off))
