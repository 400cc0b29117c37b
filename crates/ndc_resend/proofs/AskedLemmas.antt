-- What is answered for the gap before a batch that is put off.
use Rattle.std.proofs.Common.{◌≡◌, ◌≢◌, ℕ, ◌+◌, Bool, true≢false, List, [], ◌∷◌, ◌++◌, ◌⊎◌, inl, inr, Option, Some, None, refl, sym, ◌∙◌, subst, ap}
use Rattle.std.specs.Prelude.{IsSome, if◌then◌else◌, is_some}
use Rattle.std.specs.List.{AllByRecursion, IsAmong}
use Rattle.ndc_event.specs.declared.batch.Batch.{Batch}
use Rattle.ndc_event.specs.declared.key.BatchKey.{BatchKey}
use Rattle.ndc_history.specs.declared.item.Item.{Item}
use Rattle.ndc_history.specs.Common.{best_from, better, greatest, item_or_zero, shared}
use Rattle.ndc_model_cells.specs.Workflow.{WorkflowValue}
pub use Rattle.ndc_model_cells.proofs.AmongLemmas.{among-is, is-among}
use Rattle.ndc_model_sets.specs.Branches.{histories}
use Rattle.ndc_model_sets.specs.Learned.{IsClosed, WaitsFor, learned}
use Rattle.ndc_model_sets.specs.Paths.{IsPath, Walk, below, best_item, events_to, first, last_item_of, path_to, versions_of}
use Rattle.ndc_model_sets.specs.Sets.{Has, IsSet, batch_at}
use Rattle.ndc_model_sets.proofs.ForkLemmas.{among-cases}
use Rattle.ndc_model_sets.proofs.LearnedLemmas.{IsSet-learned, learned_closed}
use Rattle.ndc_model_sets.proofs.Lists.{Among, all-among}
use Rattle.ndc_model_sets.proofs.PathLemmas.{part-path, path_is}
use Rattle.ndc_model_sets.proofs.SetLemmas.{found-all}
use Rattle.ndc_resend.specs.declared.serving.Gap.{Gap}
use Rattle.ndc_resend.specs.Gaps.{end_behind, first_item, gap_of, served}
use Rattle.ndc_resend.proofs.GapLaws.{begins_behind}
use Rattle.ndc_resend.proofs.ServeLemmas.{end_is_enough, served_is_between}
use Rattle.ndc_state.specs.Replay.{history_of}
use Rattle.ndc_resend.specs.Asked.{HasLearned, IsPutOffIn}
use Rattle.ndc_resend.specs.PutOff.{gap_in, history_in, message_with, remote_of}
use Rattle.ndc_resend.specs.Serving.{answered, chain_to, first_carrier, with_carriers}
use Rattle.ndc_resend.proofs.AncestorLemmas.{above-in, among-back, among-front, carried-above, carried-top, chain-all, chain-only, chain-path, waits-in, waits-more, waits-trans}
use Rattle.ndc_resend.proofs.ChainLemmas.{chain_of, none-wanted}

-- with no history there is nothing in common
nothing-shared : (items : List Item) → shared items [] ≡ []
nothing-shared [] = refl
nothing-shared (item ∷ items) = nothing-shared items

nothing-common : (place : ℕ) (local : List (List Item)) → best_from place local [] ≡ None
nothing-common place [] = refl
nothing-common place (history ∷ histories) = ap (λ items. better place (greatest items) (best_from (place + 1) histories [])) (nothing-shared history) ∙ nothing-common (place + 1) histories

-- a gap between two ends
abbrev between : Item → Item → Gap
between after before = record { after = after; before = before }

module _ (all : List Batch) (w : WorkflowValue) (b : Batch) (front middle : List Batch) (off : IsPutOffIn all w b front middle) where
  abbrev part : List Batch
  part = learned w.arrived

  part-set : IsSet part
  part-set = IsSet-learned w.arrived off.set

  part-closed : IsClosed part
  part-closed = (learned_closed w.arrived off.set).1

  -- where the batch begins its run, it is its path
  alone : b.parent ≡ None → (front ≡ []) × (middle ≡ [])
  alone none = both-empty front middle (sym (lone (path_to b.key all) (path_is all b off.sound.set off.sound.closed off.has)) ∙ off.path)
    where
      lone : (path : List Batch) → IsPath all b path → path ≡ b ∷ []
      lone path (first _ has e) = refl
      lone path (below _ before key before_path has e at rest) = absurd (let both_are : None ≡ Some key = sym none ∙ e in cc)

      ends : (ys : List Batch) → ys ++ b ∷ [] ≡ [] → ⊥
      ends [] f = absurd (cc)
      ends (y ∷ ys) f = absurd (cc)

      filled : (xs ys : List Batch) → xs ++ (ys ++ b ∷ []) ≡ [] → ⊥
      filled (x ∷ xs) ys e = absurd (cc)
      filled [] ys e = ends ys e

      both-empty : (xs ys : List Batch) → b ∷ [] ≡ xs ++ (ys ++ b ∷ []) → (xs ≡ []) × (ys ≡ [])
      both-empty [] [] e = (refl, refl)
      both-empty [] (y ∷ ys) e = absurd (ends ys (cc))
      both-empty (x ∷ xs) ys e = absurd (filled xs ys (cc))

  by-history : remote_of b w.waiting ≡ versions_of (events_to b.key all) → (gap_in w b).gap ≡ between (item_or_zero (last_item_of (history_of front))) (first_item b)
  by-history history =
      ap (λ h. gap_of (histories b.run part) h (first_item b)) history
      ∙ begins_behind all part b front (middle ++ b ∷ []) (first_item b) off.sound part-set part-closed off.within off.has off.path
      (λ c has. found-all (Has part) front c.key c off.known has) (λ c has. found-all (λ x. batch_at x.key part ≡ None) (middle ++ b ∷ []) c.key c off.unknown has)

  pub gap_begins : (gap_in w b).gap ≡ between (item_or_zero (last_item_of (history_of front))) (first_item b)
  gap_begins = by b.parent refl
    where
      by : (o : Option BatchKey) → b.parent ≡ o → (gap_in w b).gap ≡ between (item_or_zero (last_item_of (history_of front))) (first_item b)
      by (Some key) e = by-history (off.history (subst (λ (o : Option BatchKey). IsSome o) (sym e) refl))
      by None e =
          ap (λ (t : Bool). gap_of (histories b.run part) (if t then history_in (message_with b.key w.waiting) else []) (first_item b)) (ap is_some e)
          ∙ ap (λ best. between (item_or_zero (best_item best)) (first_item b)) (nothing-common 0 (histories b.run part))
          ∙ ap (λ (l : List Batch). between (item_or_zero (last_item_of (history_of l))) (first_item b)) (sym (alone e).0)

  module _ (mine : List Batch) (holds : HasLearned all mine b) where
    same-path : path_to b.key mine ≡ path_to b.key all
    same-path = part-path mine all b holds.set holds.closed off.sound.set off.sound.closed holds.within holds.has

    pub answer_is : answered mine (gap_in w b).gap b.key ≡ with_carriers mine middle
    answer_is =
        ap (λ g. with_carriers mine (served g (end_behind g.after.id (path_to b.key mine)))) gap_begins
        ∙ ap (λ path. with_carriers mine (served (between (item_or_zero (last_item_of (history_of front))) (first_item b)) (end_behind (item_or_zero (last_item_of (history_of front))).id path))) same-path
        ∙ ap (with_carriers mine) (end_is_enough all b (between (item_or_zero (last_item_of (history_of front))) (first_item b)) off.sound off.has)
        ∙ ap (with_carriers mine) (served_is_between all b front middle off.sound off.has off.path)

    -- for a batch that begins its run nothing is answered
    pub no-answer : b.parent ≡ None → answered mine (gap_in w b).gap b.key ≡ []
    no-answer none = answer_is ∙ ap (with_carriers mine) (alone none).1 ∙ ap (λ (v : Walk). v.path ++ []) (none-wanted mine)

    -- the ancestors of the batch
    whole : chain_of (Some b) mine ≡ chain_to (first_carrier (front ++ (middle ++ b ∷ []))) mine ++ (front ++ (middle ++ b ∷ []))
    whole = chain-path mine holds.set b (path_to b.key mine) (path_is mine b holds.set holds.closed holds.has) ∙ ap (with_carriers mine) (same-path ∙ off.path)

    inside : (x : Batch) → Among x (front ++ (middle ++ b ∷ [])) → WaitsFor mine x b
    inside x among =
        chain-only mine holds.set holds.closed b holds.has x
        (subst (Among x) (sym whole) (among-back x (chain_to (first_carrier (front ++ (middle ++ b ∷ []))) mine) (front ++ (middle ++ b ∷ [])) among))

    there : (x : Batch) → WaitsFor mine x b → Has mine x
    there x waits = above-in mine mine (λ _ has. has) holds.closed x b holds.has waits

    pub answered_above : (x : Batch) → Among x (with_carriers mine middle) → WaitsFor all x b
    answered_above x among = waits-more mine all holds.within x b (by (among-cases x (chain_to (first_carrier middle) mine) middle among))
      where
        carried : (l : List Batch) → ((m : Batch) → Among m l → WaitsFor mine m b) → Among x (chain_to (first_carrier l) mine) → WaitsFor mine x b
        carried [] on h = absurd (subst (Among x) (ap (λ (v : Walk). v.path) (none-wanted mine)) h)
        carried (m ∷ ms) on h =
            let waits : WaitsFor mine m b = on m (inl refl) in
            waits-trans mine x m b (carried-above mine holds.set holds.closed m (there m waits) (off.sound.faultless m (holds.within m (there m waits))) x h) waits

        by : Among x (chain_to (first_carrier middle) mine) ⊎ Among x middle → WaitsFor mine x b
        by (inl h) = carried middle (λ m k. inside m (among-back m front (middle ++ b ∷ []) (among-front m middle (b ∷ []) k))) h
        by (inr h) = inside x (among-back x front (middle ++ b ∷ []) (among-front x middle (b ∷ []) h))

    module _ (x : Batch) (parent : IsSome b.parent) (waits : WaitsFor all x b) (other : x ≢ b) (missing : batch_at x.key part ≡ None) where
      unlearned : Has part x → ⊥
      unlearned has = absurd (cc)

      on-path : Among x (front ++ (middle ++ b ∷ [])) → Among x (with_carriers mine middle)
      on-path among = by (among-cases x front (middle ++ b ∷ []) among)
        where
          behind-it : Among x middle ⊎ Among x (b ∷ []) → Among x (with_carriers mine middle)
          behind-it (inl h) = among-back x (chain_to (first_carrier middle) mine) middle h
          behind-it (inr (inl same)) = absurd (other same)
          behind-it (inr (inr h)) = absurd h

          by : Among x front ⊎ Among x (middle ++ b ∷ []) → Among x (with_carriers mine middle)
          by (inl h) = absurd (unlearned (all-among (Has part) front x off.known h))
          by (inr h) = behind-it (among-cases x middle (b ∷ []) h)

      above-path : (f m : List Batch) → AllByRecursion (Has part) f → ((y : Batch) → Among y (f ++ (m ++ b ∷ [])) → WaitsFor mine y b)
          → Among x (chain_to (first_carrier (f ++ (m ++ b ∷ []))) mine) → Among x (chain_to (first_carrier m) mine ++ m)
      above-path (y ∷ ys) m known on h =
          let up : WaitsFor mine y b = on y (inl refl) in
          let above : WaitsFor mine x y = carried-above mine holds.set holds.closed y (there y up) (off.sound.faultless y (holds.within y (there y up))) x h in
          absurd (unlearned (above-in part all off.within part-closed x y known.0 (waits-more mine all holds.within x y above)))
      above-path [] (y ∷ ys) known on h = among-front x (chain_to y.carrier mine) (y ∷ ys) h
      above-path [] [] known on h = absurd (none b.parent (carried-top mine holds.set holds.closed b (off.sound.faultless b off.has) x h) parent)
        where
          none : (o : Option BatchKey) → o ≡ None → IsSome o → ⊥
          none None e some = absurd (true≢false (sym some))
          none (Some key) e some = absurd (cc)

      pub missing_among : Among x (with_carriers mine middle)
      missing_among =
          by (among-cases x (chain_to (first_carrier (front ++ (middle ++ b ∷ []))) mine) (front ++ (middle ++ b ∷ []))
          (subst (Among x) whole (chain-all mine holds.set x b holds.has (waits-in mine all holds.within holds.closed x b holds.has waits))))
        where
          by : Among x (chain_to (first_carrier (front ++ (middle ++ b ∷ []))) mine) ⊎ Among x (front ++ (middle ++ b ∷ [])) → Among x (with_carriers mine middle)
          by (inl h) = above-path front middle off.known inside h
          by (inr h) = on-path h

pub missing_is_answered : (all mine : List Batch) (w : WorkflowValue) (b x : Batch) (front middle : List Batch) → IsPutOffIn all w b front middle → HasLearned all mine b → IsSome b.parent
    → WaitsFor all x b → x ≢ b → batch_at x.key (learned w.arrived) ≡ None → IsAmong (answered mine (gap_in w b).gap b.key) x
missing_is_answered all mine w b x front middle off holds parent waits other missing =
    among-is (answered mine (gap_in w b).gap b.key) x
    (subst (Among x) (sym (answer_is all w b front middle off mine holds)) (missing_among all w b front middle off mine holds x parent waits other missing))

pub answered_is_above : (all mine : List Batch) (w : WorkflowValue) (b x : Batch) (front middle : List Batch) → IsPutOffIn all w b front middle → HasLearned all mine b
    → IsAmong (answered mine (gap_in w b).gap b.key) x → WaitsFor all x b
answered_is_above all mine w b x front middle off holds among =
    answered_above all w b front middle off mine holds x (subst (Among x) (answer_is all w b front middle off mine holds) (is-among (answered mine (gap_in w b).gap b.key) x among))
