-- A cell of which the caller keeps sound sets: what it may write, and what writing keeps.
use Rattle.std.proofs.Common.{◌≡◌, ◌≤◌, ◌+◌, ◌^◌, ℕ, Bool, true, false, is_some, List, [], ◌∷◌, length, ◌⊎◌, inl, inr, Option, Some, None, Result, Ok, Err, IfSome, option_to_list, refl, sym, ◌∙◌, subst, ap, arith, true≢false}
use Rattle.std.specs.List.{AllByRecursion, flat_map}
use Rattle.std.proofs.lemmas.List.Sums.{count_by-le-length}
use Rattle.ndc_command.specs.declared.command.Command.{Command}
use Rattle.ndc_command.specs.declared.refusal.CommandError.{CommandError}
use Rattle.ndc_command.specs.declared.refusal.Refusal.{Refusal}
use Rattle.ndc_domain.specs.Clusters.{writer_of}
use Rattle.ndc_event.specs.Key.{key_eq}
use Rattle.ndc_event.specs.declared.batch.Batch.{Batch}
use Rattle.ndc_event.specs.declared.batch.Event.{Event}
use Rattle.ndc_event.specs.declared.key.BatchKey.{BatchKey}
use Rattle.ndc_event.specs.declared.name.Name.{Name}
use Rattle.ndc_index.specs.Texts.{is_original}
use Rattle.ndc_model_cells.specs.declared.message.Message.{Message}
use Rattle.ndc_model_cells.specs.Allowed.{HasRoom, MayReapply, MayTake, MayWrite, MayWriteAll}
use Rattle.ndc_model_cells.specs.Cells.{Cell, IsCell, arrived_of, both, learned_of}
use Rattle.ndc_model_cells.specs.Laws.{arrived_second}
use Rattle.ndc_model_cells.specs.Messages.{batches_of, carrying, waits_for}
use Rattle.ndc_model_cells.specs.Places.{is_of}
use Rattle.ndc_model_cells.specs.Workflow.{workflow_of}
use Rattle.ndc_model_cells.specs.Writing.{Desk, Entry, command_entries, command_of, greatest_version, may_write, reapplication_below, reapplication_by, reapplication_of, reset_at, reset_below, state_under, with_all_written, with_written, goes_on}
use Rattle.ndc_model_cells.proofs.CellLemmas.{others_arrived}
use Rattle.ndc_model_cells.proofs.PlaceLemmas.{set_of_workflow, writing_keeps, writing_only_adds, written_arrives}
use Rattle.ndc_model_cells.proofs.SoundLemmas.{learned_is_sound}
use Rattle.ndc_model_sets.specs.Branches.{workflow_tip}
use Rattle.ndc_model_sets.specs.Current.{strays}
use Rattle.ndc_model_sets.specs.Learned.{IsPart, ReachesTop, has_key, top, up}
use Rattle.ndc_model_sets.specs.Sets.{Has, IsSet, PointsBack, Rise, arrived, batch_at, earlier, earlier_of}
use Rattle.ndc_model_sets.specs.Sound.{CopiesNamed, IsSound}
use Rattle.ndc_model_sets.proofs.ArrivalLemmas.{arrival_keeps_sets, is_there, stays, was_or_new}
use Rattle.ndc_model_sets.proofs.BranchLemmas.{among-has, has-among}
use Rattle.ndc_model_sets.proofs.LearnedLemmas.{learned-reaches, learned_closed, reaches-has, reaches-learned, reaches-more}
use Rattle.ndc_model_sets.proofs.Lists.{Among, all-among, all-from, find-among}
use Rattle.ndc_model_sets.proofs.SetLemmas.{found-has, found-key, has-found}
use Rattle.ndc_model_sets.proofs.SoundLemmas.{faultless-back}
use Rattle.ndc_laws_cells.specs.Adding.{MayAdd}
use Rattle.ndc_laws_cells.specs.Entries.{AddsOne, AddsTwo, IsCarriedIn, IsEntryOf}
use Rattle.ndc_model_cells.specs.Keeping.{HasRange, IsAuthor, IsKept, IsWhole, with_entries, with_entry}
use Rattle.ndc_laws_cells.proofs.CommandLemmas.{command-adds}
use Rattle.ndc_laws_cells.proofs.EntryLemmas.{greatest-least}
use Rattle.ndc_laws_cells.proofs.KeptLemmas.{events-within, if-some, joined-has, some-if}
use Rattle.ndc_laws_cells.proofs.Lists.{flat-among}
use Rattle.ndc_laws_cells.proofs.MayLemmas.{events-same, next-counts, version-most}
use Rattle.ndc_laws_cells.proofs.NameLemmas.{AreApart, apart-flip, names-of, own-names}
use Rattle.ndc_laws_cells.proofs.ReapplyLemmas.{reapplication-adds}
use Rattle.ndc_laws_cells.proofs.ResetLemmas.{reset-adds}
use Rattle.ndc_laws_cells.proofs.StrayLemmas.{strays-few}
use Rattle.ndc_laws_cells.proofs.VersionLemmas.{WritesWith, may-have, may-parts}

-- a message that waits beside what has arrived: its batches have arrived, and its batch has an earlier key
pub record IsWaiting (held : List Batch) (sent : Message) : Type 0 where
  pub arrived : (b : Batch) → Among b (both sent) → Has held b
  pub later : earlier sent.batch ≡ None → ⊥

-- what waits of a workflow
abbrev pub AllWait : Name → Name → Cell → Type 0
AllWait domain workflow cell = (sent : Message) → Among sent (workflow_of domain workflow cell).waiting → IsWaiting (arrived_of domain workflow cell) sent

-- a workflow of a cell as it is to be: what has arrived is in order, what waits has arrived, and the set is kept
pub record IsFine (all : List Batch) (domain workflow : Name) (cell : Cell) : Type 0 where
  pub cell_is : IsCell cell
  pub waits : AllWait domain workflow cell
  pub kept : IsKept all domain workflow cell

-- what a writer that may add has learned: a part of the set
module _ (all : List Batch) (domain workflow : Name) (cell : Cell) (fine : IsFine all domain workflow cell) where
  abbrev held : List Batch
  held = arrived_of domain workflow cell

  abbrev part : List Batch
  part = learned_of domain workflow cell

  held-set : IsSet held
  held-set = set_of_workflow domain workflow cell fine.cell_is

  pub part-within : IsPart part all
  part-within b has = fine.kept.within b (reaches-has held b (learned-reaches held b held-set has))

  -- with a version of which it has learned all, and none of a greater one
  pub may-add : (version : ℕ) → CopiesNamed all → ((b : Batch) → Has all b → b.key.version ≡ version → Has part b) → ((b : Batch) → Has part b → b.key.version ≤ version) → MayAdd all part version
  may-add version named own most =
      let closed = learned_closed held held-set in
      record { sound = fine.kept.sound; named = named; part_set = closed.0; part_closed = closed.1; within = part-within; own = own; top = most }

  -- as an author with the version that it may write with
  pub author-adds : (home : Desk) → IsAuthor home all domain workflow cell → (version : ℕ) → WritesWith home domain part version → MayAdd all part version
  author-adds home author version with =
      may-add version author.named (λ b has same. author.own b has (ap (writer_of home.clusters) same ∙ with.by_record.writer))
      (λ b has. let l = version-most part b (has-among part b has) in let m = with.most in omega (arith, l, m))

  -- with a version that none has reached anybody might add
  pub has-room : CopiesNamed all → HasRange all → HasRoom (learned_of domain workflow cell)
  has-room named range = record {
    tasks = greatest-least (10 ^ 11) part (λ b h. range.tasks_most b (part-within b (among-has part b might.part_set.ordered h)));
    ids = by (workflow_tip part) refl;
  }
    where
      later : ℕ
      later = greatest_version all + 1

      below : (b : Batch) → Has all b → b.key.version ≤ greatest_version all
      below b has = version-most all b (has-among all b has)

      might : MayAdd all part later
      might =
          may-add later named (λ b has same. let l = below b has in absurd (omega (arith, l, same))) (λ b has. let l = below b (part-within b has) in omega (arith, l))

      strays-most : length (strays part) ≤ 10 ^ 11
      strays-most =
          let few = strays-few all part named (λ b h. part-within b (among-has part b might.part_set.ordered h)) (λ b has. has-among all b has) in
          let count = count_by-le-length (λ (e : Event). is_original e.kind) (flat_map (λ (b : Batch). b.events) all) in
          let m = range.events_most in omega (arith, few, count, m)

      by : (o : Option Batch) → workflow_tip part ≡ o → IfSome (state_under o part) (λ s. s.next + length (strays part) + 2 ≤ 10 ^ 12)
      by None e = tt
      by (Some tip) e =
          let n = next-counts all part later might tip e in
          let p = events-within tip.key all in
          let q = ap length (events-same all part later might tip e) in
          let s = strays-most in let m = range.events_most in
          omega (arith, n, p, q, s, m)

  -- an entry of the set
  module _ (version : ℕ) (entry : Entry) (write : IsEntryOf all part domain workflow version entry) where
    abbrev more : List Batch
    more = arrived entry.batch all

    order : Rise all
    order = fine.kept.sound.set.ordered

    second-of : (s : Batch) → entry.second ≡ Some s → IsCarriedIn all entry.batch s
    second-of s e = some-if (IsCarriedIn all entry.batch) entry.second s write.second e

    first-back : PointsBack entry.batch
    first-back = faultless-back entry.batch (write.added.sound.faultless entry.batch (is_there entry.batch all order write.added.fresh))

    second-back : IfSome entry.second PointsBack
    second-back = if-some PointsBack entry.second (λ s e. faultless-back s ((second-of s e).added.sound.faultless s (is_there s more write.added.sound.set.ordered (second-of s e).added.fresh)))

    first-own : is_of domain workflow entry.batch ≡ true
    first-own = subst (λ d. is_of d workflow entry.batch ≡ true) write.domain_is (subst (λ u. is_of entry.batch.domain u entry.batch ≡ true) write.workflow_is (own-names entry.batch))

    second-own : IfSome entry.second (λ s. is_of domain workflow s ≡ true)
    second-own = if-some (λ s. is_of domain workflow s ≡ true) entry.second each
      where
        each : (s : Batch) → entry.second ≡ Some s → is_of domain workflow s ≡ true
        each s e =
            let c = second-of s e in
            subst (λ d. is_of d workflow s ≡ true) (c.domain_is ∙ write.domain_is) (subst (λ u. is_of s.domain u s ≡ true) (c.workflow_is ∙ write.workflow_is) (own-names s))

    pub then-arrived : arrived_of domain workflow (with_written entry cell) ≡ with_entry entry held
    then-arrived = written_arrives domain workflow entry cell fine.cell_is first-back first-own second-own

    -- the set with the entry is sound, and its copies name originals
    joined-cases : (P : List Batch → Type 0) → P more → ((s : Batch) → entry.second ≡ Some s → P (arrived s more)) → P (with_entry entry all)
    joined-cases P one two = by entry.second two
      where
        by : (o : Option Batch) → ((s : Batch) → o ≡ Some s → P (arrived s more)) → P (arrived_second o more)
        by None each = one
        by (Some s) each = each s refl

    pub then-sound : IsSound (with_entry entry all)
    then-sound = joined-cases IsSound write.added.sound (λ s e. (second-of s e).added.sound)

    pub then-named : CopiesNamed (with_entry entry all)
    then-named = joined-cases CopiesNamed write.added.named (λ s e. (second-of s e).added.named)

    -- what was there is there still, and the batches of the entry are
    pub still-there : IsPart all (with_entry entry all)
    still-there b has = joined-cases (λ l. Has l b) (stays entry.batch all order b has) (λ s e. stays s more write.added.sound.set.ordered b (stays entry.batch all order b has))

    pub first-there : Has (with_entry entry all) entry.batch
    first-there = joined-cases (λ l. Has l entry.batch) here (λ s e. stays s more write.added.sound.set.ordered entry.batch here)
      where
        here : Has more entry.batch
        here = is_there entry.batch all order write.added.fresh

    pub second-there : (s : Batch) → entry.second ≡ Some s → Has (with_entry entry all) s
    second-there s e = subst (λ (o : Option Batch). Has (arrived_second o more) s) (sym e) (is_there s more write.added.sound.set.ordered (second-of s e).added.fresh)

    then-within : IsPart (with_entry entry held) (with_entry entry all)
    then-within x has = by (joined-has entry.second entry.batch held x held-set.ordered (arrival_keeps_sets entry.batch held held-set first-back).ordered has)
      where
        by : (x ≡ entry.batch) ⊎ ((entry.second ≡ Some x) ⊎ Has held x) → Has (with_entry entry all) x
        by (inl same) = subst (Has (with_entry entry all)) (sym same) first-there
        by (inr (inl e)) = second-there x e
        by (inr (inr old)) = still-there x (fine.kept.within x old)

    then-own : AllByRecursion (λ b. is_of domain workflow b ≡ true) (with_entry entry all)
    then-own = all-from (λ b. is_of domain workflow b ≡ true) (with_entry entry all) each
      where
        each : (x : Batch) → Among x (with_entry entry all) → is_of domain workflow x ≡ true
        each x there = by (joined-has entry.second entry.batch all x order write.added.sound.set.ordered (among-has (with_entry entry all) x then-sound.set.ordered there))
          where
            by : (x ≡ entry.batch) ⊎ ((entry.second ≡ Some x) ⊎ Has all x) → is_of domain workflow x ≡ true
            by (inl same) = subst (λ y. is_of domain workflow y ≡ true) (sym same) first-own
            by (inr (inl e)) = some-if (λ s. is_of domain workflow s ≡ true) entry.second x second-own e
            by (inr (inr old)) = all-among (λ y. is_of domain workflow y ≡ true) all x fine.kept.own (has-among all x old)

    -- what is learned after it
    still-learned : IsPart part (learned_of domain workflow (with_written entry cell))
    still-learned = writing_only_adds domain workflow entry cell fine.cell_is first-back second-back

    held-still : IsPart held (with_entry entry held)
    held-still b has = by entry.second
      where
        first : Has (arrived entry.batch held) b
        first = stays entry.batch held held-set.ordered b has

        by : (o : Option Batch) → Has (arrived_second o (arrived entry.batch held)) b
        by None = first
        by (Some s) = stays s (arrived entry.batch held) (arrival_keeps_sets entry.batch held held-set first-back).ordered b first

    pub then-fine : IsFine (with_entry entry all) domain workflow (with_written entry cell)
    then-fine = record {
      cell_is = writing_keeps entry cell fine.cell_is first-back second-back;
      waits = λ sent there. let w = fine.waits sent there in record { arrived = λ b h. subst (λ l. Has l b) (sym then-arrived) (held-still b (w.arrived b h)); later = w.later };
      kept = record { own = then-own; sound = then-sound; within = subst (λ l. IsPart l (with_entry entry all)) (sym then-arrived) then-within };
    }

    -- no batch of the set has a key of the entry
    fresh-keys : (b : Batch) → Among b (both (carrying entry.batch entry.second)) → batch_at b.key all ≡ None
    fresh-keys b (inl same) = ap (λ (x : Batch). batch_at x.key all) same ∙ write.added.fresh
    fresh-keys b (inr there) = by entry.second refl there
      where
        by : (o : Option Batch) → entry.second ≡ o → Among b (option_to_list o) → batch_at b.key all ≡ None
        by None e none = absurd none
        by (Some s) e (inl same) = none-there (batch_at b.key all) refl
          where
            none-there : (o : Option Batch) → batch_at b.key all ≡ o → o ≡ None
            none-there None at = refl
            none-there (Some x) at =
                let key : x.key ≡ b.key = found-key all b.key x at in
                let there : Has more x = stays entry.batch all order x (found-has all b.key x at) in
                let fresh : batch_at b.key more ≡ None = ap (λ (y : Batch). batch_at y.key more) same ∙ (second-of s e).added.fresh in
                let clash : Some x ≡ None = sym there ∙ ap (λ (k : BatchKey). batch_at k more) key ∙ fresh in
                absurd (cc)
        by (Some s) e (inr none) = absurd none

    abbrev waiting : List Message
    waiting = (workflow_of domain workflow cell).waiting

    -- none waits with such a key, or for one
    none-waits : (b : Batch) → Among b (both (carrying entry.batch entry.second)) → batch_at b.key (batches_of waiting) ≡ None
    none-waits b there = by (batch_at b.key (batches_of waiting)) refl
      where
        by : (o : Option Batch) → batch_at b.key (batches_of waiting) ≡ o → o ≡ None
        by None at = refl
        by (Some x) at =
            let m = flat-among both waiting x (find-among (λ (y : Batch). key_eq y.key b.key) (batches_of waiting) x at) in
            let has : Has all x = fine.kept.within x ((fine.waits m.0 m.1).arrived x m.2) in
            let key : x.key ≡ b.key = found-key (batches_of waiting) b.key x at in
            let clash : Some x ≡ None = sym has ∙ ap (λ (k : BatchKey). batch_at k all) key ∙ fresh-keys b there in
            absurd (cc)

    not-awaited : (sent : Message) → Among sent waiting → waits_for (both (carrying entry.batch entry.second)) sent ≡ false
    not-awaited sent there = by (earlier sent.batch) refl
      where
        w : IsWaiting held sent
        w = fine.waits sent there

        has : Has all sent.batch
        has = fine.kept.within sent.batch (w.arrived sent.batch (inl refl))

        by : (o : Option BatchKey) → earlier sent.batch ≡ o → has_key o (both (carrying entry.batch entry.second)) ≡ false
        by None e = absurd (w.later e)
        by (Some key) e = found (batch_at key (both (carrying entry.batch entry.second))) refl
          where
            known : has_key (Some key) all ≡ true
            known = subst (λ (k : Option BatchKey). has_key k all ≡ true) e (fine.kept.sound.closed sent.batch has)

            found : (o : Option Batch) → batch_at key (both (carrying entry.batch entry.second)) ≡ o → is_some o ≡ false
            found None at = refl
            found (Some x) at =
                let among = find-among (λ (y : Batch). key_eq y.key key) (both (carrying entry.batch entry.second)) x at in
                let same : x.key ≡ key = found-key (both (carrying entry.batch entry.second)) key x at in
                let never : has_key (Some key) all ≡ false = ap is_some (ap (λ (k : BatchKey). batch_at k all) (sym same) ∙ fresh-keys x among) in
                absurd (true≢false (sym known ∙ never))

    pub may-be : MayWrite domain workflow entry cell
    may-be = record {
      sound = learned_is_sound domain workflow (with_written entry cell) (with_entry entry all) then-fine.cell_is.ordered then-sound then-fine.kept.within;
      new = all-from (λ b. batch_at b.key (batches_of waiting) ≡ None) (both (carrying entry.batch entry.second)) none-waits;
      awaited = all-from (λ sent. waits_for (both (carrying entry.batch entry.second)) sent ≡ false) waiting not-awaited;
    }

    -- its batches are learned after it
    then-set : IsSet (arrived_of domain workflow (with_written entry cell))
    then-set = set_of_workflow domain workflow (with_written entry cell) then-fine.cell_is

    first-reaches : ReachesTop (with_entry entry held) entry.batch
    first-reaches = by (earlier entry.batch) refl
      where
        here : Has (with_entry entry held) entry.batch
        here = held-first entry.second
          where
            fresh : batch_at entry.batch.key held ≡ None
            fresh = none (batch_at entry.batch.key held) refl
              where
                none : (o : Option Batch) → batch_at entry.batch.key held ≡ o → o ≡ None
                none None at = refl
                none (Some x) at =
                    let key : x.key ≡ entry.batch.key = found-key held entry.batch.key x at in
                    let clash : Some x ≡ None = sym (fine.kept.within x (found-has held entry.batch.key x at)) ∙ ap (λ (k : BatchKey). batch_at k all) key ∙ write.added.fresh in
                    absurd (cc)

            one : Has (arrived entry.batch held) entry.batch
            one = is_there entry.batch held held-set.ordered fresh

            held-first : (o : Option Batch) → Has (arrived_second o (arrived entry.batch held)) entry.batch
            held-first None = one
            held-first (Some s) = stays s (arrived entry.batch held) (arrival_keeps_sets entry.batch held held-set first-back).ordered entry.batch one

        by : (o : Option BatchKey) → earlier entry.batch ≡ o → ReachesTop (with_entry entry held) entry.batch
        by None e = top entry.batch here e
        by (Some key) e = found (batch_at key part) refl
          where
            known : has_key (Some key) part ≡ true
            known = subst (λ (k : Option BatchKey). has_key k part ≡ true) e write.reached

            found : (o : Option Batch) → batch_at key part ≡ o → ReachesTop (with_entry entry held) entry.batch
            found None at = absurd (true≢false (sym known ∙ ap is_some at))
            found (Some before) at =
                let named : before.key ≡ key = found-key part key before at in
                let learned : Has part before = found-has part key before at in
                let up-there : ReachesTop (with_entry entry held) before = reaches-more held (with_entry entry held) before held-still (learned-reaches held before held-set learned) in
                up entry.batch before key here e (has-found (with_entry entry held) key before named (reaches-has (with_entry entry held) before up-there)) up-there

    pub first-learned : Has (learned_of domain workflow (with_written entry cell)) entry.batch
    first-learned = reaches-learned (arrived_of domain workflow (with_written entry cell)) entry.batch then-set (subst (λ l. ReachesTop l entry.batch) (sym then-arrived) first-reaches)

    pub second-learned : (s : Batch) → entry.second ≡ Some s → Has (learned_of domain workflow (with_written entry cell)) s
    second-learned s e =
        reaches-learned (arrived_of domain workflow (with_written entry cell)) s then-set
        (subst (λ l. ReachesTop l s) (sym then-arrived)
        (up s entry.batch entry.batch.key here (ap (λ (p : Option BatchKey). earlier_of p s.carrier) c.parent ∙ c.carrier) (reaches-has (with_entry entry held) entry.batch first-reaches) first-reaches))
      where
        c : IsCarriedIn all entry.batch s
        c = second-of s e

        fresh : batch_at s.key (arrived entry.batch held) ≡ None
        fresh = none (batch_at s.key (arrived entry.batch held)) refl
          where
            none : (o : Option Batch) → batch_at s.key (arrived entry.batch held) ≡ o → o ≡ None
            none None at = refl
            none (Some x) at =
                let key : x.key ≡ s.key = found-key (arrived entry.batch held) s.key x at in
                let clash : Some x ≡ None = sym (first-within x (found-has (arrived entry.batch held) s.key x at)) ∙ ap (λ (k : BatchKey). batch_at k more) key ∙ c.added.fresh in
                absurd (cc)
              where
                first-within : IsPart (arrived entry.batch held) more
                first-within y has = by (was_or_new entry.batch held y held-set.ordered has)
                  where
                    by : (y ≡ entry.batch) ⊎ Has held y → Has more y
                    by (inl same) = subst (Has more) (sym same) (is_there entry.batch all order write.added.fresh)
                    by (inr old) = stays entry.batch all order y (fine.kept.within y old)

        here : Has (with_entry entry held) s
        here = subst (λ (o : Option Batch). Has (arrived_second o (arrived entry.batch held)) s) (sym e) (is_there s (arrived entry.batch held) (arrival_keeps_sets entry.batch held held-set first-back).ordered fresh)

    -- which batches the set has after it
    pub then-which : (x : Batch) → Has (with_entry entry all) x → (x ≡ entry.batch) ⊎ ((entry.second ≡ Some x) ⊎ Has all x)
    then-which x has = joined-has entry.second entry.batch all x order write.added.sound.set.ordered has

    -- the author of the entry is one still
    pub then-author : (home : Desk) → IsAuthor home all domain workflow cell → IsAuthor home (with_entry entry all) domain workflow (with_written entry cell)
    then-author home author = record { named = then-named; own = λ b has writer. by b writer (then-which b has) }
      where
        by : (b : Batch) → writer_of home.clusters b.key.version ≡ Some home.me → (b ≡ entry.batch) ⊎ ((entry.second ≡ Some b) ⊎ Has all b) → Has (learned_of domain workflow (with_written entry cell)) b
        by b writer (inl same) = subst (Has (learned_of domain workflow (with_written entry cell))) (sym same) first-learned
        by b writer (inr (inl e)) = second-learned b e
        by b writer (inr (inr old)) = still-learned b (author.own b old writer)

    -- what has arrived is whole still
    pub then-whole : IsWhole domain workflow cell → IsWhole domain workflow (with_written entry cell)
    then-whole whole b has lone on =
        let r = by (joined-has entry.second entry.batch held b held-set.ordered (arrival_keeps_sets entry.batch held held-set first-back).ordered (subst (λ l. Has l b) then-arrived has)) in
        (r.0, subst (λ l. Has l r.0) (sym then-arrived) r.1, r.2)
      where
        Found : Type 0
        Found = (s : Batch) × Has (with_entry entry held) s × (s.carrier ≡ Some b.key)

        second-here : (s : Batch) → entry.second ≡ Some s → Has (with_entry entry held) s
        second-here s e =
            reaches-has (with_entry entry held) s (subst (λ l. ReachesTop l s) then-arrived (learned-reaches (arrived_of domain workflow (with_written entry cell)) s then-set (second-learned s e)))

        first : b ≡ entry.batch → Found
        first same = some entry.second refl (sym write.goes ∙ ap goes_on (sym same) ∙ on)
          where
            some : (o : Option Batch) → entry.second ≡ o → is_some o ≡ true → Found
            some None e none = absurd (true≢false (sym none))
            some (Some s) e is = (s, second-here s e, (second-of s e).carrier ∙ ap (λ (x : Batch). Some x.key) (sym same))

        by : (b ≡ entry.batch) ⊎ ((entry.second ≡ Some b) ⊎ Has held b) → Found
        by (inl same) = first same
        by (inr (inl e)) =
            let clash : None ≡ Some entry.batch.key = sym lone ∙ (second-of b e).carrier in
            absurd (cc)
        by (inr (inr old)) = let r = whole b old lone on in (r.0, held-still r.0 r.1, r.2)

    -- another cell keeps the set with the entry
    pub elsewhere : (other : Cell) → IsKept all domain workflow other → IsKept (with_entry entry all) domain workflow other
    elsewhere other kept = record { own = then-own; sound = then-sound; within = λ b has. still-there b (kept.within b has) }

    -- and an author of other versions is one still
    pub author-elsewhere : (home : Desk) (other : Cell) → (writer_of home.clusters version ≡ Some home.me → ⊥) → IsAuthor home all domain workflow other → IsAuthor home (with_entry entry all) domain workflow other
    author-elsewhere home other theirs author = record { named = then-named; own = λ b has writer. by b writer (then-which b has) }
      where
        by : (b : Batch) → writer_of home.clusters b.key.version ≡ Some home.me → (b ≡ entry.batch) ⊎ ((entry.second ≡ Some b) ⊎ Has all b) → Has (learned_of domain workflow other) b
        by b writer (inl same) = absurd (theirs (ap (writer_of home.clusters) (sym (ap (λ (x : Batch). x.key.version) same ∙ write.version_is)) ∙ writer))
        by b writer (inr (inl e)) = absurd (theirs (ap (writer_of home.clusters) (sym ((second-of b e).version_is ∙ write.version_is)) ∙ writer))
        by b writer (inr (inr old)) = author.own b old writer

    -- another workflow is as it was
    pub other-fine : (others : List Batch) (d w : Name) → is_of d w entry.batch ≡ false → IsFine others d w cell → IsFine others d w (with_written entry cell)
    other-fine others d w never f = record {
      cell_is = then-fine.cell_is;
      waits = λ sent there. let m = f.waits sent there in record { arrived = λ b h. subst (λ l. Has l b) (sym same) (m.arrived b h); later = m.later };
      kept = record { own = f.kept.own; sound = f.kept.sound; within = subst (λ l. IsPart l others) (sym same) f.kept.within };
    }
      where
        not-second : (s : Batch) → entry.second ≡ Some s → (t : Bool) → is_of d w s ≡ t → t ≡ false
        not-second s e true of =
            let n = names-of d w s of in
            let c = second-of s e in
            let dd : entry.batch.domain ≡ d = sym c.domain_is ∙ n.0 in
            let ww : entry.batch.workflow ≡ w = sym c.workflow_is ∙ n.1 in
            let here : is_of d w entry.batch ≡ true = subst (λ x. is_of x w entry.batch ≡ true) dd (subst (λ y. is_of entry.batch.domain y entry.batch ≡ true) ww (own-names entry.batch)) in
            absurd (true≢false (sym here ∙ never))
        not-second s e false of = refl

        same : arrived_of d w (with_written entry cell) ≡ arrived_of d w cell
        same = others_arrived d w entry cell never (if-some (λ s. is_of d w s ≡ false) entry.second (λ s e. not-second s e (is_of d w s) refl))

    pub other-author : (home : Desk) (others : List Batch) (d w : Name) → IsAuthor home others d w cell → IsAuthor home others d w (with_written entry cell)
    other-author home others d w author = record { named = author.named; own = λ b has writer. writing_only_adds d w entry cell fine.cell_is first-back second-back b (author.own b has writer) }

-- a cell that may write to a workflow with a set in range
pub record HasSet (home : Desk) (domain workflow : Name) (cell : Cell) : Type 0 where
  pub all : List Batch
  pub fine : IsFine all domain workflow cell
  pub author : IsAuthor home all domain workflow cell
  pub range : HasRange all

module _ (home : Desk) (all : List Batch) (domain workflow : Name) (cell : Cell) (fine : IsFine all domain workflow cell) (author : IsAuthor home all domain workflow cell) (range : HasRange all) where
  abbrev known : List Batch
  known = learned_of domain workflow cell

  -- entries may be written, and then the set with them is kept
  pub record Takes (entries : List Entry) : Type 0 where
    pub may : MayWriteAll domain workflow entries cell
    pub fine_then : IsFine (with_entries entries all) domain workflow (with_all_written entries cell)
    pub author_then : IsAuthor home (with_entries entries all) domain workflow (with_all_written entries cell)
    pub more : IsPart all (with_entries entries all)
    pub others : (set : List Batch) (d w : Name) → ((b : Batch) → (b.domain ≡ domain) → (b.workflow ≡ workflow) → is_of d w b ≡ false) → IsFine set d w cell → IsFine set d w (with_all_written entries cell)
    pub other_authors : (set : List Batch) (d w : Name) → IsAuthor home set d w cell → IsAuthor home set d w (with_all_written entries cell)
    pub whole : IsWhole domain workflow cell → IsWhole domain workflow (with_all_written entries cell)
    pub elsewhere_kept : (other : Cell) → IsKept all domain workflow other → IsKept (with_entries entries all) domain workflow other
    pub elsewhere_author : (there : Desk) (other : Cell) → there.clusters ≡ home.clusters → (there.me ≡ home.me → ⊥) → IsAuthor there all domain workflow other → IsAuthor there (with_entries entries all) domain workflow other

  takes-none : Takes []
  takes-none = record {
    may = tt;
    fine_then = fine;
    author_then = author;
    more = λ b has. has;
    others = λ set d w apart f. f;
    other_authors = λ set d w a. a;
    whole = λ w. w;
    elsewhere_kept = λ other k. k;
    elsewhere_author = λ there other same apart a. a;
  }

  -- a version of this cluster is of no other one
  not-theirs : (version : ℕ) → WritesWith home domain (learned_of domain workflow cell) version → (there : Desk) → there.clusters ≡ home.clusters → (there.me ≡ home.me → ⊥) → writer_of there.clusters version ≡ Some there.me → ⊥
  not-theirs version with there same apart writer =
      let one : Some there.me ≡ Some home.me = sym writer ∙ ap (λ c. writer_of c version) same ∙ with.by_record.writer in
      apart (cc)

  pub one-takes : (version : ℕ) → WritesWith home domain (learned_of domain workflow cell) version → (entries : List Entry) → AddsOne all (learned_of domain workflow cell) domain workflow version entries → Takes entries
  one-takes version with entries one =
      subst Takes (sym one.are) (record {
        may = (may-be all domain workflow cell fine version one.entry one.may_be, tt);
        fine_then = then-fine all domain workflow cell fine version one.entry one.may_be;
        author_then = then-author all domain workflow cell fine version one.entry one.may_be home author;
        more = still-there all domain workflow cell fine version one.entry one.may_be;
        others = λ set d w apart f. other-fine all domain workflow cell fine version one.entry one.may_be set d w (apart one.entry.batch one.may_be.domain_is one.may_be.workflow_is) f;
        other_authors = λ set d w a. other-author all domain workflow cell fine version one.entry one.may_be home set d w a;
        whole = then-whole all domain workflow cell fine version one.entry one.may_be;
        elsewhere_kept = elsewhere all domain workflow cell fine version one.entry one.may_be;
        elsewhere_author = λ there other same apart a. author-elsewhere all domain workflow cell fine version one.entry one.may_be there other (not-theirs version with there same apart) a;
      })

  pub two-takes : (version : ℕ) → WritesWith home domain (learned_of domain workflow cell) version → (entries : List Entry) → AddsTwo all (learned_of domain workflow cell) domain workflow version entries → Takes entries
  two-takes version with entries two =
      subst Takes (sym two.are) (record {
        may = (may-be all domain workflow cell fine version two.closing two.may_close, (may-be middle domain workflow then-cell first version two.entry next, tt));
        fine_then = then-fine middle domain workflow then-cell first version two.entry next;
        author_then = then-author middle domain workflow then-cell first version two.entry next home (then-author all domain workflow cell fine version two.closing two.may_close home author);
        more = λ b has. still-there middle domain workflow then-cell first version two.entry next b (still-there all domain workflow cell fine version two.closing two.may_close b has);
        others = λ set d w apart f. other-fine middle domain workflow then-cell first version two.entry next set d w (apart two.entry.batch next.domain_is next.workflow_is)
            (other-fine all domain workflow cell fine version two.closing two.may_close set d w (apart two.closing.batch two.may_close.domain_is two.may_close.workflow_is) f);
        other_authors = λ set d w a. other-author middle domain workflow then-cell first version two.entry next home set d w (other-author all domain workflow cell fine version two.closing two.may_close home set d w a);
        whole = λ w. then-whole middle domain workflow then-cell first version two.entry next (then-whole all domain workflow cell fine version two.closing two.may_close w);
        elsewhere_kept = λ other k. elsewhere middle domain workflow then-cell first version two.entry next other (elsewhere all domain workflow cell fine version two.closing two.may_close other k);
        elsewhere_author = λ there other same apart a. author-elsewhere middle domain workflow then-cell first version two.entry next there other (not-theirs version with there same apart)
            (author-elsewhere all domain workflow cell fine version two.closing two.may_close there other (not-theirs version with there same apart) a);
      })
    where
      then-cell : Cell
      then-cell = with_written two.closing cell

      middle : List Batch
      middle = with_entry two.closing all

      first : IsFine middle domain workflow then-cell
      first = then-fine all domain workflow cell fine version two.closing two.may_close

      next : IsEntryOf middle (learned_of domain workflow then-cell) domain workflow version two.entry
      next =
          subst (λ (o : Option Batch). IsEntryOf (arrived_second o (arrived two.closing.batch all)) (learned_of domain workflow then-cell) domain workflow version two.entry) (sym two.lone_closing)
          (two.may_be (learned_of domain workflow then-cell))

  adds : (version : ℕ) → WritesWith home domain known version → MayAdd all known version
  adds version with = author-adds all domain workflow cell fine home author version with

  pub command-takes : (command : Command) (entries : List Entry) → command_of home domain workflow command cell ≡ Ok entries → Takes entries
  unfolding command_of
  command-takes command entries e =
      let m = may-have home domain workflow cell (λ version. command_entries domain workflow command home.limit version known) entries e in
      one-takes m.version m.with entries (command-adds all known m.version (adds m.version m.with) range.tasks_most domain workflow home.limit command entries m.wrote)

  pub reset-takes : (event : ℕ) (entries : List Entry) → reset_at home domain workflow event cell ≡ Ok entries → Takes entries
  unfolding reset_at
  reset-takes event entries e =
      let m = may-have home domain workflow cell (λ version. reset_below domain workflow event home.limit version (workflow_tip known) known) entries e in
      by m.version m.with (reset-adds all known m.version (adds m.version m.with) range.tasks_most domain workflow home.limit event entries m.wrote)
    where
      by : (version : ℕ) → WritesWith home domain known version → AddsOne all known domain workflow version entries ⊎ AddsTwo all known domain workflow version entries → Takes entries
      by version with (inl one) = one-takes version with entries one
      by version with (inr two) = two-takes version with entries two

  pub reapplication-takes : Takes (reapplication_of home domain workflow cell)
  unfolding reapplication_of
  reapplication-takes = by (may_write home domain workflow cell) refl
    where
      wrote : (version : ℕ) → WritesWith home domain known version → (entries : List Entry) → reapplication_below domain workflow version (workflow_tip known) known (strays known) ≡ entries → Takes entries
      wrote version with [] e = takes-none
      wrote version with (entry ∷ more) e =
          one-takes version with (entry ∷ more) (reapplication-adds all known version (adds version with) range.tasks_most domain workflow (workflow_tip known) refl (strays known) refl entry more e)

      by : (r : Result ℕ Refusal) → may_write home domain workflow cell ≡ r → Takes (reapplication_by domain workflow r known)
      by (Ok version) m = wrote version (may-parts home domain workflow cell version m) (reapplication_below domain workflow version (workflow_tip known) known (strays known)) refl
      by (Err why) m = takes-none

  -- what was to be written may be, and a refusal asks for nothing
  asked : (r : Result (List Entry) CommandError) → ((entries : List Entry) → r ≡ Ok entries → Takes entries) → MayTake domain workflow r cell
  asked (Ok entries) takes = (takes entries refl).may
  asked (Err why) takes = tt

  pub command-asked : (command : Command) → MayTake domain workflow (command_of home domain workflow command cell) cell
  command-asked command = asked (command_of home domain workflow command cell) (command-takes command)

  pub reset-asked : (event : ℕ) → MayTake domain workflow (reset_at home domain workflow event cell) cell
  reset-asked event = asked (reset_at home domain workflow event cell) (reset-takes event)

-- strays may be applied again in workflows that differ
pub reapply-asked : (home : Desk) (bs : List Batch) → AreApart bs → (cell : Cell) → ((b : Batch) → Among b bs → HasSet home b.domain b.workflow cell) → MayReapply home bs cell
reapply-asked home [] apart cell sets = tt
reapply-asked home (b ∷ bs) apart cell sets =
    let s = sets b (inl refl) in
    (has-room s.all b.domain b.workflow cell s.fine s.author.named s.range, first.may, reapply-asked home bs apart.1 (with_all_written (reapplication_of home b.domain b.workflow cell) cell) rest)
  where
    mine : HasSet home b.domain b.workflow cell
    mine = sets b (inl refl)

    first : Takes home mine.all b.domain b.workflow cell mine.fine mine.author mine.range (reapplication_of home b.domain b.workflow cell)
    first = reapplication-takes home mine.all b.domain b.workflow cell mine.fine mine.author mine.range

    rest : (other : Batch) → Among other bs → HasSet home other.domain other.workflow (with_all_written (reapplication_of home b.domain b.workflow cell) cell)
    rest other there =
        let s = sets other (inr there) in
        record {
          all = s.all;
          fine = first.others s.all other.domain other.workflow apart-from s.fine;
          author = first.other_authors s.all other.domain other.workflow s.author;
          range = s.range;
        }
      where
        apart-from : (x : Batch) → x.domain ≡ b.domain → x.workflow ≡ b.workflow → is_of other.domain other.workflow x ≡ false
        apart-from x d w =
            let never = apart-flip b other (all-among (λ (o : Batch). is_of b.domain b.workflow o ≡ false) bs other apart.0 there) in
            same (is_of other.domain other.workflow x) refl never
          where
            same : (t : Bool) → is_of other.domain other.workflow x ≡ t → is_of other.domain other.workflow b ≡ false → t ≡ false
            same true of never =
                let n = names-of other.domain other.workflow x of in
                let dd : b.domain ≡ other.domain = sym d ∙ n.0 in
                let ww : b.workflow ≡ other.workflow = sym w ∙ n.1 in
                let here : is_of other.domain other.workflow b ≡ true = subst (λ y. is_of y other.workflow b ≡ true) dd (subst (λ z. is_of b.domain z b ≡ true) ww (own-names b)) in
                absurd (true≢false (sym here ∙ never))
            same false of never = refl
