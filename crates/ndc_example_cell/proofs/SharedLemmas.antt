-- What two cells share stays shared.
use Rattle.std.proofs.Common.{◌≡◌, ◌≤◌, ◌+◌, ◌^◌, ℕ, Bool, true, false, List, [], ◌∷◌, Option, Some, None, Result, Ok, Err, refl, sym, ◌∙◌, subst, ap, arith, true≢false}
use Rattle.std.specs.Str.{bytes_eq}
use Rattle.std.specs.List.{AllByRecursion, IsAmong}
use Rattle.std.proofs.lemmas.Slice.Eq.{bytes_eq-Decides}
use Rattle.ndc_cluster.specs.Homes.{HomeValue, desk_of}
use Rattle.ndc_command.specs.declared.command.Command.{Command}
use Rattle.ndc_command.specs.declared.refusal.CommandError.{CommandError}
use Rattle.ndc_domain.specs.Clusters.{ClusterList}
use Rattle.ndc_domain.specs.declared.clusters.ClusterNo.{ClusterNo}
use Rattle.ndc_domain.specs.declared.record.DomainRecord.{DomainRecord}
use Rattle.ndc_event.specs.declared.batch.Batch.{Batch}
use Rattle.ndc_event.specs.declared.name.Name.{Name}
use Rattle.ndc_model_cells.specs.declared.message.Message.{Message}
use Rattle.ndc_model_cells.specs.declared.place.Place.{Place}
use Rattle.ndc_model_cells.specs.Arrival.{arrived_at}
use Rattle.ndc_model_cells.specs.Cells.{Cell, IsCell, arrived_of, empty_cell, learned_of, message_at, message_found}
use Rattle.ndc_model_cells.specs.Domains.{learned_of_domains}
use Rattle.ndc_model_cells.specs.Jobs.{written_at}
use Rattle.ndc_model_cells.specs.Places.{batch_there, is_of, place_of}
use Rattle.ndc_model_cells.specs.Writing.{Desk, Entry, command_of}
use Rattle.ndc_model_sets.specs.Learned.{IsPart, learned}
use Rattle.ndc_model_sets.specs.Sets.{Has}
use Rattle.ndc_model_sets.proofs.SetLemmas.{at-first}
use Rattle.ndc_model_sets.proofs.BranchLemmas.{among-has, has-among}
use Rattle.ndc_model_sets.proofs.LearnedLemmas.{learned-reaches, learned_closed, reaches-has}
use Rattle.ndc_model_sets.proofs.Lists.{all-from, filter-among, filter_map-among}
use Rattle.ndc_model_cells.proofs.PlaceLemmas.{set_of_workflow}
use Rattle.ndc_resend.specs.Serving.{answered, served_for}
use Rattle.ndc_resend.specs.declared.asking.GapOf.{GapOf}
use Rattle.ndc_model_sets.proofs.SoundLemmas.{nothing_is_sound}
use Rattle.ndc_model_cells.specs.Keeping.{CanArrive, CanWrite, CanWriteEach, HasRange, IsAuthor, IsAuthored, IsKept, IsMessageOf, IsWhole, set_behind}
use Rattle.ndc_laws_cells.proofs.AskLemmas.{IsFine, Takes, command-takes}
use Rattle.ndc_laws_cells.proofs.FoundLemmas.{there-among}
use Rattle.ndc_laws_cells.proofs.SentLemmas.{sent-is}
use Rattle.ndc_laws_cells.proofs.NameLemmas.{names-of, own-names}
use Rattle.ndc_shard.specs.Orderly.{IsOrderly}
use Rattle.ndc_shard.proofs.KeepLaws.{arrival-keeps-author, arrival-keeps-others, arrival-keeps-set, arrival-keeps-this-whole, command-elsewhere, command-keeps}
use Rattle.ndc_shard.proofs.KeepingLemmas.{fine-of}
use Rattle.ndc_shard.proofs.LoadLemmas.{loads}
use Rattle.ndc_example_cell.specs.Shared.{AreShared, CanTell, HoldsOnly, IsSmallSet, standing}
use Rattle.ndc_shard.specs.Loading.{IsSentBy, handed}
use Rattle.ndc_example_cell.proofs.SizeLemmas.{command-small}

-- what a small set is: in range
range-of : (most : ℕ) (all : List Batch) → most ≤ 10 ^ 11 → IsSmallSet most all → HasRange all
range-of most all within small = record {
  events_most = (let l = small.events_most in omega (arith, l, within));
  tasks_most = λ b has. let t = small.tasks_most b has in omega (arith, t, within);
}

-- nothing is a part of nothing
part-none : (l : List Batch) → IsPart l [] → l ≡ []
part-none [] part = refl
part-none (x ∷ xs) part = let none = part x (at-first x xs) in absurd (cc)

none-part : (l : List Batch) → l ≡ [] → IsPart l []
none-part l e b has = let none = subst (λ k. Has k b) e has in absurd (cc)

-- another workflow
abbrev Apart : Name → Name → Name → Name → Type 0
Apart domain workflow d w = (b : Batch) → b.domain ≡ domain → b.workflow ≡ workflow → is_of d w b ≡ false

-- names are those of the workflow, or of another one
data Which (domain workflow d w : Name) : Type 0 where
  this : d ≡ domain → w ≡ workflow → Which domain workflow d w
  other : Apart domain workflow d w → Which domain workflow d w

which : (domain workflow d w : Name) → Which domain workflow d w
which domain workflow d w = by (bytes_eq domain d) refl (bytes_eq workflow w) refl
  where
    by : (s : Bool) → bytes_eq domain d ≡ s → (t : Bool) → bytes_eq workflow w ≡ t → Which domain workflow d w
    by true e true f = this (sym ((bytes_eq-Decides domain d).0 e)) (sym ((bytes_eq-Decides workflow w).0 f))
    by true e false f = other (λ b h k. apart-names b h k)
      where
        apart-names : (b : Batch) → b.domain ≡ domain → b.workflow ≡ workflow → is_of d w b ≡ false
        apart-names b h k = no (is_of d w b) refl
          where
            no : (t : Bool) → is_of d w b ≡ t → t ≡ false
            no true of = absurd (true≢false (sym ((bytes_eq-Decides workflow w).1 (sym k ∙ (names-of d w b of).1)) ∙ f))
            no false of = refl
    by false e t f = other (λ b h k. apart-names b h k)
      where
        apart-names : (b : Batch) → b.domain ≡ domain → b.workflow ≡ workflow → is_of d w b ≡ false
        apart-names b h k = no (is_of d w b) refl
          where
            no : (t : Bool) → is_of d w b ≡ t → t ≡ false
            no true of = absurd (true≢false (sym ((bytes_eq-Decides domain d).1 (sym h ∙ (names-of d w b of).0)) ∙ e))
            no false of = refl

-- two new cells share nothing
pub shared-new : (clusters : ClusterList) (me them : ClusterNo) (domain workflow : Name) → (me ≡ them → ⊥) → AreShared clusters me them 0 domain workflow empty_cell empty_cell
shared-new clusters me them domain workflow differ = record {
  all = [];
  differ = differ;
  few = omega arith;
  small = record { events_most = omega arith; tasks_most = λ b has. absurd (cc) };
  mine_is = nothing me;
  theirs_is = nothing them;
  mine_only = λ d w apart. refl;
  theirs_only = λ d w apart. refl;
}
  where
    nothing : (who : ClusterNo) → IsAuthored (standing clusters who []) [] domain workflow empty_cell
    nothing who = record {
      kept = record { own = tt; sound = nothing_is_sound; within = λ b has. has };
      author = record { named = λ b has. absurd (cc); own = λ b has writer. absurd (cc) };
      whole = λ b has lone on. absurd (cc);
    }

pub shared-flip : (clusters : ClusterList) (me them : ClusterNo) (most : ℕ) (domain workflow : Name) (mine theirs : Cell) → AreShared clusters me them most domain workflow mine theirs → AreShared clusters them me most domain workflow theirs mine
shared-flip clusters me them most domain workflow mine theirs s = record {
  all = s.all;
  differ = λ e. s.differ (sym e);
  few = s.few;
  small = s.small;
  mine_is = s.theirs_is;
  theirs_is = s.mine_is;
  mine_only = s.theirs_only;
  theirs_only = s.mine_only;
}

-- seen from the other cell
pub flip-then : (clusters : ClusterList) (me them : ClusterNo) (most : ℕ) (domain workflow : Name) (mine theirs first second : Cell) → AreShared clusters me them most domain workflow mine theirs → first ≡ theirs → second ≡ mine
    → AreShared clusters them me most domain workflow first second
flip-then clusters me them most domain workflow mine theirs first second s e f =
    subst (λ (c : Cell). AreShared clusters them me most domain workflow c second) (sym e) (subst (λ (c : Cell). AreShared clusters them me most domain workflow theirs c) (sym f) (shared-flip clusters me them most domain workflow mine theirs s))

-- what is small is so with more room
pub shared-more : (clusters : ClusterList) (me them : ClusterNo) (most more : ℕ) (domain workflow : Name) (mine theirs : Cell) → most ≤ more → more ≤ 10 ^ 10 → AreShared clusters me them most domain workflow mine theirs → AreShared clusters me them more domain workflow mine theirs
shared-more clusters me them most more domain workflow mine theirs l few s = record {
  all = s.all;
  differ = s.differ;
  few = few;
  small = record { events_most = (let e = s.small.events_most in omega (arith, e, l)); tasks_most = λ b has. let t = s.small.tasks_most b has in omega (arith, t, l) };
  mine_is = s.mine_is;
  theirs_is = s.theirs_is;
  mine_only = s.mine_only;
  theirs_only = s.theirs_only;
}

-- with other records a cell is the author of the same
with-table : (clusters : ClusterList) (me : ClusterNo) (before after : List DomainRecord) (all : List Batch) (domain workflow : Name) (cell : Cell)
    → IsAuthored (standing clusters me before) all domain workflow cell → IsAuthored (standing clusters me after) all domain workflow cell
with-table clusters me before after all domain workflow cell a = record { kept = a.kept; author = record { named = a.author.named; own = a.author.own }; whole = a.whole }

module _ (clusters : ClusterList) (me them : ClusterNo) (most : ℕ) (domain workflow : Name) (mine theirs : Cell) (s : AreShared clusters me them most domain workflow mine theirs) where
  within : most ≤ 10 ^ 11
  within = let few = s.few in omega (arith, few)

  pub shared-write : (table : List DomainRecord) → CanWrite (standing clusters me table) domain workflow mine
  shared-write table = record { all = s.all; kept = s.mine_is.kept; author = record { named = s.mine_is.author.named; own = s.mine_is.author.own }; range = range-of most s.all within s.small; limit_most = omega arith }

  -- a cell that holds one workflow alone may write to each
  pub shared-reapply : (table : List DomainRecord) → CanWriteEach (standing clusters me table) mine
  shared-reapply table d w = by (which domain workflow d w)
    where
      by : Which domain workflow d w → CanWrite (standing clusters me table) d w mine
      by (this e f) = subst (λ x. CanWrite (standing clusters me table) x w mine) (sym e) (subst (λ y. CanWrite (standing clusters me table) domain y mine) (sym f) (shared-write table))
      by (other apart) = record {
        all = [];
        kept = record { own = tt; sound = nothing_is_sound; within = none-part (arrived_of d w mine) (s.mine_only d w apart) };
        author = record { named = λ b has. absurd (cc); own = λ b has writer. absurd (cc) };
        range = record { events_most = omega arith; tasks_most = λ b has. absurd (cc) };
        limit_most = omega arith;
      }

  module _ (room : most ≤ 1000000) (orderly : IsOrderly mine) (table : List DomainRecord) (command : Command) where
    abbrev desk : Desk
    desk = standing clusters me table

    abbrev wrote : Result (List Entry) CommandError
    wrote = command_of desk domain workflow command mine

    authored : IsAuthored desk s.all domain workflow mine
    authored = with-table clusters me [] table s.all domain workflow mine s.mine_is

    fine : IsFine s.all domain workflow mine
    fine = fine-of s.all domain workflow mine orderly.cell_is (orderly.workflows domain workflow) s.mine_is.kept

    only-then : (r : Result (List Entry) CommandError) → ((entries : List Entry) → r ≡ Ok entries → Takes desk s.all domain workflow mine fine authored.author (range-of most s.all within s.small) entries) → HoldsOnly domain workflow (written_at r mine)
    only-then (Err why) takes d w apart = s.mine_only d w apart
    only-then (Ok entries) takes d w apart =
        part-none (arrived_of d w (written_at (Ok entries) mine))
        ((takes entries refl).others [] d w apart (record {
          cell_is = orderly.cell_is;
          waits = (fine-of [] d w mine orderly.cell_is (orderly.workflows d w) none-kept).waits;
          kept = none-kept;
        })).kept.within
      where
        none-kept : IsKept [] d w mine
        none-kept = record { own = tt; sound = nothing_is_sound; within = none-part (arrived_of d w mine) (s.mine_only d w apart) }

    pub shared-written : AreShared clusters me them (most + 104) domain workflow (written_at (command_of (standing clusters me table) domain workflow command mine) mine) theirs
    shared-written = record {
      all = set_behind wrote s.all;
      differ = s.differ;
      few = omega (arith, room);
      small = command-small desk s.all domain workflow mine fine authored.author most within (omega arith) s.small command;
      mine_is = with-table clusters me table [] (set_behind wrote s.all) domain workflow (written_at wrote mine) (command-keeps desk s.all domain workflow mine orderly authored (range-of most s.all within s.small) command);
      theirs_is = command-elsewhere desk s.all domain workflow mine orderly authored (range-of most s.all within s.small) command (standing clusters them []) theirs refl (λ e. s.differ (sym e)) s.theirs_is;
      mine_only = only-then wrote (command-takes desk s.all domain workflow mine fine authored.author (range-of most s.all within s.small) command);
      theirs_only = s.theirs_only;
    }

  -- what one can tell the other
  pub shared-tell : CanTell most domain workflow mine theirs
  shared-tell = record { all = s.all; few = s.few; small = s.small; kept = s.mine_is.kept; whole = s.mine_is.whole; heard = s.theirs_is.kept; only = s.mine_only }

-- a new cell can be told all of it
pub tell-new : (clusters : ClusterList) (me them : ClusterNo) (most : ℕ) (domain workflow : Name) (mine theirs : Cell) → AreShared clusters me them most domain workflow mine theirs → CanTell most domain workflow mine empty_cell
tell-new clusters me them most domain workflow mine theirs s = record {
  all = s.all;
  few = s.few;
  small = s.small;
  kept = s.mine_is.kept;
  whole = s.mine_is.whole;
  heard = record { own = s.mine_is.kept.own; sound = s.mine_is.kept.sound; within = λ b has. absurd (cc) };
  only = s.mine_only;
}

-- the message at a place is one of what is learned
pub place-sent : (cell : Cell) → IsCell cell → (place : Place) (sent : Message) → message_at cell place ≡ Some sent → IsSentBy cell sent
place-sent cell is place sent e = by (batch_there known place) refl e
  where
    known : List Batch
    known = learned_of place.domain place.workflow cell

    held : List Batch
    held = arrived_of place.domain place.workflow cell

    by : (o : Option Batch) → batch_there known place ≡ o → message_found cell o ≡ Some sent → IsSentBy cell sent
    by None at f = absurd (cc)
    by (Some b) at f =
        let set = set_of_workflow place.domain place.workflow cell is in
        let has : Has known b = among-has known b (learned_closed held set).0.ordered (there-among known place b at) in
        let own = (filter-among (is_of place.domain place.workflow) cell.arrived b (has-among held b (reaches-has held b (learned-reaches held b set has)))).0 in
        let n = names-of place.domain place.workflow b own in
        record { batch = b; learned = subst (λ d. Has (learned_of d b.workflow cell) b) (sym n.0) (subst (λ u. Has (learned_of place.domain u cell) b) (sym n.1) has); is = f }

-- what is served is
pub served-sent : (cell : Cell) → IsCell cell → (asked : GapOf) → AllByRecursion (IsSentBy cell) (served_for asked cell)
served-sent cell is asked =
    all-from (IsSentBy cell) (served_for asked cell)
    (λ sent h. let m = filter_map-among (λ b. message_at cell (place_of b)) (answered (learned_of asked.domain asked.workflow cell) asked.gap asked.key) sent h in place-sent cell is (place_of m.0) sent m.2)

-- a message that is told
module _ (most : ℕ) (domain workflow : Name) (teller hearer : Cell) (can : CanTell most domain workflow teller hearer) (teller_is : IsOrderly teller) (hearer_is : IsOrderly hearer)
    (sent : Message) (e : IsSentBy teller sent) where
  -- it is of the set
  told-is : IsMessageOf can.all sent × (is_of domain workflow sent.batch ≡ true)
  told-is = by (which domain workflow e.batch.domain e.batch.workflow)
    where
      mine : IsKept can.all e.batch.domain e.batch.workflow teller → IsWhole e.batch.domain e.batch.workflow teller → e.batch.domain ≡ domain → e.batch.workflow ≡ workflow → IsMessageOf can.all sent × (is_of domain workflow sent.batch ≡ true)
      mine kept whole f g =
          let m = sent-is can.all teller teller_is.cell_is e.batch kept whole e.learned sent e.is in
          (m.0, subst (λ (x : Batch). is_of domain workflow x ≡ true) (sym m.1) (subst (λ x. is_of x workflow e.batch ≡ true) f (subst (λ y. is_of e.batch.domain y e.batch ≡ true) g (own-names e.batch))))

      by : Which domain workflow e.batch.domain e.batch.workflow → IsMessageOf can.all sent × (is_of domain workflow sent.batch ≡ true)
      by (this f g) =
          mine (subst (λ x. IsKept can.all x e.batch.workflow teller) (sym f) (subst (λ y. IsKept can.all domain y teller) (sym g) can.kept))
          (subst (λ x. IsWhole x e.batch.workflow teller) (sym f) (subst (λ y. IsWhole domain y teller) (sym g) can.whole)) f g
      by (other apart) =
          let none : Has (learned []) e.batch = subst (λ (l : List Batch). Has (learned l) e.batch) (can.only e.batch.domain e.batch.workflow apart) e.learned in
          absurd (cc)

  names : (sent.batch.domain ≡ domain) × (sent.batch.workflow ≡ workflow)
  names = names-of domain workflow sent.batch told-is.1

  -- what holds of the workflow holds of the message's
  here : (P : Name → Name → Type 0) → P domain workflow → P sent.batch.domain sent.batch.workflow
  here P p = subst (λ x. P x sent.batch.workflow) (sym names.0) (subst (λ y. P domain y) (sym names.1) p)

  there : (P : Name → Name → Type 0) → P sent.batch.domain sent.batch.workflow → P domain workflow
  there P p = subst (λ x. P x workflow) names.0 (subst (λ y. P sent.batch.domain y) names.1 p)

  pub told-arrives : CanArrive sent hearer
  told-arrives = record { all = can.all; kept = here (λ x y. IsKept can.all x y hearer) can.heard; message = told-is.0; range = range-of most can.all (let few = can.few in omega (arith, few)) can.small }

  pub told-then : CanTell most domain workflow teller (arrived_at sent hearer)
  unfolding told-arrives
  told-then = record {
    all = can.all;
    few = can.few;
    small = can.small;
    kept = can.kept;
    whole = can.whole;
    heard = there (λ x y. IsKept can.all x y (arrived_at sent hearer)) (arrival-keeps-set can.all sent hearer hearer_is told-arrives.kept told-is.0);
    only = can.only;
  }

-- what two share stays shared where one tells the other
pub shared-told : (clusters : ClusterList) (me them : ClusterNo) (most : ℕ) (domain workflow : Name) (mine theirs : Cell) (s : AreShared clusters me them most domain workflow mine theirs) → IsOrderly mine → IsOrderly theirs
    → (sent : Message) → IsSentBy mine sent → AreShared clusters me them most domain workflow mine (arrived_at sent theirs)
unfolding shared-tell told-arrives told-then
shared-told clusters me them most domain workflow mine theirs s mine_is theirs_is sent e = record {
  all = s.all;
  differ = s.differ;
  few = s.few;
  small = s.small;
  mine_is = s.mine_is;
  theirs_is = record {
    kept = (told-then most domain workflow mine theirs can mine_is theirs_is sent e).heard;
    author = back (λ x y. IsAuthor (standing clusters them []) s.all x y (arrived_at sent theirs))
        (arrival-keeps-author (standing clusters them []) s.all sent theirs theirs_is arrives.kept is.0 (to (λ x y. IsAuthor (standing clusters them []) s.all x y theirs) s.theirs_is.author));
    whole = back (λ x y. IsWhole x y (arrived_at sent theirs)) (arrival-keeps-this-whole s.all sent theirs theirs_is arrives.kept is.0 (to (λ x y. IsWhole x y theirs) s.theirs_is.whole));
  };
  mine_only = s.mine_only;
  theirs_only = λ x y apart. part-none (arrived_of x y (arrived_at sent theirs))
      (arrival-keeps-others [] s.all x y sent theirs theirs_is arrives.kept is.0 (apart sent.batch n.0 n.1)
      (record { own = tt; sound = nothing_is_sound; within = none-part (arrived_of x y theirs) (s.theirs_only x y apart) })).within;
}
  where
    can : CanTell most domain workflow mine theirs
    can = shared-tell clusters me them most domain workflow mine theirs s

    is : IsMessageOf s.all sent × (is_of domain workflow sent.batch ≡ true)
    is = told-is most domain workflow mine theirs can mine_is theirs_is sent e

    n : (sent.batch.domain ≡ domain) × (sent.batch.workflow ≡ workflow)
    n = names-of domain workflow sent.batch is.1

    to : (P : Name → Name → Type 0) → P domain workflow → P sent.batch.domain sent.batch.workflow
    to = here most domain workflow mine theirs can mine_is theirs_is sent e

    back : (P : Name → Name → Type 0) → P sent.batch.domain sent.batch.workflow → P domain workflow
    back = there most domain workflow mine theirs can mine_is theirs_is sent e

    arrives : CanArrive sent theirs
    arrives = told-arrives most domain workflow mine theirs can mine_is theirs_is sent e

-- what is shared after a command, and where it was refused
module _ (clusters : ClusterList) (me them : ClusterNo) (most : ℕ) (domain workflow : Name) (mine theirs new : Cell) (s : AreShared clusters me them most domain workflow mine theirs) (room : most ≤ 1000000) where
  pub write-then : (home : HomeValue) → home ≡ record { clusters = clusters; me = me; limit = 100 } → IsOrderly mine → (table : List DomainRecord) (command : Command)
      → new ≡ written_at (command_of (desk_of home table) domain workflow command mine) mine → AreShared clusters me them (most + 104) domain workflow new theirs
  write-then home same orderly table command is =
      subst (λ (c : Cell). AreShared clusters me them (most + 104) domain workflow c theirs) (sym (is ∙ ap (λ (h : HomeValue). written_at (command_of (desk_of h table) domain workflow command mine) mine) same))
      (shared-written clusters me them most domain workflow mine theirs s room orderly table command)

  pub refuse-then : new ≡ mine → AreShared clusters me them (most + 104) domain workflow new theirs
  refuse-then is = subst (λ (c : Cell). AreShared clusters me them (most + 104) domain workflow c theirs) (sym is) (shared-more clusters me them most (most + 104) domain workflow mine theirs (omega arith) (omega (arith, room)) s)

-- what is shared after the arrival of a message
pub hear-then : (clusters : ClusterList) (me them : ClusterNo) (most : ℕ) (domain workflow : Name) (mine theirs new : Cell) (s : AreShared clusters me them most domain workflow mine theirs) → IsOrderly mine → IsOrderly theirs
    → (sent : Message) → IsSentBy mine sent → new ≡ arrived_at sent theirs → AreShared clusters me them most domain workflow mine new
hear-then clusters me them most domain workflow mine theirs new s mine_is theirs_is sent e is =
    subst (λ (c : Cell). AreShared clusters me them most domain workflow mine c) (sym is) (shared-told clusters me them most domain workflow mine theirs s mine_is theirs_is sent e)

pub hear-arrives : (clusters : ClusterList) (me them : ClusterNo) (most : ℕ) (domain workflow : Name) (mine theirs : Cell) (s : AreShared clusters me them most domain workflow mine theirs) → IsOrderly mine → IsOrderly theirs
    → (sent : Message) → IsSentBy mine sent → CanArrive sent theirs
hear-arrives clusters me them most domain workflow mine theirs s mine_is theirs_is sent e =
    told-arrives most domain workflow mine theirs (shared-tell clusters me them most domain workflow mine theirs s) mine_is theirs_is sent e

pub begin-then : (clusters : ClusterList) (me them : ClusterNo) (domain workflow : Name) (mine theirs : Cell) → (me ≡ them → ⊥) → mine ≡ empty_cell → theirs ≡ empty_cell → AreShared clusters me them 0 domain workflow mine theirs
begin-then clusters me them domain workflow mine theirs differ e f =
    subst (λ (c : Cell). AreShared clusters me them 0 domain workflow c theirs) (sym e) (subst (λ (c : Cell). AreShared clusters me them 0 domain workflow empty_cell c) (sym f) (shared-new clusters me them domain workflow differ))

pub learn-then : (most : ℕ) (domain workflow : Name) (mine copy new : Cell) → (can : CanTell most domain workflow mine copy) → IsOrderly mine → IsOrderly copy → (sent : Message) → IsSentBy mine sent → new ≡ arrived_at sent copy
    → CanTell most domain workflow mine new
learn-then most domain workflow mine copy new can mine_is copy_is sent e is =
    subst (λ (c : Cell). CanTell most domain workflow mine c) (sym is) (told-then most domain workflow mine copy can mine_is copy_is sent e)

-- a new cell that learns all that one of two has learned of the domain has learned the same of the workflow
pub remake-then : (clusters : ClusterList) (me them : ClusterNo) (most : ℕ) (domain workflow : Name) (mine theirs begun copy : Cell) (messages : List Message) → AreShared clusters me them most domain workflow mine theirs → IsOrderly mine
    → copy ≡ handed messages begun → messages ≡ learned_of_domains (domain ∷ []) mine → begun ≡ empty_cell → learned_of domain workflow copy ≡ learned_of domain workflow mine
remake-then clusters me them most domain workflow mine theirs begun copy messages s is loaded are empty =
    ap (learned_of domain workflow) (loaded ∙ ap (handed messages) empty)
    ∙ loads s.all domain workflow mine messages is s.mine_is.kept s.mine_is.whole (record { told = λ sent h. subst (λ l. IsAmong l sent) are h; all = λ sent h. subst (λ l. IsAmong l sent) (sym are) h })
