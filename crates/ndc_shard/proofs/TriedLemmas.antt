-- Reapplication is tried in workflows of a shard that nobody vouches for, one after the other.
use Rattle.std.proofs.Common.{◌≡◌, ◌≤◌, ◌++◌, ℕ, Bool, true, false, if◌then◌else◌, List, [], ◌∷◌, Option, Some, None, Result, Ok, Err, IfOk, IsOk, refl, sym, ◌∙◌, subst, ap, map}
use Rattle.std.specs.Prelude.{IfSome, option_to_list}
use Rattle.std.specs.List.{AllByRecursion}
use Rattle.std.proofs.lemmas.List.{append-nil, append_assoc}
use Rattle.ndc_command.specs.declared.refusal.CommandError.{CommandError}
use Rattle.ndc_command.specs.declared.refusal.Refusal.{Refusal}
use Rattle.ndc_domain.specs.Records.{record_of}
use Rattle.ndc_event.specs.declared.batch.Batch.{Batch}
use Rattle.ndc_event.specs.declared.name.Name.{Name}
use Rattle.ndc_model_cells.specs.Cells.{Cell, learned_of}
use Rattle.ndc_model_cells.specs.Jobs.{all_batches}
use Rattle.ndc_model_cells.specs.Messages.{carrying}
use Rattle.ndc_model_cells.specs.Workflow.{workflow_of}
use Rattle.ndc_model_cells.specs.Writing.{Desk, Entry, alone, batch_below, greatest_version, may_write, may_write_by, next_key, reapplication_below, reapplication_by, reapplication_of, with_all_written, with_written}
use Rattle.ndc_model_sets.specs.Branches.{workflow_tip}
use Rattle.ndc_model_sets.specs.Current.{state_to, strays}
use Rattle.ndc_reapply.specs.Reapplied.{reapplied}
use Rattle.ndc_reapply.specs.declared.stray.Stray.{Stray}
use Rattle.ndc_shard.specs.Answers.{names_of}
use Rattle.ndc_shard.specs.Shards.{IsFit}
use Rattle.ndc_shard.specs.Trying.{AreNotWritten, AreTried, HasRoomAgain, HasSmallIdsIn, IsPassedOver, IsTriedFirst, IsTriedIn, IsTriedInSome, IsTriedOnce, LeavesRoom, Standing, together}
use Rattle.ndc_shard.specs.declared.error.TryError.{TryError}
use Rattle.ndc_shard.specs.declared.error.TryError.TheVariants as error
use Rattle.ndc_shard.specs.declared.trying.Skipped.{Skipped}
use Rattle.ndc_shard_entries.proofs.LawProofs.{reapplication-behind, writes_ahead}
use Rattle.ndc_shard_entries.specs.Written.{AreWrittenTo, IsWrittenTo}
use Rattle.ndc_shard_workflows.specs.Reapplied.{reapplied_at}
use Rattle.ndc_shard_workflows.specs.Refused.{IsNotWritten}
use Rattle.ndc_shard_workflows.specs.declared.admission.NotWritten.{NotWritten}
use Rattle.ndc_shard_workflows.specs.declared.admission.NotWritten.TheVariants as refused

abbrev Names : Type 0
Names = List (Name × Name)

-- what reapplication would write comes after all that is learned
again-written : (home : Desk) (domain workflow : Name) (cell : Cell) → IsFit domain workflow cell
    → AreWrittenTo (learned_of domain workflow cell) domain workflow (reapplication_of home domain workflow cell)
unfolding reapplication_of may_write
again-written home domain workflow cell fit = by (may_write_by home (record_of home.table domain) known) (writes_ahead home (record_of home.table domain) known)
  where
    known : List Batch
    known = learned_of domain workflow cell

    by : (r : Result ℕ Refusal) → IfOk r (λ version. greatest_version known ≤ version) → AreWrittenTo known domain workflow (reapplication_by domain workflow r known)
    by (Err why) ahead = tt
    by (Ok version) ahead = reapplication-behind known version domain workflow fit.sound ahead (workflow_tip known) refl (strays known)

-- the entry, where there is one
pub again-planned : (home : Desk) (domain workflow : Name) (old new : Cell) (o : Option Entry) (entry : Entry) → new ≡ old → o ≡ Some entry
    → option_to_list o ≡ reapplication_of home domain workflow old → IfSome o (λ _. IsFit domain workflow new) → IsWrittenTo (learned_of domain workflow new) domain workflow entry
again-planned home domain workflow old new o entry same some e fit =
    (subst (AreWrittenTo (learned_of domain workflow new) domain workflow) (sym list)
    (again-written home domain workflow new (subst (λ (x : Option Entry). IfSome x (λ _. IsFit domain workflow new)) some fit))).0
  where
    list : entry ∷ [] ≡ reapplication_of home domain workflow new
    list = ap option_to_list (sym some) ∙ e ∙ ap (reapplication_of home domain workflow) (sym same)

-- that entry is all that is to be written
pub again-all : (home : Desk) (domain workflow : Name) (cell : Cell) (o : Option Entry) (entry : Entry) → o ≡ Some entry → option_to_list o ≡ reapplication_of home domain workflow cell
    → reapplication_of home domain workflow cell ≡ entry ∷ []
again-all home domain workflow cell o entry some e = sym e ∙ ap option_to_list some

-- it carries none
alone-below : (domain workflow : Name) (version : ℕ) (batches : List Batch) (tip : Option Batch) (list : List Stray)
    → AllByRecursion (λ (entry : Entry). entry.second ≡ None) (reapplication_below domain workflow version tip batches list)
alone-below domain workflow version batches None list = tt
alone-below domain workflow version batches (Some tip) [] = tt
alone-below domain workflow version batches (Some tip) (stray ∷ list) = by (state_to tip.run tip.key batches).running
  where
    by : (running : Bool)
        → AllByRecursion (λ (entry : Entry). entry.second ≡ None) (if running then alone (batch_below domain workflow (next_key version batches) tip (state_to tip.run tip.key batches) (reapplied (state_to tip.run tip.key batches) version (stray ∷ list))) ∷ [] else [])
    by true = (refl, tt)
    by false = tt

alone-again : (home : Desk) (domain workflow : Name) (cell : Cell) → AllByRecursion (λ (entry : Entry). entry.second ≡ None) (reapplication_of home domain workflow cell)
unfolding reapplication_of
alone-again home domain workflow cell = by (may_write home domain workflow cell)
  where
    by : (r : Result ℕ Refusal) → AllByRecursion (λ (entry : Entry). entry.second ≡ None) (reapplication_by domain workflow r (learned_of domain workflow cell))
    by (Err why) = tt
    by (Ok version) = alone-below domain workflow version (learned_of domain workflow cell) (workflow_tip (learned_of domain workflow cell)) (strays (learned_of domain workflow cell))

pub again-alone : (home : Desk) (domain workflow : Name) (cell : Cell) (entry : Entry) → reapplication_of home domain workflow cell ≡ entry ∷ [] → entry.second ≡ None
again-alone home domain workflow cell entry e = (subst (AllByRecursion (λ (one : Entry). one.second ≡ None)) e (alone-again home domain workflow cell)).0

-- its ids are too great
pub again-large : (home : Desk) (domain workflow : Name) (cell : Cell) (entry : Entry) → reapplication_of home domain workflow cell ≡ entry ∷ [] → (HasSmallIdsIn entry → ⊥)
    → HasRoomAgain home domain workflow cell → ⊥
again-large home domain workflow cell entry e large room = large (subst (AllByRecursion HasSmallIdsIn) e room.ids).0

-- there is no room before it
pub again-full : (home : Desk) (domain workflow : Name) (cell : Cell) → (LeavesRoom (learned_of domain workflow cell) → ⊥) → HasRoomAgain home domain workflow cell → ⊥
again-full home domain workflow cell full room = full room.before

-- why it is not written
pub again-passed : (why : NotWritten) (home : Desk) (domain workflow : Name) (old new : Cell) (entry : Entry) → (why ≡ refused.Memory → ⊥) → new ≡ old
    → IsWrittenTo (learned_of domain workflow new) domain workflow entry → reapplication_of home domain workflow old ≡ entry ∷ []
    → IsNotWritten why (carrying entry.batch entry.second) (workflow_of entry.batch.domain entry.batch.workflow new) → IsPassedOver (error.NotWritten why) home (domain, workflow) old
again-passed why home domain workflow old new entry some same to e not = by why some not
  where
    at : (w : NotWritten) → IsNotWritten w (carrying entry.batch entry.second) (workflow_of entry.batch.domain entry.batch.workflow new)
        → AreNotWritten w (Ok (reapplication_of home domain workflow old)) (workflow_of domain workflow old)
    at w h = record {
      planned = refl;
      entries = subst (λ (list : List Entry). IfSome (together list) (λ new. IsNotWritten w new (workflow_of domain workflow old))) (sym e)
          (subst (λ (c : Cell). IsNotWritten w (carrying entry.batch entry.second) (workflow_of domain workflow c)) same
          (subst (λ (d : Name). IsNotWritten w (carrying entry.batch entry.second) (workflow_of d workflow new)) to.of.domain_is
          (subst (λ (n : Name). IsNotWritten w (carrying entry.batch entry.second) (workflow_of entry.batch.domain n new)) to.of.workflow_is h)));
    }

    by : (w : NotWritten) → (w ≡ refused.Memory → ⊥) → IsNotWritten w (carrying entry.batch entry.second) (workflow_of entry.batch.domain entry.batch.workflow new)
        → IsPassedOver (error.NotWritten w) home (domain, workflow) old
    by (refused.Rival key waits) m h = at (refused.Rival key waits) h
    by (refused.Awaited key) m h = at (refused.Awaited key) h
    by (refused.Misfit misfit) m h = at (refused.Misfit misfit) h
    by refused.Memory m h = absurd (m refl)

-- it is written
pub again-done : (home : Desk) (domain workflow : Name) (old mid new : Cell) (entry : Entry) → mid ≡ old → reapplication_of home domain workflow old ≡ entry ∷ []
    → new ≡ with_written entry mid → new ≡ reapplied_at home (domain, workflow) old
again-done home domain workflow old mid new entry same e done =
    done ∙ ap (with_written entry) same ∙ ap (λ (list : List Entry). with_all_written list old) (sym e)

-- nothing is to be written
pub none-applied : (home : Desk) (domain workflow : Name) (old new : Cell) → reapplication_of home domain workflow old ≡ [] → new ≡ old → new ≡ reapplied_at home (domain, workflow) old
none-applied home domain workflow old new e same = same ∙ ap (λ (list : List Entry). with_all_written list old) (sym e)

pub none-placed : (home : Desk) (domain workflow : Name) (old : Cell) (written written_then : List Standing) → reapplication_of home domain workflow old ≡ [] → written_then ≡ written
    → written_then ≡ written ++ map names_of (all_batches (reapplication_of home domain workflow old))
none-placed home domain workflow old written written_then e same =
    same ∙ sym (append-nil written) ∙ ap (λ (list : List Entry). written ++ map names_of (all_batches list)) (sym e)

-- where it stands
pub again-placed : (home : Desk) (domain workflow : Name) (old : Cell) (entry : Entry) (written written_then : List Standing) → reapplication_of home domain workflow old ≡ entry ∷ []
    → entry.second ≡ None → written_then ≡ written ++ names_of entry.batch ∷ [] → written_then ≡ written ++ map names_of (all_batches (reapplication_of home domain workflow old))
again-placed home domain workflow old entry written written_then e alone is =
    is ∙ ap (λ (o : Option Batch). written ++ map names_of (entry.batch ∷ (option_to_list o ++ []))) (sym alone)
    ∙ ap (λ (list : List Entry). written ++ map names_of (all_batches list)) (sym e)

-- ---- workflows one after the other

-- one workflow more
tried-more : (home : Desk) (front : Names) (one : Name × Name) (before between after : Cell) (written own : List Standing) (skipped told : List Skipped)
    → AreTried home front before written skipped between → IsTriedIn home one between own told after → AreTried home (front ++ one ∷ []) before (written ++ own) (skipped ++ told) after
tried-more home [] one before between after written own skipped told so now = record {
  between = after;
  own = own;
  more = [];
  told = told;
  others = [];
  tried = subst (λ (c : Cell). IsTriedIn home one c own told after) so.0 now;
  then_tried = (refl, refl, refl);
  written_is = ap (λ (l : List Standing). l ++ own) so.1 ∙ sym (append-nil own);
  skipped_is = ap (λ (l : List Skipped). l ++ told) so.2 ∙ sym (append-nil told);
}
tried-more home (names ∷ front) one before between after written own skipped told so now = record {
  between = so.between;
  own = so.own;
  more = so.more ++ own;
  told = so.told;
  others = so.others ++ told;
  tried = so.tried;
  then_tried = tried-more home front one so.between between after so.more own so.others told so.then_tried now;
  written_is = ap (λ (l : List Standing). l ++ own) so.written_is ∙ append_assoc so.own so.more own;
  skipped_is = ap (λ (l : List Skipped). l ++ told) so.skipped_is ∙ append_assoc so.told so.others told;
}

-- a prefix of the list is gone over
pub record IsTriedSoFar (home : Desk) (list : Names) (old : Cell) (front rest : Names) (written : List Standing) (skipped : List Skipped) (cell : Cell) : Type 0 where
  pub tried : AreTried home front old written skipped cell
  pub list_is : list ≡ front ++ rest

pub tried-next : (home : Desk) (list : Names) (old : Cell) (front now rest : Names) (one : Name × Name) (written written_then : List Standing) (skipped skipped_then : List Skipped) (cell new : Cell)
    → now ≡ one ∷ rest → IsTriedOnce home one cell new written written_then skipped skipped_then → IsTriedSoFar home list old front now written skipped cell
    → IsTriedSoFar home list old (front ++ one ∷ []) rest written_then skipped_then new
tried-next home list old front now rest one written written_then skipped skipped_then cell new next once so = record {
  tried = subst (λ (w : List Standing). AreTried home (front ++ one ∷ []) old w skipped_then new) (sym once.written_is)
      (subst (λ (s : List Skipped). AreTried home (front ++ one ∷ []) old (written ++ once.own) s new) (sym once.skipped_is)
      (tried-more home front one old cell new written once.own skipped once.told so.tried once.tried));
  list_is = so.list_is ∙ ap (λ (l : Names). front ++ l) next ∙ sym (append_assoc front (one ∷ []) rest);
}

pub tried-all : (home : Desk) (list : Names) (old : Cell) (front rest : Names) (written : List Standing) (skipped : List Skipped) (cell : Cell) → rest ≡ []
    → IsTriedSoFar home list old front rest written skipped cell → AreTried home list old written skipped cell
tried-all home list old front rest written skipped cell end so =
    subst (λ (l : Names). AreTried home l old written skipped cell) (sym (so.list_is ∙ ap (λ (l : Names). front ++ l) end ∙ append-nil front)) so.tried

pub tried-some : (home : Desk) (list : Names) (old : Cell) (front rest : Names) (written : List Standing) (skipped : List Skipped) (cell new : Cell) → new ≡ cell
    → IsTriedSoFar home list old front rest written skipped cell → IsTriedInSome home old new
tried-some home list old front rest written skipped cell new same so = record {
  workflows = front;
  written = written;
  skipped = skipped;
  tried = subst (AreTried home front old written skipped) (sym same) so.tried;
}

pub none-tried : (home : Desk) (old new : Cell) → new ≡ old → IsTriedInSome home old new
none-tried home old new same = record { workflows = []; written = []; skipped = []; tried = (same, refl, refl) }

-- what came of one workflow, as it is told
pub once-done : (home : Desk) (names : Name × Name) (before after : Cell) (written written_then : List Standing) (skipped skipped_then : List Skipped) → after ≡ reapplied_at home names before
    → written_then ≡ written ++ map names_of (all_batches (reapplication_of home names.0 names.1 before)) → skipped_then ≡ skipped
    → IsTriedOnce home names before after written written_then skipped skipped_then
once-done home names before after written written_then skipped skipped_then done places same = record {
  own = map names_of (all_batches (reapplication_of home names.0 names.1 before));
  told = [];
  tried = (done, refl);
  written_is = places;
  skipped_is = same ∙ sym (append-nil skipped);
}

pub once-passed : (home : Desk) (domain workflow : Name) (why : TryError) (before after : Cell) (written written_then : List Standing) (skipped skipped_then : List Skipped)
    → IsPassedOver why home (domain, workflow) before → after ≡ before → written_then ≡ written
    → skipped_then ≡ skipped ++ record { domain = domain; workflow = workflow; cause = why } ∷ []
    → IsTriedOnce home (domain, workflow) before after written written_then skipped skipped_then
once-passed home domain workflow why before after written written_then skipped skipped_then passed same places told = record {
  own = [];
  told = record { domain = domain; workflow = workflow; cause = why } ∷ [];
  tried = (passed, refl, same, refl);
  written_is = places ∙ sym (append-nil written);
  skipped_is = told;
}
