-- What holds of a set that none of the causes holds of.
use Rattle.std.proofs.Common.{◌≡◌, ◌+◌, Bool, true, false, not, ◌&&◌, ◌==◌, nat_lt, List, [], ◌∷◌, find, ◌⊎◌, inl, inr, Option, Some, None, Result, Ok, Err, cond, refl, sym, ap, ◌∙◌}
use Rattle.std.specs.Prelude.{is_some}
use Rattle.std.proofs.lemmas.Bool.{and_parts, and_from, eqb-true, eq-eqb, lt-ltb}
use Rattle.ndc_event.specs.Outcome.{◌>>=◌}
use Rattle.ndc_event.specs.declared.batch.Batch.{Batch}
use Rattle.ndc_event.specs.declared.key.BatchKey.{BatchKey}
use Rattle.ndc_event.specs.declared.key.RunId.{RunId}
use Rattle.ndc_model_sets.specs.Branches.{same_run}
use Rattle.ndc_model_sets.specs.Learned.{has_key, IsClosed}
use Rattle.ndc_model_sets.specs.Paths.{first_id, last_id, path_to}
use Rattle.ndc_model_sets.specs.Sets.{Rise, batch_at, earlier_of, Has}
use Rattle.ndc_model_sets.specs.Sound.{ParentsFit, VersionsAreChains}
use Rattle.ndc_model_sets.proofs.BranchLemmas.{has-among, among-has, run-same, same-run, same-batch}
use Rattle.ndc_model_sets.proofs.Lists.{Among, all-from, list_any-one}
use Rattle.ndc_model_sets.proofs.SetLemmas.{found-key, found-all}
use Rattle.ndc_model_sets.specs.Reading.{named}
use Rattle.ndc_dump_causes.specs.declared.error.KeyCause.{KeyCause}
use Rattle.ndc_dump_causes.specs.declared.error.KeyCause.TheVariants as cause
use Rattle.ndc_dump_causes.specs.Causes.{closes_for, comes_before, has_origin_twice, has_unfit_carrier, has_unfit_copy, holds_of_none, is_forbidden, is_ill_formed, is_split, is_unfit_carried, is_unfit_parent, lacks_parent, refused_at, sound_or}
use Rattle.ndc_dump_causes.specs.Given.{AreRead}
use Rattle.ndc_dump_causes.proofs.Walking.{path-all}

-- a chain that ends well went well at its first step
pub went : {A B E : Type 0} (r : Result A E) (f : A → Result B E) (x : B) → (r >>= f) ≡ Ok x → (a : A) × (r ≡ Ok a) × (f a ≡ Ok x)
went (Ok a) f x e = (a, refl, e)
went (Err error) f x e = absurd (cc)

none-found : (test : Batch → Bool) (xs : List Batch) (b : Batch) → find test xs ≡ None → Among b xs → test b ≡ false
none-found test [] b = λ e among. absurd among
none-found test (x ∷ xs) b = by (test x) refl (none-found test xs b)
  where
    by : (t : Bool) → test x ≡ t → (find test xs ≡ None → Among b xs → test b ≡ false) → cond t (Some x) (find test xs) ≡ None → (b ≡ x) ⊎ Among b xs → test b ≡ false
    by true f rest e among = absurd (cc)
    by false f rest e (inl same) = ap test same ∙ f
    by false f rest e (inr k) = rest e k

-- a cause that holds of none holds of no batch
pub holds-not : (of : KeyCause) (test : Batch → Bool) (xs : List Batch) (u : Unit {0}) → holds_of_none of test xs ≡ Ok u → (b : Batch) → Has xs b → test b ≡ false
holds-not of test xs u e b has = by (find test xs) refl e
  where
    by : (o : Option Batch) → find test xs ≡ o → refused_at of o ≡ Ok u → test b ≡ false
    by None f g = none-found test xs b f (has-among xs b has)
    by (Some x) f g = absurd (cc)

not-found : (test : Batch → Bool) (xs : List Batch) → ((b : Batch) → Among b xs → test b ≡ false) → find test xs ≡ None
not-found test [] each = refl
not-found test (x ∷ xs) each = rw (each x (inl refl)) (not-found test xs (λ b among. each b (inr among)))

-- a cause that holds of no batch holds of none
pub not-holds : (of : KeyCause) (test : Batch → Bool) (xs : List Batch) → Rise xs → ((b : Batch) → Has xs b → test b ≡ false) → holds_of_none of test xs ≡ Ok tt
not-holds of test xs rise each = ap (refused_at of) (not-found test xs (λ b among. each b (among-has xs b rise among)))

-- no batch of the set has one of the causes
pub record HasNone (batches : List Batch) : Type 0 where
  pub parents : (b : Batch) → Has batches b → lacks_parent batches b ≡ false
  pub formed : (b : Batch) → Has batches b → is_ill_formed batches b ≡ false
  pub chains : (b : Batch) → Has batches b → is_split batches b ≡ false
  pub origins : (b : Batch) → Has batches b → has_origin_twice batches b ≡ false
  pub copies : (b : Batch) → Has batches b → has_unfit_copy batches b ≡ false
  pub replays : (b : Batch) → Has batches b → is_forbidden batches b ≡ false
  pub carriers : (b : Batch) → Has batches b → is_unfit_carried batches b ≡ false

pub has-none : (batches : List Batch) (u : Unit {0}) → sound_or batches ≡ Ok u → HasNone batches
unfolding sound_or
has-none batches u e =
    let one = went (holds_of_none cause.MissingParent (lacks_parent batches) batches) _ u e in
    let two = went (holds_of_none cause.NotWellFormed (is_ill_formed batches) batches) _ u one.2 in
    let three = went (holds_of_none cause.SplitVersion (is_split batches) batches) _ u two.2 in
    let four = went (holds_of_none cause.OriginTwice (has_origin_twice batches) batches) _ u three.2 in
    let five = went (holds_of_none cause.OriginUnfit (has_unfit_copy batches) batches) _ u four.2 in
    let six = went (holds_of_none cause.BadReplay (is_forbidden batches) batches) _ u five.2 in
    record {
      parents = holds-not cause.MissingParent (lacks_parent batches) batches one.0 one.1;
      formed = holds-not cause.NotWellFormed (is_ill_formed batches) batches two.0 two.1;
      chains = holds-not cause.SplitVersion (is_split batches) batches three.0 three.1;
      origins = holds-not cause.OriginTwice (has_origin_twice batches) batches four.0 four.1;
      copies = holds-not cause.OriginUnfit (has_unfit_copy batches) batches five.0 five.1;
      replays = holds-not cause.BadReplay (is_forbidden batches) batches six.0 six.1;
      carriers = holds-not cause.CarrierUnfit (is_unfit_carried batches) batches u six.2;
    }

-- ---- the words of sound sets

not-false : (t : Bool) → not t ≡ false → t ≡ true
not-false true e = refl
not-false false e = absurd (cc)

unmissed : (s t : Bool) → (s && not t) ≡ false → s ≡ true → t ≡ true
unmissed true true e f = refl
unmissed true false e f = absurd (cc)
unmissed false t e f = absurd (cc)

found-some : (run : RunId) (o : Option Batch) → closes_for run o ≡ true → is_some o ≡ true
found-some run None e = absurd (cc)
found-some run (Some b) e = refl

pub fit-from : (batches : List Batch) → ((b : Batch) → Has batches b → is_ill_formed batches b ≡ false) → ParentsFit batches
fit-from batches formed b before key has e at =
    let fits : (same_run before.run b.run && (last_id before.events + 1 == first_id b.events)) ≡ true =
    not-false _ (sym (ap (is_unfit_parent b) (ap (λ o. named o batches) e ∙ at)) ∙ formed b has) in
    let parts = and_parts (same_run before.run b.run) (last_id before.events + 1 == first_id b.events) fits in
    record { run = run-same before.run b.run parts.0; ids = eqb-true (last_id before.events + 1) (first_id b.events) parts.1 }

module _ (batches : List Batch) (read : AreRead batches) (none : HasNone batches) where
  pub is-closed : IsClosed batches
  is-closed b has = by b.parent b.carrier refl refl
    where
      by : (p c : Option BatchKey) → b.parent ≡ p → b.carrier ≡ c → has_key (earlier_of p c) batches ≡ true
      by (Some key) c e f = sym (ap (λ o. has_key o batches) e) ∙ not-false (has_key b.parent batches) (none.parents b has)
      by None None e f = refl
      by None (Some key) e f =
          found-some b.run (batch_at key batches) (not-false (closes_for b.run (batch_at key batches)) (sym (ap (has_unfit_carrier batches b) f) ∙ none.carriers b has))

  pub parents-fit : ParentsFit batches
  parents-fit = fit-from batches none.formed

  -- what a path has under a key is the batch of the key
  on-path : (one two : Batch) → Has batches one → has_key (Some one.key) (path_to two.key batches) ≡ true → Has (path_to two.key batches) one
  on-path one two has e = by (batch_at one.key (path_to two.key batches)) refl e
    where
      by : (o : Option Batch) → batch_at one.key (path_to two.key batches) ≡ o → is_some o ≡ true → batch_at one.key (path_to two.key batches) ≡ Some one
      by None f g = absurd (cc)
      by (Some x) f g =
          let there : Has batches x = found-all (Has batches) (path_to two.key batches) one.key x
          (path-all (Has batches) batches (Some two.key) (all-from (Has batches) batches (λ y k. among-has batches y read.set.ordered k))) f in
          f ∙ ap Some (same-batch batches x one there has (found-key (path_to two.key batches) one.key x f))

  pub versions-are-chains : VersionsAreChains batches
  versions-are-chains one two has other run version less =
      let before : comes_before one two ≡ true =
      and_from (same_run one.run two.run) ((one.key.version == two.key.version) && nat_lt one.key.task two.key.task) (same-run one.run two.run run)
      (and_from (one.key.version == two.key.version) (nat_lt one.key.task two.key.task) (eq-eqb one.key.version two.key.version version) (lt-ltb one.key.task two.key.task less)) in
      on-path one two has (by (has_key (Some one.key) (path_to two.key batches)) refl before)
    where
      by : (t : Bool) → has_key (Some one.key) (path_to two.key batches) ≡ t → comes_before one two ≡ true → has_key (Some one.key) (path_to two.key batches) ≡ true
      by true e f = e
      by false e f =
          let split : is_split batches two ≡ true =
          list_any-one (λ x. comes_before x two && not (has_key (Some x.key) (path_to two.key batches))) batches one (has-among batches one has) (rw (e, f) refl) in
          let whole : is_split batches two ≡ false = none.chains two other in absurd (cc)
