-- A sound set without carriers is sound with those that it gets.
use Rattle.std.proofs.Common.{◌≡◌, ◌+◌, ◌-◌, ◌<◌, ◌≤◌, ◌^◌, ◌==◌, nat_le, Bool, true, false, List, [], ◌∷◌, map, Option, Some, None, IsOk, if◌then◌else◌, refl, sym, ap, ◌∙◌, subst, arith}
use Rattle.std.specs.Prelude.{is_none, is_some}
use Rattle.std.specs.List.{AllByRecursion}
use Rattle.std.specs.Option.{option_map}
use Rattle.std.proofs.lemmas.Bool.{and_from, and_parts, eq-eqb, leb-true}
use Rattle.ndc_event.specs.Batch.{are_consecutive, fault_at, fault_of, is_carrier_fit}
use Rattle.ndc_event.specs.Key.{key_eq, key_lt}
use Rattle.ndc_event.specs.declared.batch.Batch.{Batch}
use Rattle.ndc_event.specs.declared.batch.Event.{Event}
use Rattle.ndc_event.specs.declared.key.BatchKey.{BatchKey}
use Rattle.ndc_event.specs.declared.key.RunId.{RunId}
use Rattle.ndc_model_sets.specs.Learned.{has_key, IsClosed}
use Rattle.ndc_model_sets.specs.Origins.{origins_in}
use Rattle.ndc_model_sets.specs.Paths.{events_to, first_id, last_id, path_to}
use Rattle.ndc_model_sets.specs.Sets.{ComeAfter, Has, PointsBack, Rise, batch_at, earlier, earlier_of}
use Rattle.ndc_model_sets.specs.Sound.{CarriersFit, ContinuesAs, CopiesFit, IsCopyFit, IsSound, ParentsFit, VersionsAreChains}
use Rattle.ndc_model_sets.proofs.BranchLemmas.{among-has, has-among}
use Rattle.ndc_model_sets.proofs.FaultLemmas.{Passes, passes}
use Rattle.ndc_model_sets.proofs.Lists.{all-among, all-from, map-among}
use Rattle.ndc_model_sets.proofs.SetLemmas.{found-has, found-key}
use Rattle.ndc_state.specs.Laws.{AreApart}
use Rattle.ndc_state.specs.Replay.{replay_of}
use Rattle.ndc_text.specs.Ranges.{InRange, KeyFits}
use Rattle.ndc_dump_causes.specs.Causes.{closes_for}
use Rattle.ndc_dump_causes.specs.Given.{AreRead}
use Rattle.ndc_dump.specs.Migrated.{is_carried, key_before, migrated, with_carrier_in}
use Rattle.ndc_dump.proofs.Carriers.{Keeps, carrier-keeps, events-of, find-map-of, walk-of}
use Rattle.ndc_dump.proofs.ReadLemmas.{points-back}
use Rattle.ndc_dump_causes.proofs.Soundness.{ends-for}

-- a batch that passes all tests has no fault
no-fault : (b : Batch) → Passes b → fault_of b ≡ None
no-fault b p =
    ap (fault_at b) p.are ∙ rw (ap are_consecutive p.are ∙ p.consecutive, p.versions, p.first, p.parent, p.carrier) refl

module _ (batches : List Batch) (read : AreRead batches) (s : IsSound batches) (bare : AllByRecursion (λ b. b.carrier ≡ None) batches) where
  abbrev f : Batch → Batch
  f = with_carrier_in batches

  keeps : Keeps f
  keeps = carrier-keeps batches

  -- what is found is what the set has under the key, with its carrier
  at-key : (key : BatchKey) → batch_at key (map f batches) ≡ option_map f (batch_at key batches)
  at-key key = find-map-of f (λ b. key_eq b.key key) (λ b. key_eq b.key key) (λ b. ap (λ k. key_eq k key) (keeps.key b)) batches

  -- a batch of the set with carriers is one of the set
  record IsFrom (y : Batch) : Type 0 where
    before : Batch
    has : Has batches before
    is : f before ≡ y

  from-found : (key : BatchKey) (o : Option Batch) (y : Batch) → batch_at key batches ≡ o → option_map f o ≡ Some y → y.key ≡ key → IsFrom y
  from-found key None y e g h = absurd (cc)
  from-found key (Some b) y e g h =
      let is : f b ≡ y = cc in
      let own : b.key ≡ key = sym (keeps.key b) ∙ ap (λ (z : Batch). z.key) is ∙ h in
      record { before = b; has = ap (λ k. batch_at k batches) own ∙ e; is = is }

  from-has : (y : Batch) → Has (map f batches) y → IsFrom y
  from-has y has = from-found y.key (batch_at y.key batches) y refl (sym (at-key y.key) ∙ has) refl

  has-of : (b : Batch) → Has batches b → Has (map f batches) (f b)
  has-of b has = at-key (f b).key ∙ ap (option_map f) (ap (λ k. batch_at k batches) (keeps.key b) ∙ has)

  -- for all batches with carriers, where for each batch of the set
  each : (P : Batch → Type 0) → ((b : Batch) → Has batches b → P (f b)) → (y : Batch) → Has (map f batches) y → P y
  each P all y has = let it = from-has y has in subst P it.is (all it.before it.has)

  in-range : (b : Batch) → Has batches b → InRange b
  in-range b has = all-among InRange batches b read.range (has-among batches b has)

  is-bare : (b : Batch) → Has batches b → b.carrier ≡ None
  is-bare b has = all-among (λ b. b.carrier ≡ None) batches b bare (has-among batches b has)

  -- ---- the batch that gets a carrier

  -- a first batch that gets one
  record GetsCarrier (b : Batch) : Type 0 where
    first : b.parent ≡ None
    carrier : Batch
    there : batch_at (key_before b.key) batches ≡ Some carrier
    closes : closes_for b.run (Some carrier) ≡ true

  gets : (b : Batch) → is_carried batches b ≡ true → GetsCarrier b
  gets b h = by b.parent (batch_at (key_before b.key) batches) refl refl (and_parts (is_none b.parent) (closes_for b.run (batch_at (key_before b.key) batches)) h)
    where
      by : (p : Option BatchKey) (o : Option Batch) → b.parent ≡ p → batch_at (key_before b.key) batches ≡ o
          → (is_none b.parent ≡ true) × (closes_for b.run (batch_at (key_before b.key) batches) ≡ true) → GetsCarrier b
      by (Some key) o e g h = let none : false ≡ true = sym (ap is_none e) ∙ h.0 in absurd (cc)
      by None None e g h = let none : false ≡ true = sym (ap (closes_for b.run) g) ∙ h.1 in absurd (cc)
      by None (Some c) e g h = record { first = e; carrier = c; there = g; closes = sym (ap (closes_for b.run) g) ∙ h.1 }

  -- something holds of a batch with its carrier, where it does of the batch as it was, and of it with one that it gets
  by-carrier : (P : Batch → Type 0) (b : Batch) → P b → (GetsCarrier b → P (record b { carrier = Some (key_before b.key) })) → P (f b)
  by-carrier P b same other = by (is_carried batches b) refl
    where
      by : (t : Bool) → is_carried batches b ≡ t → P (if t then record b { carrier = Some (key_before b.key) } else b)
      by true e = other (gets b e)
      by false e = same

  fits-carrier : (b : Batch) → Has batches b → GetsCarrier b → is_carrier_fit b.key b.parent (Some (key_before b.key)) ≡ true
  fits-carrier b has g =
      let least : 1 ≤ b.key.task = leb-true 1 b.key.task (and_parts (nat_le 1 b.key.task) (nat_le b.key.task (10 ^ 12)) (in-range b has).key.0).0 in
      rw g.first
      (and_from (b.key.version == b.key.version) ((b.key.task - 1) + 1 == b.key.task) (eq-eqb b.key.version b.key.version refl)
      (eq-eqb ((b.key.task - 1) + 1) b.key.task (omega (arith, least))))

  faultless-of : (b : Batch) → Has batches b → fault_of (f b) ≡ None
  faultless-of b has =
      by-carrier (λ y. fault_of y ≡ None) b (s.faultless b has) (λ g.
      let p = passes b (s.faultless b has) in
      no-fault (record b { carrier = Some (key_before b.key) }) (record {
        event = p.event;
        events = p.events;
        are = p.are;
        consecutive = p.consecutive;
        versions = p.versions;
        first = p.first;
        parent = p.parent;
        carrier = fits-carrier b has g;
      }))

  range-of : (b : Batch) → Has batches b → InRange (f b)
  range-of b has =
      by-carrier InRange b (in-range b has) (λ g.
      let r = in-range b has in
      let own = found-key batches (key_before b.key) g.carrier g.there in
      record {
        domain = r.domain;
        run = r.run;
        key = r.key;
        workflow = r.workflow;
        carrier = subst KeyFits own (in-range g.carrier (found-has batches (key_before b.key) g.carrier g.there)).key;
        parent = r.parent;
        events = r.events;
      })

  -- ---- the set

  rise-of : (xs : List Batch) → Rise xs → Rise (map f xs)
  rise-of [] rise = tt
  rise-of (x ∷ xs) rise = (after xs rise.0, rise-of xs rise.1)
    where
      after : (ys : List Batch) → ComeAfter x.key ys → ComeAfter (f x).key (map f ys)
      after [] all = tt
      after (y ∷ ys) all = (ap (λ k. key_lt k (f y).key) (keeps.key x) ∙ ap (key_lt x.key) (keeps.key y) ∙ all.0, after ys all.1)

  all-of : (P : Batch → Type 0) → ((b : Batch) → Has batches b → P (f b)) → AllByRecursion P (map f batches)
  all-of P all =
      all-from P (map f batches) (λ y among.
      let it = map-among f batches y among in
      subst P (sym it.2) (all it.0 (among-has batches it.0 s.set.ordered it.1)))

  there-of : (key : BatchKey) → is_some (batch_at key batches) ≡ true → is_some (batch_at key (map f batches)) ≡ true
  there-of key h = ap is_some (at-key key) ∙ by (batch_at key batches) h
    where
      by : (o : Option Batch) → is_some o ≡ true → is_some (option_map f o) ≡ true
      by None h = absurd (cc)
      by (Some b) h = refl

  key-of : (o : Option BatchKey) → has_key o batches ≡ true → has_key o (map f batches) ≡ true
  key-of None h = refl
  key-of (Some key) h = there-of key h

  closed-of : IsClosed (map f batches)
  closed-of =
      each (λ y. has_key (earlier y) (map f batches) ≡ true) (λ b has.
      by-carrier (λ y. has_key (earlier y) (map f batches) ≡ true) b (key-of (earlier b) (s.closed b has)) (λ g.
      ap (λ p. has_key (earlier_of p (Some (key_before b.key))) (map f batches)) g.first ∙ there-of (key_before b.key) (ap is_some g.there)))

  -- a parent is found where it was
  parents-of : ParentsFit (map f batches)
  parents-of y z key has e at =
      let it = from-has y has in
      let up = from-found key (batch_at key batches) z refl (sym (at-key key) ∙ at) (found-key (map f batches) key z at) in
      let parent : it.before.parent ≡ Some key = sym (keeps.parent it.before) ∙ ap (λ (b : Batch). b.parent) it.is ∙ e in
      let own : up.before.key ≡ key = sym (keeps.key up.before) ∙ ap (λ (b : Batch). b.key) up.is ∙ found-key (map f batches) key z at in
      let fit = s.parents it.before up.before key it.has parent (sym (ap (λ k. batch_at k batches) own) ∙ up.has) in
      record {
        run = sym (ap (λ (b : Batch). b.run) up.is) ∙ keeps.run up.before ∙ fit.run ∙ sym (keeps.run it.before) ∙ ap (λ (b : Batch). b.run) it.is;
        ids = ap (λ (es : List Event). last_id es + 1) (sym (ap (λ (b : Batch). b.events) up.is) ∙ keeps.events up.before) ∙ fit.ids
            ∙ ap first_id (sym (keeps.events it.before) ∙ ap (λ (b : Batch). b.events) it.is);
      }

  path-of : (key : BatchKey) → path_to key (map f batches) ≡ map f (path_to key batches)
  path-of key = (walk-of f keeps batches (Some key)).1

  on-path : (path : List Batch) (b : Batch) → Has path b → Has (map f path) (f b)
  on-path path b has =
      find-map-of f (λ x. key_eq x.key (f b).key) (λ x. key_eq x.key b.key) (λ x. ap (λ k. key_eq k (f b).key) (keeps.key x) ∙ ap (key_eq x.key) (keeps.key b)) path ∙ ap (option_map f) has

  chains-of : VersionsAreChains (map f batches)
  chains-of y z has other run version less =
      let one = from-has y has in
      let two = from-has z other in
      let key-one : one.before.key ≡ y.key = sym (keeps.key one.before) ∙ ap (λ (b : Batch). b.key) one.is in
      let key-two : two.before.key ≡ z.key = sym (keeps.key two.before) ∙ ap (λ (b : Batch). b.key) two.is in
      let run-one : one.before.run ≡ y.run = sym (keeps.run one.before) ∙ ap (λ (b : Batch). b.run) one.is in
      let run-two : two.before.run ≡ z.run = sym (keeps.run two.before) ∙ ap (λ (b : Batch). b.run) two.is in
      let smaller : one.before.key.task < two.before.key.task =
      subst (λ (k : BatchKey). k.task < two.before.key.task) (sym key-one) (subst (λ (k : BatchKey). y.key.task < k.task) (sym key-two) less) in
      let on = s.chains one.before two.before one.has two.has (run-one ∙ run ∙ sym run-two) (ap (λ (k : BatchKey). k.version) key-one ∙ version ∙ sym (ap (λ (k : BatchKey). k.version) key-two)) smaller in
      subst (λ (b : Batch). Has (path_to z.key (map f batches)) b) one.is
      (subst (λ path. Has path (f one.before)) (sym (ap (λ k. path_to k (map f batches)) (sym key-two) ∙ path-of two.before.key)) (on-path (path_to two.before.key batches) one.before on))

  -- what is said of a batch by its run and the events of its path
  by-path : (P : RunId → List Event → Type 0) → ((b : Batch) → Has batches b → P b.run (events_to b.key batches)) → (y : Batch) → Has (map f batches) y → P y.run (events_to y.key (map f batches))
  by-path P all =
      each (λ y. P y.run (events_to y.key (map f batches))) (λ b has.
      subst (λ (r : RunId). P r (events_to (f b).key (map f batches))) (sym (keeps.run b))
      (subst (λ (es : List Event). P b.run es) (sym (ap (λ k. events_to k (map f batches)) (keeps.key b) ∙ events-of f keeps batches b.key)) (all b has)))

  copies-of : CopiesFit (map f batches)
  copies-of y z has other =
      each (λ y. AllByRecursion (λ copy. AllByRecursion (IsCopyFit copy z.run) z.events) y.events) (λ b own.
      subst (λ (es : List Event). AllByRecursion (λ copy. AllByRecursion (IsCopyFit copy z.run) z.events) es) (sym (keeps.events b))
      (each (λ z. AllByRecursion (λ copy. AllByRecursion (IsCopyFit copy z.run) z.events) b.events) (λ c there.
      subst (λ (es : List Event). AllByRecursion (λ copy. AllByRecursion (IsCopyFit copy (f c).run) es) b.events) (sym (keeps.events c))
      (subst (λ (r : RunId). AllByRecursion (λ copy. AllByRecursion (IsCopyFit copy r) c.events) b.events) (sym (keeps.run c)) (s.copies b c own there))) z other)) y has

  carriers-of : CarriersFit (map f batches)
  carriers-of y carrier key has =
      each (λ y. y.carrier ≡ Some key → batch_at key (map f batches) ≡ Some carrier → ContinuesAs y.run carrier.events) (λ b own.
      by-carrier (λ y. y.carrier ≡ Some key → batch_at key (map f batches) ≡ Some carrier → ContinuesAs y.run carrier.events) b
      (λ e at. let none : None ≡ Some key = sym (is-bare b own) ∙ e in absurd (cc))
      (λ g e at.
      let same : key_before b.key ≡ key = cc in
      let found : Some (f g.carrier) ≡ Some carrier = sym (ap (option_map f) g.there) ∙ sym (at-key (key_before b.key)) ∙ ap (λ k. batch_at k (map f batches)) same ∙ at in
      let is : f g.carrier ≡ carrier = cc in
      subst (ContinuesAs b.run) (sym (keeps.events g.carrier) ∙ ap (λ (c : Batch). c.events) is) (ends-for b.run g.carrier g.closes))) y has

  pub migrated-sound : IsSound (migrated batches)
  migrated-sound = record {
    set = record { ordered = rise-of batches s.set.ordered; back = all-of PointsBack (λ b has. points-back (f b) (faultless-of b has)) };
    closed = closed-of;
    faultless = each (λ y. fault_of y ≡ None) faultless-of;
    parents = parents-of;
    chains = chains-of;
    origins = by-path (λ run events. AreApart (origins_in run events)) s.origins;
    copies = copies-of;
    replays = by-path (λ run events. IsOk (replay_of run events)) s.replays;
    carriers = carriers-of;
  }

  pub migrated-range : AllByRecursion InRange (migrated batches)
  migrated-range = all-of InRange range-of

  -- what does not speak of carriers holds of each as before
  pub migrated-all : (P : Batch → Type 0) → ((b : Batch) (carrier : Option BatchKey) → P b → P (record b { carrier = carrier })) → AllByRecursion P batches → AllByRecursion P (migrated batches)
  migrated-all P any all = all-of P (λ b has. by-carrier P b (all-among P batches b all (has-among batches b has)) (λ g. any b (Some (key_before b.key)) (all-among P batches b all (has-among batches b has))))
