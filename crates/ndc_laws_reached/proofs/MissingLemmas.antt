-- The way up from a batch through earlier keys.
use Rattle.std.proofs.Common.{◌≡◌, Bool, true, false, cond, List, [], ◌∷◌, ◌⊎◌, inl, inr, Option, Some, None, refl, sym, ◌∙◌, subst}
use Rattle.ndc_model_cells.specs.Cells.{ancestors_down, missing_of}
use Rattle.ndc_event.specs.Key.{key_eq, key_lt}
use Rattle.ndc_event.specs.declared.batch.Batch.{Batch}
use Rattle.ndc_event.specs.declared.key.BatchKey.{BatchKey}
use Rattle.ndc_laws_reached.proofs.WrittenLemmas.{wanted-some}
use Rattle.ndc_model_sets.specs.Learned.{ReachesTop, top, up}
use Rattle.ndc_model_sets.specs.Paths.{is_wanted}
use Rattle.ndc_model_sets.specs.Sets.{Has, IsSet, PointsBack, Rise, batch_at, earlier}
use Rattle.ndc_model_sets.proofs.BranchLemmas.{among-has, has-among}
use Rattle.ndc_model_sets.proofs.KeyLemmas.{before-irrefl, before-trans, same-keys}
use Rattle.ndc_model_sets.proofs.Lists.{Among, all-among}
use Rattle.ndc_model_sets.proofs.SetLemmas.{found-has}

-- following earlier keys upwards through a set, from what is wanted first to what is wanted last
pub data Up (held : List Batch) (first : Option BatchKey) : Option BatchKey → Type 0 where
  stay : Up held first first
  more : (key : BatchKey) (c : Batch) → Up held first (Some key) → batch_at key held ≡ Some c → Up held first (earlier c)

-- what is wanted after a walk down these
abbrev pub wanted_behind : Option BatchKey → List Batch → Option BatchKey
wanted_behind first bs = (ancestors_down bs (record { wanted = first; path = [] })).wanted

-- a key of a batch is not that of one after it, nor its own
not-wanted : (x : Batch) (key : BatchKey) → key_lt key x.key ≡ true → is_wanted (Some key) x ≡ false
not-wanted x key less = by (key_eq x.key key) refl
  where
    by : (t : Bool) → key_eq x.key key ≡ t → t ≡ false
    by true e = absurd (before-irrefl key (subst (λ (k : BatchKey). key_lt key k ≡ true) (same-keys x.key key e) less))
    by false e = refl

module _ (held : List Batch) (set : IsSet held) (first : Option BatchKey) where
  -- the walk goes upwards, and wants none that it passed
  pub record IsUp (bs : List Batch) (last : Option BatchKey) : Type 0 where
    pub goes : Up held first last
    pub none : (x : Batch) → Among x bs → is_wanted last x ≡ false

  walked : (bs : List Batch) → Rise bs → ((x : Batch) → Among x bs → Has held x) → IsUp bs (wanted_behind first bs)
  walked [] rise there = record { goes = stay; none = λ x h. absurd h }
  walked (c ∷ cs) rise there = by (is_wanted (wanted_behind first cs) c) refl (walked cs rise.1 (λ x h. there x (inr h)))
    where
      earlier-none : (o : Option BatchKey) → earlier c ≡ o → (x : Batch) → Among x (c ∷ cs) → is_wanted o x ≡ false
      earlier-none None e x h = refl
      earlier-none (Some key) e x h = not-wanted x key (behind h)
        where
          back : key_lt key c.key ≡ true
          back = all-among PointsBack held c set.back (has-among held c (there c (inl refl))) key e

          behind : (x ≡ c) ⊎ Among x cs → key_lt key x.key ≡ true
          behind (inl same) = subst (λ (y : Batch). key_lt key y.key ≡ true) (sym same) back
          behind (inr k) = before-trans key c.key x.key back (all-among (λ y. key_lt c.key y.key ≡ true) cs x rise.0 k)

      by : (t : Bool) → is_wanted (wanted_behind first cs) c ≡ t → IsUp cs (wanted_behind first cs)
          → IsUp (c ∷ cs) (cond t (record { wanted = earlier c; path = c ∷ (ancestors_down cs (record { wanted = first; path = [] })).path }) (ancestors_down cs (record { wanted = first; path = [] }))).wanted
      by true e rest = record {
        goes = more c.key c (subst (Up held first) (wanted-some (wanted_behind first cs) c e) rest.goes) (there c (inl refl));
        none = earlier-none (earlier c) refl;
      }
      by false e rest = record { goes = rest.goes; none = still }
        where
          still : (x : Batch) → Among x (c ∷ cs) → is_wanted (wanted_behind first cs) x ≡ false
          still x (inl same) = subst (λ (y : Batch). is_wanted (wanted_behind first cs) y ≡ false) (sym same) e
          still x (inr k) = rest.none x k

  pub whole : IsUp held (wanted_behind first held)
  whole = walked held set.ordered (λ x h. among-has held x set.ordered h)

-- what holds where the walk ends holds where it begins
pub back-up : (held : List Batch) (first last : Option BatchKey) (P : Batch → Type 0) → ((b c : Batch) (key : BatchKey) → Has held b → earlier b ≡ Some key → batch_at key held ≡ Some c → P c → P b) → Up held first last
    → ((b : Batch) → Has held b → earlier b ≡ last → P b) → (b : Batch) → Has held b → earlier b ≡ first → P b
back-up held first last P steps stay ends b has e = ends b has e
back-up held first last P steps (more key c u at) ends b has e =
    back-up held first (Some key) P steps u (λ x x_has f. steps x c key x_has f at (ends c (found-has held key c at) refl)) b has e

-- where nothing is missing the way up ends
pub none-missing : (held : List Batch) (b : Batch) → IsSet held → Has held b → missing_of b held ≡ None → ReachesTop held b
none-missing held b set has e =
    back-up held (earlier b) (wanted_behind (earlier b) held) (ReachesTop held) (λ x c k x_has f at rest. up x c k x_has f at rest) (whole held set (earlier b)).goes
    (λ x x_has f. top x x_has (f ∙ e)) b has refl
