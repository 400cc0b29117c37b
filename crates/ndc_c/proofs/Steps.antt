-- A handle by value, opened and made, and the two things that it can hold. Assumes `Logic`.
use Rattle.std.proofs.Common.{◌≡◌, ℕ, List, [], ◌∷◌, ◌++◌, refl, subst}
use seplogic.Ra.Ura.{Ura}
use mir.Val.{Val, vstruct, vcons, vnil, of_list}
use mir.Raw.{raw as bare}
use base.Logic.{never, fst∗, guard_i}
use types.Logic.{Logic, sem}
use types.Kit.{Item, Goal, Seq, Step, step, ‵, given, ◌$◌, move, drop, use1, learn, fsplit, fjoin, fpick, fpack, feq_i, feq_l}
use contract.Monad.{fact_use}
use denote.RattleType.{RattleType, Valss}
use denote.Memory.{lone}
use denote.RawPtr.{Ptr, RawPtr, block_ptr, null_ptr, ptr_val, Testable, in_a_block}
use denote.Steps.{nothing}
use denote.Struct.Struct.{within}
use denote.Struct.Owning.{shape}
use Rattle.std.specs.declared.option.Option.{Option}
use Rattle.std.specs.declared.option.Option.TheVariants.{None, Some}
use Rattle.std_alloc.specs.Box.Ownership.{box_owns}
use Rattle.std.specs.declared.alloc.Global.{Global}
use Rattle.std.specs.contracts.impls.GlobalAllocator.TheImpl.{ghosts}
use Rattle.std.proofs.GlobalToken.{dealloc_token-Testable}
use Rattle.ndc_c.specs.contracts.context.Context as context
use Rattle.ndc_c.specs.declared.context.Context.{Context}
use Rattle.ndc_c.specs.Held.{held}
use Rattle.ndc_c.specs.declared.handle.Handle.{Handle}
use Rattle.ndc_c.specs.contracts.handle.Handle as handle

abbrev pub word : Ptr → Val
word p = vstruct (vcons (ptr_val p) vnil)

abbrev pub R : RattleType
R = context.the_row

abbrev pub Row : RattleType
Row = handle.the_row

module _ {M : Type 1} {𝓤 : Ura M} {𝓛 : Logic 𝓤} {K : Type 0} {Γ : List (Item 𝓤)} {G : Goal 𝓤 𝓛.H} where
  pub handle_in : K → (p : Ptr) (n : Option Context) → Step K 𝓛 (‵ (Row.own_val (record { at = p; context = n }) (word p ∷ [])) ∷ Γ) G (‵ (held R p n) ∷ Γ) G
  handle_in t p n = step (λ s.
      nothing t $ feq_i t (List Val) (ptr_val p ∷ []) (ptr_val p ∷ []) refl $ fjoin t $ feq_i t (List Val) (word p ∷ []) (word p ∷ []) refl $ fjoin t $
      fpack t (Valss (RawPtr ∷ [])) (within (shape handle.the_type) (p, tt) (word p ∷ [])) (ptr_val p ∷ [], tt) $ fjoin t $ s)

  pub handle_out : K → (d : Handle) (vs : List Val) → (vs ≡ word d.at ∷ [] → Seq K 𝓛 (‵ (held R d.at d.context) ∷ Γ) G) → Seq K 𝓛 (‵ (Row.own_val d vs) ∷ Γ) G
  handle_out t d vs k = fsplit t $ fpick t (λ vss. fsplit t $ feq_l t (λ ev. fsplit t $ feq_l t (λ ep. drop t $
      k (subst (λ (ps : List Val). vs ≡ vstruct (of_list (ps ++ [])) ∷ []) ep ev))))

  pub held_cases : K → (p : Ptr) (n : Option Context) → (n ≡ None → p ≡ null_ptr → Seq K 𝓛 Γ G)
      → ((b o : ℕ) (x : Context) (g : Global) → n ≡ Some x → p ≡ block_ptr b o → Testable (block_ptr b o) → Seq K 𝓛 (‵ (box_owns (ghosts.dealloc_token g) R (block_ptr b o) x) ∷ Γ) G)
      → Seq K 𝓛 (‵ (held R p n) ∷ Γ) G
  held_cases t p None empty full = feq_l t (λ e. empty refl e)
  held_cases t p (Some x) empty full = fpick t (λ g.
      in_a_block t p (λ q. box_owns (ghosts.dealloc_token g) R q x) (fst∗ 𝓤 (never 𝓤) (sem 𝓛 (ghosts.dealloc_token g (bare (lone R.mir)) null_ptr))) (λ b o e.
      let τ = bare (lone R.mir) in let P = block_ptr b o in let right = ghosts.dealloc_token g τ P in fsplit t $ move t (1 ∷ []) $
      use1 𝓛 (given (Testable P) (‵ right)) (fact_use 𝓤 _ (dealloc_token-Testable 𝓛 g τ P) (guard_i 𝓤 (Testable P) (sem 𝓛 right))) $
      learn t (λ ok. move t (1 ∷ []) $ fjoin t $ full b o x g refl e ok)))
