-- `null` makes a handle that holds nothing.
use Rattle.std.proofs.Common.{[], ◌∷◌, refl, lit<}
use base.Fml.{ftrue}
use types.Kit.{‵, raw, ◌⊛◌, ◌$◌, ◌∵◌, !, qed, drop, join, suffices, feq_i, done}
use types.Run.{lit, no_more, and_then, returns, enter}
use types.ByLocal.{alloc_all, pass_all, free_all, look_at, sets}
use types.Part.{agg}
use contract.Running.{tables}
use denote.RawPtr.{Ptr, null_ptr}
use denote.Steps.{nothing}
use denote.Triple.Walked.{says, walk_of, ends_at}
use Rattle.std.proofs.raw_atomic.Walks.{proved_at}
use Rattle.std.specs.declared.option.Option.TheVariants.{None}
use Rattle.ndc_c.proofs.Steps.{word, handle_in}
use Rattle.ndc_c.specs.contracts.handle.Handle.null as f
use Rattle.ndc_c.proofs.handle.Handle.null.Statement.{statement}
use Rattle.ndc_c.proofs.handle.Handle.null.Code as code

pub null_spec : {M : Type 1} → statement M
null_spec 𝓤 𝓛 𝓜 𝓡 wired =
    let H = 𝓛.H in let 𝓣 = tables 𝓤 H 𝓜 𝓡 𝓡.env in let c = f.clauses 𝓛 𝓜.mem 𝓡.returns in
    proved_at 𝓛 f.ended tt c 𝓜 𝓡 tt f.Key.name code.function (code.unfolded 𝓤 H 𝓜 𝓡 wired) (λ z are.
    qed 𝓛 ((‵ ftrue ⊛ ‵ ftrue) ∷ raw ((c z.0.0 z.0.3).requires z.1) ∷ []) ∵ drop ! $ drop ! $
    enter ! 𝓣.C 𝓣.Λ code.function [] ((walk_of 𝓛 f.ended tt c).post z) $ alloc_all ! (λ l. pass_all ! refl tt $
    sets ! (agg ! (and_then ! (lit ! tt) (no_more !))) refl ((tt, (record { fits = lit< tt }, tt))) $
    returns ! (look_at ! 0 refl) $ free_all ! refl $
    feq_i ! Ptr null_ptr null_ptr refl $ handle_in ! null_ptr None $
    suffices ! _ (ends_at 𝓛 f.ended tt c z (word null_ptr) (record { at = null_ptr; context = None }) tt tt) $ says ! refl $
    nothing ! $ join ! $ nothing ! $ join ! $ done !))
