-- `next` gives one more than the count it reads. Assumes `Logic`.
use Rattle.std.proofs.Common.{List, [], ◌∷◌, ◌++◌, ◌+◌, refl}
use seplogic.Ra.Ura.{Ura}
use mir.Val.{Val, vptr}
use base.Logic.{SProp}
use prog.Memory.{Memory}
use prog.Routine.{Routine}
use prog.Wp.{Calls, Loops, WpFn}
use contract.Monad.{Fun}
use contract.Running.{tables, tables_of}
use types.Logic.{Logic}
use types.Kit.{‵, raw, ◌⊛◌, prop, ◌$◌, ◌∵◌, !, qed, move, keep, drop, split, fsplit, fjoin, feq_l, regoal, suffices, done}
use types.Part.{agg}
use types.Run.{enter, returns, no_more}
use types.ByLocal.{alloc_all, pass_all, free_all, look_at, sets}
use denote.Exit.{yes}
use denote.RattleType.{owns}
use denote.Builtin.{RefOf}
use denote.Signature.{plain, types_at}
use denote.Steps.{nothing}
use denote.Triple.Clauses.{Clauses}
use denote.Triple.Entry.{alive}
use denote.Triple.Walked.{says, Stays, stay_dropped, Walks, walk_of, ends_at, Goes-dropped}
use Rattle.phone_device.proofs.Walks.{meets_by, none, none_made}
use Rattle.phone_device.specs.contracts.count.Count as Count
use Rattle.phone_device.specs.contracts.count.Count.next as F
use Rattle.phone_device.specs.contracts.count.Count.next.Key.{name as #self}
use Rattle.phone_device.proofs.count.Count.next.Statement as stated
use Rattle.phone_device.proofs.count.Count.next.Code as code

abbrev stayed : Stays F.ended.signature.params F.ended.kept
stayed = (stay_dropped _ yes, tt)

walks : {M : Type 1} {𝓤 : Ura M} (𝓛 : Logic 𝓤) (at_mem : Memory → SProp 𝓤) (run : Routine → Fun 𝓤) (C : Calls 𝓤 𝓛.H) (Λ : Loops 𝓤 𝓛.H) →
    Walks 𝓛 F.ended stayed (WpFn 𝓤 𝓛.H C Λ code.function) (F.clauses 𝓛 at_mem run)
walks {𝓤 = 𝓤} 𝓛 at_mem run C Λ z =
    let held : Clauses 𝓤 F.ended = F.clauses 𝓛 at_mem run in
    let Post : Val → SProp 𝓤 = (walk_of 𝓛 F.ended stayed held).post z in
    let a = z.0.3 in
    let u : Val = vptr a.0.ref_ptr.0 a.0.ref_ptr.1 in
    let made : (Count.the_row).Denot = record { value = a.0.now.value + 1 } in
    qed 𝓛 ((raw (alive 𝓛 F.ended.signature z.0.0 z.0.1) ⊛ ‵ (owns (types_at F.ended.signature.params z.0.0) a z.0.4)) ∷ raw ((held z.0.0 a).requires z.1) ∷ []) ∵
    keep ! (0 ∷ []) $ split ! $ move ! (1 ∷ []) $ fsplit ! $ fsplit ! $ feq_l ! (λ is₀. drop ! $ drop ! $
    regoal ! (λ (us : List Val). prop (WpFn 𝓤 𝓛.H C Λ code.function (us ++ []) Post)) is₀ refl $
    enter ! C Λ code.function (u ∷ []) Post $ alloc_all ! (λ l. pass_all ! refl ((tt, tt), tt) $
    sets ! (agg ! (no_more !)) refl (tt, tt) $
    nothing ! $ none_made ! $ fjoin ! $
    returns ! (look_at ! 0 refl) $ free_all ! refl $
    suffices ! _ (ends_at 𝓛 F.ended stayed held z none made (tt, tt) (tt, tt)) $ says ! refl $
    nothing ! $ nothing ! $ fjoin ! $ move ! (2 ∷ 0 ∷ 1 ∷ []) $ done !))

pub next_spec : {M : Type 1} → stated.statement M
unfolding tables_of
next_spec 𝓤 𝓛 𝓜 𝓡 wired =
    meets_by 𝓛 F.ended stayed (Goes-dropped 𝓛 1 (RefOf (0 ∷ []) tt (plain (λ _. Count.the_row)) (λ _. tt)) yes (λ κs x f. refl), tt)
    (F.clauses 𝓛 𝓜.mem 𝓡.returns) (tables_of 𝓤 𝓛.H 𝓜 (tables 𝓤 𝓛.H 𝓜 𝓡 𝓡.env)) #self code.function
    (code.unfolded 𝓤 𝓛.H 𝓜 𝓡 wired) (walks 𝓛 𝓜.mem 𝓡.returns _ _)
