-- The empty struct is made, and its calls are picked: those of the trace, and one more.
use Rattle.std.proofs.Common.{[], ◌∷◌, ◌++◌, refl}
use seplogic.Ra.Ura.{Ura}
use mir.Syntax.{named}
use mir.Val.{Val, vptr, vstruct, vnil}
use base.Logic.{SProp, ent, emp, via, fst∗}
use base.Fml.{Fml}
use prog.Memory.{Memory}
use prog.Routine.{Routine}
use prog.Wp.{Calls, Loops, WpFn, Tables}
use contract.Lifetimes.{AllOutlive, Lfts, Shares}
use contract.Monad.{Fun}
use contract.Running.{tables, tables_of}
use sound.WpLaws.{WpFn-mono}
use types.Logic.{Logic}
use types.Kit.{‵, raw, ◌$◌, ◌∵◌, !, qed, move, suffices, done}
use types.Part.{agg}
use types.Run.{enter, returns, no_more}
use types.ByLocal.{alloc_all, pass_all, free_all, look_at, sets}
use denote.Exit.{yes}
use denote.RattleType.{owns}
use denote.Ref.{shr_vals, shr_Tells}
use denote.Shadow.{pure_i}
use denote.Signature.{plain, types_at, named_lft}
use denote.Triple.Entry.{Args, on_entry, alive}
use denote.Triple.Spec.{Meets, triple_of}
use denote.Triple.Table.{entered}
use denote.Triple.Walked.{says, Stays, stay_none_ref, walk_of, Walks, ends_at, walked, Goes-none_ref, walk_Meets}
use Rattle.desk_io.specs.System.{asked_of}
use Rattle.desk_io.specs.contracts.trace.Trace as trace
use Rattle.desk_io.specs.contracts.system_call.SystemCall as system_call
use Rattle.desk_io.specs.contracts.trace.Trace.then as called
use Rattle.desk_io.specs.contracts.trace.Trace.then.Key.{name as key}
use Rattle.desk_io.proofs.trace.Trace.then.Statement as stated
use Rattle.desk_io.proofs.trace.Trace.then.Code as code

abbrev stays : Stays called.ended.signature.params called.ended.kept
stays = (
  stay_none_ref (0 ∷ []) tt (plain (λ _. trace.the_row)) yes,
  (stay_none_ref (1 ∷ []) tt (plain (λ κs. system_call.the_row (named_lft 3 2 tt κs))) yes, tt),
)

module _ {M : Type 1} {𝓤 : Ura M} (𝓛 : Logic 𝓤) (memory : Memory → SProp 𝓤) (run : Routine → Fun 𝓤) where
  open 𝓛 use {H}

  module _ (C : Calls 𝓤 H) (Λ : Loops 𝓤 H) where
    module _ (κs : Lfts 3) (qs : Shares 3) (outlive : AllOutlive called.ended.signature.lifetimes called.ended.signature.outlives κs)
        (a : Args called.signature κs) where
      abbrev before : Val
      before = vptr a.0.ref_ptr.0 a.0.ref_ptr.1

      abbrev asked : Val
      asked = vptr a.1.0.ref_ptr.0 a.1.0.ref_ptr.1

      abbrev at : (walk_of 𝓛 called.ended stays (called.clauses 𝓛 memory run)).Ghost
      at = ((κs, qs, outlive, a, (before ∷ [], (asked ∷ [], tt))), tt)

      abbrev lent : Fml
      lent = owns (types_at called.signature.params κs) a (before ∷ [], (asked ∷ [], tt))

      walk : ent 𝓤 (on_entry 𝓛 called.signature κs qs a (before ∷ [], (asked ∷ [], tt)))
          (WpFn 𝓤 H C Λ code.function (before ∷ asked ∷ []) ((walk_of 𝓛 called.ended stays (called.clauses 𝓛 memory run)).post at))
      walk =
          qed 𝓛 (raw (alive 𝓛 called.signature κs qs) ∷ ‵ lent ∷ []) ∵ enter ! C Λ code.function (before ∷ asked ∷ []) _ $
          alloc_all ! (λ l. pass_all ! refl ((tt, tt), ((tt, tt), tt)) $ sets ! (agg ! (no_more !)) refl (tt, tt) $
          returns ! (look_at ! 0 refl) $ free_all ! refl $
          suffices ! _ (ends_at 𝓛 called.ended stays (called.clauses 𝓛 memory run) at (vstruct vnil)
          (record { asked = a.0.now.asked ++ asked_of a.1.0.now ∷ [] }) (tt, (tt, tt)) (tt, (tt, tt))) $ says ! refl $
          pure_i ! (trace.the_row.own_val (record { asked = a.0.now.asked ++ asked_of a.1.0.now ∷ [] }) (vstruct vnil ∷ []))
          ((λ vss. (tt, tt)), tt) ((tt, (refl, tt)), tt) $
          move ! (1 ∷ 2 ∷ 0 ∷ []) $ done !)

    walks : Walks 𝓛 called.ended stays (WpFn 𝓤 H C Λ code.function) (called.clauses 𝓛 memory run)
    walks =
        walked 𝓛 called.ended stays (called.clauses 𝓛 memory run) (WpFn 𝓤 H C Λ code.function) (λ κs. (shr_vals, (shr_vals, tt)))
        (λ κs. (shr_Tells (named 0) κs.0 trace.the_row, (shr_Tells (named 1) κs.1.0 (system_call.the_row (named_lft 3 2 tt κs)), tt)))
        (λ κs qs bounds a g are. via 𝓤 _ (fst∗ 𝓤 _ (emp 𝓤)) (walk κs qs bounds a))

  meets : (𝓣 : Tables 𝓤 H) → Meets 𝓛 called.signature (WpFn 𝓤 H 𝓣.C 𝓣.Λ code.function) (called.spec 𝓛 memory run)
  meets 𝓣 =
      walk_Meets 𝓛 called.ended stays (
        Goes-none_ref 𝓛 3 (0 ∷ []) tt (plain (λ _. trace.the_row)) yes,
        (Goes-none_ref 𝓛 3 (1 ∷ []) tt (plain (λ κs. system_call.the_row (named_lft 3 2 tt κs))) yes, tt),
      )
      (called.clauses 𝓛 memory run) (WpFn 𝓤 H 𝓣.C 𝓣.Λ code.function) (WpFn-mono 𝓤 H 𝓛.laws 𝓣 code.function) (walks 𝓣.C 𝓣.Λ)

pub then_spec : {M : Type 1} → stated.statement M
unfolding tables_of
then_spec 𝓤 𝓛 𝓜 𝓡 wired =
    let all : Tables 𝓤 𝓛.H = tables_of 𝓤 𝓛.H 𝓜 (tables 𝓤 𝓛.H 𝓜 𝓡 𝓡.env) in
    entered 𝓤 𝓛.H (triple_of 𝓛 called.signature (called.spec 𝓛 𝓜.mem 𝓡.returns)) all.C all.Λ key code.function
    (code.unfolded 𝓤 𝓛.H 𝓜 𝓡 wired) (meets 𝓛 𝓜.mem 𝓡.returns all)
