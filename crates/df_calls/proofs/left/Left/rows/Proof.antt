-- `rows` makes a struct of no fields; its rows are those of before, and behind them the ones that its clause tells of.
use Rattle.std.proofs.Common.{[], ◌∷◌, refl, List}
use Rattle.std.specs.Prelude.{◌++◌}
use Rattle.std.proofs.raw_atomic.Walks.{proved}
use mir.Syntax.{named}
use mir.Val.{vstruct, vnil}
use contract.Monad.{fact}
use contract.Running.{tables}
use types.Kit.{‵, raw, ◌⊛◌, ◌$◌, ◌∵◌, !, qed, done, keep, split, join, fjoin, move, suffices}
use types.Part.{agg}
use types.Run.{enter, returns, no_more}
use types.ByLocal.{alloc_all, pass_all, free_all, look_at, sets}
use denote.Builtin.{RefOf}
use denote.Exit.{yes}
use denote.RattleType.{owns}
use denote.Ref.{shr_vals, shr_Tells}
use denote.Shadow.{pure_i}
use denote.Signature.{plain, types_at}
use denote.Steps.{nothing, heard}
use denote.Triple.Entry.{alive}
use denote.Triple.Walked.{Stays, stay_dropped, Goes-dropped, walk_of, says, ends_at}
use Rattle.df_model.specs.declared.command.Call.{Call}
use Rattle.df_end.specs.Calls.{Row}
use Rattle.df_calls.specs.Left.{LeftBy}
use Rattle.df_calls.specs.contracts.rows.Rows.{the_row as Made}
use Rattle.df_calls.specs.contracts.left.Left.{the_row as Given}
use Rattle.df_calls.specs.contracts.left.Left.rows as f
use Rattle.df_calls.proofs.left.Left.rows.Statement.{statement}
use Rattle.df_calls.proofs.left.Left.rows.Code as code

abbrev stayed : Stays f.ended.signature.params f.ended.kept
stayed = (stay_dropped (RefOf (0 ∷ []) tt (plain (λ _. Given)) (λ _. tt)) yes, tt)

pub rows_spec : {M : Type 1} → statement M
rows_spec 𝓤 𝓛 𝓜 𝓡 wired =
    let c = f.clauses 𝓛 𝓜.mem 𝓡.returns in let W = walk_of 𝓛 f.ended stayed c in let 𝓣 = tables 𝓤 𝓛.H 𝓜 𝓡 𝓡.env in
    proved 𝓛 f.ended stayed c 𝓜 𝓡 (Goes-dropped 𝓛 1 (RefOf (0 ∷ []) tt (plain (λ _. Given)) (λ _. tt)) yes (λ κs x w. refl), tt)
    f.Key.name code.function (code.unfolded 𝓤 𝓛.H 𝓜 𝓡 wired)
    (λ κs. (shr_vals, tt)) (λ κs. (shr_Tells (named 0) κs.0 Given, tt)) (λ κs qs bounds a g are.
    let x = a.0.now in
    let y : W.Ghost = ((κs, qs, bounds, a, (shr_vals a.0, tt)), g) in
    qed 𝓛 ((raw (alive 𝓛 f.signature κs qs) ⊛ ‵ (owns (types_at f.signature.params κs) a y.0.4))
    ∷ raw (fact 𝓤 ((call : Call) × (more : List Row) × LeftBy x.went x.shards x.before.value x.pass.value call more)) ∷ []) ∵ split ! $ keep ! (2 ∷ 0 ∷ []) $
    heard ! _ (λ q.
    let made : Made.Denot = record { rows = x.rows.rows ++ q.1 } in
    enter ! 𝓣.C 𝓣.Λ code.function _ (W.post y) $ alloc_all ! (λ l. pass_all ! refl ((tt, tt), tt) $
    sets ! (agg ! (no_more !)) refl (tt, tt) $
    pure_i ! (Made.own_val made (vstruct vnil ∷ [])) ((λ vss. (tt, tt)), tt) ((tt, (refl, tt)), tt) $
    returns ! (look_at ! 0 refl) $ free_all ! refl $
    suffices ! _ (ends_at 𝓛 f.ended stayed c y (vstruct vnil) made (tt, tt) (tt, tt)) $ says ! (q.0, q.1, q.2, refl) $
    nothing ! $ nothing ! $ fjoin ! $ join ! $ move ! (1 ∷ 0 ∷ []) $ join ! $ done !)))
