-- `new` makes the struct of its two numbers; the act and the answer are what its clause names.
use Rattle.std.proofs.Common.{List, [], ◌∷◌, refl}
use Rattle.std.proofs.raw_atomic.Walks.{proved}
use seplogic.Ra.Ura.{Ura}
use mir.Syntax.{w64}
use mir.Val.{Val, vint, vstruct, vcons, vnil}
use contract.Running.{tables}
use types.Logic.{Logic}
use types.Kit.{Goal, Step, step, Item, ‵, raw, ◌$◌, ◌∵◌, !, qed, done, move, drop, join, fjoin, fpack, feq_i, suffices}
use types.Part.{agg}
use types.Run.{enter, returns, and_then, no_more}
use types.ByLocal.{alloc_all, pass_all, free_all, look_at, get, sets}
use denote.Builtin.{u64}
use denote.Exit.{yes}
use denote.Laws.{Is}
use denote.Plain.{uint_vals, uint_Tells, uint_Makes}
use denote.RattleType.{RattleType, Valss}
use denote.Signature.{plain}
use denote.Steps.{nothing, owned}
use denote.Struct.Struct.{Struct, within}
use denote.Triple.Entry.{on_entry}
use denote.Triple.Walked.{Stays, walk_of, says, stay_dropped, Goes-dropped, ends_at}
use Rattle.df_log.specs.contracts.entry.Entry.{the_row as Row}
use Rattle.df_log.specs.contracts.entry.Entry.new as f
use Rattle.df_log.proofs.entry.Entry.new.Statement.{statement}
use Rattle.df_log.proofs.entry.Entry.new.Code as code

-- a struct by its fields alone
abbrev plainly : List RattleType → RattleType
plainly Rs = Struct (record { name = []; args = []; types = []; fields = Rs })

abbrev two : Val → Val → Val
two u v = vstruct (vcons u (vcons v vnil))

module _ {M : Type 1} {𝓤 : Ura M} {𝓛 : Logic 𝓤} {K : Type 0} {Γ : List (Item 𝓤)} {G : Goal 𝓤 𝓛.H} where
  two_made : K → (R S : RattleType) (x : R.Denot) (y : S.Denot) (u v : Val)
      → Step K 𝓛 (‵ ((plainly (R ∷ S ∷ [])).own_val (x, (y, tt)) (two u v ∷ [])) ∷ Γ) G (‵ (R.own_val x (u ∷ [])) ∷ ‵ (S.own_val y (v ∷ [])) ∷ Γ) G
  two_made t R S x y u v = step (λ s.
      nothing t $ move t (2 ∷ 0 ∷ []) $ fjoin t $ move t (1 ∷ 0 ∷ []) $ fjoin t $ feq_i t (List Val) (two u v ∷ []) (two u v ∷ []) refl $ fjoin t $
      fpack t (Valss (R ∷ S ∷ [])) (within (record { name = []; args = []; types = []; fields = R ∷ S ∷ [] }) (x, (y, tt)) (two u v ∷ [])) (u ∷ [], (v ∷ [], tt)) $ s)

abbrev stayed : Stays f.ended.signature.params f.ended.kept
stayed = (stay_dropped (plain (λ _. u64)) yes, (stay_dropped (plain (λ _. u64)) yes, tt))

pub new_spec : {M : Type 1} → statement M
new_spec 𝓤 𝓛 𝓜 𝓡 wired =
    let c = f.clauses 𝓛 𝓜.mem 𝓡.returns in let W = walk_of 𝓛 f.ended stayed c in let 𝓣 = tables 𝓤 𝓛.H 𝓜 𝓡 𝓡.env in
    proved 𝓛 f.ended stayed c 𝓜 𝓡 (Goes-dropped 𝓛 0 (plain (λ _. u64)) yes (λ κs x w. refl), (Goes-dropped 𝓛 0 (plain (λ _. u64)) yes (λ κs x w. refl), tt))
    f.Key.name code.function (code.unfolded 𝓤 𝓛.H 𝓜 𝓡 wired)
    (λ κs. (uint_vals w64, (uint_vals w64, tt))) (λ κs. (uint_Tells w64, (uint_Tells w64, tt))) (λ κs qs bounds a g are.
    let y : W.Ghost = ((κs, qs, bounds, a, (uint_vals w64 a.0, (uint_vals w64 a.1.0, tt))), g) in
    let made : Row.Denot = record { number = a.0; hop = a.1.0; act = g.0; told = g.1 } in
    let n : Val = vint w64 a.0 in let h : Val = vint w64 a.1.0 in
    qed 𝓛 (raw (on_entry 𝓛 f.signature κs qs a y.0.4) ∷ raw ((c κs a).requires g) ∷ []) ∵ drop ! $ drop ! $
    enter ! 𝓣.C 𝓣.Λ code.function (n ∷ h ∷ []) (W.post y) $ alloc_all ! (λ l. pass_all ! refl ((tt, record { fits = are.0.1 }), ((tt, record { fits = are.1.0.1 }), tt)) $
    sets ! (agg ! (and_then ! (get ! refl) (and_then ! (get ! refl) (no_more !)))) refl (tt, (record { fits = are.0.1 }, (record { fits = are.1.0.1 }, tt))) $
    nothing ! $ owned ! u64 (Is u64) (uint_Makes 𝓛 w64) a.1.0 (h ∷ []) are.1.0 $ owned ! u64 (Is u64) (uint_Makes 𝓛 w64) a.0 (n ∷ []) are.0 $
    two_made ! u64 u64 a.0 a.1.0 n h $ fjoin ! $
    returns ! (look_at ! 0 refl) $ free_all ! refl $
    suffices ! _ (ends_at 𝓛 f.ended stayed c y (two n h) made (tt, (tt, tt)) (tt, (tt, tt))) $ says ! (refl, refl, refl, refl) $
    nothing ! $ nothing ! $ fjoin ! $ nothing ! $ fjoin ! $ join ! $ nothing ! $ join ! $ done !))
