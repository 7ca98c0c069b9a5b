-- `Reserved` as a type that may hold the type that holds it.
use mathlib.Core.Path.{◌≡◌, refl, sym, ap}
use mathlib.Core.List.{List, []}
use mathlib.Core.Former.{Former, this, const, pair, list, via, children}
use native.Mathlib.Bridge.{le_prop}
use Prim.Native.Nat.{ℕ}
use base.Stored.{code_map, gcons, coded_ℕ}
use denote.RattleType.{RattleType}
use denote.HoleLaws.{Alike}
use denote.HolePlaces.{Recodes, struct_places, laid}
use denote.Hole.Carrier.{listed, list-listed}
use denote.Hole.Fix.{over}
use denote.Param.Weighed.{Weighed, most, List-puts}
use denote.Model.Placed.{view_places}
use Rattle.std.specs.formers.vec.Vec as vec
use Rattle.std.specs.declared.alloc.Global.{Global}
use Rattle.std.specs.contracts.alloc.Global as heap
use Rattle.std.specs.contracts.impls.GlobalAllocator.TheImpl.{ghosts}
use Rattle.df_model.specs.Spared.{Spared}
use Rattle.df_model.specs.declared.reserved.Reserved.TheInside.{Inside}
use Rattle.df_model.specs.declared.reserved.Reserved.TheView.{view, invariant}
use Rattle.df_model.specs.contracts.reserved.Reserved as C
use Rattle.df_model.specs.contracts.reserved.Reserved.TheInside as I

abbrev pub the_former : Former {0} → Former {0}
the_former g = via (pair (list g) (const ℕ)) (λ X. Spared (g.Of X)) (λ X s. (s.items, s.spare)) (λ X v. record { items = v.0; spare = v.1 }) (λ X s. refl) (λ X v. refl)

abbrev pub the_weighed : {g : Former {0}} → Weighed g → Weighed (the_former g)
the_weighed w = record { weight = λ X μ s. most (w.weight X μ) s.items; puts = λ X μ s. List-puts w X μ s.items }

pub the_empty : Spared ⊥
the_empty = record { items = []; spare = 0 }

abbrev pub the_items : (X : Type 0) → Spared X → List X
the_items X s = s.items

pub the_items_listed : (X : Type 0) (s : Spared X) → listed _ (children (the_former this) X s) ≡ the_items X s
the_items_listed X s = list-listed X s.items

abbrev fields : Former {0}
fields = via (pair (vec.the_former this Global) (const ℕ)) Inside (λ X a. (a.items, a.spare)) (λ X v. record { items = v.0; spare = v.1 }) (λ X a. refl) (λ X v. refl)

module _ (R S : RattleType) (h : R.Denot → S.Denot) where
  pub the_places : Alike R S h → Alike (C.the_row R) (C.the_row S) ((the_former this).map R.Denot S.Denot h)
  the_places a = view_places fields (the_former this) view (λ X Y k u. refl) (λ X u. refl) R.Denot S.Denot h (C.the_row R).coded (C.the_row S).coded
      (invariant R.Denot) (invariant S.Denot) (λ u. le_prop) (λ u. le_prop) (λ u e. e) (λ u e. e)
      (over (I.the_row R)) (over (I.the_row S))
      (struct_places (I.the_type R) (I.the_type S) (vec.mapped h, (λ n. n, tt)) _ (λ d. refl) refl
      (laid _ _ _ (vec.the_places heap.the_row ghosts R S h a), ((refl, (λ n. refl, λ n. refl)), tt)))

  pub the_codes_placed : Recodes R S h → Recodes (C.the_row R) (C.the_row S) ((the_former this).map R.Denot S.Denot h)
  the_codes_placed e d = ap (λ x. gcons x (coded_ℕ.code d.spare)) (sym (code_map R.coded.code S.coded.code h (λ x. sym (e x)) d.items))
