use Rattle.std.proofs.Common.{◌≡◌, ◌-◌, ◌+◌, ◌≤◌, get_or, refl, subst, sym, ◌∙◌, arith, vec_capacity}
use Rattle.std.proofs.lemmas.List.{get_or_default}
use Rattle.std.proofs.lemmas.List.Elements.{All-set}
use Rattle.std.specs.Vec.{with_item}
use Rattle.df_colls.specs.Parts.{item_lists}
use Rattle.df_colls.proofs.SumLaws.{climb, climb_level, climb_next, level_step}
use Rattle.df_colls.proofs.sums.set_path.Goals as goal

pub levels-init : goal.levels-init
levels-init c = record {
  len = refl;
  path = refl;
  wide = λ room h. h;
  climb = climb (item_lists c.args.levels.now.items) c.args.leaf c.args.was c.args.len c.requires.tower c.requires.leaf (omega (arith, c.requires.was)) c.requires.fits;
}

pub index-requires : goal.index-requires
index-requires c = (climb_level c.levels.levels.items c.levels.i c.index_mut-level.result.now (omega arith) c.index_mut-level.ensures.value c.levels.at c.args.was c.args.len c.levels.invariant.climb).0

pub overflow_sub-index : goal.overflow_sub-index
overflow_sub-index c =
    let level = c.index_mut-level.result.now in
    let h = climb_level c.levels.levels.items c.levels.i level (omega arith) c.index_mut-level.ensures.value c.levels.at c.args.was c.args.len c.levels.invariant.climb in
    let x : c.index.result.now ≡ get_or level.items c.levels.at 0 = c.index.ensures ∙ get_or_default level.items c.levels.at c.index.result.now 0 (omega (arith, h.0, level.ok.0)) in
    omega (arith, h.1, x)

pub overflow_add-index : goal.overflow_add-index
overflow_add-index c =
    let level = c.index_mut-level.result.now in
    let h = climb_level c.levels.levels.items c.levels.i level (omega arith) c.index_mut-level.ensures.value c.levels.at c.args.was c.args.len c.levels.invariant.climb in
    let x : c.index.result.now ≡ get_or level.items c.levels.at 0 = c.index.ensures ∙ get_or_default level.items c.levels.at c.index.result.now 0 (omega (arith, h.0, level.ok.0)) in
    omega (arith, h.2, x)

pub index_mut-requires : goal.index_mut-requires
index_mut-requires c = (climb_level c.levels.levels.items c.levels.i c.index_mut-level.result.now (omega arith) c.index_mut-level.ensures.value c.levels.at c.args.was c.args.len c.levels.invariant.climb).0

pub levels-preserved : goal.levels-preserved
levels-preserved c =
    let vs = c.levels.levels.items in
    let i = c.levels.i in
    let level = c.index_mut-level.result.now in
    let is = c.index_mut-level.ensures.value in
    let h = climb_level vs i level (omega arith) is c.levels.at c.args.was c.args.len c.levels.invariant.climb in
    let x : c.index.result.now ≡ get_or level.items c.levels.at 0 = c.index.ensures ∙ get_or_default level.items c.levels.at c.index.result.now 0 (omega (arith, h.0, level.ok.0)) in
    let new = with_item level c.levels.at (c.index.result.now - c.args.was + c.args.len) in
    record {
      len = c.levels.invariant.len;
      path = level_step vs i level (omega arith) is _ _ new c.levels.at c.args.was c.args.len c.index.result.now x refl refl c.levels.invariant.path;
      wide = λ room h.
          let all = c.levels.invariant.wide room h in
          All-set (λ v. room ≤ vec_capacity v) vs i new (subst (λ v. room ≤ vec_capacity v) (sym is) (all i level (omega arith))) all;
      climb = climb_next vs i level (omega arith) is _ new c.levels.at c.args.was c.args.len refl c.levels.invariant.climb;
    }
