use Rattle.std.proofs.Common.{◌≤◌, length, sym, subst, ◌∙◌, arith, vec_capacity}
use Rattle.std.proofs.lemmas.List.{set-set}
use Rattle.df_colls.specs.Sums.{IsAbove}
use Rattle.df_colls.proofs.SumLaws.{below_is, grouped_step}
use Rattle.df_colls.proofs.sums.regroup.Goals as goal

pub group-requires-clause-room : goal.group-requires-clause-room
group-requires-clause-room c =
    let vs = c.levels.levels.items in
    let i = c.levels.i in
    let g = c.levels.invariant.groups in
    let below = c.as_slice.ensures.value ∙ below_is vs i c.replace-level.new.dest c.index.result.now (omega arith) (omega arith) c.index.ensures in
    let wide : c.args.room ≤ vec_capacity c.replace-level.result = subst (λ v. c.args.room ≤ vec_capacity v) (sym (c.replace-level.ensures.value ∙ c.index_mut.ensures.value)) (g.wide i c.index_mut.result.now (omega arith)) in
    let short : length c.as_slice.result.now ≤ c.args.room = subst (λ l. length l ≤ c.args.room) (sym below) g.within in
    omega (arith, wide, short, g.some)

pub levels-preserved : goal.levels-preserved
levels-preserved c =
    let vs = c.levels.levels.items in
    let i = c.levels.i in
    let g = c.levels.invariant.groups in
    let below = c.as_slice.ensures.value ∙ below_is vs i c.replace-level.new.dest c.index.result.now (omega arith) (omega arith) c.index.ensures in
    let wide : c.args.room ≤ vec_capacity c.replace-level.result = subst (λ v. c.args.room ≤ vec_capacity v) (sym (c.replace-level.ensures.value ∙ c.index_mut.ensures.value)) (g.wide i c.index_mut.result.now (omega arith)) in
    record {
      len = c.levels.invariant.len;
      groups = grouped_step vs _ i c.args.room _ c.group.new.level g (omega arith) (omega arith) (set-set vs i c.replace-level.new.dest c.group.new.level) (subst (IsAbove c.group.new.level.items) below c.group.ensures.sums) (omega (arith, wide, c.group.ensures.capacity));
    }
