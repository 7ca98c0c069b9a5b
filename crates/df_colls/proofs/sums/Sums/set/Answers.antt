use Rattle.std.proofs.Common.{◌≡◌, ◌+◌, ◌<◌, ◌≤◌, ◌^◌, get_or, set, length, sum, sym, ap, subst, ◌∙◌, arith}
use Rattle.std.proofs.lemmas.List.{length-set}
use Rattle.std.proofs.lemmas.List.Sums.{sum_by-set}
use Rattle.df_colls.specs.Parts.{item_lists}
use Rattle.df_colls.specs.Sums.{IsTower, lowest}
use Rattle.df_colls.proofs.SumLaws.{changed, lowest_with, lowest_is}
use Rattle.df_colls.proofs.sums.Sums.set.Goals as goal

pub invariant_of-self : goal.invariant_of-self
invariant_of-self c =
    let s = c.self.invariant in
    let vs = c.self.inside.levels.items in
    let lens = lowest (item_lists vs) in
    let leaf : c.args.leaf < length lens = subst (λ v. c.args.leaf < length v.lens) (sym c.self.view_is) c.requires.leaf in
    let fits : sum lens + c.args.len < 2 ^ 64 = subst (λ v. sum v.lens + c.args.len < 2 ^ 64) (sym c.self.view_is) c.requires.fits in
    let was : c.index-was.result.now ≡ get_or lens c.args.leaf 0 = lowest_is vs c.index.result.now c.args.leaf c.index-was.result.now leaf c.index.ensures c.index-was.ensures in
    let all : lowest (item_lists c.set_path.new.levels.items) ≡ set lens c.args.leaf c.args.len = ap lowest c.set_path.ensures.levels ∙ lowest_with (item_lists vs) c.args.leaf c.index-was.result.now c.args.len was in
    let total = sum_by-set (λ x. x) lens c.args.leaf c.args.len 0 leaf in
    record {
      tower = subst IsTower (sym c.set_path.ensures.levels) (changed (item_lists vs) c.args.leaf c.index-was.result.now c.args.len s.tower leaf (omega (arith, was)));
      some = λ room. let some = s.some room in omega (arith, some, c.set_path.ensures.len, c.set_path.new.levels.ok.0, c.self.inside.levels.ok.0);
      wide = c.set_path.ensures.room c.self.inside.room s.wide;
      within = subst (λ l. length l ≤ c.self.inside.room) (sym all) (omega (arith, s.within, length-set lens c.args.leaf c.args.len));
      fits = subst (λ l. sum l < 2 ^ 64) (sym all) (omega (arith, total, fits));
    }
