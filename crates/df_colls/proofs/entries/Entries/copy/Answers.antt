use Rattle.std.proofs.Common.{◌≡◌, ◌++◌, sym, ap, subst, ◌∙◌}
use Rattle.std.specs.Prelude.{IfOk}
use Rattle.std.specs.FinMap.{FinMap}
use Rattle.std.specs.FinMap as map
use Rattle.df_colls.specs.Roomy.{order}
use Rattle.df_colls.proofs.PlaceLaws.{makes}
use Rattle.df_colls.proofs.entries.Entries.copy.Goals as goal

pub from_items-requires : goal.from_items-requires
from_items-requires g c =
    let all = c.in_ok-append_from.ensures ∙ ap (λ l. l ++ map.entries c.args.self.now.contents) c.in_ok-items.ensures.items in
    (makes c.append_from.new.to.items c.args.self.now.contents (sym all)).sorted

pub returns : goal.returns
returns g c =
    let all = c.in_ok-append_from.ensures ∙ ap (λ l. l ++ map.entries c.args.self.now.contents) c.in_ok-items.ensures.items in
    let same = (makes c.append_from.new.to.items c.args.self.now.contents (sym all)).same in
    subst (λ (m : FinMap order g.row.X.Denot). IfOk c.from_items.result (λ copy. copy.contents ≡ m)) same c.from_items.ensures
