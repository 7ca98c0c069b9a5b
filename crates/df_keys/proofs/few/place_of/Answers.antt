use Rattle.std.proofs.Common.{◌≡◌, get_or, sym, ap, ◌∙◌}
use Rattle.std.specs.declared.cmp.Ordering.TheVariants.{Equal}
use Rattle.std.proofs.lemmas.List.{get_or_default}
use Rattle.df_footprints.proofs.GatherLaws.{order}
use Rattle.df_keys.proofs.FewLaws.{place_here}
use Rattle.df_keys.proofs.few.place_of.Goals as goal

pub returns-in-Equal : goal.returns-in-Equal
returns-in-Equal c =
    let es = c.args.list.now in
    let key = c.args.key.now in
    let t = c.places.at in
    let first = c.index-list-at.result in
    let e = get_or es t c.index-list-at-in-Equal.result in
    let same : get_or es t first ≡ e = get_or_default es t first c.index-list-at-in-Equal.result c.places-test.true in
    let compared : order key (get_or es t first).0 ≡ Equal = cc (c.in-Equal.ensures) in
    place_here key es t e c.places-test.true (get_or_default es t c.index-list-at-in-Equal.result e c.places-test.true) c.places.invariant
    (ap (λ x. order key x.0) (sym same) ∙ compared)
