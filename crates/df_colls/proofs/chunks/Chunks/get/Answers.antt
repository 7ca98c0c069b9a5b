use Rattle.std.proofs.Common.{◌≡◌, get_or, subst}
use Rattle.df_colls.specs.Cuts.{flat, index_of, IsPlace}
use Rattle.df_colls.proofs.PartLaws.{got}
use Rattle.df_colls.proofs.chunks.Chunks.get.Goals as goal

pub returns : goal.returns
returns g c =
    let x = c.index-2.result.now in
    subst (λ v. IsPlace v.parts c.args.place → x ≡ get_or (flat v.parts) (index_of v.parts c.args.place) x) c.self.view_is
    (λ h. got c.self.inside.parts.items c.args.place c.index.result.now c.index.result.now c.index.ensures x h c.index-2.ensures) c.requires
