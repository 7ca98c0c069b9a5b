use Rattle.std.proofs.Common.{length, sym, ap, subst, arith}
use Rattle.std.specs.Prelude.{T}
use Rattle.std.specs.FinMap.{is_sorted}
use Rattle.std.proofs.lemmas.List.{length-map}
use Rattle.df_colls.specs.Roomy.{order}
use Rattle.df_colls.specs.Cuts.{flat}
use Rattle.df_colls.specs.Parts.{item_lists}
use Rattle.df_colls.specs.Places.{IsAt, GoesTo, IsFound, IsMissing}
use Rattle.df_colls.proofs.PartLaws.{list_at}
use Rattle.df_colls.proofs.HomeLaws.{sorted_chunk, found, missing, missing_none}
use Rattle.df_colls.proofs.entries.find.Goals as goal

pub returns-then-parts-eq0 : goal.returns-then-parts-eq0
returns-then-parts-eq0 g c =
    let vs = c.parts-parts.result.now in
    missing_none c.args.key.now c.args.list.now.parts _ (omega (arith, ap length c.parts-parts.ensures.parts, length-map vs (λ v. v.items))) (omega arith) (omega arith)

pub place-requires : goal.place-requires
place-requires g c =
    let vs = c.parts-parts.result.now in
    let e = c.parts-parts.ensures.parts in
    let lt = c.home-chunk.ensures.within in
    subst (λ es. T (is_sorted order es)) (list_at vs c.home-chunk.result c.index-parts-chunk.result lt c.index-parts-chunk.is)
    (sorted_chunk (item_lists vs) c.home-chunk.result (omega (arith, lt, length-map vs (λ v. v.items))) (subst (λ ps. T (is_sorted order (flat ps))) (sym e) c.requires))

pub returns-in-Ok : goal.returns-in-Ok
returns-in-Ok g c =
    let vs = c.parts-parts.result.now in
    let e = c.parts-parts.ensures.parts in
    let lt = c.home-chunk.ensures.within in
    let at = subst (λ es. IsAt c.args.key.now es c.in-Ok.at) (sym (list_at vs c.home-chunk.result c.index-parts-chunk.result lt c.index-parts-chunk.is)) c.in-Ok.ensures.place in
    subst (λ ps. IsFound c.args.key.now ps (record { chunk = c.home-chunk.result; at = c.in-Ok.at })) e
    (found c.args.key.now (item_lists vs) (record { chunk = c.home-chunk.result; at = c.in-Ok.at }) (subst (λ ps. T (is_sorted order (flat ps))) (sym e) c.requires) c.home-chunk.ensures.home (omega (arith, lt, length-map vs (λ v. v.items))) at)

pub returns-in-Err : goal.returns-in-Err
returns-in-Err g c =
    let vs = c.parts-parts.result.now in
    let e = c.parts-parts.ensures.parts in
    let lt = c.home-chunk.ensures.within in
    let at = subst (λ es. GoesTo c.args.key.now es c.in-Err.at) (sym (list_at vs c.home-chunk.result c.index-parts-chunk.result lt c.index-parts-chunk.is)) c.in-Err.ensures.place in
    subst (λ ps. IsMissing c.args.key.now ps (record { chunk = c.home-chunk.result; at = c.in-Err.at })) e
    (missing c.args.key.now (item_lists vs) (record { chunk = c.home-chunk.result; at = c.in-Err.at }) (subst (λ ps. T (is_sorted order (flat ps))) (sym e) c.requires) c.home-chunk.ensures.home (omega (arith, lt, length-map vs (λ v. v.items))) at)
