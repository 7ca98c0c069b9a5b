use Rattle.std.proofs.Common.{◌<◌, ◌≤◌, length, Result, Ok, Err, ap, subst, arith, vec_len}
use Rattle.std.specs.Prelude.{OnOk}
use Rattle.std.specs.List.{All}
use Rattle.df_colls.specs.declared.chunks.TheConstants.{FULL}
use Rattle.df_colls.proofs.PartLaws.{fits_at}
use Rattle.std.proofs.lemmas.List.Elements.{All-same, All-set}
use Rattle.std.proofs.lemmas.List.{length-map, length-set}
use Rattle.df_colls.proofs.RoomLaws.{enough}
use Rattle.df_colls.proofs.chunks.Chunks.reserve_chunks.Goals as goal

then_ok : {V E : Type 0} (P Q : Type 0) (r : Result V E) → OnOk r P → (P → Q) → OnOk r Q
then_ok P Q (Ok v) p f = f p
then_ok P Q (Err e) p f = tt

pub returns-clause-ok : goal.returns-clause-ok
returns-clause-ok g c =
    then_ok _ _ c.take_chunks.result c.take_chunks.ensures.ok (λ le.
    let vs = c.reserve-2.new.self.items in
    let s = c.self.invariant.0 in
    let parts = c.self.inside.parts.items in
    let one : 0 < length parts = subst (λ v. 0 < length v.parts → 0 < length parts) c.self.view_is (λ h. omega (arith, h, length-map parts (λ v. v.items))) c.requires in
    let here = fits_at parts 0 c.index_mut.result.now one c.index_mut.ensures.value s.fits in
    let e = c.reserve-2.ensures.items in
    let fits : All (λ v. vec_len v ≤ FULL) vs = All-same (λ v. vec_len v ≤ FULL) vs _ e (All-set (λ v. vec_len v ≤ FULL) parts 0 c.reserve.new.self (omega (arith, here, c.reserve.ensures.len)) s.fits) in
    let m = c.min-wanted.ensures in
    let n = c.len.ensures in
    enough vs c.take_chunks.new.free.items c.args.count c.min-wanted.result fits (omega (arith, m, n, ap length e, length-set parts 0 c.reserve.new.self)) (omega (arith, le, c.take_chunks.new.free.ok.0)))
