use Rattle.std.proofs.Common.{◌≡◌, ◌+◌, ◌∙◌, [], ◌∷◌, get_or, drop, drop-cons, add-one, ap, sym}
use Rattle.std.specs.List.{concat}
use Rattle.df_rdbcore.specs.Crc.{crc_from}
use Rattle.df_rdbcore.proofs.CrcLaws.{crc_append}
use Rattle.df_rdbcore.proofs.crc.with_eights.Goals as goal

pub eights-preserved : goal.eights-preserved
eights-preserved c =
    let at = c.eights.eight-index in
    let xs = c.args.eights.now in
    let within = c.eights-test.true in
    let next : drop at xs ≡ get_or xs at [] ∷ drop (at + 1) xs = rw (add-one, drop-cons xs at []) in
    ap (λ s. crc_from s (concat (drop (at + 1) xs))) c.with_eight-sum.ensures.sum
    ∙ sym (crc_append c.eights.sum (get_or xs at []) (concat (drop (at + 1) xs)))
    ∙ ap (λ ys. crc_from c.eights.sum (concat ys)) (sym next)
    ∙ c.eights.invariant
