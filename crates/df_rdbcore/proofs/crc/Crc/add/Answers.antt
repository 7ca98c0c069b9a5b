use Rattle.std.proofs.Common.{◌≡◌, ◌∙◌, ◌++◌, ◌/◌, length, ap, ap₂, sym}
use Rattle.std.specs.List.{concat, flat_map}
use Rattle.df_rdbcore.specs.Crc.{crc_from}
use Rattle.df_rdbcore.proofs.CrcLaws.{crc_append}
use Rattle.df_rdbcore.proofs.EightLaws.{eights_and_rest}
use Rattle.df_rdbcore.proofs.RowLaws.{rows_and_left}
use Rattle.df_rdbcore.proofs.crc.Crc.add.Goals as goal

pub returns : goal.returns
returns c =
    let piece = c.args.piece.now in
    let sum = c.self.inside.sum in
    let eights = c.as_chunks.result.0.now in
    let rest = c.as_chunks.result.1.now in
    let rows = c.as_chunks-2.result.0.now in
    let left = c.as_chunks-2.result.1.now in
    let words : flat_map concat rows ++ concat left ≡ concat eights =
    ap₂ (λ f b. flat_map concat f ++ concat b) c.as_chunks-2.ensures.front c.as_chunks-2.ensures.back ∙ rows_and_left (length eights / 4) eights in
    c.with_bytes-self-inside.ensures
    ∙ ap (λ s. crc_from s rest) (c.with_eights-sum.ensures ∙ ap (λ s. crc_from s (concat left)) c.with_rows.ensures ∙ sym (crc_append sum (flat_map concat rows) (concat left)) ∙ ap (crc_from sum) words)
    ∙ sym (crc_append sum (concat eights) rest)
    ∙ ap (crc_from sum) (ap₂ (λ e r. concat e ++ r) c.as_chunks.ensures.front c.as_chunks.ensures.back ∙ eights_and_rest (length piece / 8) piece)
    ∙ ap (λ s. crc_from s piece) c.self.view_is
