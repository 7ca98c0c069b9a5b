use Rattle.std.proofs.Common.{◌++◌, ap, ◌∙◌, arith}
use Rattle.df_model.specs.Replies.{encoding_of}
use Rattle.df_model.specs.declared.reply.Reply.TheVariants.{Bulk}
use Rattle.df_sets.proofs.ReplyLaws.{goes_on, ends}
use Rattle.df_sets.proofs.look.add_bulks.Goals as goal

pub entries-preserved : goal.entries-preserved
entries-preserved c =
    goes_on (λ entry. encoding_of (Bulk entry.0)) c.entries.reply c.add_bulk.new.self _ c.args.run.now c.entries.entry-index c.entry-item.result (omega arith) c.entry-item.is
    (c.in_ok-add_bulk.ensures ∙ ap (λ bytes. c.entries.reply ++ encoding_of (Bulk bytes)) c.as_slice.ensures) c.entries.invariant

pub returns : goal.returns
returns c = ends (λ entry. encoding_of (Bulk entry.0)) c.entries.reply _ c.args.run.now c.entries.entry-index (omega arith) c.entries.invariant
