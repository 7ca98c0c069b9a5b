use Rattle.std.proofs.Common.{◌++◌, ap, ◌∙◌, arith}
use Rattle.df_model.specs.Meaning.Sets.{sismember}
use Rattle.df_model.specs.Replies.{encoding_of}
use Rattle.df_sets.proofs.ReplyLaws.{array_of, begins, goes_on, ends}
use Rattle.df_sets.proofs.look.has_each.Goals as goal

pub words-init : goal.words-init
words-init c = begins _ c.put_array_head.new.self _ _ c.in_ok-put_array_head.ensures (array_of (λ word. sismember word c.args.set.now.members) c.args.words.now)

pub words-preserved : goal.words-preserved
words-preserved c =
    goes_on _ c.words.reply c.add_count.new.self _ c.args.words.now c.words.word-index c.word-item.result (omega arith) c.word-item.is
    (c.in_ok-add_count.ensures ∙ ap (λ answer. c.words.reply ++ encoding_of answer) c.one_if_had.ensures) c.words.invariant

pub returns : goal.returns
returns c = ends _ c.words.reply _ c.args.words.now c.words.word-index (omega arith) c.words.invariant
