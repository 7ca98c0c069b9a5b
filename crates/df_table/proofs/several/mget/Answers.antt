use Rattle.df_model.specs.Keyspace.{held}
use Rattle.df_model.specs.Meaning.Strings.{string_or_null}
use Rattle.df_table.proofs.SeveralLaws.{array_begun}
use Rattle.df_table.proofs.several.mget.Goals as goal

pub words-init : goal.words-init
words-init c = array_begun (λ k. string_or_null (held c.args.table.now.keys k)) c.args.words.now c.put_array_head.new.self c.in_ok-put_array_head.ensures
