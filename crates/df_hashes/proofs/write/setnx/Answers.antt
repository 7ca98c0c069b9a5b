use Rattle.std.proofs.Common.{ap, sym, ◌∙◌}
use Rattle.std.specs.Prelude.{is_some}
use Rattle.std.specs.FinMap as map
use Rattle.df_colls.proofs.CountLaws.{copied_some}
use Rattle.df_hashes.proofs.PutLaws.{tells_new}
use Rattle.df_hashes.proofs.write.setnx.Goals as goal

pub put-requires : goal.put-requires
put-requires c =
    tells_new c.args.hash.now.fields c.args.field c.args.word _
    (sym (copied_some c.get.result ∙ ap is_some (c.get.ensures ∙ ap (map.get c.args.hash.now.fields) c.as_slice.ensures)) ∙ sym c.is_some.ensures ∙ c.if-is_some.false) c.in_ok-pair.ensures
