use Rattle.std.proofs.Common.{◌≡◌, ◌++◌, drop, map}
use Rattle.std.specs.List.{flat_map}
use Rattle.df_model.specs.Outcomes.{bulks}
use Rattle.df_model.specs.Replies.{encoding_of}
use Rattle.df_model.specs.declared.reply.Reply.TheVariants.{Bulk}
use Rattle.df_table.proofs.whole.put_names.Given as goal

abbrev pub invariant-names : goal.invariant-names
invariant-names l = l.reply ++ flat_map encoding_of (map (λ name. Bulk name.now) (drop l.name-index l.names)) ≡ encoding_of (bulks (map (λ name. name.now) l.names))
