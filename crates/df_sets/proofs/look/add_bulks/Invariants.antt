use Rattle.std.proofs.Common.{◌≡◌, ◌++◌, drop}
use Rattle.std.specs.List.{flat_map}
use Rattle.df_model.specs.Replies.{encoding_of}
use Rattle.df_model.specs.declared.reply.Reply.TheVariants.{Bulk}
use Rattle.df_sets.proofs.look.add_bulks.Given as goal

abbrev pub invariant-entries : goal.invariant-entries
invariant-entries l = l.reply ++ flat_map (λ entry. encoding_of (Bulk entry.0)) (drop l.entry-index l.run) ≡ l.fn.reply ++ flat_map (λ entry. encoding_of (Bulk entry.0)) l.run
