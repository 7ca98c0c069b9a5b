use Rattle.std.proofs.Common.{◌≡◌, ◌++◌, drop, map}
use Rattle.std.specs.List.{filter, flat_map}
use Rattle.df_model.specs.Members as members
use Rattle.df_model.specs.Patterns.{is_match}
use Rattle.df_model.specs.Replies.{encoding_of}
use Rattle.df_model.specs.declared.reply.Reply.TheVariants.{Bulk}
use Rattle.df_turn.proofs.whole.add_matching.Given as goal

-- what was written, with what is left
abbrev pub invariant-names : goal.invariant-names
invariant-names l =
    l.reply ++ flat_map encoding_of (map Bulk (filter (is_match l.pattern) (drop l.i (members.items l.names.members))))
    ≡ l.fn.reply ++ flat_map encoding_of (map Bulk (filter (is_match l.pattern) (members.items l.names.members)))
