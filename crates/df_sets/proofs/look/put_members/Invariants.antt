use Rattle.std.proofs.Common.{◌≡◌, ◌++◌, ◌-◌, ◌≤◌, drop}
use Rattle.std.specs.List.{flat_map}
use Rattle.std.specs.FinMap as map
use Rattle.df_model.specs.Members as members
use Rattle.df_model.specs.Replies.{encoding_of}
use Rattle.df_model.specs.Meaning.Sets.{smembers}
use Rattle.df_model.specs.declared.reply.Reply.TheVariants.{Bulk}
use Rattle.df_sets.proofs.look.put_members.Given as goal

abbrev pub invariant-runs : goal.invariant-runs
invariant-runs l = (l.reply ++ flat_map (λ entry. encoding_of (Bulk entry.0)) (drop l.at (map.entries l.set.members)) ≡ encoding_of (smembers l.set.members)) × (l.at ≤ members.len l.set.members)

abbrev pub decreases-runs : goal.decreases-runs
decreases-runs l = members.len l.set.members - l.at
