use Rattle.std.proofs.Common.{◌≡◌, ◌++◌, drop}
use Rattle.std.specs.List.{flat_map}
use Rattle.df_model.specs.Replies.{encoding_of}
use Rattle.df_model.specs.Meaning.Sets.{sismember, smismember}
use Rattle.df_sets.proofs.look.has_each.Given as goal

abbrev pub invariant-words : goal.invariant-words
invariant-words l = l.reply ++ flat_map (λ word. encoding_of (sismember word l.set.members)) (drop l.word-index l.words) ≡ encoding_of (smismember l.words l.set.members)
