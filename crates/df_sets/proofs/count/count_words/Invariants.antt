use Rattle.std.proofs.Common.{◌≤◌, length, drop}
use Rattle.df_model.specs.Values.{Members}
use Rattle.df_sets.proofs.MemberLaws.{SoFar}
use Rattle.df_sets.proofs.count.count_words.Given as goal

abbrev pub invariant-words : goal.invariant-words
invariant-words l =
    record { so_far : (now : Members) × SoFar l.inside l.words l.set.members (drop l.word-index l.words) now l.met.members l.n; room : length (drop l.word-index l.words) ≤ l.met.spare; few : l.n ≤ l.word-index }
