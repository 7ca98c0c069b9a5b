use Rattle.std.proofs.Common.{◌≡◌, ◌<◌, ◌≤◌, length}
use Rattle.df_resp.specs.Stream.{rest_of, IsSound}
use Rattle.df_resp.proofs.input.take_words.Given as goal

abbrev pub invariant-words : goal.invariant-words
invariant-words l = record {
  sound : IsSound l.begun;
  inside : 0 < l.begun.missing;
  same : rest_of l.begun l.held ≡ rest_of l.fn.begun l.fn.held;
  within : length l.held ≤ length l.fn.held;
}

abbrev pub decreases-words : goal.decreases-words
decreases-words l = length l.held
