use Rattle.std.proofs.Common.{◌≡◌, [], length, None}
use Rattle.df_model.specs.Framing.{Splits}
use Rattle.df_resp.specs.Stream.{rest_of, IsSound, IsPlaced, Counts}
use Rattle.df_resp.proofs.reader.Reader.next.Given as goal

abbrev pub invariant-frames : goal.invariant-frames
invariant-frames l = record {
  sound : IsSound l.self-inside.input.begun;
  placed : IsPlaced l.self-inside.input.before l.self-inside.input.place (rest_of l.self-inside.input.begun l.self-inside.input.held) l.self-inside.input.held;
  splits : Splits l.fn.self.rest [] (rest_of l.self-inside.input.begun l.self-inside.input.held);
  counts : Counts l.fn.self.before l.fn.self.rest l.self-inside.input.before (rest_of l.self-inside.input.begun l.self-inside.input.held);
  good : l.self-inside.failed ≡ None;
}

abbrev pub decreases-frames : goal.decreases-frames
decreases-frames l = length l.self-inside.input.held
