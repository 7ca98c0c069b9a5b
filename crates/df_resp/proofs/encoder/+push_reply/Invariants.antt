use Rattle.std.proofs.Common.{◌≡◌, ◌++◌, drop, map}
use Rattle.std.specs.List.{flat_map}
use Rattle.df_model.specs.Replies.{encoding_of}
use Rattle.df_resp.specs.Appended.{GrowsBy}
use Rattle.df_resp.proofs.encoder.+push_reply.Given as goal

abbrev pub invariant-inner : goal.invariant-inner
invariant-inner l = record {
  grows : GrowsBy l.fn.to.items l.to.items;
  left : l.to.items ++ flat_map (λ bytes. bytes) (map encoding_of (drop l.inner-index l.inner-items)) ≡ l.fn.to.items ++ encoding_of l.reply;
}
