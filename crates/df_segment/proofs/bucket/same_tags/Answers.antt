use Rattle.std.proofs.Common.{◌≡◌, length, arith}
use Rattle.df_segment.proofs.FlagLaws.{tags_marked}
use Rattle.df_segment.proofs.bucket.same_tags.Goals as goal

pub returns : goal.returns
returns c = λ k w. let long : length c.args.tags.now ≡ 16 = omega arith in tags_marked c.args.tags.now c.args.tag k long w
