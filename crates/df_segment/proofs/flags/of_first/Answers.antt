use Rattle.std.proofs.Common.{arith}
use Rattle.std.proofs.Common.{pow_pos}
use Rattle.std.proofs.lemmas.Nat.{one_shl}
use Rattle.df_segment.proofs.FlagLaws.{first_kept, first_only}
use Rattle.df_segment.proofs.flags.of_first.Goals as goal

pub overflow_sub-result : goal.overflow_sub-result
overflow_sub-result c = omega (arith, one_shl c.args.count 64 c.requires, pow_pos c.args.count)

pub returns : goal.returns
returns c = record {
  kept = λ k w. first_kept c.args.marks c.args.count k c.requires w;
  no_more = λ k h. first_only c.args.marks c.args.count k c.requires h;
}
