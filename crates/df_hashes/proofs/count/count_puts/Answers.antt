use Rattle.std.proofs.Common.{◌≡◌, ◌-◌, ◌∷◌, drop, ap, arith}
use Rattle.df_model.specs.Meaning.{firsts}
use Rattle.df_hashes.proofs.PutLaws.{before, put_before}
use Rattle.df_hashes.proofs.MetLaws.{knows_before}
use Rattle.df_hashes.proofs.count.count_puts.Goals as goal

pub pairs-preserved : goal.pairs-preserved
pairs-preserved c =
    let pairs = c.args.pairs.now in
    let pair = c.index-pairs-i.result in
    let all : drop (c.pairs.i - 1) pairs ≡ pair ∷ drop c.pairs.i pairs = before pairs c.pairs.i pair c.pairs-test.true c.pairs.invariant.within c.index-pairs-i.is in
    record {
      within = omega (arith, c.pairs.invariant.within);
      knows = knows_before c.is_put_again.new.met pair.0 _ (firsts (drop c.pairs.i pairs)) _ (ap firsts c.split_at.ensures.back) (ap firsts all) c.in_ok-again.ensures.1;
      counted = put_before pairs c.args.hash.now.fields c.pairs.i pair _ c.in_ok-again.again _ _ _ _ all c.split_at.ensures.back c.in_ok-again.ensures.0 c.pairs.invariant.counted c.in_ok-counted.ensures;
    }
