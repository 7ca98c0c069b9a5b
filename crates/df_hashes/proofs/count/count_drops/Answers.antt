use Rattle.std.proofs.Common.{◌≡◌, ◌-◌, ◌∷◌, drop, arith}
use Rattle.df_hashes.proofs.PutLaws.{before}
use Rattle.df_hashes.proofs.DropLaws.{drop_before}
use Rattle.df_hashes.proofs.MetLaws.{knows_before}
use Rattle.df_hashes.proofs.count.count_drops.Goals as goal

pub words-preserved : goal.words-preserved
words-preserved c =
    let words = c.args.words.now in
    let word = c.index-words-i.result in
    let all : drop (c.words.i - 1) words ≡ word ∷ drop c.words.i words = before words c.words.i word c.words-test.true c.words.invariant.within c.index-words-i.is in
    record {
      within = omega (arith, c.words.invariant.within);
      knows = knows_before c.is_dropped_again.new.met word _ (drop c.words.i words) _ c.split_at.ensures.back all c.in_ok-again.ensures.1;
      counted = drop_before words c.args.hash.now.fields c.words.i word _ c.in_ok-again.again _ _ all c.split_at.ensures.back c.in_ok-again.ensures.0 c.words.invariant.counted c.in_ok-gone.ensures;
    }
