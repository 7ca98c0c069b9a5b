use Rattle.std.proofs.Common.{◌++◌, arith}
use Rattle.df_colls.proofs.MergeLaws.{next_in, turn_less, turn_equal, turn_greater}
use Rattle.df_colls.proofs.combine.merge.Goals as goal

pub pairs-preserved-in-Less : goal.pairs-preserved-in-Less
pairs-preserved-in-Less c =
    let ours = c.args.ours.now in
    let theirs = c.args.theirs.now in
    let x = c.index-ours-i.result in
    let y = c.index-theirs-j.result in
    record {
      ours = omega arith;
      theirs = omega arith;
      merged = λ ls rs s.
          let next = next_in ours theirs ls rs c.pairs.to.items c.push_copy.new.to.items _ c.pairs.i c.pairs.j x y s (omega arith) (omega arith) c.index-ours-i.is c.index-theirs-j.is (c.pairs.invariant.merged ls rs s) in
          turn_less (ours ++ ls) (theirs ++ rs) c.pairs.to.items c.push_copy.new.to.items _ c.pairs.i c.pairs.j x y next (cc (c.cmp.ensures, c.in-Less.is)) c.in_ok-push_copy-in-Less.ensures;
    }

pub pairs-preserved-in-Equal : goal.pairs-preserved-in-Equal
pairs-preserved-in-Equal c =
    let ours = c.args.ours.now in
    let theirs = c.args.theirs.now in
    let x = c.index-ours-i.result in
    let y = c.index-theirs-j.result in
    record {
      ours = omega arith;
      theirs = omega arith;
      merged = λ ls rs s.
          let next = next_in ours theirs ls rs c.pairs.to.items c.push_copy-in-Equal.new.to.items _ c.pairs.i c.pairs.j x y s (omega arith) (omega arith) c.index-ours-i.is c.index-theirs-j.is (c.pairs.invariant.merged ls rs s) in
          turn_equal (ours ++ ls) (theirs ++ rs) c.pairs.to.items c.push_copy-in-Equal.new.to.items _ c.pairs.i c.pairs.j x y next (cc (c.cmp.ensures, c.in-Equal.is)) c.in_ok-push_copy-in-Equal.ensures;
    }

pub pairs-preserved : goal.pairs-preserved
pairs-preserved c =
    let ours = c.args.ours.now in
    let theirs = c.args.theirs.now in
    let x = c.index-ours-i.result in
    let y = c.index-theirs-j.result in
    record {
      ours = omega arith;
      theirs = omega arith;
      merged = λ ls rs s.
          let next = next_in ours theirs ls rs c.pairs.to.items c.push_copy-in-Greater.new.to.items _ c.pairs.i c.pairs.j x y s (omega arith) (omega arith) c.index-ours-i.is c.index-theirs-j.is (c.pairs.invariant.merged ls rs s) in
          turn_greater (ours ++ ls) (theirs ++ rs) c.pairs.to.items c.push_copy-in-Greater.new.to.items _ c.pairs.i c.pairs.j x y next (cc (c.cmp.ensures, c.in-Greater.is)) c.in_ok-push_copy-in-Greater.ensures;
    }
