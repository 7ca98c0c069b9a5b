use Rattle.df_dashtable.proofs.WalkLaws.{walk_none, walk_some}
use Rattle.df_dashtable.proofs.walk.walk_bucket.Goals as goal

pub returns-clause-none : goal.returns-clause-none
returns-clause-none g c = walk_none c.args.bucket.now c.args.i c.next_visible.result c.next_visible.ensures.none

pub returns-clause-some : goal.returns-clause-some
returns-clause-some g c =
    walk_some c.args.bucket.now c.args.i c.next_visible.result c.next_visible.ensures.within c.next_visible.ensures.behind
    c.next_visible.ensures.visible c.next_visible.ensures.skipped
