use Rattle.std.proofs.Common.{◌-◌}
use Rattle.df_dashtable.specs.Tables.{segment_at}
use Rattle.df_dashtable.proofs.ShareLaws.{segments_few}
use Rattle.df_dashtable.proofs.SplitLaws.{split_table, split_same, split_older}
use Rattle.df_dashtable.proofs.CountLaws.{split_counted}
use Rattle.df_dashtable.proofs.table.DashTable.split_at.Goals as goal

pub invariant_of-self-2 : goal.invariant_of-self-2
invariant_of-self-2 g c =
    let w = rw (← c.self.view_is) at c.requires.within in
    let d = rw (← c.self.view_is) at c.requires.deeper in
    let r = c.in_ok-divide.ensures.ok in
    rw r.segments (
      split_table c.self.inside.version c.self.inside.depth c.self.inside.directory.items c.self.inside.segments.items c.self.invariant.0 c.args.s w d
          c.divide.new.directory.items r.long r.places,
      (c.self.invariant.1.0, split_counted c.self.inside.len c.self.inside.staged c.self.inside.segments.items c.args.s (63 - (segment_at c.self.inside.segments.items c.args.s).depth) w c.self.invariant.1.1),
    )

pub returns-clause-same : goal.returns-clause-same
returns-clause-same g c = λ key.
    let w = rw (← c.self.view_is) at c.requires.within in
    let d = rw (← c.self.view_is) at c.requires.deeper in
    let r = c.in_ok-divide.ensures.ok in
    rw (← c.self.view_is, r.segments)
    (split_same c.self.inside.version c.self.inside.depth c.self.inside.directory.items c.self.inside.segments.items c.self.invariant.0 c.args.s w d key)

pub returns-clause-older : goal.returns-clause-older
returns-clause-older g c =
    let w = rw (← c.self.view_is) at c.requires.within in
    let n = rw (← c.self.view_is) at c.requires.newer in
    let r = c.in_ok-divide.ensures.ok in
    rw (← c.self.view_is, r.segments)
    (split_older c.self.inside.version c.self.inside.segments.items c.args.s (63 - (segment_at c.self.inside.segments.items c.args.s).depth) w n)

pub divide-requires-clause-few : goal.divide-requires-clause-few
divide-requires-clause-few g c = segments_few c.self.inside.depth c.self.inside.segments.items c.self.invariant.0.shared c.self.invariant.0.deep
