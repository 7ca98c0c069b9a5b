use Rattle.std.proofs.Common.{refl}
use Rattle.df_dashtable.proofs.TableLaws.{new_table, new_none}
use Rattle.df_dashtable.proofs.CountLaws.{new_counted}
use Rattle.df_dashtable.proofs.table.DashTable.new.Goals as goal

pub invariant_of-result : goal.invariant_of-result
invariant_of-result g c = (
  new_table c.push_reserved.new.self.items c.push_reserved-2.new.self.items c.in_ok-segment.segment
      (rw (c.push_reserved.ensures.items, c.in_ok-directory.ensures.items) refl)
      (rw (c.push_reserved-2.ensures.items, c.in_ok-segments.ensures.items) refl)
      c.in_ok-segment.ensures,
  (
    c.requires,
    new_counted c.push_reserved-2.new.self.items
        (new_none c.push_reserved-2.new.self.items c.in_ok-segment.segment
        (rw (c.push_reserved-2.ensures.items, c.in_ok-segments.ensures.items) refl) c.in_ok-segment.ensures),
  ),
)
