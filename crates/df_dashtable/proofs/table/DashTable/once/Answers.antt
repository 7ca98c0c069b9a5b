use Rattle.std.proofs.Common.{map, ap, ◌∙◌}
use Rattle.std.specs.List.{flat_map}
use Rattle.df_segment.specs.Buckets.{entries_of}
use Rattle.df_dashtable.specs.Visible.{under}
use Rattle.df_dashtable.proofs.OnceLaws.{key_once}
use Rattle.df_dashtable.proofs.HoldsLaws.{all_visible, seen_is}
use Rattle.df_dashtable.proofs.table.DashTable.once.Goals as goal

pub returns-clause-once : goal.returns-clause-once
returns-clause-once g c = λ key.
    rw (← c.self.view_is)
    (key_once c.self.inside.version c.self.inside.depth c.self.inside.directory.items c.self.inside.segments.items c.self.invariant.0 key)

pub returns-clause-holds : goal.returns-clause-holds
returns-clause-holds g c = λ key.
    rw (← c.self.view_is)
    (ap (λ pairs. map (λ pair. pair.1) (under key pairs)) (all_visible c.self.inside.segments.items)
    ∙ seen_is key (flat_map entries_of c.self.inside.segments.items)
    (key_once c.self.inside.version c.self.inside.depth c.self.inside.directory.items c.self.inside.segments.items c.self.invariant.0 key))
