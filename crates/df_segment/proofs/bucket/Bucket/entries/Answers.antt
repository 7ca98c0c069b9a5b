use Rattle.std.proofs.Common.{sym, ◌∙◌}
use Rattle.df_segment.specs.Entries.{flag_at}
use Rattle.df_segment.proofs.SlotLaws.{slots_entries}
use Rattle.df_segment.proofs.bucket.Bucket.entries.Goals as goal

pub returns : goal.returns
returns g c = rw (← c.self.view_is) (c.as_slice.ensures.value ∙ sym (slots_entries (flag_at c.self.inside.staged) c.self.inside.entries.items))
