use Rattle.std.proofs.Common.{◌∙◌, refl, ap, subst}
use Rattle.df_rdbcore.specs.Seen.{AwaitsLength}
use Rattle.df_rdbcore.specs.Reading.{Stand}
use Rattle.df_rdbcore.proofs.cursor.Cursor.len.Goals as goal

pub returns-in-More : goal.returns-in-More
returns-in-More c = (refl, subst AwaitsLength (c.as_slice.ensures ∙ ap (λ (s : Stand). s.rest) c.self.view_is) c.in-More.ensures)
