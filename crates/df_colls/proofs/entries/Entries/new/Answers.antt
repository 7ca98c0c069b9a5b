use Rattle.std.proofs.Common.{ap, ◌∙◌}
use Rattle.df_colls.specs.Places.{made}
use Rattle.df_colls.proofs.PlaceLaws.{made_empty}
use Rattle.df_colls.proofs.entries.Entries.new.Goals as goal

pub returns : goal.returns
returns g c = ap made c.new.ensures.items ∙ made_empty
