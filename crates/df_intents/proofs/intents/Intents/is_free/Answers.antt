use Rattle.std.proofs.Common.{not, sym, ap, ◌∙◌}
use Rattle.df_intents.proofs.HolderLaws.{free_held}
use Rattle.df_intents.proofs.intents.Intents.is_free.Goals as goal

pub returns : goal.returns
returns c = ap not c.opposes.ensures ∙ sym (free_held c.args.keys.now c.args.self.now.holders)
