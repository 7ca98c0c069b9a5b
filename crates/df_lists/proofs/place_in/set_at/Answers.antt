use Rattle.std.proofs.Common.{refl, rules}
use Rattle.df_lists.proofs.PlaceLaws.{set_keeps, set_edits}
use Rattle.df_lists.proofs.place_in.set_at.Goals as goal

pub returns-then-is_at : goal.returns-then-is_at
returns-then-is_at c = set_keeps c.args.list.now c.args.at c.args.element _ _ c.requires (search rules) (search rules) (search rules)

pub returns : goal.returns
returns c = set_edits c.args.list.now c.args.at c.args.element _ _ c.requires (search rules) c.in_ok-put_ok.ensures refl
