use Rattle.std.proofs.Common.{true, false, subst}
use Rattle.std.specs.Option.{option_map, option_copied}
use Rattle.df_values.specs.Seen.{seen}
use Rattle.df_table.specs.Joined.{Has, IsSeen}
use Rattle.df_table.proofs.smove.smove.Goals as goal

pub answer_without-requires : goal.answer_without-requires
answer_without-requires c =
    subst (Has false c.args.member) c.get.ensures (subst (λ l. IsSeen l c.args.member (option_map seen (option_copied c.get.result))) c.in-Without.is c.look.ensures)

pub move_from-requires : goal.move_from-requires
move_from-requires c =
    subst (Has true c.args.member) c.get.ensures (subst (λ l. IsSeen l c.args.member (option_map seen (option_copied c.get.result))) c.in-With.is c.look.ensures)
