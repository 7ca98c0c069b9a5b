use Rattle.std.proofs.Common.{subst, sym}
use Rattle.df_post.specs.Locals.{Rows}
use Rattle.df_post.proofs.RowLaws.{rows-bare}
use Rattle.df_post.proofs.local.LocalPost.new.Goals as goal

pub invariant_of-result : goal.invariant_of-result
invariant_of-result c =
    subst (λ z. Rows z 0 c.in_ok-ways.ways.items) (sym c.of.ensures)
    (subst (Rows c.args.book.now 0) (sym c.in_ok-ways.ensures) (rows-bare c.args.book.now 0 c.args.shards))
