use Rattle.std.proofs.Common.{◌≡◌, Bool, true, List, [], rules}
use Rattle.std.specs.Prelude.{IsTrue, ◌↔◌}
use Rattle.df_model.specs.Values.{Bytes}
use Rattle.df_table.proofs.ListLaws.{not_put}
use Rattle.df_table.proofs.moves.put_list.Goals as goal

none : (b : Bool) (xs : List Bytes) → b ≡ true → (IsTrue b ↔ (xs ≡ [])) → xs ≡ []
none b xs e is = is.0 (search rules)

pub returns-then-is_empty-clause-keys : goal.returns-then-is_empty-clause-keys
returns-then-is_empty-clause-keys c =
    not_put c.args.table.now.keys c.args.key c.args.keep c.args.list.items c.if-not-keep.true
    (none c.is_empty.result c.args.list.items c.if-is_empty.true c.is_empty.ensures) c.requires.free
