use Rattle.std.proofs.Common.{subst}
use Rattle.df_model.specs.Meaning.{one}
use Rattle.df_table.specs.Fates.{RanWhere}
use Rattle.df_table.proofs.OneLaws.{stayed, went}
use Rattle.df_table.proofs.table.Table.run_one.Goals as goal

pub returns-in-Stays-clause-ok : goal.returns-in-Stays-clause-ok
returns-in-Stays-clause-ok c =
    let row = one c.args.op.now in
    let key = c.args.key.now in
    let K = c.args.self.now.keys in
    let after = c.run_on_held.new.self.keys in
    let bytes = c.run_on_held.new.reply in
    stayed row key K after bytes (subst (λ f. RanWhere f row (one c.run_on_held.new.op) key K after bytes) c.in-Stays.is c.in_ok-run_on_held.ensures.ok)

pub returns-in-Goes-clause-ok : goal.returns-in-Goes-clause-ok
returns-in-Goes-clause-ok c =
    let row = one c.args.op.now in
    let key = c.args.key.now in
    let K = c.args.self.now.keys in
    let middle = c.run_on_held.new.self.keys in
    let bytes = c.run_on_held.new.reply in
    went row key K middle c.forget.new.self.keys bytes (subst (λ f. RanWhere f row (one c.run_on_held.new.op) key K middle bytes) c.in-Goes.is c.in_ok-run_on_held.ensures.ok) c.forget.ensures.keys
