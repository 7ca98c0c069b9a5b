use Rattle.std.proofs.Common.{◌≡◌, sym, ap, ◌∙◌}
use Rattle.std.specs.Prelude.{Some, None}
use Rattle.std.proofs.lemmas.Result.{on_ok_weaker, on_err_weaker}
use Rattle.df_model.specs.Keyspace.{held, with_held}
use Rattle.df_model.specs.Values.{Value}
use Rattle.df_model.specs.Meaning.Lists.{elements}
use Rattle.df_model.proofs.WholeLaws.{held_same}
use Rattle.df_table.specs.Moved.{Turns}
use Rattle.df_table.proofs.ListLaws.{one_over, turned, filled_list}
use Rattle.df_table.proofs.OneLaws.{put_back}
use Rattle.df_table.proofs.moves.turn_at.Goals as goal

pub put_list-requires-clause-free : goal.put_list-requires-clause-free
put_list-requires-clause-free c = ap (λ k. held k c.args.key) c.take_list-list.ensures.keys ∙ held_same c.reserve.new.self.keys c.args.key None

pub returns-clause-ok : goal.returns-clause-ok
returns-clause-ok c =
    let K = c.args.table.now.keys in
    let now = c.turn-result.new.list.items in
    let at = sym (ap (λ k. elements (held k c.args.key)) c.reserve.ensures.keys) ∙ c.take_list-list.ensures.list in
    let put = one_over K c.reserve.new.self.keys c.take_list-list.new.table.keys c.put_list.new.table.keys c.args.key (Some (Value.Elements now)) c.reserve.ensures.keys c.take_list-list.ensures.keys c.put_list.ensures.keys in
    on_ok_weaker c.turn-result.result
    (λ (t : Turns c.args.from c.args.to c.take_list-list.result.items now c.turn-result.new.reply).
    turned c.args.key c.args.from c.args.to K c.put_list.new.table.keys c.take_list-list.result.items now c.turn-result.new.reply c.requires at put t)
    c.turn-result.ensures.ok

pub returns-clause-keys : goal.returns-clause-keys
returns-clause-keys c =
    let K = c.args.table.now.keys in
    let before = c.take_list-list.result.items in
    let now = c.turn-result.new.list.items in
    let at = sym (ap (λ k. elements (held k c.args.key)) c.reserve.ensures.keys) ∙ c.take_list-list.ensures.list in
    let put = one_over K c.reserve.new.self.keys c.take_list-list.new.table.keys c.put_list.new.table.keys c.args.key (Some (Value.Elements now)) c.reserve.ensures.keys c.take_list-list.ensures.keys c.put_list.ensures.keys in
    on_err_weaker c.turn-result.result
    (λ (kept : now ≡ before).
    put ∙ ap (λ l. with_held K c.args.key (Some (Value.Elements l))) kept ∙ put_back K c.args.key (Some (Value.Elements before)) (filled_list (held K c.args.key) before c.requires at))
    c.turn-result.ensures.kept
