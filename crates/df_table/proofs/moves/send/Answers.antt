use Rattle.std.proofs.Common.{◌≡◌, false, subst, sym, ap, ◌∙◌}
use Rattle.std.specs.Prelude.{None, is_some, IsTrue}
use Rattle.std.proofs.lemmas.Result.{on_ok_weaker, on_err_weaker}
use Rattle.df_model.specs.Keyspace.{held}
use Rattle.df_model.specs.Meaning.Lists.{elements}
use Rattle.df_table.specs.Moved.{Passes, put_as}
use Rattle.df_table.proofs.ListLaws.{stays, free_source, free_destination, put_both, both_back, passed, as_before, filled_before}
use Rattle.df_table.proofs.moves.send.Goals as goal

pub take_list-received-requires : goal.take_list-received-requires
take_list-received-requires c =
    let K = c.args.table.now.keys in
    let K1 = c.take_list-left.new.table.keys in
    subst (λ v. IsTrue (is_some (elements v)))
    (sym (stays K c.reserve.new.self.keys K1 K K K c.args.source c.args.destination None None c.requires.apart c.reserve.ensures.keys c.take_list-left.ensures.keys))
    c.requires.list

pub put_list-requires-clause-free : goal.put_list-requires-clause-free
put_list-requires-clause-free c =
    let K = c.args.table.now.keys in
    free_source K c.reserve.new.self.keys c.take_list-left.new.table.keys c.take_list-received.new.table.keys K K c.args.source c.args.destination None None c.requires.apart c.take_list-left.ensures.keys c.take_list-received.ensures.keys

pub put_list-requires-2-clause-free : goal.put_list-requires-2-clause-free
put_list-requires-2-clause-free c =
    let K = c.args.table.now.keys in
    let v = put_as false c.pass-result.new.source.items in
    free_destination K c.reserve.new.self.keys c.take_list-left.new.table.keys c.take_list-received.new.table.keys c.put_list.new.table.keys K c.args.source c.args.destination v None c.requires.apart c.take_list-received.ensures.keys c.put_list.ensures.keys

pub returns-clause-ok : goal.returns-clause-ok
returns-clause-ok c =
    let K = c.args.table.now.keys in
    let Kr = c.reserve.new.self.keys in
    let K1 = c.take_list-left.new.table.keys in
    let s = c.args.source in
    let d = c.args.destination in
    let there = c.has-there.result in
    let xs = c.take_list-left.result.items in
    let ys = c.take_list-received.result.items in
    let left = c.pass-result.new.source.items in
    let now = c.pass-result.new.destination.items in
    let at_s = sym (ap (λ k. elements (held k s)) c.reserve.ensures.keys) ∙ c.take_list-left.ensures.list in
    let at_d = sym (ap elements (stays K Kr K1 K K K s d None None c.requires.apart c.reserve.ensures.keys c.take_list-left.ensures.keys)) ∙ c.take_list-received.ensures.list in
    let put = put_both K Kr K1 c.take_list-received.new.table.keys c.put_list.new.table.keys c.put_list-2.new.table.keys s d (put_as false left) (put_as there now) c.requires.apart
    c.reserve.ensures.keys c.take_list-left.ensures.keys c.take_list-received.ensures.keys c.put_list.ensures.keys c.put_list-2.ensures.keys in
    on_ok_weaker c.pass-result.result
    (λ (p : Passes c.args.from c.args.to xs left ys now c.pass-result.new.reply).
    passed s d c.args.from c.args.to K c.put_list-2.new.table.keys there xs left ys now c.pass-result.new.reply c.requires.apart c.requires.filled at_s at_d put p)
    c.pass-result.ensures.ok

pub returns-clause-keys : goal.returns-clause-keys
returns-clause-keys c =
    let K = c.args.table.now.keys in
    let Kr = c.reserve.new.self.keys in
    let K1 = c.take_list-left.new.table.keys in
    let s = c.args.source in
    let d = c.args.destination in
    let there = c.has-there.result in
    let xs = c.take_list-left.result.items in
    let ys = c.take_list-received.result.items in
    let left = c.pass-result.new.source.items in
    let now = c.pass-result.new.destination.items in
    let at_s = sym (ap (λ k. elements (held k s)) c.reserve.ensures.keys) ∙ c.take_list-left.ensures.list in
    let at_d = sym (ap elements (stays K Kr K1 K K K s d None None c.requires.apart c.reserve.ensures.keys c.take_list-left.ensures.keys)) ∙ c.take_list-received.ensures.list in
    let is_there = c.has-there.ensures ∙ ap (λ k. is_some (held k d)) c.reserve.ensures.keys in
    let put = put_both K Kr K1 c.take_list-received.new.table.keys c.put_list.new.table.keys c.put_list-2.new.table.keys s d (put_as false left) (put_as there now) c.requires.apart
    c.reserve.ensures.keys c.take_list-left.ensures.keys c.take_list-received.ensures.keys c.put_list.ensures.keys c.put_list-2.ensures.keys in
    on_err_weaker c.pass-result.result
    (λ (kept : (left ≡ xs) × (now ≡ ys)).
    both_back K c.put_list-2.new.table.keys s d (put_as false left) (put_as there now) put
    (filled_before (held K s) xs c.requires.filled at_s ∙ ap (put_as false) (sym kept.0))
    (as_before (held K d) there ys at_d is_there ∙ ap (put_as there) (sym kept.1)))
    c.pass-result.ensures.kept
