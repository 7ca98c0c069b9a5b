use Rattle.std.proofs.Common.{◌≡◌, false, subst, sym, ap, ◌∙◌}
use Rattle.std.specs.Prelude.{None, is_some, IsTrue}
use Rattle.std.proofs.lemmas.Result.{on_ok_weaker, on_err_weaker}
use Rattle.df_model.specs.Keyspace.{held}
use Rattle.df_model.specs.Meaning.Sets.{members_of}
use Rattle.df_table.specs.Joined.{Joins, put_as}
use Rattle.df_table.proofs.ListLaws.{stays, free_source, free_destination, put_both, both_back}
use Rattle.df_table.proofs.SetLaws.{joins, as_before, has_before}
use Rattle.df_table.proofs.smove.send.Goals as goal

pub take_set-received-requires : goal.take_set-received-requires
take_set-received-requires c =
    let K = c.args.table.now.keys in
    let K1 = c.take_set-left.new.table.keys in
    subst (λ v. IsTrue (is_some (members_of v)))
    (sym (stays K c.reserve.new.self.keys K1 K K K c.args.source c.args.destination None None c.requires.apart c.reserve.ensures.keys c.take_set-left.ensures.keys))
    c.requires.set

pub put_set-requires-clause-free : goal.put_set-requires-clause-free
put_set-requires-clause-free c =
    let K = c.args.table.now.keys in
    free_source K c.reserve.new.self.keys c.take_set-left.new.table.keys c.take_set-received.new.table.keys K K c.args.source c.args.destination None None c.requires.apart c.take_set-left.ensures.keys c.take_set-received.ensures.keys

pub put_set-requires-2-clause-free : goal.put_set-requires-2-clause-free
put_set-requires-2-clause-free c =
    let K = c.args.table.now.keys in
    let v = put_as false c.pass-result.new.source.members in
    free_destination K c.reserve.new.self.keys c.take_set-left.new.table.keys c.take_set-received.new.table.keys c.put_set.new.table.keys K c.args.source c.args.destination v None c.requires.apart c.take_set-received.ensures.keys c.put_set.ensures.keys

pub returns-clause-ok : goal.returns-clause-ok
returns-clause-ok c =
    let K = c.args.table.now.keys in
    let Kr = c.reserve.new.self.keys in
    let K1 = c.take_set-left.new.table.keys in
    let s = c.args.source in
    let d = c.args.destination in
    let there = c.has-there.result in
    let xs = c.take_set-left.result.members in
    let ys = c.take_set-received.result.members in
    let left = c.pass-result.new.source.members in
    let now = c.pass-result.new.destination.members in
    let at_s = sym (ap (λ k. members_of (held k s)) c.reserve.ensures.keys) ∙ c.take_set-left.ensures.set in
    let at_d = sym (ap members_of (stays K Kr K1 K K K s d None None c.requires.apart c.reserve.ensures.keys c.take_set-left.ensures.keys)) ∙ c.take_set-received.ensures.set in
    let put = put_both K Kr K1 c.take_set-received.new.table.keys c.put_set.new.table.keys c.put_set-2.new.table.keys s d (put_as false left) (put_as there now) c.requires.apart
    c.reserve.ensures.keys c.take_set-left.ensures.keys c.take_set-received.ensures.keys c.put_set.ensures.keys c.put_set-2.ensures.keys in
    on_ok_weaker c.pass-result.result
    (λ (p : Joins c.args.member xs left ys now c.pass-result.new.reply).
    joins s d c.args.member K c.put_set-2.new.table.keys there xs left ys now c.pass-result.new.reply c.requires.apart c.requires.has at_s at_d put p)
    c.pass-result.ensures.ok

pub returns-clause-keys : goal.returns-clause-keys
returns-clause-keys c =
    let K = c.args.table.now.keys in
    let Kr = c.reserve.new.self.keys in
    let K1 = c.take_set-left.new.table.keys in
    let s = c.args.source in
    let d = c.args.destination in
    let there = c.has-there.result in
    let xs = c.take_set-left.result.members in
    let ys = c.take_set-received.result.members in
    let left = c.pass-result.new.source.members in
    let now = c.pass-result.new.destination.members in
    let at_s = sym (ap (λ k. members_of (held k s)) c.reserve.ensures.keys) ∙ c.take_set-left.ensures.set in
    let at_d = sym (ap members_of (stays K Kr K1 K K K s d None None c.requires.apart c.reserve.ensures.keys c.take_set-left.ensures.keys)) ∙ c.take_set-received.ensures.set in
    let is_there = c.has-there.ensures ∙ ap (λ k. is_some (held k d)) c.reserve.ensures.keys in
    let put = put_both K Kr K1 c.take_set-received.new.table.keys c.put_set.new.table.keys c.put_set-2.new.table.keys s d (put_as false left) (put_as there now) c.requires.apart
    c.reserve.ensures.keys c.take_set-left.ensures.keys c.take_set-received.ensures.keys c.put_set.ensures.keys c.put_set-2.ensures.keys in
    on_err_weaker c.pass-result.result
    (λ (kept : (left ≡ xs) × (now ≡ ys)).
    both_back K c.put_set-2.new.table.keys s d (put_as false left) (put_as there now) put
    (has_before (held K s) c.args.member xs c.requires.has at_s ∙ ap (put_as false) (sym kept.0))
    (as_before (held K d) there ys at_d is_there ∙ ap (put_as there) (sym kept.1)))
    c.pass-result.ensures.kept
