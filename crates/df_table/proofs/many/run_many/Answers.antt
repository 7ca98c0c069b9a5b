use Rattle.std.proofs.Common.{◌≡◌, subst}
use Rattle.std.specs.Prelude.{OnOk, Ok}
use Rattle.df_model.specs.Meaning.Any as any
use Rattle.df_model.specs.Meaning.Strings as strings
use Rattle.df_model.specs.Meaning.Lists as lists
use Rattle.df_model.specs.Meaning.Sets as sets
use Rattle.df_model.specs.Replies.{encoding_of}
use Rattle.df_model.specs.declared.command.ManyOp.TheVariants.{Del, Unlink, Exists, Mget, Mset, Msetnx, Rename, Renamenx, Lmove, Rpoplpush, Smove, Sinter, Sunion, Sdiff, Sinterstore, Sunionstore, Sdiffstore}
use Rattle.df_model.proofs.WholeLaws.{del_whole, exists_whole, mget_whole, mset_whole, msetnx_whole, rename_whole, renamenx_whole}
use Rattle.df_model.proofs.MoveLaws.{lmove_whole, rpoplpush_whole, smove_whole}
use Rattle.df_model.proofs.StoreLaws.{combined_whole, store_whole}
use Rattle.df_table.specs.Responses.{Gives}
use Rattle.df_table.proofs.SeveralLaws.{ran_whole, looked_whole}
use Rattle.df_table.proofs.many.run_many.Goals as goal

pub returns-in-Del-clause-ok : goal.returns-in-Del-clause-ok
returns-in-Del-clause-ok c =
    let K = c.args.table.now.keys in
    let call = c.del in
    let ws = c.in-Del.words.items in
    ran_whole (Ok tt) c.args.op (Del c.in-Del.words) K call.new.table.keys call.new.reply (any.del ws K) c.in-Del.is (del_whole ws K)
    (subst (λ l. Gives (any.del l K) call.new.table.keys call.new.reply) c.as_slice.ensures call.ensures.gives)

pub returns-in-Unlink-clause-ok : goal.returns-in-Unlink-clause-ok
returns-in-Unlink-clause-ok c =
    let K = c.args.table.now.keys in
    let call = c.del-in-Unlink in
    let ws = c.in-Unlink.words.items in
    ran_whole (Ok tt) c.args.op (Unlink c.in-Unlink.words) K call.new.table.keys call.new.reply (any.del ws K) c.in-Unlink.is (del_whole ws K)
    (subst (λ l. Gives (any.del l K) call.new.table.keys call.new.reply) c.as_slice-in-Unlink.ensures call.ensures.gives)

pub returns-in-Exists-clause-ok : goal.returns-in-Exists-clause-ok
returns-in-Exists-clause-ok c =
    let K = c.args.table.now.keys in
    let ws = c.in-Exists.words.items in
    looked_whole c.exists.result c.args.op (Exists c.in-Exists.words) K c.exists.new.reply (any.exists ws K) c.in-Exists.is (exists_whole ws K)
    (subst (λ l. OnOk c.exists.result (c.exists.new.reply ≡ encoding_of (any.exists l K))) c.as_slice-in-Exists.ensures c.exists.ensures)

pub returns-in-Mget-clause-ok : goal.returns-in-Mget-clause-ok
returns-in-Mget-clause-ok c =
    let K = c.args.table.now.keys in
    let ws = c.in-Mget.words.items in
    looked_whole c.mget.result c.args.op (Mget c.in-Mget.words) K c.mget.new.reply (strings.mget ws K) c.in-Mget.is (mget_whole ws K)
    (subst (λ l. OnOk c.mget.result (c.mget.new.reply ≡ encoding_of (strings.mget l K))) c.as_slice-in-Mget.ensures c.mget.ensures)

pub returns-in-Mset-clause-ok : goal.returns-in-Mset-clause-ok
returns-in-Mset-clause-ok c =
    let K = c.args.table.now.keys in
    let ps = c.in-Mset.pairs.items in
    ran_whole c.mset.result c.args.op (Mset c.in-Mset.pairs) K c.mset.new.table.keys c.mset.new.reply (strings.mset ps K) c.in-Mset.is (mset_whole ps K) c.mset.ensures.ok

pub returns-in-Msetnx-clause-ok : goal.returns-in-Msetnx-clause-ok
returns-in-Msetnx-clause-ok c =
    let K = c.args.table.now.keys in
    let ps = c.in-Msetnx.pairs.items in
    ran_whole c.msetnx.result c.args.op (Msetnx c.in-Msetnx.pairs) K c.msetnx.new.table.keys c.msetnx.new.reply (strings.msetnx ps K) c.in-Msetnx.is (msetnx_whole ps K) c.msetnx.ensures.ok

pub returns-in-Rename-clause-ok : goal.returns-in-Rename-clause-ok
returns-in-Rename-clause-ok c =
    let K = c.args.table.now.keys in
    let s = c.in-Rename.source in
    let d = c.in-Rename.destination in
    ran_whole c.rename.result c.args.op (Rename s d) K c.rename.new.table.keys c.rename.new.reply (any.rename s d K) c.in-Rename.is (rename_whole s d K) c.rename.ensures.ok

pub returns-in-Renamenx-clause-ok : goal.returns-in-Renamenx-clause-ok
returns-in-Renamenx-clause-ok c =
    let K = c.args.table.now.keys in
    let s = c.in-Renamenx.source in
    let d = c.in-Renamenx.destination in
    ran_whole c.renamenx.result c.args.op (Renamenx s d) K c.renamenx.new.table.keys c.renamenx.new.reply (any.renamenx s d K) c.in-Renamenx.is (renamenx_whole s d K) c.renamenx.ensures.ok

pub returns-in-Lmove-clause-ok : goal.returns-in-Lmove-clause-ok
returns-in-Lmove-clause-ok c =
    let K = c.args.table.now.keys in
    let s = c.in-Lmove.source in
    let d = c.in-Lmove.destination in
    let from = c.in-Lmove.from in
    let to = c.in-Lmove.to in
    ran_whole c.lmove.result c.args.op (Lmove s d from to) K c.lmove.new.table.keys c.lmove.new.reply (lists.lmove s d from to K) c.in-Lmove.is (lmove_whole s d from to K) c.lmove.ensures.ok

pub returns-in-Rpoplpush-clause-ok : goal.returns-in-Rpoplpush-clause-ok
returns-in-Rpoplpush-clause-ok c =
    let K = c.args.table.now.keys in
    let s = c.in-Rpoplpush.source in
    let d = c.in-Rpoplpush.destination in
    ran_whole c.rpoplpush.result c.args.op (Rpoplpush s d) K c.rpoplpush.new.table.keys c.rpoplpush.new.reply (lists.rpoplpush s d K) c.in-Rpoplpush.is (rpoplpush_whole s d K) c.rpoplpush.ensures.ok

pub returns-in-Smove-clause-ok : goal.returns-in-Smove-clause-ok
returns-in-Smove-clause-ok c =
    let K = c.args.table.now.keys in
    let s = c.in-Smove.source in
    let d = c.in-Smove.destination in
    let m = c.in-Smove.member in
    ran_whole c.smove.result c.args.op (Smove s d m) K c.smove.new.table.keys c.smove.new.reply (sets.smove s d m K) c.in-Smove.is (smove_whole s d m K) c.smove.ensures.ok

pub returns-in-Sinter-clause-ok : goal.returns-in-Sinter-clause-ok
returns-in-Sinter-clause-ok c =
    let K = c.args.table.now.keys in
    let call = c.combine_keys in
    let ks = c.in-Sinter.keys.items in
    looked_whole call.result c.args.op (Sinter c.in-Sinter.keys) K call.new.reply (sets.combined sets.inter ks K) c.in-Sinter.is (combined_whole sets.inter ks K)
    (subst (λ l. OnOk call.result (call.new.reply ≡ encoding_of (sets.combined sets.inter l K))) c.as_slice-in-Sinter.ensures call.ensures)

pub returns-in-Sunion-clause-ok : goal.returns-in-Sunion-clause-ok
returns-in-Sunion-clause-ok c =
    let K = c.args.table.now.keys in
    let call = c.combine_keys-in-Sunion in
    let ks = c.in-Sunion.keys.items in
    looked_whole call.result c.args.op (Sunion c.in-Sunion.keys) K call.new.reply (sets.combined sets.union ks K) c.in-Sunion.is (combined_whole sets.union ks K)
    (subst (λ l. OnOk call.result (call.new.reply ≡ encoding_of (sets.combined sets.union l K))) c.as_slice-in-Sunion.ensures call.ensures)

pub returns-in-Sdiff-clause-ok : goal.returns-in-Sdiff-clause-ok
returns-in-Sdiff-clause-ok c =
    let K = c.args.table.now.keys in
    let call = c.combine_keys-in-Sdiff in
    let ks = c.in-Sdiff.keys.items in
    looked_whole call.result c.args.op (Sdiff c.in-Sdiff.keys) K call.new.reply (sets.combined sets.diff ks K) c.in-Sdiff.is (combined_whole sets.diff ks K)
    (subst (λ l. OnOk call.result (call.new.reply ≡ encoding_of (sets.combined sets.diff l K))) c.as_slice-in-Sdiff.ensures call.ensures)

pub returns-in-Sinterstore-clause-ok : goal.returns-in-Sinterstore-clause-ok
returns-in-Sinterstore-clause-ok c =
    let K = c.args.table.now.keys in
    let call = c.store_combined in
    let d = c.in-Sinterstore.destination in
    let ks = c.in-Sinterstore.keys.items in
    ran_whole call.result c.args.op (Sinterstore d c.in-Sinterstore.keys) K call.new.table.keys call.new.reply (sets.store sets.inter d ks K) c.in-Sinterstore.is (store_whole sets.inter d ks K)
    (subst (λ l. OnOk call.result (Gives (sets.store sets.inter d l K) call.new.table.keys call.new.reply)) c.as_slice-in-Sinterstore.ensures call.ensures.ok)

pub returns-in-Sunionstore-clause-ok : goal.returns-in-Sunionstore-clause-ok
returns-in-Sunionstore-clause-ok c =
    let K = c.args.table.now.keys in
    let call = c.store_combined-in-Sunionstore in
    let d = c.in-Sunionstore.destination in
    let ks = c.in-Sunionstore.keys.items in
    ran_whole call.result c.args.op (Sunionstore d c.in-Sunionstore.keys) K call.new.table.keys call.new.reply (sets.store sets.union d ks K) c.in-Sunionstore.is (store_whole sets.union d ks K)
    (subst (λ l. OnOk call.result (Gives (sets.store sets.union d l K) call.new.table.keys call.new.reply)) c.as_slice-in-Sunionstore.ensures call.ensures.ok)

pub returns-in-Sdiffstore-clause-ok : goal.returns-in-Sdiffstore-clause-ok
returns-in-Sdiffstore-clause-ok c =
    let K = c.args.table.now.keys in
    let call = c.store_combined-in-Sdiffstore in
    let d = c.in-Sdiffstore.destination in
    let ks = c.in-Sdiffstore.keys.items in
    ran_whole call.result c.args.op (Sdiffstore d c.in-Sdiffstore.keys) K call.new.table.keys call.new.reply (sets.store sets.diff d ks K) c.in-Sdiffstore.is (store_whole sets.diff d ks K)
    (subst (λ l. OnOk call.result (Gives (sets.store sets.diff d l K) call.new.table.keys call.new.reply)) c.as_slice-in-Sdiffstore.ensures call.ensures.ok)
