-- Every command, and every outcome of a call, keeps the limits of the keyspace.
use Rattle.std.proofs.Common.{Bool, true, false, List, [], ◌∷◌, sym, ap, subst}
use Rattle.std.specs.Prelude.{pos, negsuc}
use Rattle.std.specs.List.{AllByRecursion}
use Rattle.df_model.specs.Keyspace.{Keyspace}
use Rattle.df_model.specs.Framing.{IsWord}
use Rattle.df_model.specs.Access.{Meaning, on_key}
use Rattle.df_model.specs.Meaning.{one, many, whole, meaning}
use Rattle.df_model.specs.Meaning.Strings as strings
use Rattle.df_model.specs.Meaning.Lists as lists
use Rattle.df_model.specs.Meaning.Hashes as hashes
use Rattle.df_model.specs.Meaning.Sets as sets
use Rattle.df_model.specs.Calls.{HasWords, MayQueue, one_words, many_words, Runs, Does, DoesAll}
use Rattle.df_model.specs.declared.command.OneOp.{OneOp}
use Rattle.df_model.specs.declared.command.OneOp.TheVariants as ones
use Rattle.df_model.specs.declared.command.ManyOp.{ManyOp}
use Rattle.df_model.specs.declared.command.ManyOp.TheVariants as manies
use Rattle.df_model.specs.declared.command.WholeOp.{WholeOp}
use Rattle.df_model.specs.declared.command.WholeOp.TheVariants as wholes
use Rattle.df_model.specs.declared.command.Side.TheVariants.{Left, Right}
use Rattle.df_model.specs.declared.command.Command.{Command}
use Rattle.df_model.specs.declared.command.Command.TheVariants.{Plain, One, Many, Whole, Wrong}
use Rattle.df_model.specs.declared.command.Call.TheVariants.{Single, Exec}
use Rattle.df_model.specs.declared.reply.Reply.{Reply}
use Rattle.df_limits.specs.Limits.{KeepsLimits}
use Rattle.df_limits.specs.Laws.{CommandsKeepLimits, CallsKeepLimits, NoKeysKeepLimits}
use Rattle.df_limits.proofs.EachLaws.{each_of_none}
use Rattle.df_limits.proofs.RowLaws.{KeyIsWithin, RowWithin, RowKeeps, does_keeps, on_key_keeps}
use Rattle.df_limits.proofs.StringRows.{on_string, set_within, setnx_within, append_within, setrange_within, incrby_within, decrby_within}
use Rattle.df_limits.proofs.ListRows.{on_list, lpush_within, rpush_within, lpushx_within, rpushx_within, lpop_within, rpop_within, lset_within, linsert_within, lrem_within, ltrim_within}
use Rattle.df_limits.proofs.HashRows.{on_hash, hset_within, hmset_within, hsetnx_within, hdel_within, hincrby_within}
use Rattle.df_limits.proofs.SetRows.{on_set, sadd_within, srem_within, unions_within, inters_within, diffs_within}
use Rattle.df_limits.proofs.KeyRows.{without_keys_keeps, with_strings_keeps, msetnx_keeps, rename_keeps, renamenx_keeps, lmove_keeps, smove_keeps, store_keeps}

pub no_keys_keep : NoKeysKeepLimits
no_keys_keep = each_of_none KeyIsWithin

-- ---- commands of one key, a row each where it may write

one_within : (op : OneOp) → AllByRecursion IsWord (one_words op) → RowWithin (one op)
one_within (ones.Set bytes guard) all = set_within bytes guard all.0
one_within (ones.Setnx bytes) all = setnx_within bytes all.0
one_within (ones.Getset bytes) all = on_string (strings.getset bytes) (λ old h. all.0)
one_within ones.Getdel all = on_string strings.getdel (λ old h. tt)
one_within (ones.Append bytes) all = on_string (strings.append bytes) (append_within bytes)
one_within (ones.Setrange at bytes) all = on_string (strings.setrange at bytes) (setrange_within at bytes)
one_within ones.Incr all = on_string strings.incr (incrby_within (pos 1))
one_within ones.Decr all = on_string strings.decr (incrby_within (negsuc 0))
one_within (ones.Incrby n) all = on_string (strings.incrby n) (incrby_within n)
one_within (ones.Decrby n) all = on_string (strings.decrby n) (decrby_within n)
one_within (ones.Lpush words) all = on_list (lists.lpush words.items) (lpush_within words.items all)
one_within (ones.Rpush words) all = on_list (lists.rpush words.items) (rpush_within words.items all)
one_within (ones.Lpushx words) all = on_list (lists.lpushx words.items) (lpushx_within words.items all)
one_within (ones.Rpushx words) all = on_list (lists.rpushx words.items) (rpushx_within words.items all)
one_within (ones.Lpop n) all = on_list (lists.lpop n) (lpop_within n)
one_within (ones.Rpop n) all = on_list (lists.rpop n) (rpop_within n)
one_within (ones.Lset i bytes) all = on_list (lists.lset i bytes) (lset_within i bytes all.0)
one_within (ones.Linsert beside pivot bytes) all = on_list (lists.linsert beside pivot bytes) (linsert_within beside pivot bytes all.1.0)
one_within (ones.Lrem n bytes) all = on_list (lists.lrem n bytes) (lrem_within n bytes)
one_within (ones.Ltrim from to) all = on_list (lists.ltrim from to) (ltrim_within from to)
one_within (ones.Hset pairs) all = on_hash (hashes.hset pairs.items) (hset_within pairs.items all)
one_within (ones.Hmset pairs) all = on_hash (hashes.hmset pairs.items) (hmset_within pairs.items all)
one_within (ones.Hsetnx field bytes) all = on_hash (hashes.hsetnx field bytes) (hsetnx_within field bytes all.0 all.1.0)
one_within (ones.Hdel words) all = on_hash (hashes.hdel words.items) (hdel_within words.items)
one_within (ones.Hincrby field n) all = on_hash (hashes.hincrby field n) (hincrby_within field n all.0)
one_within (ones.Sadd words) all = on_set (sets.sadd words.items) (sadd_within words.items all)
one_within (ones.Srem words) all = on_set (sets.srem words.items) (srem_within words.items)
one_within op all = tt

-- ---- commands of several keys

many_keeps : (op : ManyOp) → AllByRecursion IsWord (many_words op) → RowKeeps (many op).row
many_keeps (manies.Del words) all = without_keys_keeps words.items
many_keeps (manies.Unlink words) all = without_keys_keeps words.items
many_keeps (manies.Mset pairs) all = with_strings_keeps pairs.items all
many_keeps (manies.Msetnx pairs) all = msetnx_keeps pairs.items all
many_keeps (manies.Rename s d) all = rename_keeps s d all.1.0
many_keeps (manies.Renamenx s d) all = renamenx_keeps s d all.1.0
many_keeps (manies.Lmove s d from to) all = lmove_keeps s d from to all.0 all.1.0
many_keeps (manies.Rpoplpush s d) all = lmove_keeps s d Right Left all.0 all.1.0
many_keeps (manies.Smove s d member) all = smove_keeps s d member all.0 all.1.0 all.1.1.0
many_keeps (manies.Sinterstore d words) all = store_keeps sets.inter d words.items inters_within all.0
many_keeps (manies.Sunionstore d words) all = store_keeps sets.union d words.items unions_within all.0
many_keeps (manies.Sdiffstore d words) all = store_keeps sets.diff d words.items diffs_within all.0
many_keeps op all = λ K keeps. keeps

-- ---- all commands

whole_keeps : (op : WholeOp) (K : Keyspace) → KeepsLimits K → KeepsLimits (whole op K).1
whole_keeps wholes.Dbsize K keeps = keeps
whole_keeps (wholes.Keys pattern) K keeps = keeps
whole_keeps wholes.Flushall K keeps = no_keys_keep
whole_keeps wholes.Flushdb K keeps = no_keys_keep
whole_keeps wholes.Save K keeps = keeps

pub commands_keep : CommandsKeepLimits
commands_keep (Plain op) K has keeps = keeps
commands_keep (One key op) K has keeps = does_keeps (on_key key (one op)) (on_key_keeps key (one op) has.0 (one_within op has.1)) K keeps
commands_keep (Many op) K has keeps = does_keeps (many op) (many_keeps op has) K keeps
commands_keep (Whole op) K has keeps = whole_keeps op K keeps
commands_keep (Wrong error) K has keeps = keeps

-- ---- calls

runs_keeps : (kept : Bool) (meant : Meaning) (K : Keyspace) (reply : Reply) (after : Keyspace) → Runs kept meant K reply after → KeepsLimits meant.1 → KeepsLimits K → KeepsLimits after
runs_keeps true meant K reply after runs left keeps = subst KeepsLimits (ap (λ m. m.1) runs) left
runs_keeps false meant K reply after runs left keeps = subst KeepsLimits (sym runs.0) keeps

command_keeps : (command : Command) (kept : Bool) (K : Keyspace) (reply : Reply) (after : Keyspace) → HasWords command → Does command kept K reply after → KeepsLimits K → KeepsLimits after
command_keeps (Plain op) kept K reply after has does keeps = runs_keeps kept (meaning (Plain op) K) K reply after does keeps keeps
command_keeps (One key op) kept K reply after has does keeps = runs_keeps kept (meaning (One key op) K) K reply after does (commands_keep (One key op) K has keeps) keeps
command_keeps (Many op) kept K reply after has does keeps = runs_keeps kept (meaning (Many op) K) K reply after does (commands_keep (Many op) K has keeps) keeps
command_keeps (Whole wholes.Save) kept K reply after has does keeps = subst KeepsLimits (sym does.0) keeps
command_keeps (Whole wholes.Dbsize) kept K reply after has does keeps = runs_keeps kept (meaning (Whole wholes.Dbsize) K) K reply after does keeps keeps
command_keeps (Whole (wholes.Keys pattern)) kept K reply after has does keeps = runs_keeps kept (meaning (Whole (wholes.Keys pattern)) K) K reply after does keeps keeps
command_keeps (Whole wholes.Flushall) kept K reply after has does keeps = runs_keeps kept (meaning (Whole wholes.Flushall) K) K reply after does no_keys_keep keeps
command_keeps (Whole wholes.Flushdb) kept K reply after has does keeps = runs_keeps kept (meaning (Whole wholes.Flushdb) K) K reply after does no_keys_keep keeps
command_keeps (Wrong error) kept K reply after has does keeps = runs_keeps kept (meaning (Wrong error) K) K reply after does keeps keeps

all_keep : (commands : List Command) (marks : List Bool) (K : Keyspace) (replies : List Reply) (after : Keyspace) → AllByRecursion HasWords commands → DoesAll commands marks K replies after → KeepsLimits K → KeepsLimits after
all_keep [] [] K [] after has does keeps = subst KeepsLimits (sym does) keeps
all_keep (command ∷ commands) (kept ∷ marks) K (reply ∷ replies) after has does keeps =
    all_keep commands marks does.0 replies after has.1 does.2 (command_keeps command kept K reply does.0 has.0 does.1 keeps)
all_keep [] (kept ∷ marks) K replies after has does keeps = absurd does
all_keep [] [] K (reply ∷ replies) after has does keeps = absurd does
all_keep (command ∷ commands) [] K replies after has does keeps = absurd does
all_keep (command ∷ commands) (kept ∷ marks) K [] after has does keeps = absurd does

queued_have : (commands : List Command) → AllByRecursion MayQueue commands → AllByRecursion HasWords commands
queued_have [] all = tt
queued_have (command ∷ commands) all = (all.0.0, queued_have commands all.1)

pub calls_keep : CallsKeepLimits
calls_keep (Single command) marks K reply after has allowed keeps = all_keep (command ∷ []) marks K (reply ∷ []) after (has, tt) allowed keeps
calls_keep (Exec commands) marks K reply after is_call allowed keeps = all_keep commands.items marks K allowed.0 after (queued_have commands.items is_call.1) allowed.2 keeps
