-- The tables compute: what some requests spell, mean and are answered with, from the Redis command pages.
use Rattle.std.proofs.Common.{◌≡◌, [], ◌∷◌, ◌++◌, refl, codes}
use Rattle.std.specs.Prelude.{Some, None, pos, negsuc, false}
use Rattle.df_model.specs.Values.{Value}
use Rattle.df_model.specs.Reads.{reads, Reading}
use Rattle.df_model.specs.Outcomes.{Change, bulks}
use Rattle.df_model.specs.Meaning.Strings as strings
use Rattle.df_model.specs.Meaning.Lists as lists
use Rattle.df_model.specs.Replies.{encoding_step}
use Rattle.df_model.specs.Session.{State, Given, session_step}
use Rattle.df_model.specs.Hash.{shard_of}
use Rattle.df_model.specs.declared.command.PlainOp.TheVariants.{Ping}
use Rattle.df_model.specs.declared.command.OneOp.TheVariants.{Get, Set, Lrange}
use Rattle.df_model.specs.declared.command.Guard.TheVariants.{Always, Nx}
use Rattle.df_model.specs.declared.command.WholeOp.TheVariants.{Flushdb}
use Rattle.df_model.specs.declared.command.Command.TheVariants.{Plain, One, Whole, Wrong}
use Rattle.df_model.specs.declared.command.Call.TheVariants as calls
use Rattle.df_model.specs.declared.reply.ErrorText.TheVariants as errors
use Rattle.df_model.specs.declared.reply.Reply.TheOpen.{Reply-F}
use Rattle.df_model.specs.declared.reply.Reply.TheVariants.{Simple, Error, Int, Bulk, NullBulk}

-- ---- words

ping_in_any_case : reads (codes "piNg" ∷ []) ≡ Reading.Runs (Plain (Ping None))
ping_in_any_case = refl

ping_with_a_message : reads (codes "PING" ∷ codes "hi" ∷ []) ≡ Reading.Runs (Plain (Ping (Some (codes "hi"))))
ping_with_a_message = refl

ping_with_two : reads (codes "PING" ∷ codes "a" ∷ codes "b" ∷ []) ≡ Reading.Arity (codes "ping")
ping_with_two = refl

set_reads : reads (codes "Set" ∷ codes "a" ∷ codes "1" ∷ []) ≡ Reading.Runs (One (codes "a") (Set (codes "1") Always))
set_reads = refl

set_with_options : reads (codes "SET" ∷ codes "k" ∷ codes "v" ∷ codes "nX" ∷ codes "nx" ∷ []) ≡ Reading.Runs (One (codes "k") (Set (codes "v") Nx))
set_with_options = refl

set_with_both_options : reads (codes "SET" ∷ codes "k" ∷ codes "v" ∷ codes "NX" ∷ codes "XX" ∷ []) ≡ Reading.Runs (Wrong errors.Syntax)
set_with_both_options = refl

set_with_another_option : reads (codes "SET" ∷ codes "k" ∷ codes "v" ∷ codes "EX" ∷ codes "9" ∷ []) ≡ Reading.Runs (Wrong errors.Syntax)
set_with_another_option = refl

numbers_are_signed : reads (codes "lrange" ∷ codes "k" ∷ codes "0" ∷ codes "-17" ∷ []) ≡ Reading.Runs (One (codes "k") (Lrange (pos 0) (negsuc 16)))
numbers_are_signed = refl

a_leading_zero_is_no_number : reads (codes "lrange" ∷ codes "k" ∷ codes "0" ∷ codes "01" ∷ []) ≡ Reading.Runs (Wrong errors.NotInteger)
a_leading_zero_is_no_number = refl

a_pair_too_short : reads (codes "MSET" ∷ codes "a" ∷ codes "1" ∷ codes "b" ∷ []) ≡ Reading.Runs (Wrong (errors.Arity (codes "mset")))
a_pair_too_short = refl

the_last_row : reads (codes "FLUSHDB" ∷ codes "ASYNC" ∷ []) ≡ Reading.Runs (Whole Flushdb)
the_last_row = refl

get_with_no_key : reads (codes "GET" ∷ []) ≡ Reading.Arity (codes "get")
get_with_no_key = refl

unknown_before_the_count : reads (codes "NOPE" ∷ codes "a" ∷ []) ≡ Reading.Unknown
unknown_before_the_count = refl

-- ---- meaning: a row, from what the key holds

get_of_a_missing_key : strings.get None ≡ NullBulk
get_of_a_missing_key = refl

get_of_an_empty_value : strings.looks strings.get (Some (Value.Str [])) ≡ Bulk []
get_of_an_empty_value = refl

get_of_another_kind : strings.looks strings.get (Some (Value.Elements (codes "p" ∷ []))) ≡ Error errors.WrongKind
get_of_another_kind = refl

set_replaces_another_kind : strings.set (codes "1") Always (Some (Value.Elements (codes "p" ∷ []))) ≡ (Simple (codes "OK"), Change.Put (Value.Str (codes "1")))
set_replaces_another_kind = refl

append_to_nothing : strings.changes (strings.append []) None ≡ (Int (pos 0), Change.Put (Value.Str []))
append_to_nothing = refl

setrange_of_nothing : strings.changes (strings.setrange (pos 5) []) None ≡ (Int (pos 0), Change.Keep)
setrange_of_nothing = refl

setrange_fills_with_zeros : strings.changes (strings.setrange (pos 2) (codes "x")) None ≡ (Int (pos 3), Change.Put (Value.Str (0 ∷ 0 ∷ 120 ∷ [])))
setrange_fills_with_zeros = refl

setrange_inside : strings.changes (strings.setrange (pos 1) (codes "XY")) (Some (Value.Str (codes "abcd"))) ≡ (Int (pos 4), Change.Put (Value.Str (codes "aXYd")))
setrange_inside = refl

incr_at_the_greatest : strings.changes strings.incr (Some (Value.Str (codes "9223372036854775807"))) ≡ (Error errors.Overflow, Change.Keep)
incr_at_the_greatest = refl

incr_of_a_text : strings.changes strings.incr (Some (Value.Str (codes "v"))) ≡ (Error errors.NotInteger, Change.Keep)
incr_of_a_text = refl

getrange_from_the_end : strings.looks (strings.getrange (negsuc 1) (pos 9)) (Some (Value.Str (codes "abc"))) ≡ Bulk (codes "bc")
getrange_from_the_end = refl

lpush_puts_the_newest_first : lists.changes (lists.lpush (codes "a" ∷ codes "b" ∷ [])) None ≡ (Int (pos 2), Change.Put (Value.Elements (codes "b" ∷ codes "a" ∷ [])))
lpush_puts_the_newest_first = refl

lpush_of_another_kind : lists.changes (lists.lpush (codes "x" ∷ [])) (Some (Value.Str (codes "v"))) ≡ (Error errors.WrongKind, Change.Keep)
lpush_of_another_kind = refl

lrange_of_the_last_two : lists.looks (lists.lrange (negsuc 1) (pos 9)) (Some (Value.Elements (codes "a" ∷ codes "b" ∷ codes "c" ∷ []))) ≡ bulks (codes "b" ∷ codes "c" ∷ [])
lrange_of_the_last_two = refl

lpop_of_all_removes_the_key : lists.changes (lists.lpop (Some (pos 5))) (Some (Value.Elements (codes "a" ∷ codes "b" ∷ []))) ≡ (bulks (codes "a" ∷ codes "b" ∷ []), Change.Delete)
lpop_of_all_removes_the_key = refl

rpop_takes_the_last : lists.changes (lists.rpop None) (Some (Value.Elements (codes "a" ∷ codes "b" ∷ []))) ≡ (Bulk (codes "b"), Change.Put (Value.Elements (codes "a" ∷ [])))
rpop_takes_the_last = refl

lrem_from_the_end : lists.changes (lists.lrem (negsuc 0) (codes "a")) (Some (Value.Elements (codes "a" ∷ codes "b" ∷ codes "a" ∷ []))) ≡ (Int (pos 1), Change.Put (Value.Elements (codes "a" ∷ codes "b" ∷ [])))
lrem_from_the_end = refl

-- ---- replies: one layer of a reply

ok_bytes : encoding_step (Reply-F.Simple (codes "OK")) ≡ 43 ∷ 79 ∷ 75 ∷ 13 ∷ 10 ∷ []
ok_bytes = refl

null_bytes : encoding_step Reply-F.NullBulk ≡ codes "$-1" ++ 13 ∷ 10 ∷ []
null_bytes = refl

arity_bytes : encoding_step (Reply-F.Error (errors.Arity (codes "get"))) ≡ codes "-ERR wrong number of arguments for 'get' command" ++ 13 ∷ 10 ∷ []
arity_bytes = refl

-- ---- the session machine

ping_is_answered_at_once : session_step State.Ready (codes "PING" ∷ []) ≡ (Given.Replies (Simple (codes "PONG")), State.Ready)
ping_is_answered_at_once = refl

get_is_a_call : session_step State.Ready (codes "GET" ∷ codes "a" ∷ []) ≡ (Given.Calls (calls.Single (One (codes "a") Get)), State.Ready)
get_is_a_call = refl

a_command_is_queued : session_step (State.Queueing [] false) (codes "GET" ∷ codes "a" ∷ []) ≡ (Given.Replies (Simple (codes "QUEUED")), State.Queueing (One (codes "a") Get ∷ []) false)
a_command_is_queued = refl

quit_parts : session_step State.Ready (codes "Quit" ∷ codes "now" ∷ []) ≡ (Given.Parts (Simple (codes "OK")), State.Ready)
quit_parts = refl

shutdown_leaves : session_step State.Ready (codes "SHUTDOWN" ∷ codes "nosave" ∷ []) ≡ (Given.Leaves, State.Ready)
shutdown_leaves = refl

shutdown_with_another_word : session_step State.Ready (codes "SHUTDOWN" ∷ codes "SAVE" ∷ []) ≡ (Given.Replies (Error errors.Syntax), State.Ready)
shutdown_with_another_word = refl

shutdown_with_two_words : session_step State.Ready (codes "shutdown" ∷ codes "a" ∷ codes "b" ∷ []) ≡ (Given.Replies (Error (errors.Arity (codes "shutdown"))), State.Ready)
shutdown_with_two_words = refl

save_is_unknown_so_far : session_step State.Ready (codes "SAVE" ∷ []) ≡ (Given.Replies (Error errors.Unknown), State.Ready)
save_is_unknown_so_far = refl

save_with_a_word_is_unknown_too : session_step State.Ready (codes "SAVE" ∷ codes "now" ∷ []) ≡ (Given.Replies (Error errors.Unknown), State.Ready)
save_with_a_word_is_unknown_too = refl

-- ---- shards: with four of them a stands on 0, b on 1, c on 2, d and x on 3, y on 0, z on 1

shard_of_a : shard_of (codes "a") 4 ≡ 0
shard_of_a = refl

shard_of_b : shard_of (codes "b") 4 ≡ 1
shard_of_b = refl

shard_of_c : shard_of (codes "c") 4 ≡ 2
shard_of_c = refl

shard_of_d : shard_of (codes "d") 4 ≡ 3
shard_of_d = refl

shard_of_x : shard_of (codes "x") 4 ≡ 3
shard_of_x = refl

shard_of_y : shard_of (codes "y") 4 ≡ 0
shard_of_y = refl

shard_of_z : shard_of (codes "z") 4 ≡ 1
shard_of_z = refl
