-- Commands of several keys on one table: arrays that are written reply after reply, and keys that go one after another.
use Rattle.std.proofs.Common.{◌≡◌, ℕ, ◌≤◌, true, false, List, ◌++◌, drop, length, map, codes, decimal, refl, sym, ap, subst, ◌∙◌, arith}
use Rattle.std.specs.Prelude.{Option, Some, None, is_some, Result, OnOk}
use Rattle.std.proofs.lemmas.Result.{on_ok_weaker}
use Rattle.std.specs.List.{flat_map}
use Rattle.std.specs.FinMap as fin
use Rattle.std.proofs.lemmas.List.{length-map, drop_all}
use Rattle.df_model.specs.Values.{Bytes, Value}
use Rattle.df_model.specs.Keyspace.{Keyspace, held}
use Rattle.df_model.specs.Access.{Meaning, does}
use Rattle.df_model.specs.Meaning.{many}
use Rattle.df_model.specs.declared.bin.NoMemory.{NoMemory}
use Rattle.df_model.specs.declared.command.ManyOp.{ManyOp}
use Rattle.df_model.specs.Outcomes.{array, count}
use Rattle.df_model.specs.Meaning.Any as any
use Rattle.df_model.specs.Replies.{crlf, encoding_of}
use Rattle.df_model.specs.declared.reply.Reply.{Reply}
use Rattle.df_model.proofs.EncodingLaws.{array_is}
use Rattle.df_model.proofs.WholeLaws.{len_without}
use Rattle.df_table.specs.Responses.{Gives}

-- the line before an array, and what is still to be written behind it
pub array_begun : {X : Type 0} (reply : X → Reply) (xs : List X) (new : Bytes) → new ≡ (codes "*" ++ decimal (length xs) ++ crlf) → new ++ flat_map encoding_of (map reply xs) ≡ encoding_of (array (map reply xs))
array_begun reply xs new begun =
    ap (λ x. x ++ flat_map encoding_of (map reply xs)) begun
    ∙ ap (λ n. codes "*" ++ decimal n ++ crlf ++ flat_map encoding_of (map reply xs)) (sym (length-map xs reply))
    ∙ sym (array_is (map reply xs))

-- keys that went one after another left no more than there were
pub fewer : (n : ℕ) (ws : List Bytes) (K L : Keyspace) → length ws ≤ n → any.without_keys (drop n ws) L ≡ any.without_keys ws K → fin.len L ≤ fin.len K
fewer n ws K L all e = omega (arith, len_without ws K, ap fin.len (sym (ap (λ l. any.without_keys l L) (drop_all n ws all)) ∙ e))

-- RENAMENX moves where the source is there and the destination isn't
pub unless_moves : (s d : Bytes) (v there : Option Value) (K : Keyspace) → is_some v ≡ true → is_some there ≡ false → any.moved_unless s d v there K ≡ any.moved s d (count 1) v K
unless_moves s d None there K e f = cc
unless_moves s d (Some v) None K e f = refl
unless_moves s d (Some v) (Some other) K e f = cc

moved_reply : (s d : Bytes) (reply : Reply) (v : Option Value) (K : Keyspace) → is_some v ≡ true → (any.moved s d reply v K).0 ≡ reply
moved_reply s d reply None K e = cc
moved_reply s d reply (Some v) K e = refl

pub renamed_unless : (s d : Bytes) (K middle after : Keyspace) (bytes : Bytes) → is_some (held K s) ≡ true → is_some (held K d) ≡ false → middle ≡ K
    → after ≡ (any.moved s d (count 1) (held middle s) middle).1 → bytes ≡ encoding_of (count 1) → Gives (any.renamenx s d K) after bytes
renamed_unless s d K middle after bytes there free same left added =
    subst (λ m. Gives m after bytes) (sym (unless_moves s d (held K s) (held K d) K there free))
    (record {
      leaves = left ∙ ap (λ k. (any.moved s d (count 1) (held k s) k).1) same;
      says = added ∙ ap (λ r. encoding_of r) (sym (moved_reply s d (count 1) (held K s) K there));
    })

-- a command of several keys whose row ran on the whole keyspace
pub ran_whole : (r : Result (Unit {0}) NoMemory) (op named : ManyOp) (K after : Keyspace) (bytes : Bytes) (m : Meaning) → op ≡ named → does (many named) K ≡ m → OnOk r (Gives m after bytes) → OnOk r (Gives (does (many op) K) after bytes)
ran_whole r op named K after bytes m is law g =
    subst (λ o. OnOk r (Gives (does (many o) K) after bytes)) (sym is)
    (on_ok_weaker r (λ (g : Gives m after bytes). subst (λ x. Gives x after bytes) (sym law) g) g)

-- and one that only looked
pub looked_whole : (r : Result (Unit {0}) NoMemory) (op named : ManyOp) (K : Keyspace) (bytes : Bytes) (reply : Reply) → op ≡ named → does (many named) K ≡ (reply, K) → OnOk r (bytes ≡ encoding_of reply) → OnOk r (Gives (does (many op) K) K bytes)
looked_whole r op named K bytes reply is law added =
    ran_whole r op named K K bytes (reply, K) is law (on_ok_weaker r (λ (e : bytes ≡ encoding_of reply). record { leaves = refl; says = e }) added)
