-- The rows of the command table make commands of the words that they are given: none of a command's words is longer.
use Rattle.std.proofs.Common.{◌≡◌, Bool, true, false, cond, List, [], ◌∷◌, ◌++◌, ap, subst}
use Rattle.std.specs.Prelude.{Option, Some, None, ℤ}
use Rattle.std.specs.List.{AllByRecursion}
use Rattle.df_model.specs.Values.{Bytes}
use Rattle.df_model.specs.Spared.{Spared, all_of}
use Rattle.df_model.specs.Numbers.{signed}
use Rattle.df_model.specs.Words.{Words, is_name}
use Rattle.df_model.specs.Reads.{Reading, reads, reads_by, rows, from_hashes, from_lists, from_sets, from_any, from_keyless, counted}
use Rattle.df_model.specs.Reads.Shapes.{Row, Shape, alone, ping, one_word, number, number_in, not_negative, database, select, flush, key, key_word, key_words, key_number, key_numbers, key_number_word, key_word_number, key_many, setrange, pop, set_by, guards, set, linsert_by, beside_of, linsert, lmove_by, side_of, lmove, with_pair, in_pairs, pairs_of, key_pairs, keys, key_keys, two_keys, two_keys_word, pairs}
use Rattle.df_model.specs.Reads.Keyless as keyless_rows
use Rattle.df_model.specs.Reads.Any as any_rows
use Rattle.df_model.specs.Reads.Strings as string_rows
use Rattle.df_model.specs.Reads.Lists as list_rows
use Rattle.df_model.specs.Reads.Hashes as hash_rows
use Rattle.df_model.specs.Reads.Sets as set_rows
use Rattle.df_model.specs.Framing.{IsWord}
use Rattle.df_model.specs.Calls.{HasWords, one_words, many_words, both_of}
use Rattle.df_model.specs.declared.command.PlainOp.TheVariants as plains
use Rattle.df_model.specs.declared.command.OneOp.{OneOp}
use Rattle.df_model.specs.declared.command.OneOp.TheVariants as ones
use Rattle.df_model.specs.declared.command.ManyOp.{ManyOp}
use Rattle.df_model.specs.declared.command.ManyOp.TheVariants as manies
use Rattle.df_model.specs.declared.command.WholeOp.{WholeOp}
use Rattle.df_model.specs.declared.command.WholeOp.TheVariants as wholes
use Rattle.df_model.specs.declared.command.Guard.{Guard}
use Rattle.df_model.specs.declared.command.Guard.TheVariants.{Always}
use Rattle.df_model.specs.declared.command.Beside.{Beside}
use Rattle.df_model.specs.declared.command.Side.{Side}
use Rattle.df_model.specs.declared.command.Command.{Command}
use Rattle.df_model.specs.declared.command.Command.TheVariants.{Plain, One, Many, Whole, Wrong}
use Rattle.df_model.specs.declared.reply.ErrorText.TheVariants as errors

abbrev All : Words → Type 0
All = AllByRecursion IsWord

abbrev KeepsWords : Shape → Type 0
KeepsWords shape = (words : Words) (command : Command) → All words → shape words ≡ Some command → HasWords command

some_injective : {A : Type 0} (x y : A) → Option.Some x ≡ Some y → x ≡ y
some_injective x y e = cc

-- the command that a shape makes
made : (made command : Command) → Option.Some made ≡ Some command → HasWords made → HasWords command
made x command e has = subst HasWords (some_injective x command e) has

-- ---- numbers and choices

chosen : (b : Bool) (x y : Command) → HasWords x → HasWords y → HasWords (cond b x y)
chosen true x y p q = p
chosen false x y p q = q

read_number : (o : Option ℤ) (to : ℤ → Command) → ((n : ℤ) → HasWords (to n)) → HasWords (number_in o to)
read_number None to h = tt
read_number (Some n) to h = h n

-- ---- no key

alone_keeps : (c : Command) → HasWords c → KeepsWords (alone c)
alone_keeps c has [] command all e = made c command e has
alone_keeps c has (a ∷ more) command all e = cc

ping_keeps : KeepsWords ping
ping_keeps [] command all e = made _ command e tt
ping_keeps (message ∷ []) command all e = made _ command e all
ping_keeps (a ∷ b ∷ more) command all e = cc

one_word_keeps : (to : Bytes → Command) → ((word : Bytes) → IsWord word → HasWords (to word)) → KeepsWords (one_word to)
one_word_keeps to h [] command all e = cc
one_word_keeps to h (word ∷ []) command all e = made (to word) command e (h word all.0)
one_word_keeps to h (a ∷ b ∷ more) command all e = cc

select_keeps : (word : Bytes) → HasWords (select word)
select_keeps word = read_number (signed word) database (λ n. chosen _ (Plain (plains.Select n)) (Wrong errors.DbIndex) tt tt)

flush_keeps : (op : WholeOp) → HasWords (Whole op) → KeepsWords (flush op)
flush_keeps op has [] command all e = made _ command e has
flush_keeps op has (word ∷ []) command all e = made _ command e (chosen _ (Whole op) (Wrong errors.Syntax) has tt)
flush_keeps op has (a ∷ b ∷ more) command all e = made _ command e tt

-- ---- one key

key_keeps : (op : OneOp) → All (one_words op) → KeepsWords (key op)
key_keeps op h [] command all e = cc
key_keeps op h (k ∷ []) command all e = made (One k op) command e (all.0, h)
key_keeps op h (k ∷ a ∷ more) command all e = cc

key_word_keeps : (op : Bytes → OneOp) → ((w : Bytes) → IsWord w → All (one_words (op w))) → KeepsWords (key_word op)
key_word_keeps op h [] command all e = cc
key_word_keeps op h (k ∷ []) command all e = cc
key_word_keeps op h (k ∷ word ∷ []) command all e = made (One k (op word)) command e (all.0, h word all.1.0)
key_word_keeps op h (k ∷ a ∷ b ∷ more) command all e = cc

key_words_keeps : (op : Bytes → Bytes → OneOp) → ((a b : Bytes) → IsWord a → IsWord b → All (one_words (op a b))) → KeepsWords (key_words op)
key_words_keeps op h [] command all e = cc
key_words_keeps op h (k ∷ []) command all e = cc
key_words_keeps op h (k ∷ a ∷ []) command all e = cc
key_words_keeps op h (k ∷ a ∷ b ∷ []) command all e = made (One k (op a b)) command e (all.0, h a b all.1.0 all.1.1.0)
key_words_keeps op h (k ∷ a ∷ b ∷ c ∷ more) command all e = cc

key_number_keeps : (op : ℤ → OneOp) → ((n : ℤ) → All (one_words (op n))) → KeepsWords (key_number op)
key_number_keeps op h [] command all e = cc
key_number_keeps op h (k ∷ []) command all e = cc
key_number_keeps op h (k ∷ word ∷ []) command all e = made _ command e (read_number (signed word) (λ n. One k (op n)) (λ n. (all.0, h n)))
key_number_keeps op h (k ∷ a ∷ b ∷ more) command all e = cc

key_numbers_keeps : (op : ℤ → ℤ → OneOp) → ((m n : ℤ) → All (one_words (op m n))) → KeepsWords (key_numbers op)
key_numbers_keeps op h [] command all e = cc
key_numbers_keeps op h (k ∷ []) command all e = cc
key_numbers_keeps op h (k ∷ a ∷ []) command all e = cc
key_numbers_keeps op h (k ∷ a ∷ b ∷ []) command all e =
    made _ command e (read_number (signed a) (λ m. number b (λ n. One k (op m n))) (λ m. read_number (signed b) (λ n. One k (op m n)) (λ n. (all.0, h m n))))
key_numbers_keeps op h (k ∷ a ∷ b ∷ c ∷ more) command all e = cc

key_number_word_keeps : (op : ℤ → Bytes → OneOp) → ((n : ℤ) (w : Bytes) → IsWord w → All (one_words (op n w))) → KeepsWords (key_number_word op)
key_number_word_keeps op h [] command all e = cc
key_number_word_keeps op h (k ∷ []) command all e = cc
key_number_word_keeps op h (k ∷ a ∷ []) command all e = cc
key_number_word_keeps op h (k ∷ a ∷ word ∷ []) command all e = made _ command e (read_number (signed a) (λ n. One k (op n word)) (λ n. (all.0, h n word all.1.1.0)))
key_number_word_keeps op h (k ∷ a ∷ b ∷ c ∷ more) command all e = cc

key_word_number_keeps : (op : Bytes → ℤ → OneOp) → ((w : Bytes) (n : ℤ) → IsWord w → All (one_words (op w n))) → KeepsWords (key_word_number op)
key_word_number_keeps op h [] command all e = cc
key_word_number_keeps op h (k ∷ []) command all e = cc
key_word_number_keeps op h (k ∷ a ∷ []) command all e = cc
key_word_number_keeps op h (k ∷ word ∷ a ∷ []) command all e = made _ command e (read_number (signed a) (λ n. One k (op word n)) (λ n. (all.0, h word n all.1.0)))
key_word_number_keeps op h (k ∷ a ∷ b ∷ c ∷ more) command all e = cc

key_many_keeps : (op : Spared Bytes → OneOp) → ((ws : Words) → All ws → All (one_words (op (all_of ws)))) → KeepsWords (key_many op)
key_many_keeps op h [] command all e = cc
key_many_keeps op h (k ∷ []) command all e = cc
key_many_keeps op h (k ∷ word ∷ words) command all e = made (One k (op (all_of (word ∷ words)))) command e (all.0, h (word ∷ words) all.1)

setrange_keeps : KeepsWords setrange
setrange_keeps [] command all e = cc
setrange_keeps (k ∷ []) command all e = cc
setrange_keeps (k ∷ a ∷ []) command all e = cc
setrange_keeps (k ∷ a ∷ bytes ∷ []) command all e =
    made _ command e (read_number (signed a) (λ at. not_negative at (Wrong errors.OffsetRange) (One k (ones.Setrange at bytes))) (λ at. chosen _ (Wrong errors.OffsetRange) (One k (ones.Setrange at bytes)) tt (all.0, (all.1.1.0, tt))))
setrange_keeps (k ∷ a ∷ b ∷ c ∷ more) command all e = cc

pop_keeps : (op : Option ℤ → OneOp) → ((n : Option ℤ) → All (one_words (op n))) → KeepsWords (pop op)
pop_keeps op h [] command all e = cc
pop_keeps op h (k ∷ []) command all e = made (One k (op None)) command e (all.0, h None)
pop_keeps op h (k ∷ a ∷ []) command all e =
    made _ command e (read_number (signed a) (λ n. not_negative n (Wrong errors.NotInteger) (One k (op (Some n)))) (λ n. chosen _ (Wrong errors.NotInteger) (One k (op (Some n))) tt (all.0, h (Some n))))
pop_keeps op h (k ∷ a ∷ b ∷ more) command all e = cc

-- ---- options

set_by_keeps : (k bytes : Bytes) (guard : Option Guard) → IsWord k → IsWord bytes → HasWords (set_by k bytes guard)
set_by_keeps k bytes None a b = tt
set_by_keeps k bytes (Some guard) a b = (a, (b, tt))

set_keeps : KeepsWords set
set_keeps [] command all e = cc
set_keeps (k ∷ []) command all e = cc
set_keeps (k ∷ bytes ∷ options) command all e = made _ command e (set_by_keeps k bytes (guards (Some Always) options) all.0 all.1.0)

linsert_by_keeps : (k : Bytes) (beside : Option Beside) (pivot bytes : Bytes) → IsWord k → IsWord pivot → IsWord bytes → HasWords (linsert_by k beside pivot bytes)
linsert_by_keeps k None pivot bytes a b c = tt
linsert_by_keeps k (Some beside) pivot bytes a b c = (a, (b, (c, tt)))

linsert_keeps : KeepsWords linsert
linsert_keeps [] command all e = cc
linsert_keeps (k ∷ []) command all e = cc
linsert_keeps (k ∷ a ∷ []) command all e = cc
linsert_keeps (k ∷ a ∷ b ∷ []) command all e = cc
linsert_keeps (k ∷ place ∷ pivot ∷ bytes ∷ []) command all e = made _ command e (linsert_by_keeps k (beside_of place) pivot bytes all.0 all.1.1.0 all.1.1.1.0)
linsert_keeps (k ∷ a ∷ b ∷ c ∷ d ∷ more) command all e = cc

lmove_by_keeps : (s d : Bytes) (from to : Option Side) → IsWord s → IsWord d → HasWords (lmove_by s d from to)
lmove_by_keeps s d None to a b = tt
lmove_by_keeps s d (Some from) None a b = tt
lmove_by_keeps s d (Some from) (Some to) a b = (a, (b, tt))

lmove_keeps : KeepsWords lmove
lmove_keeps [] command all e = cc
lmove_keeps (s ∷ []) command all e = cc
lmove_keeps (s ∷ d ∷ []) command all e = cc
lmove_keeps (s ∷ d ∷ a ∷ []) command all e = cc
lmove_keeps (s ∷ d ∷ from ∷ to ∷ []) command all e = made _ command e (lmove_by_keeps s d (side_of from) (side_of to) all.0 all.1.0)
lmove_keeps (s ∷ d ∷ a ∷ b ∷ c ∷ more) command all e = cc

-- ---- pairs

-- the words of the pairs, where the words make pairs
abbrev HasPairs : Option (List (Bytes × Bytes)) → Type 0
HasPairs None = Unit {0}
HasPairs (Some ps) = All (both_of ps)

with_pair_keeps : (a b : Bytes) (ps : Option (List (Bytes × Bytes))) → IsWord a → IsWord b → HasPairs ps → HasPairs (with_pair a b ps)
with_pair_keeps a b None p q h = tt
with_pair_keeps a b (Some ps) p q h = (p, (q, h))

pairs_of_keeps : (words : Words) → All words → HasPairs (pairs_of words)
pairs_of_keeps [] all = tt
pairs_of_keeps (a ∷ []) all = tt
pairs_of_keeps (a ∷ b ∷ more) all = with_pair_keeps a b (pairs_of more) all.0 all.1.0 (pairs_of_keeps more all.1.1)

in_pairs_keeps : (name : Bytes) (to : Spared (Bytes × Bytes) → Command) (ps : Option (List (Bytes × Bytes))) → HasPairs ps → ((qs : List (Bytes × Bytes)) → All (both_of qs) → HasWords (to (all_of qs))) → HasWords (in_pairs name to ps)
in_pairs_keeps name to None has h = tt
in_pairs_keeps name to (Some ps) has h = h ps has

key_pairs_keeps : (name : Bytes) (op : Spared (Bytes × Bytes) → OneOp) → ((ps : List (Bytes × Bytes)) → All (both_of ps) → All (one_words (op (all_of ps)))) → KeepsWords (key_pairs name op)
key_pairs_keeps name op h [] command all e = cc
key_pairs_keeps name op h (k ∷ []) command all e = cc
key_pairs_keeps name op h (k ∷ a ∷ []) command all e = cc
key_pairs_keeps name op h (k ∷ a ∷ b ∷ words) command all e =
    made _ command e (in_pairs_keeps name (λ ps. One k (op ps)) (pairs_of (a ∷ b ∷ words)) (pairs_of_keeps (a ∷ b ∷ words) all.1) (λ ps has. (all.0, h ps has)))

-- ---- several keys

keys_keeps : (op : Spared Bytes → ManyOp) → ((ws : Words) → All ws → All (many_words (op (all_of ws)))) → KeepsWords (keys op)
keys_keeps op h [] command all e = cc
keys_keeps op h (word ∷ words) command all e = made (Many (op (all_of (word ∷ words)))) command e (h (word ∷ words) all)

key_keys_keeps : (op : Bytes → Spared Bytes → ManyOp) → ((d : Bytes) (ws : Words) → All (d ∷ ws) → All (many_words (op d (all_of ws)))) → KeepsWords (key_keys op)
key_keys_keeps op h [] command all e = cc
key_keys_keeps op h (d ∷ []) command all e = cc
key_keys_keeps op h (d ∷ word ∷ words) command all e = made (Many (op d (all_of (word ∷ words)))) command e (h d (word ∷ words) all)

two_keys_keeps : (op : Bytes → Bytes → ManyOp) → ((s d : Bytes) → All (s ∷ d ∷ []) → All (many_words (op s d))) → KeepsWords (two_keys op)
two_keys_keeps op h [] command all e = cc
two_keys_keeps op h (s ∷ []) command all e = cc
two_keys_keeps op h (s ∷ d ∷ []) command all e = made (Many (op s d)) command e (h s d all)
two_keys_keeps op h (s ∷ d ∷ a ∷ more) command all e = cc

two_keys_word_keeps : (op : Bytes → Bytes → Bytes → ManyOp) → ((s d w : Bytes) → All (s ∷ d ∷ w ∷ []) → All (many_words (op s d w))) → KeepsWords (two_keys_word op)
two_keys_word_keeps op h [] command all e = cc
two_keys_word_keeps op h (s ∷ []) command all e = cc
two_keys_word_keeps op h (s ∷ d ∷ []) command all e = cc
two_keys_word_keeps op h (s ∷ d ∷ word ∷ []) command all e = made (Many (op s d word)) command e (h s d word all)
two_keys_word_keeps op h (s ∷ d ∷ a ∷ b ∷ more) command all e = cc

pairs_keeps : (name : Bytes) (op : Spared (Bytes × Bytes) → ManyOp) → ((ps : List (Bytes × Bytes)) → All (both_of ps) → All (many_words (op (all_of ps)))) → KeepsWords (pairs name op)
pairs_keeps name op h [] command all e = cc
pairs_keeps name op h (a ∷ []) command all e = cc
pairs_keeps name op h (a ∷ b ∷ words) command all e =
    made _ command e (in_pairs_keeps name (λ ps. Many (op ps)) (pairs_of (a ∷ b ∷ words)) (pairs_of_keeps (a ∷ b ∷ words) all) h)

-- ---- the table

abbrev Keep : List Row → Type 0
Keep = AllByRecursion (λ r. KeepsWords r.shape)

both_keep : (rs more : List Row) → Keep rs → Keep more → Keep (rs ++ more)
both_keep [] more h k = k
both_keep (r ∷ rs) more h k = (h.0, both_keep rs more h.1 k)

keyless_keep : Keep keyless_rows.rows
keyless_keep = (
  ping_keeps,
  (
    one_word_keeps (λ m. Plain (plains.Echo m)) (λ m a. (a, tt)),
    (
      one_word_keeps select (λ w a. select_keeps w),
      (
        alone_keeps (Whole wholes.Save) tt,
        (
          alone_keeps (Whole wholes.Dbsize) tt,
          (
            one_word_keeps (λ p. Whole (wholes.Keys p)) (λ p a. (a, tt)),
            (
              flush_keeps wholes.Flushall tt,
              (
                flush_keeps wholes.Flushdb tt,
                tt,
              ),
            ),
          ),
        ),
      ),
    ),
  ),
)

any_keep : Keep any_rows.rows
any_keep = (
  keys_keeps manies.Del (λ ws a. a),
  (
    keys_keeps manies.Unlink (λ ws a. a),
    (
      keys_keeps manies.Exists (λ ws a. a),
      (
        key_keeps ones.KindOf tt,
        (
          two_keys_keeps manies.Rename (λ s d a. a),
          (
            two_keys_keeps manies.Renamenx (λ s d a. a),
            tt,
          ),
        ),
      ),
    ),
  ),
)

strings_keep : Keep string_rows.rows
strings_keep = (
  key_keeps ones.Get tt,
  (
    set_keeps,
    (
      key_word_keeps ones.Setnx (λ w a. (a, tt)),
      (
        key_word_keeps ones.Getset (λ w a. (a, tt)),
        (
          key_keeps ones.Getdel tt,
          (
            key_word_keeps ones.Append (λ w a. (a, tt)),
            (
              key_keeps ones.Strlen tt,
              (
                key_numbers_keeps ones.Getrange (λ m n. tt),
                (
                  setrange_keeps,
                  (
                    key_keeps ones.Incr tt,
                    (
                      key_keeps ones.Decr tt,
                      (
                        key_number_keeps ones.Incrby (λ n. tt),
                        (
                          key_number_keeps ones.Decrby (λ n. tt),
                          (
                            keys_keeps manies.Mget (λ ws a. a),
                            (
                              pairs_keeps _ manies.Mset (λ ps a. a),
                              (
                                pairs_keeps _ manies.Msetnx (λ ps a. a),
                                tt,
                              ),
                            ),
                          ),
                        ),
                      ),
                    ),
                  ),
                ),
              ),
            ),
          ),
        ),
      ),
    ),
  ),
)

lists_keep : Keep list_rows.rows
lists_keep = (
  key_many_keeps ones.Lpush (λ ws a. a),
  (
    key_many_keeps ones.Rpush (λ ws a. a),
    (
      key_many_keeps ones.Lpushx (λ ws a. a),
      (
        key_many_keeps ones.Rpushx (λ ws a. a),
        (
          pop_keeps ones.Lpop (λ n. tt),
          (
            pop_keeps ones.Rpop (λ n. tt),
            (
              key_keeps ones.Llen tt,
              (
                key_numbers_keeps ones.Lrange (λ m n. tt),
                (
                  key_number_keeps ones.Lindex (λ n. tt),
                  (
                    key_number_word_keeps ones.Lset (λ n w a. (a, tt)),
                    (
                      linsert_keeps,
                      (
                        key_number_word_keeps ones.Lrem (λ n w a. (a, tt)),
                        (
                          key_numbers_keeps ones.Ltrim (λ m n. tt),
                          (
                            lmove_keeps,
                            (
                              two_keys_keeps manies.Rpoplpush (λ s d a. a),
                              tt,
                            ),
                          ),
                        ),
                      ),
                    ),
                  ),
                ),
              ),
            ),
          ),
        ),
      ),
    ),
  ),
)

hashes_keep : Keep hash_rows.rows
hashes_keep = (
  key_pairs_keeps _ ones.Hset (λ ps a. a),
  (
    key_pairs_keeps _ ones.Hmset (λ ps a. a),
    (
      key_words_keeps ones.Hsetnx (λ x y a b. (a, (b, tt))),
      (
        key_word_keeps ones.Hget (λ w a. (a, tt)),
        (
          key_many_keeps ones.Hmget (λ ws a. a),
          (
            key_many_keeps ones.Hdel (λ ws a. a),
            (
              key_keeps ones.Hlen tt,
              (
                key_word_keeps ones.Hexists (λ w a. (a, tt)),
                (
                  key_word_keeps ones.Hstrlen (λ w a. (a, tt)),
                  (
                    key_keeps ones.Hkeys tt,
                    (
                      key_keeps ones.Hvals tt,
                      (
                        key_keeps ones.Hgetall tt,
                        (
                          key_word_number_keeps ones.Hincrby (λ w n a. (a, tt)),
                          tt,
                        ),
                      ),
                    ),
                  ),
                ),
              ),
            ),
          ),
        ),
      ),
    ),
  ),
)

sets_keep : Keep set_rows.rows
sets_keep = (
  key_many_keeps ones.Sadd (λ ws a. a),
  (
    key_many_keeps ones.Srem (λ ws a. a),
    (
      key_keeps ones.Scard tt,
      (
        key_word_keeps ones.Sismember (λ w a. (a, tt)),
        (
          key_many_keeps ones.Smismember (λ ws a. a),
          (
            key_keeps ones.Smembers tt,
            (
              two_keys_word_keeps manies.Smove (λ s d w a. a),
              (
                keys_keeps manies.Sinter (λ ws a. a),
                (
                  keys_keeps manies.Sunion (λ ws a. a),
                  (
                    keys_keeps manies.Sdiff (λ ws a. a),
                    (
                      key_keys_keeps manies.Sinterstore (λ d ws a. a),
                      (
                        key_keys_keeps manies.Sunionstore (λ d ws a. a),
                        (
                          key_keys_keeps manies.Sdiffstore (λ d ws a. a),
                          tt,
                        ),
                      ),
                    ),
                  ),
                ),
              ),
            ),
          ),
        ),
      ),
    ),
  ),
)

rows_keep : Keep rows
rows_keep = both_keep string_rows.rows from_hashes strings_keep (both_keep hash_rows.rows from_lists hashes_keep (both_keep list_rows.rows from_sets lists_keep (both_keep set_rows.rows from_any sets_keep (both_keep any_rows.rows from_keyless any_keep keyless_keep))))

runs_injective : (x y : Command) → Reading.Runs x ≡ Reading.Runs y → x ≡ y
runs_injective x y e = cc

counted_keeps : (name : Bytes) (found : Option Command) (command : Command) → ((c : Command) → found ≡ Some c → HasWords c) → counted name found ≡ Reading.Runs command → HasWords command
counted_keeps name None command h e = cc
counted_keeps name (Some c) command h e = h command (ap Some (runs_injective c command e))

by_name : (b : Bool) (one other : Reading) (command : Command) → (one ≡ Reading.Runs command → HasWords command) → (other ≡ Reading.Runs command → HasWords command) → cond b one other ≡ Reading.Runs command → HasWords command
by_name true one other command h g e = h e
by_name false one other command h g e = g e

reads_by_keeps : (rs : List Row) (name : Bytes) (words : Words) (command : Command) → Keep rs → All words → reads_by rs name words ≡ Reading.Runs command → HasWords command
reads_by_keeps [] name words command keep all e = cc
reads_by_keeps (r ∷ rs) name words command keep all e =
    by_name (is_name name r.name) (counted r.name (r.shape words)) (reads_by rs name words) command
    (counted_keeps r.name (r.shape words) command (λ c. keep.0 words c all))
    (reads_by_keeps rs name words command keep.1 all) e

-- a command that words spell has no longer words
pub reads_keep : (words : Words) (command : Command) → All words → reads words ≡ Reading.Runs command → HasWords command
reads_keep [] command all e = cc
reads_keep (name ∷ words) command all e = reads_by_keeps rows name words command rows_keep all.1 e
