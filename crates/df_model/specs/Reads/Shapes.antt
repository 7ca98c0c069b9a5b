-- How the words after a name are read, a shape each: the command, or None at a wrong count of words.
use Rattle.std.specs.Prelude.{List, [], ◌∷◌, Option, Some, None, codes, if◌then◌else◌, ℤ, pos, int_lt, ◌||◌, eqb, nat_abs}
use Rattle.df_model.specs.Values.{Bytes}
use Rattle.df_model.specs.Words.{Words, is_name}
use Rattle.df_model.specs.Numbers.{signed}
use Rattle.df_model.specs.Spared.{Spared, all_of}
use Rattle.df_model.specs.declared.command.PlainOp.TheVariants.{Ping, Select}
use Rattle.df_model.specs.declared.command.OneOp.{OneOp}
use Rattle.df_model.specs.declared.command.OneOp.TheVariants.{Set, Setrange, Linsert}
use Rattle.df_model.specs.declared.command.ManyOp.{ManyOp}
use Rattle.df_model.specs.declared.command.ManyOp.TheVariants.{Lmove}
use Rattle.df_model.specs.declared.command.WholeOp.{WholeOp}
use Rattle.df_model.specs.declared.command.Guard.{Guard}
use Rattle.df_model.specs.declared.command.Guard.TheVariants.{Always, Nx, Xx}
use Rattle.df_model.specs.declared.command.Beside.{Beside}
use Rattle.df_model.specs.declared.command.Beside.TheVariants.{Before, After}
use Rattle.df_model.specs.declared.command.Side.{Side}
use Rattle.df_model.specs.declared.command.Side.TheVariants.{Left, Right}
use Rattle.df_model.specs.declared.command.Command.{Command}
use Rattle.df_model.specs.declared.command.Command.TheVariants.{Plain, One, Many, Whole, Wrong}
use Rattle.df_model.specs.declared.reply.ErrorText.TheVariants.{Syntax, NotInteger, OffsetRange, DbIndex, Arity}

abbrev pub Shape : Type 0
Shape = Words → Option Command

-- a name in lower case, and how the words behind it are read
pub record Row : Type 0 where
  pub name : Bytes
  pub shape : Shape

abbrev pub row : Bytes → Shape → Row
row name shape = record { name = name; shape = shape }

-- ---- words that are numbers or options

abbrev pub number_in : Option ℤ → (ℤ → Command) → Command
number_in None command = Wrong NotInteger
number_in (Some n) command = command n

abbrev pub number : Bytes → (ℤ → Command) → Command
number word command = number_in (signed word) command

abbrev pub not_negative : ℤ → Command → Command → Command
not_negative n refused command = if int_lt n (pos 0) then refused else command

-- ---- no key

abbrev pub alone : Command → Shape
alone command [] = Some command
alone command (a ∷ more) = None

abbrev pub ping : Shape
ping [] = Some (Plain (Ping None))
ping (message ∷ []) = Some (Plain (Ping (Some message)))
ping (a ∷ b ∷ more) = None

abbrev pub one_word : (Bytes → Command) → Shape
one_word to [] = None
one_word to (word ∷ []) = Some (to word)
one_word to (a ∷ b ∷ more) = None

abbrev pub database : ℤ → Command
database n = if eqb (nat_abs n) 0 then Plain (Select n) else Wrong DbIndex

abbrev pub select : Bytes → Command
select word = number word database

abbrev pub flush : WholeOp → Shape
flush op [] = Some (Whole op)
flush op (word ∷ []) = Some (if is_name word (codes "async") || is_name word (codes "sync") then Whole op else Wrong Syntax)
flush op (a ∷ b ∷ more) = Some (Wrong Syntax)

-- ---- one key

abbrev pub key : OneOp → Shape
key op [] = None
key op (k ∷ []) = Some (One k op)
key op (k ∷ a ∷ more) = None

abbrev pub key_word : (Bytes → OneOp) → Shape
key_word op [] = None
key_word op (k ∷ []) = None
key_word op (k ∷ word ∷ []) = Some (One k (op word))
key_word op (k ∷ a ∷ b ∷ more) = None

abbrev pub key_words : (Bytes → Bytes → OneOp) → Shape
key_words op [] = None
key_words op (k ∷ []) = None
key_words op (k ∷ a ∷ []) = None
key_words op (k ∷ a ∷ b ∷ []) = Some (One k (op a b))
key_words op (k ∷ a ∷ b ∷ c ∷ more) = None

abbrev pub key_number : (ℤ → OneOp) → Shape
key_number op [] = None
key_number op (k ∷ []) = None
key_number op (k ∷ word ∷ []) = Some (number word (λ n. One k (op n)))
key_number op (k ∷ a ∷ b ∷ more) = None

abbrev pub by_numbers : (ℤ → ℤ → OneOp) → Bytes → Bytes → Bytes → Command
by_numbers op k a b = number a (λ from. number b (λ to. One k (op from to)))

abbrev pub key_numbers : (ℤ → ℤ → OneOp) → Shape
key_numbers op [] = None
key_numbers op (k ∷ []) = None
key_numbers op (k ∷ a ∷ []) = None
key_numbers op (k ∷ a ∷ b ∷ []) = Some (by_numbers op k a b)
key_numbers op (k ∷ a ∷ b ∷ c ∷ more) = None

abbrev pub by_number_word : (ℤ → Bytes → OneOp) → Bytes → Bytes → Bytes → Command
by_number_word op k a word = number a (λ n. One k (op n word))

abbrev pub key_number_word : (ℤ → Bytes → OneOp) → Shape
key_number_word op [] = None
key_number_word op (k ∷ []) = None
key_number_word op (k ∷ a ∷ []) = None
key_number_word op (k ∷ a ∷ word ∷ []) = Some (by_number_word op k a word)
key_number_word op (k ∷ a ∷ b ∷ c ∷ more) = None

abbrev pub by_word_number : (Bytes → ℤ → OneOp) → Bytes → Bytes → Bytes → Command
by_word_number op k word a = number a (λ n. One k (op word n))

abbrev pub key_word_number : (Bytes → ℤ → OneOp) → Shape
key_word_number op [] = None
key_word_number op (k ∷ []) = None
key_word_number op (k ∷ a ∷ []) = None
key_word_number op (k ∷ word ∷ a ∷ []) = Some (by_word_number op k word a)
key_word_number op (k ∷ a ∷ b ∷ c ∷ more) = None

abbrev pub key_many : (Spared Bytes → OneOp) → Shape
key_many op [] = None
key_many op (k ∷ []) = None
key_many op (k ∷ word ∷ words) = Some (One k (op (all_of (word ∷ words))))

abbrev pub setrange : Shape
setrange [] = None
setrange (k ∷ []) = None
setrange (k ∷ a ∷ []) = None
setrange (k ∷ a ∷ bytes ∷ []) = Some (number a (λ at. not_negative at (Wrong OffsetRange) (One k (Setrange at bytes))))
setrange (k ∷ a ∷ b ∷ c ∷ more) = None

-- LPOP and RPOP
abbrev pub pop : (Option ℤ → OneOp) → Shape
pop op [] = None
pop op (k ∷ []) = Some (One k (op None))
pop op (k ∷ a ∷ []) = Some (number a (λ n. not_negative n (Wrong NotInteger) (One k (op (Some n)))))
pop op (k ∷ a ∷ b ∷ more) = None

-- ---- options

abbrev pub guard_of : Bytes → Option Guard
guard_of word =
    if is_name word (codes "nx") then Some Nx
    else (if is_name word (codes "xx") then Some Xx
    else None)

abbrev pub both : Guard → Option Guard → Option Guard
both guard None = None
both Always (Some other) = Some other
both Nx (Some Nx) = Some Nx
both Xx (Some Xx) = Some Xx
both Nx (Some Xx) = None
both Xx (Some Nx) = None
both Nx (Some Always) = Some Nx
both Xx (Some Always) = Some Xx

-- the guards so far and those of the words, each
abbrev pub guards : Option Guard → Words → Option Guard
guards None words = None
guards (Some guard) [] = Some guard
guards (Some guard) (word ∷ words) = guards (both guard (guard_of word)) words

abbrev pub set_by : Bytes → Bytes → Option Guard → Command
set_by k bytes None = Wrong Syntax
set_by k bytes (Some guard) = One k (Set bytes guard)

abbrev pub set : Shape
set [] = None
set (k ∷ []) = None
set (k ∷ bytes ∷ options) = Some (set_by k bytes (guards (Some Always) options))

abbrev pub beside_of : Bytes → Option Beside
beside_of word =
    if is_name word (codes "before") then Some Before
    else (if is_name word (codes "after") then Some After
    else None)

abbrev pub linsert_by : Bytes → Option Beside → Bytes → Bytes → Command
linsert_by k None pivot bytes = Wrong Syntax
linsert_by k (Some beside) pivot bytes = One k (Linsert beside pivot bytes)

abbrev pub linsert : Shape
linsert [] = None
linsert (k ∷ []) = None
linsert (k ∷ a ∷ []) = None
linsert (k ∷ a ∷ b ∷ []) = None
linsert (k ∷ place ∷ pivot ∷ bytes ∷ []) = Some (linsert_by k (beside_of place) pivot bytes)
linsert (k ∷ a ∷ b ∷ c ∷ d ∷ more) = None

abbrev pub side_of : Bytes → Option Side
side_of word =
    if is_name word (codes "left") then Some Left
    else (if is_name word (codes "right") then Some Right
    else None)

abbrev pub lmove_by : Bytes → Bytes → Option Side → Option Side → Command
lmove_by s d None to = Wrong Syntax
lmove_by s d (Some from) None = Wrong Syntax
lmove_by s d (Some from) (Some to) = Many (Lmove s d from to)

abbrev pub lmove : Shape
lmove [] = None
lmove (s ∷ []) = None
lmove (s ∷ d ∷ []) = None
lmove (s ∷ d ∷ a ∷ []) = None
lmove (s ∷ d ∷ from ∷ to ∷ []) = Some (lmove_by s d (side_of from) (side_of to))
lmove (s ∷ d ∷ a ∷ b ∷ c ∷ more) = None

-- ---- pairs

abbrev pub with_pair : Bytes → Bytes → Option (List (Bytes × Bytes)) → Option (List (Bytes × Bytes))
with_pair a b None = None
with_pair a b (Some pairs) = Some ((a, b) ∷ pairs)

-- a word that is left over is the error of a wrong count, but a command: a transaction queues it
abbrev pub in_pairs : Bytes → (Spared (Bytes × Bytes) → Command) → Option (List (Bytes × Bytes)) → Command
in_pairs name to None = Wrong (Arity name)
in_pairs name to (Some pairs) = to (all_of pairs)

-- the words in twos, or None where one is left
abbrev pub pairs_of : Words → Option (List (Bytes × Bytes))
pairs_of [] = Some []
pairs_of (a ∷ []) = None
pairs_of (a ∷ b ∷ more) = with_pair a b (pairs_of more)

abbrev pub by_pairs : Bytes → (Spared (Bytes × Bytes) → OneOp) → Bytes → Words → Command
by_pairs name op k words = in_pairs name (λ pairs. One k (op pairs)) (pairs_of words)

abbrev pub key_pairs : Bytes → (Spared (Bytes × Bytes) → OneOp) → Shape
key_pairs name op [] = None
key_pairs name op (k ∷ []) = None
key_pairs name op (k ∷ a ∷ []) = None
key_pairs name op (k ∷ a ∷ b ∷ words) = Some (by_pairs name op k (a ∷ b ∷ words))

-- ---- several keys

abbrev pub keys : (Spared Bytes → ManyOp) → Shape
keys op [] = None
keys op (word ∷ words) = Some (Many (op (all_of (word ∷ words))))

abbrev pub key_keys : (Bytes → Spared Bytes → ManyOp) → Shape
key_keys op [] = None
key_keys op (d ∷ []) = None
key_keys op (d ∷ word ∷ words) = Some (Many (op d (all_of (word ∷ words))))

abbrev pub two_keys : (Bytes → Bytes → ManyOp) → Shape
two_keys op [] = None
two_keys op (s ∷ []) = None
two_keys op (s ∷ d ∷ []) = Some (Many (op s d))
two_keys op (s ∷ d ∷ a ∷ more) = None

abbrev pub two_keys_word : (Bytes → Bytes → Bytes → ManyOp) → Shape
two_keys_word op [] = None
two_keys_word op (s ∷ []) = None
two_keys_word op (s ∷ d ∷ []) = None
two_keys_word op (s ∷ d ∷ word ∷ []) = Some (Many (op s d word))
two_keys_word op (s ∷ d ∷ a ∷ b ∷ more) = None

abbrev pub pairs : Bytes → (Spared (Bytes × Bytes) → ManyOp) → Shape
pairs name op [] = None
pairs name op (a ∷ []) = None
pairs name op (a ∷ b ∷ words) = Some (in_pairs name (λ pairs. Many (op pairs)) (pairs_of (a ∷ b ∷ words)))
