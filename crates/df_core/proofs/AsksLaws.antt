-- What a call asks for on a shard, by its commands.
use Rattle.std.proofs.Common.{◌≡◌, ◌<◌, inl, inr, ℕ, Bool, true, false, cond, List, [], ◌∷◌, refl, sym, ap, subst, ◌∙◌}
use Rattle.std.specs.Prelude.{Some, None, is_some}
use Rattle.std.proofs.lemmas.Bool.{lt-ltb, or_left, or_right}
use Rattle.std.specs.FinMap as fin
use Rattle.df_model.specs.Values.{Bytes}
use Rattle.df_model.specs.Hash.{shard_of}
use Rattle.df_model.specs.declared.command.Command.{Command}
use Rattle.df_model.specs.declared.command.Call.{Call}
use Rattle.df_model.specs.declared.keys.Mode.{Mode}
use Rattle.df_model.specs.declared.keys.Mode.TheVariants.{Shared, Exclusive}
use Rattle.df_model.specs.declared.keys.Keys.TheVariants as kinds
use Rattle.df_order.specs.Lists.{Has}
use Rattle.df_order.proofs.Lists.{has_left, has_right}
use Rattle.df_footprints.specs.Asks.{asks_for, touches, writes}
use Rattle.df_footprints.specs.Footprints.{keys_of, keys_of_all, modes_on, whole_mode, stronger, strongest, some_whole, mode_of, mode_of_all, commands_of, some_keys, footprint_of, footprint_of_commands}
use Rattle.df_footprints.proofs.ModesLaws.{strong_behind, touches_keys, mode_there, written_there}
use Rattle.df_core.specs.Belongs.{asks_of, asks_on}

-- ---- the strongest mode of all

strongest-has : (ms : List (Bytes × Mode)) (key : Bytes) → Has ms (key, Exclusive) → strongest ms ≡ Exclusive
strongest-has [] key h = absurd h
strongest-has (m ∷ ms) key (inl e) = ap (λ n. stronger n.1 (Some (strongest ms))) e
strongest-has (m ∷ ms) key (inr h) = ap (λ n. stronger m.1 (Some n)) (strongest-has ms key h) ∙ strong_behind m.1

front_mode : (command : Command) (commands : List Command) →
    stronger (mode_of (whole_mode command)) (Some (strongest (keys_of command))) ≡ Exclusive →
    mode_of_all (command ∷ commands) ≡ Exclusive
front_mode command commands e = go (mode_of (whole_mode command)) (strongest (keys_of command)) (mode_of_all commands) e
  where
    go : (w k m : Mode) → stronger w (Some k) ≡ Exclusive → stronger w (Some (stronger k (Some m))) ≡ Exclusive
    go Exclusive k m e = refl
    go Shared Exclusive m e = refl
    go Shared Shared m e = cc

behind_mode : (command : Command) (commands : List Command) → mode_of_all commands ≡ Exclusive →
    mode_of_all (command ∷ commands) ≡ Exclusive
behind_mode command commands e =
    ap (λ m. stronger (mode_of (whole_mode command)) (Some (stronger (strongest (keys_of command)) (Some m)))) e
    ∙ ap (λ m. stronger (mode_of (whole_mode command)) (Some m)) (strong_behind (strongest (keys_of command)))
    ∙ strong_behind (mode_of (whole_mode command))

mode_of_all-named : (commands : List Command) (command : Command) (key : Bytes) → Has commands command →
    Has (keys_of command) (key, Exclusive) → mode_of_all commands ≡ Exclusive
mode_of_all-named [] command key c h = absurd c
mode_of_all-named (first ∷ commands) command key (inl e) h = front_mode first commands (
    ap (λ m. stronger (mode_of (whole_mode first)) (Some m))
    (strongest-has (keys_of first) key (subst (λ c. Has (keys_of c) (key, Exclusive)) (sym e) h))
    ∙ strong_behind (mode_of (whole_mode first)))
mode_of_all-named (first ∷ commands) command key (inr c) h = behind_mode first commands (mode_of_all-named commands command key c h)

mode_of_all-whole : (commands : List Command) (command : Command) → Has commands command →
    whole_mode command ≡ Some Exclusive → mode_of_all commands ≡ Exclusive
mode_of_all-whole [] command c w = absurd c
mode_of_all-whole (first ∷ commands) command (inl e) w =
    front_mode first commands (ap (λ o. stronger (mode_of o) (Some (strongest (keys_of first)))) (ap whole_mode e ∙ w))
mode_of_all-whole (first ∷ commands) command (inr c) w = behind_mode first commands (mode_of_all-whole commands command c w)

-- one of the commands is of every key
pub some_whole-has : (commands : List Command) (command : Command) → Has commands command →
    is_some (whole_mode command) ≡ true → some_whole commands ≡ true
some_whole-has [] command c w = absurd c
some_whole-has (first ∷ commands) command (inl e) w =
    or_left (is_some (whole_mode first)) (some_whole commands) (ap (λ d. is_some (whole_mode d)) e ∙ w)
some_whole-has (first ∷ commands) command (inr c) w =
    or_right (is_some (whole_mode first)) (some_whole commands) (some_whole-has commands command c w)

-- ---- the keys of all commands

-- what one of the commands names, they name together
pub keys_of_all-has : (commands : List Command) (command : Command) (m : Bytes × Mode) → Has commands command →
    Has (keys_of command) m → Has (keys_of_all commands) m
keys_of_all-has [] command m c h = absurd c
keys_of_all-has (first ∷ commands) command m (inl e) h = has_left (keys_of first) (keys_of_all commands) m (subst (λ c. Has (keys_of c) m) (sym e) h)
keys_of_all-has (first ∷ commands) command m (inr c) h = has_right (keys_of first) (keys_of_all commands) m (keys_of_all-has commands command m c h)

-- ---- the asks

asks_of-some : (ms : List (Bytes × Mode)) → asks_of (some_keys ms) ≡ asks_for ms
asks_of-some [] = refl
asks_of-some (m ∷ ms) = refl

-- on a shard that there is
pub footprint_within : (shards s : ℕ) (call : Call) → s < shards →
    footprint_of shards call s ≡ footprint_of_commands shards s (commands_of call)
footprint_within shards s call w =
    ap (λ b. cond b (footprint_of_commands shards s (commands_of call)) None) (lt-ltb s shards w)

asks_on-within : (shards s : ℕ) (call : Call) → s < shards →
    asks_on shards call s ≡ asks_of (footprint_of_commands shards s (commands_of call))
asks_on-within shards s call w = ap asks_of (footprint_within shards s call w)

module _ (shards s : ℕ) (commands : List Command) (command : Command) (among : Has commands command) where
  of_some : (b : Bool) → some_whole commands ≡ b →
      asks_of (footprint_of_commands shards s commands)
      ≡ asks_of (cond b (Some (kinds.All (mode_of_all commands))) (some_keys (fin.entries (modes_on shards s commands))))
  of_some b e = ap (λ c. asks_of (cond c (Some (kinds.All (mode_of_all commands))) (some_keys (fin.entries (modes_on shards s commands))))) e

  touched : (key : Bytes) (mode : Mode) → Has (keys_of command) (key, mode) → shard_of key shards ≡ s →
      touches (asks_of (footprint_of_commands shards s commands)) key ≡ true
  touched key mode h e = go (some_whole commands) refl
    where
      go : (b : Bool) → some_whole commands ≡ b → touches (asks_of (footprint_of_commands shards s commands)) key ≡ true
      go true w = ap (λ l. touches l key) (of_some true w)
      go false w =
          ap (λ l. touches l key) (of_some false w ∙ asks_of-some (fin.entries (modes_on shards s commands)))
          ∙ touches_keys (modes_on shards s commands) key
          ∙ mode_there shards s commands key mode (keys_of_all-has commands command (key, mode) among h) e

  written : (key : Bytes) → Has (keys_of command) (key, Exclusive) → shard_of key shards ≡ s →
      writes (asks_of (footprint_of_commands shards s commands)) key ≡ true
  written key h e = go (some_whole commands) refl
    where
      go : (b : Bool) → some_whole commands ≡ b → writes (asks_of (footprint_of_commands shards s commands)) key ≡ true
      go true w =
          ap (λ l. writes l key) (of_some true w)
          ∙ ap (λ m. writes (asks_of (Some (kinds.All m))) key) (mode_of_all-named commands command key among h)
      go false w =
          ap (λ l. writes l key) (of_some false w ∙ asks_of-some (fin.entries (modes_on shards s commands)))
          ∙ written_there shards s commands key (keys_of_all-has commands command (key, Exclusive) among h) e

  touched_whole : (mode : Mode) → whole_mode command ≡ Some mode → (key : Bytes) →
      touches (asks_of (footprint_of_commands shards s commands)) key ≡ true
  touched_whole mode w key = ap (λ l. touches l key) (of_some true (some_whole-has commands command among (ap is_some w)))

  written_whole : whole_mode command ≡ Some Exclusive → (key : Bytes) →
      writes (asks_of (footprint_of_commands shards s commands)) key ≡ true
  written_whole w key =
      ap (λ l. writes l key) (of_some true (some_whole-has commands command among (ap is_some w)))
      ∙ ap (λ m. writes (asks_of (Some (kinds.All m))) key) (mode_of_all-whole commands command among w)

-- a key of the shard that a command of the call names is asked for there, and is asked for to be written where it is named so
module _ (shards s : ℕ) (call : Call) (command : Command) (within : s < shards) (among : Has (commands_of call) command) where
  pub touches_named : (key : Bytes) (mode : Mode) → Has (keys_of command) (key, mode) → shard_of key shards ≡ s →
      touches (asks_on shards call s) key ≡ true
  touches_named key mode h e =
      ap (λ l. touches l key) (asks_on-within shards s call within) ∙ touched shards s (commands_of call) command among key mode h e

  pub writes_named : (key : Bytes) → Has (keys_of command) (key, Exclusive) → shard_of key shards ≡ s →
      writes (asks_on shards call s) key ≡ true
  writes_named key h e = ap (λ l. writes l key) (asks_on-within shards s call within) ∙ written shards s (commands_of call) command among key h e

  -- a command of every key asks for each, also where other commands of the call name some
  pub touches_all : (mode : Mode) → whole_mode command ≡ Some mode → (key : Bytes) → touches (asks_on shards call s) key ≡ true
  touches_all mode w key =
      ap (λ l. touches l key) (asks_on-within shards s call within) ∙ touched_whole shards s (commands_of call) command among mode w key

  -- and to be written, if it is to write them
  pub writes_all : whole_mode command ≡ Some Exclusive → (key : Bytes) → writes (asks_on shards call s) key ≡ true
  writes_all w key = ap (λ l. writes l key) (asks_on-within shards s call within) ∙ written_whole shards s (commands_of call) command among w key
