-- Keys that are gathered one after the other are gathered.
use Rattle.std.proofs.Common.{◌≡◌, ℕ, suc, Bool, true, false, cond, List, [], ◌∷◌, ◌++◌, take, length, ◌<◌, get_or, refl, sym, ap, subst, ◌∙◌, Ordering, append-nil, arith}
use Rattle.std.proofs.lemmas.List.{take_more}
use Rattle.std.proofs.lemmas.Bool.{eqb-true, lt-ltb}
use Rattle.std.specs.Prelude.{Result, Ok, Err, OnOk, Option, Some, None, ◌==◌, ◌+◌}
use Rattle.std.specs.Ordering.{nat_cmp, match_ordering}
use Rattle.std.specs.declared.cmp.Ordering.TheVariants.{Less, Equal, Greater}
use Rattle.std.specs.Cmp.Lexicographic.{slice_cmp, nat_list_cmp_total}
use Rattle.std.specs.BTreeMap.{insert_entry, is_at}
use Rattle.std.specs.Map.{lookup}
use Rattle.std.specs.FinMap.{get-insert, get-entries, entries-insert, len-entries, len-empty, same_map, put}
use Rattle.std.specs.FinMap.Entries.{by_order, find}
use Rattle.std.specs.FinMap as fin
use Rattle.df_model.specs.Values.{Bytes}
use Rattle.df_model.specs.Hash.{shard_of}
use Rattle.df_model.specs.Access.{on_key}
use Rattle.df_model.specs.Meaning.{firsts, one}
use Rattle.df_model.specs.Outcomes.{KeyRow}
use Rattle.df_model.specs.declared.command.Command.{Command}
use Rattle.df_model.specs.declared.command.Command.TheVariants.{One, Many}
use Rattle.df_model.specs.declared.command.Call.TheVariants.{Single}
use Rattle.df_model.specs.declared.command.OneOp.{OneOp}
use Rattle.df_model.specs.declared.command.ManyOp.{ManyOp}
use Rattle.df_model.specs.Spared.{all_of}
use Rattle.df_model.specs.declared.keys.Keys.TheVariants as kinds
use Rattle.df_model.specs.declared.keys.Mode.{Mode}
use Rattle.df_model.specs.declared.keys.Mode.TheVariants.{Shared, Exclusive}
use Rattle.df_model.proofs.LocalityLaws.{tied, same_bytes, equal}
use Rattle.df_footprints.specs.Footprints.{AsksAlone, Modes, in_mode, named, keys_of, keys_of_all, stronger, strongest, with_modes, modes_on, on_shard, some_keys, some_whole, mode_of_all, footprint_of_commands}
use Rattle.df_footprints.specs.Naming.{Adds, mode_of_row}

-- ---- lists that are taken in parts

in_mode-append : (mode : Mode) (xs ys : List Bytes) → in_mode mode (xs ++ ys) ≡ in_mode mode xs ++ in_mode mode ys
in_mode-append mode [] ys = refl
in_mode-append mode (x ∷ xs) ys = ap (λ ms. (x, mode) ∷ ms) (in_mode-append mode xs ys)

firsts-append : (xs ys : List (Bytes × Bytes)) → firsts (xs ++ ys) ≡ firsts xs ++ firsts ys
firsts-append [] ys = refl
firsts-append (x ∷ xs) ys = ap (λ ks. x.0 ∷ ks) (firsts-append xs ys)

append_assoc : {X : Type 0} (xs ys zs : List X) → (xs ++ ys) ++ zs ≡ xs ++ (ys ++ zs)
append_assoc [] ys zs = refl
append_assoc (x ∷ xs) ys zs = ap (λ rest. x ∷ rest) (append_assoc xs ys zs)

keys_of_all-append : (xs ys : List Command) → keys_of_all (xs ++ ys) ≡ keys_of_all xs ++ keys_of_all ys
keys_of_all-append [] ys = refl
keys_of_all-append (x ∷ xs) ys = ap (λ ms. keys_of x ++ ms) (keys_of_all-append xs ys) ∙ sym (append_assoc (keys_of x) (keys_of_all xs) (keys_of_all ys))

on_shard-append : (shards s : ℕ) (xs ys : List (Bytes × Mode)) → on_shard shards s (xs ++ ys) ≡ on_shard shards s xs ++ on_shard shards s ys
on_shard-append shards s [] ys = refl
on_shard-append shards s (x ∷ xs) ys = go (shard_of x.0 shards == s) (on_shard-append shards s xs ys)
  where
    go : (b : Bool) → on_shard shards s (xs ++ ys) ≡ on_shard shards s xs ++ on_shard shards s ys
        → cond b (x ∷ on_shard shards s (xs ++ ys)) (on_shard shards s (xs ++ ys)) ≡ cond b (x ∷ on_shard shards s xs) (on_shard shards s xs) ++ on_shard shards s ys
    go true e = ap (λ ms. x ∷ ms) e
    go false e = e

with_modes-append : (xs ys : List (Bytes × Mode)) (modes : Modes) → with_modes (xs ++ ys) modes ≡ with_modes ys (with_modes xs modes)
with_modes-append [] ys modes = refl
with_modes-append (x ∷ xs) ys modes = with_modes-append xs ys (fin.insert modes x.0 (stronger x.1 (fin.get modes x.0)))

-- ---- one after the other

pub adds_none : (es : List (Bytes × Mode)) → Adds es [] es
adds_none es = λ modes e. e

pub adds_both : (shards s : ℕ) (a b c xs ys : List (Bytes × Mode)) → Adds a (on_shard shards s xs) b → Adds b (on_shard shards s ys) c → Adds a (on_shard shards s (xs ++ ys)) c
adds_both shards s a b c xs ys f g = λ modes e.
    g (with_modes (on_shard shards s xs) modes) (f modes e)
    ∙ ap fin.entries (sym (with_modes-append (on_shard shards s xs) (on_shard shards s ys) modes) ∙ ap (λ ms. with_modes ms modes) (sym (on_shard-append shards s xs ys)))

-- the next of some keys, pairs and commands
pub adds_key : (shards s : ℕ) (mode : Mode) (a b c : List (Bytes × Mode)) (keys : List Bytes) (i : ℕ) (d : Bytes) → i < length keys
    → Adds a (on_shard shards s (in_mode mode (take i keys))) b → Adds b (on_shard shards s ((get_or keys i d, mode) ∷ [])) c
    → Adds a (on_shard shards s (in_mode mode (take (i + 1) keys))) c
adds_key shards s mode a b c keys i d lt f g = subst (λ ms. Adds a (on_shard shards s ms) c)
    (sym (ap (in_mode mode) (take_more keys i d lt) ∙ in_mode-append mode (take i keys) (get_or keys i d ∷ [])))
    (adds_both shards s a b c (in_mode mode (take i keys)) ((get_or keys i d, mode) ∷ []) f g)

pub adds_pair : (shards s : ℕ) (a b c : List (Bytes × Mode)) (pairs : List (Bytes × Bytes)) (i : ℕ) (d : Bytes × Bytes) → i < length pairs
    → Adds a (on_shard shards s (in_mode Exclusive (firsts (take i pairs)))) b → Adds b (on_shard shards s (((get_or pairs i d).0, Exclusive) ∷ [])) c
    → Adds a (on_shard shards s (in_mode Exclusive (firsts (take (i + 1) pairs)))) c
adds_pair shards s a b c pairs i d lt f g = subst (λ ms. Adds a (on_shard shards s ms) c)
    (sym (ap (λ ps. in_mode Exclusive (firsts ps)) (take_more pairs i d lt) ∙ ap (in_mode Exclusive) (firsts-append (take i pairs) (get_or pairs i d ∷ [])) ∙ in_mode-append Exclusive (firsts (take i pairs)) ((get_or pairs i d).0 ∷ [])))
    (adds_both shards s a b c (in_mode Exclusive (firsts (take i pairs))) (((get_or pairs i d).0, Exclusive) ∷ []) f g)

pub adds_command : (shards s : ℕ) (a b c : List (Bytes × Mode)) (commands : List Command) (i : ℕ) (d : Command) → i < length commands
    → Adds a (on_shard shards s (keys_of_all (take i commands))) b → Adds b (on_shard shards s (keys_of (get_or commands i d))) c
    → Adds a (on_shard shards s (keys_of_all (take (i + 1) commands))) c
adds_command shards s a b c commands i d lt f g = subst (λ ms. Adds a (on_shard shards s ms) c)
    (sym (ap keys_of_all (take_more commands i d lt) ∙ keys_of_all-append (take i commands) (get_or commands i d ∷ []) ∙ ap (λ ms. keys_of_all (take i commands) ++ ms) (append-nil (keys_of (get_or commands i d)))))
    (adds_both shards s a b c (keys_of_all (take i commands)) (keys_of (get_or commands i d)) f g)

-- ---- one key

abbrev pub order : Bytes → Bytes → Ordering
order = slice_cmp nat_cmp

-- std's tree puts an entry where the finite map does
put_entry : (es : List (Bytes × Mode)) (key : Bytes) (mode : Mode) → insert_entry order es key mode ≡ put order key mode es
put_entry [] key mode = refl
put_entry (e ∷ es) key mode = go (order key e.0) (put_entry es key mode)
  where
    go : (r : Ordering) → insert_entry order es key mode ≡ put order key mode es
        → match_ordering r ((key, mode) ∷ e ∷ es) ((e.0, mode) ∷ es) (e ∷ insert_entry order es key mode) ≡ by_order r ((key, mode) ∷ e ∷ es) ((e.0, mode) ∷ es) (e ∷ put order key mode es)
    go Less i = refl
    go Equal i = refl
    go Greater i = ap (λ rest. e ∷ rest) i

-- and finds it where the map does
found : (es : List (Bytes × Mode)) (key : Bytes) → lookup (is_at (order key)) es ≡ find order key es
found [] key = refl
found (e ∷ es) key = ap (cond (tied key e.0) (Some e.1)) (found es key)

held_by : (es : List (Bytes × Mode)) (key : Bytes) (held : Option Mode) (modes : Modes) → held ≡ lookup (is_at (order key)) es → es ≡ fin.entries modes → fin.get modes key ≡ held
held_by es key held modes h e = get-entries modes key ∙ ap (find order key) (sym e) ∙ sym (found es key) ∙ sym h

-- a key that is there in a mode as strong stays as it is
pub adds_covered : (es : List (Bytes × Mode)) (key : Bytes) (mode : Mode) (held : Option Mode) → held ≡ lookup (is_at (order key)) es → held ≡ Some (stronger mode held) → Adds es ((key, mode) ∷ []) es
adds_covered es key mode held h covered = λ modes e. e ∙ ap fin.entries (sym (stays modes (held_by es key held modes h e)))
  where
    stays : (modes : Modes) → fin.get modes key ≡ held → fin.insert modes key (stronger mode (fin.get modes key)) ≡ modes
    stays modes at = same_map nat_list_cmp_total same_bytes _ modes (λ q. get-insert nat_list_cmp_total modes key (stronger mode (fin.get modes key)) q ∙ go q (tied q key) refl)
      where
        go : (q : Bytes) (b : Bool) → tied q key ≡ b → cond b (Some (stronger mode (fin.get modes key))) (fin.get modes q) ≡ fin.get modes q
        go q true t = ap (λ o. Some (stronger mode o)) at ∙ sym covered ∙ sym at ∙ ap (fin.get modes) (sym (same_bytes q key (equal _ t)))
        go q false t = refl

-- and else takes the mode
pub adds_new : (es : List (Bytes × Mode)) (key : Bytes) (mode : Mode) (held : Option Mode) → held ≡ lookup (is_at (order key)) es → stronger mode held ≡ mode → Adds es ((key, mode) ∷ []) (insert_entry order es key mode)
adds_new es key mode held h takes = λ modes e.
    put_entry es key mode ∙ ap (put order key mode) e ∙ sym (entries-insert nat_list_cmp_total modes key mode)
    ∙ ap (λ m. fin.entries (fin.insert modes key m)) (sym takes ∙ ap (stronger mode) (sym (held_by es key held modes h e)))

pub adds_here : (shards s : ℕ) (key : Bytes) (mode : Mode) (es fs : List (Bytes × Mode)) → true ≡ (shard_of key shards == s) → Adds es ((key, mode) ∷ []) fs → Adds es (on_shard shards s ((key, mode) ∷ [])) fs
adds_here shards s key mode es fs is f = subst (λ b. Adds es (cond b ((key, mode) ∷ []) []) fs) is f

-- ---- nothing, and one key alone

nothing : (es : List (Bytes × Mode)) → length es ≡ 0 → es ≡ []
nothing [] e = refl
nothing (x ∷ es) e = absurd (omega arith)

pub entries_empty : fin.entries (fin.empty {X = Mode} {R = order}) ≡ []
entries_empty = nothing (fin.entries fin.empty) (sym (len-entries fin.empty) ∙ len-empty order Mode)

pub one_key : (shards s : ℕ) (key : Bytes) (mode : Mode) → true ≡ (shard_of key shards == s)
    → Some (kinds.Some (all_of ((key, mode) ∷ []))) ≡ some_keys (fin.entries (with_modes (on_shard shards s ((key, mode) ∷ [])) fin.empty))
one_key shards s key mode is = ap some_keys (adds_here shards s key mode [] ((key, mode) ∷ []) is (adds_new [] key mode None refl (alone mode)) fin.empty (sym entries_empty))
  where
    alone : (mode : Mode) → stronger mode None ≡ mode
    alone Shared = refl
    alone Exclusive = refl

pub no_key : (shards s : ℕ) (key : Bytes) (mode : Mode) → false ≡ (shard_of key shards == s)
    → None ≡ some_keys (fin.entries (with_modes (on_shard shards s ((key, mode) ∷ [])) fin.empty))
no_key shards s key mode is =
    subst (λ b. None ≡ some_keys (fin.entries (with_modes (cond b ((key, mode) ∷ []) []) fin.empty))) is (ap some_keys (sym entries_empty))

named_alone : (key : Bytes) (row : KeyRow) → named (Some (on_key key row)) ≡ (key, mode_of_row row) ∷ []
named_alone key (KeyRow.Looks row) = refl
named_alone key (KeyRow.Changes row) = refl

-- a command of one key asks for that key alone
pub asks_alone : (key : Bytes) (op : OneOp) (mode : Mode) → mode ≡ mode_of_row (one op) → AsksAlone (Single (One key op)) key mode
asks_alone key op mode is = λ shards s lt.
    ap (λ b. cond b (footprint_of_commands shards s (One key op ∷ [])) None) (lt-ltb s shards lt)
    ∙ ap (λ ms. some_keys (fin.entries (with_modes (on_shard shards s ms) fin.empty))) (append-nil (keys_of (One key op)) ∙ named_alone key (one op) ∙ ap (λ m. (key, m) ∷ []) (sym is))
    ∙ there shards s (shard_of key shards == s) refl
  where
    there : (shards s : ℕ) (b : Bool) → (shard_of key shards == s) ≡ b
        → some_keys (fin.entries (with_modes (on_shard shards s ((key, mode) ∷ [])) fin.empty)) ≡ cond b (Some (kinds.Some (all_of ((key, mode) ∷ [])))) None
    there shards s true e = sym (one_key shards s key mode (sym e))
    there shards s false e = sym (no_key shards s key mode (sym e))

-- ---- the strongest of some keys

pub strongest_read : (keys : List Bytes) → strongest (in_mode Shared keys) ≡ Shared
strongest_read [] = refl
strongest_read (key ∷ keys) = strongest_read keys

some_written : (n : ℕ) → Exclusive ≡ cond (suc n == 0) Shared Exclusive
some_written n = go (suc n == 0) refl
  where
    go : (b : Bool) → (suc n == 0) ≡ b → Exclusive ≡ cond b Shared Exclusive
    go true e = absurd (omega (arith, eqb-true (suc n) 0 e))
    go false e = refl

pub strongest_written : (keys : List Bytes) → strongest (in_mode Exclusive keys) ≡ cond (length keys == 0) Shared Exclusive
strongest_written [] = refl
strongest_written (key ∷ keys) = some_written (length keys)

pub strongest_firsts : (pairs : List (Bytes × Bytes)) → strongest (in_mode Exclusive (firsts pairs)) ≡ cond (length pairs == 0) Shared Exclusive
strongest_firsts [] = refl
strongest_firsts (pair ∷ pairs) = some_written (length pairs)

pub strongest_stored : (keys : List Bytes) (key : Bytes) → strongest (in_mode Shared keys ++ (key, Exclusive) ∷ []) ≡ Exclusive
strongest_stored [] key = refl
strongest_stored (k ∷ keys) key = strongest_stored keys key

-- ---- what is asked for

pub no_keys : None ≡ some_keys (fin.entries (fin.empty {X = Mode} {R = order}))
no_keys = ap some_keys (sym entries_empty)

pub gathered : (shards s : ℕ) (commands : List Command) (es : List (Bytes × Mode)) → some_whole commands ≡ false → Adds [] (on_shard shards s (keys_of_all commands)) es
    → some_keys es ≡ footprint_of_commands shards s commands
gathered shards s commands es parts adds =
    ap some_keys (adds fin.empty (sym entries_empty))
    ∙ sym (ap (λ b. cond b (Some (kinds.All (mode_of_all commands))) (some_keys (fin.entries (modes_on shards s commands)))) parts)

pub gathered_one : (shards s : ℕ) (op : ManyOp) (es : List (Bytes × Mode)) → Adds [] (on_shard shards s (keys_of (Many op))) es → some_keys es ≡ footprint_of_commands shards s (Many op ∷ [])
gathered_one shards s op es adds = gathered shards s (Many op ∷ []) es refl (subst (λ ms. Adds [] (on_shard shards s ms) es) (sym (append-nil (keys_of (Many op)))) adds)

pub on_ok : {X E : Type 0} {A B : Type 0} (r : Result X E) → (A → B) → OnOk r A → OnOk r B
on_ok (Ok x) f a = f a
on_ok (Err e) f a = tt
