-- What the commands of a call name on a shard, and in which mode.
use Rattle.std.proofs.Common.{◌≡◌, inl, inr, ℕ, Bool, true, false, cond, List, [], ◌∷◌, ◌++◌, map, refl, sym, ap, subst, ◌∙◌, append-nil}
use Rattle.std.specs.Prelude.{Option, Some, ◌||◌, ◌&&◌, ◌==◌, is_some}
use Rattle.std.specs.List.{list_any}
use Rattle.std.proofs.lemmas.Bool.{eq-eqb, eqb-true, false≢true, and_parts, or_left, or_right, or_cases}
use Rattle.std.proofs.lemmas.Option.{same_Some}
use Rattle.std.proofs.Math.Bool.{or-false}
use Rattle.std.specs.Ordering.{nat_cmp}
use Rattle.std.specs.Cmp.Lexicographic.{slice_cmp, nat_list_cmp_total, nat_list_eq_equiv, same_text}
use Rattle.std.specs.FinMap.{contains_key-keys, get-entries, get-insert, get-empty}
use Rattle.std.specs.FinMap as fin
use Rattle.std.specs.FinMap.Entries.{find}
use Rattle.df_model.specs.Values.{Bytes}
use Rattle.df_model.specs.Words.{same}
use Rattle.df_model.specs.Keyspace.{Keyspace}
use Rattle.df_model.specs.Access.{Access, names, among, does, on_key}
use Rattle.df_model.specs.Meaning.{meaning, one, many}
use Rattle.df_model.specs.Hash.{shard_of}
use Rattle.df_model.specs.declared.command.Command.{Command}
use Rattle.df_model.specs.declared.command.Command.TheVariants.{Plain, One, Many, Whole, Wrong}
use Rattle.df_model.specs.declared.keys.Mode.{Mode}
use Rattle.df_model.specs.declared.keys.Mode.TheVariants.{Shared, Exclusive}
use Rattle.df_model.proofs.LocalityLaws.{tied, same_itself}
use Rattle.df_model.proofs.WholeLaws.{tied_is_same, tied_bytes}
use Rattle.df_order.specs.Lists.{Has}
use Rattle.df_order.proofs.Lists.{has_right}
use Rattle.df_footprints.specs.Asks.{asks_for, touches, writes, is_exclusive}
use Rattle.df_footprints.specs.Footprints.{Modes, access_of, in_mode, named, keys_of, keys_of_all, stronger, with_modes, on_shard, modes_on}

-- ---- keys

-- the test of keys tells them apart
pub same_key : (k q : Bytes) → same k q ≡ true → k ≡ q
same_key k q e = same_text k q (sym e)

pub same_comm : (k q : Bytes) → same k q ≡ same q k
same_comm = nat_list_eq_equiv.symm

-- ---- lists of keys with their modes

abbrev keys_in : List (Bytes × Mode) → List Bytes
keys_in = map (λ m. m.0)

keys_in-append : (xs ys : List (Bytes × Mode)) → keys_in (xs ++ ys) ≡ keys_in xs ++ keys_in ys
keys_in-append [] ys = refl
keys_in-append (x ∷ xs) ys = ap (λ ks. x.0 ∷ ks) (keys_in-append xs ys)

keys_in-mode : (mode : Mode) (keys : List Bytes) → keys_in (in_mode mode keys) ≡ keys
keys_in-mode mode [] = refl
keys_in-mode mode (key ∷ keys) = ap (λ ks. key ∷ ks) (keys_in-mode mode keys)

keys_in-named : (a : Access) → keys_in (named (Some a)) ≡ names a
keys_in-named a =
    keys_in-append (in_mode Shared a.reads) (in_mode Exclusive a.writes)
    ∙ ap (λ ks. ks ++ keys_in (in_mode Exclusive a.writes)) (keys_in-mode Shared a.reads)
    ∙ ap (λ ks. a.reads ++ ks) (keys_in-mode Exclusive a.writes)

-- a key that is named is named in some mode
mode_in : (ms : List (Bytes × Mode)) (key : Bytes) → among (keys_in ms) key ≡ true → (mode : Mode) × Has ms (key, mode)
mode_in [] key e = absurd (false≢true e)
mode_in (m ∷ ms) key e = go (same m.0 key) refl e (mode_in ms key)
  where
    go : (b : Bool) → same m.0 key ≡ b → (b || among (keys_in ms) key) ≡ true →
        (among (keys_in ms) key ≡ true → (mode : Mode) × Has ms (key, mode)) → (mode : Mode) × Has (m ∷ ms) (key, mode)
    go true is e more = (m.1, inl (ap (λ k. (k, m.1)) (same_key m.0 key is)))
    go false is e more = let r : (mode : Mode) × Has ms (key, mode) = more e in (r.0, inr r.1)

in_named : (ms : List (Bytes × Mode)) (key : Bytes) (mode : Mode) → Has ms (key, mode) → among (keys_in ms) key ≡ true
in_named [] key mode h = absurd h
in_named (m ∷ ms) key mode (inl e) = or_left (same m.0 key) (among (keys_in ms) key) (ap (λ n. same n.0 key) e ∙ same_itself key)
in_named (m ∷ ms) key mode (inr h) = or_right (same m.0 key) (among (keys_in ms) key) (in_named ms key mode h)

-- a key that an access names has a mode there
pub named_in_mode : (a : Access) (key : Bytes) → among (names a) key ≡ true → (mode : Mode) × Has (named (Some a)) (key, mode)
named_in_mode a key e = mode_in (named (Some a)) key (ap (λ ks. among ks key) (keys_in-named a) ∙ e)

-- and in mode Exclusive, if it may be written
pub exclusive_in : (a : Access) (key : Bytes) → among a.writes key ≡ true → Has (named (Some a)) (key, Exclusive)
exclusive_in a key e = has_right (in_mode Shared a.reads) (in_mode Exclusive a.writes) (key, Exclusive) (go a.writes e)
  where
    go : (ks : List Bytes) → among ks key ≡ true → Has (in_mode Exclusive ks) (key, Exclusive)
    go [] e = absurd (false≢true e)
    go (k ∷ ks) e =
        elim (or_cases (same k key) (among ks key) e) [ inl i ↦ inl (ap (λ q. (q, Exclusive)) (same_key k key i)) | inr i ↦ inr (go ks i) ]

-- ---- those that stand on a shard

here_or_not : (b t a c : Bool) → (t ≡ true → b ≡ c) → cond b (t || (a && c)) (a && c) ≡ ((t || a) && c)
here_or_not true true a c h = h refl
here_or_not true false a c h = refl
here_or_not false true true c h = refl
here_or_not false true false c h = h refl
here_or_not false false a c h = refl

among_cond : (b : Bool) (m : Bytes × Mode) (ms : List (Bytes × Mode)) (key : Bytes) →
    among (keys_in (cond b (m ∷ ms) ms)) key ≡ cond b (same m.0 key || among (keys_in ms) key) (among (keys_in ms) key)
among_cond true m ms key = refl
among_cond false m ms key = refl

keys_in-on_shard : (shards s : ℕ) (ms : List (Bytes × Mode)) (key : Bytes) →
    among (keys_in (on_shard shards s ms)) key ≡ (among (keys_in ms) key && (shard_of key shards == s))
keys_in-on_shard shards s [] key = refl
keys_in-on_shard shards s (m ∷ ms) key =
    among_cond (shard_of m.0 shards == s) m (on_shard shards s ms) key
    ∙ ap (λ b. cond (shard_of m.0 shards == s) (same m.0 key || b) b) (keys_in-on_shard shards s ms key)
    ∙ here_or_not (shard_of m.0 shards == s) (same m.0 key) (among (keys_in ms) key) (shard_of key shards == s)
    (λ e. ap (λ k. shard_of k shards == s) (same_key m.0 key e))

-- ---- finite maps of keys with their modes

among_list : (ks : List Bytes) (key : Bytes) → list_any (tied key) ks ≡ among ks key
among_list [] key = refl
among_list (k ∷ ks) key = ap (λ b. b || list_any (tied key) ks) (tied_is_same key k) ∙ ap (λ b. same k key || b) (among_list ks key)

-- a key of the map has a mode there
pub among_keys : (M : Modes) (key : Bytes) → among (fin.keys M) key ≡ is_some (fin.get M key)
among_keys M key = sym (contains_key-keys M key ∙ among_list (fin.keys M) key)

some_or : (b c : Bool) (m : Mode) (o : Option Mode) → (c || is_some (cond b (Some m) o)) ≡ ((b || c) || is_some o)
some_or true true m o = refl
some_or true false m o = refl
some_or false c m o = refl

is_some-with_modes : (ms : List (Bytes × Mode)) (M : Modes) (key : Bytes) →
    is_some (fin.get (with_modes ms M) key) ≡ (among (keys_in ms) key || is_some (fin.get M key))
is_some-with_modes [] M key = refl
is_some-with_modes (m ∷ ms) M key =
    is_some-with_modes ms (fin.insert M m.0 (stronger m.1 (fin.get M m.0))) key
    ∙ ap (λ o. among (keys_in ms) key || is_some o) (get-insert nat_list_cmp_total M m.0 (stronger m.1 (fin.get M m.0)) key)
    ∙ some_or (tied key m.0) (among (keys_in ms) key) (stronger m.1 (fin.get M m.0)) (fin.get M key)
    ∙ ap (λ b. (b || among (keys_in ms) key) || is_some (fin.get M key)) (tied_is_same key m.0)

-- the keys that the commands name on a shard
among_modes : (shards s : ℕ) (commands : List Command) (key : Bytes) →
    among (fin.keys (modes_on shards s commands)) key ≡ (among (keys_in (keys_of_all commands)) key && (shard_of key shards == s))
among_modes shards s commands key =
    among_keys (modes_on shards s commands) key
    ∙ is_some-with_modes (on_shard shards s (keys_of_all commands)) fin.empty key
    ∙ ap (λ o. among (keys_in (on_shard shards s (keys_of_all commands))) key || is_some o) (get-empty (slice_cmp nat_cmp) key)
    ∙ or-false (among (keys_in (on_shard shards s (keys_of_all commands))) key)
    ∙ keys_in-on_shard shards s (keys_of_all commands) key

-- the keys that one command names on a shard
pub keys_of_one : (shards s : ℕ) (command : Command) (a : Access) (key : Bytes) → access_of command ≡ Some a →
    among (fin.keys (modes_on shards s (command ∷ []))) key ≡ (among (names a) key && (shard_of key shards == s))
keys_of_one shards s command a key e =
    among_modes shards s (command ∷ []) key
    ∙ ap (λ ms. among (keys_in ms) key && (shard_of key shards == s)) (append-nil (keys_of command) ∙ ap named e)
    ∙ ap (λ ks. among ks key && (shard_of key shards == s)) (keys_in-named a)

-- a key that the commands name in some mode, and that stands on the shard, is theirs there
pub mode_there : (shards s : ℕ) (commands : List Command) (key : Bytes) (mode : Mode) →
    Has (keys_of_all commands) (key, mode) → shard_of key shards ≡ s →
    among (fin.keys (modes_on shards s commands)) key ≡ true
mode_there shards s commands key mode h e =
    among_modes shards s commands key
    ∙ ap (λ b. b && (shard_of key shards == s)) (in_named (keys_of_all commands) key mode h)
    ∙ eq-eqb (shard_of key shards) s e

-- and no others
pub named_there : (shards s : ℕ) (commands : List Command) (key : Bytes) →
    among (fin.keys (modes_on shards s commands)) key ≡ true →
    (shard_of key shards ≡ s) × ((mode : Mode) × Has (keys_of_all commands) (key, mode))
named_there shards s commands key n =
    let both : (among (keys_in (keys_of_all commands)) key ≡ true) × ((shard_of key shards == s) ≡ true) =
    and_parts (among (keys_in (keys_of_all commands)) key) (shard_of key shards == s) (sym (among_modes shards s commands key) ∙ n) in
    (eqb-true (shard_of key shards) s both.1, mode_in (keys_of_all commands) key both.0)

-- a command that names keys does to them what its access does
pub means : (command : Command) (a : Access) (K : Keyspace) → access_of command ≡ Some a → meaning command K ≡ does a K
means (Plain op) a K e = cc
means (One key op) a K e = ap (λ b. does b K) (same_Some (on_key key (one op)) a e)
means (Many op) a K e = ap (λ b. does b K) (same_Some (many op) a e)
means (Whole op) a K e = cc
means (Wrong error) a K e = cc

-- ---- what is asked for

-- the keys of the map are asked for
pub touches_keys : (M : Modes) (key : Bytes) → touches (asks_for (fin.entries M)) key ≡ among (fin.keys M) key
touches_keys M key = go (fin.entries M)
  where
    go : (es : List (Bytes × Mode)) → touches (asks_for es) key ≡ among (map (λ e. e.0) es) key
    go [] = refl
    go (e ∷ es) = ap (λ b. same e.0 key || b) (go es)

-- a key that is written once is written
pub strong_behind : (mode : Mode) → stronger mode (Some Exclusive) ≡ Exclusive
strong_behind Shared = refl
strong_behind Exclusive = refl

get-stays : (ms : List (Bytes × Mode)) (M : Modes) (key : Bytes) → fin.get M key ≡ Some Exclusive →
    fin.get (with_modes ms M) key ≡ Some Exclusive
get-stays [] M key e = e
get-stays (m ∷ ms) M key e =
    get-stays ms (fin.insert M m.0 (stronger m.1 (fin.get M m.0))) key
    (get-insert nat_list_cmp_total M m.0 (stronger m.1 (fin.get M m.0)) key ∙ go (tied key m.0) refl)
  where
    go : (b : Bool) → tied key m.0 ≡ b → cond b (Some (stronger m.1 (fin.get M m.0))) (fin.get M key) ≡ Some Exclusive
    go true i = ap (λ o. Some (stronger m.1 o)) (ap (fin.get M) (sym (tied_bytes key m.0 i)) ∙ e) ∙ ap Some (strong_behind m.1)
    go false i = e

get-written : (ms : List (Bytes × Mode)) (M : Modes) (key : Bytes) → Has ms (key, Exclusive) →
    fin.get (with_modes ms M) key ≡ Some Exclusive
get-written [] M key h = absurd h
get-written (m ∷ ms) M key (inl e) = get-stays ms (fin.insert M m.0 (stronger m.1 (fin.get M m.0))) key (
    get-insert nat_list_cmp_total M m.0 (stronger m.1 (fin.get M m.0)) key
    ∙ ap (λ b. cond b (Some (stronger m.1 (fin.get M m.0))) (fin.get M key)) (tied_is_same key m.0 ∙ ap (λ n. same n.0 key) e ∙ same_itself key)
    ∙ ap (λ n. Some (stronger n.1 (fin.get M m.0))) e)
get-written (m ∷ ms) M key (inr h) = get-written ms (fin.insert M m.0 (stronger m.1 (fin.get M m.0))) key h

has_on_shard : (shards s : ℕ) (ms : List (Bytes × Mode)) (m : Bytes × Mode) → Has ms m → shard_of m.0 shards ≡ s →
    Has (on_shard shards s ms) m
has_on_shard shards s [] m h e = absurd h
has_on_shard shards s (n ∷ ms) m (inl i) e =
    subst (λ b. Has (cond b (n ∷ on_shard shards s ms) (on_shard shards s ms)) m)
    (sym (eq-eqb (shard_of n.0 shards) s (ap (λ k. shard_of k.0 shards) i ∙ e))) (inl i)
has_on_shard shards s (n ∷ ms) m (inr h) e = go (shard_of n.0 shards == s) (has_on_shard shards s ms m h e)
  where
    go : (b : Bool) → Has (on_shard shards s ms) m → Has (cond b (n ∷ on_shard shards s ms) (on_shard shards s ms)) m
    go true h = inr h
    go false h = h

written : (es : List (Bytes × Mode)) (key : Bytes) → find (slice_cmp nat_cmp) key es ≡ Some Exclusive →
    writes (asks_for es) key ≡ true
written [] key e = cc
written (m ∷ es) key e = go (tied key m.0) refl e (written es key)
  where
    go : (b : Bool) → tied key m.0 ≡ b → cond b (Some m.1) (find (slice_cmp nat_cmp) key es) ≡ Some Exclusive →
        (find (slice_cmp nat_cmp) key es ≡ Some Exclusive → writes (asks_for es) key ≡ true) →
        ((is_exclusive m.1 && same m.0 key) || writes (asks_for es) key) ≡ true
    go true i e more =
        or_left (is_exclusive m.1 && same m.0 key) (writes (asks_for es) key)
        (ap (λ mode. is_exclusive mode && same m.0 key) (same_Some m.1 Exclusive e) ∙ sym (tied_is_same key m.0) ∙ i)
    go false i e more = or_right (is_exclusive m.1 && same m.0 key) (writes (asks_for es) key) (more e)

-- a key that a command is to write, and that stands on the shard, is asked for to be written
pub written_there : (shards s : ℕ) (commands : List Command) (key : Bytes) →
    Has (keys_of_all commands) (key, Exclusive) → shard_of key shards ≡ s →
    writes (asks_for (fin.entries (modes_on shards s commands))) key ≡ true
written_there shards s commands key h e = written (fin.entries (modes_on shards s commands)) key (
    sym (get-entries (modes_on shards s commands) key)
    ∙ get-written (on_shard shards s (keys_of_all commands)) fin.empty key (has_on_shard shards s (keys_of_all commands) (key, Exclusive) h e))
