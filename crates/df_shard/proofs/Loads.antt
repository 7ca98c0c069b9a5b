-- A shard before anything ran, and a key that is loaded.
use Rattle.std.proofs.Common.{◌≡◌, ℕ, ◌+◌, ◌<◌, List, [], ◌∷◌, refl, sym, ap, ◌∙◌, subst, arith}
use Rattle.std.specs.Prelude.{map, Option}
use Rattle.df_model.specs.Values.{Bytes, Value}
use Rattle.df_model.specs.Hash.{shard_of}
use Rattle.df_model.specs.Keyspace.{Keyspace, no_keys, with_held}
use Rattle.df_order.specs.Lists.{Has}
use Rattle.df_order.specs.Model.{replay}
use Rattle.df_order.specs.Shards as order
use Rattle.df_order.specs.Shards.{Kept, empty}
use Rattle.df_order.proofs.Lists.{nil_none}
use Rattle.df_order.proofs.ShardKept.{kept_first}
use Rattle.df_log.specs.Parts.{Part, own_keys}
use Rattle.df_log.specs.Entries.{acts_of}
use Rattle.df_core.specs.Calls.{calls}
use Rattle.df_book.specs.Weights.{Each}
use Rattle.df_book.specs.Draws.{call_at}
use Rattle.df_book.specs.Passes.{BookName, new_shard}
use Rattle.df_txqueue.specs.Places.{is_queued}
use Rattle.df_end.specs.Shards.{loaded}
use Rattle.df_end.proofs.ShardLaws.{shards_begin}
use Rattle.df_shard.specs.Holds.{View, Holds, Wait, Waits, holder_of, place_of, staged_in, world_of}
use Rattle.df_shard.proofs.Bare.{not-both}
use Rattle.df_shard.proofs.Owns.{own_held, own_no_keys}

-- its keys are those that were loaded
pub fresh-keys : (x : View) → Holds x → x.pass.log ≡ [] → x.keys ≡ x.first
fresh-keys x h none =
    ap (λ (p : Part). p.visible) (h.holds.kept.replayed ∙ ap (λ l. replay (calls x.shards) (loaded x.first) (acts_of l)) none)

nobody-waits : (x : View) → Holds x → x.places ≡ [] → x.waiting ≡ []
nobody-waits x h none = go x.waiting h.waits
  where
    go : (ws : List Wait) → Each (Waits x.shards x.index x.places x.pass) ws → ws ≡ []
    go [] k = refl
    go (w ∷ ws) k = absurd (not-both k.0.queued (ap (is_queued w.number) none))

pub loads : (x : View) (K : Keyspace) → Holds x → x.pass.log ≡ [] → x.places ≡ [] → own_keys x.shards x.index K ≡ K →
    Holds (record x { first = K; keys = K })
loads x K h none nobody own = record {
  some = h.some;
  index = h.index;
  book = h.book;
  own = h.own;
  holds = record {
    kept = subst (Kept (calls x.shards) (call_at x.pass.known) x.pass.shard (loaded K)) (sym world)
        (kept_first (calls x.shards) (call_at x.pass.known) x.pass.shard (loaded K));
    log = h.holds.log;
    waiting = h.holds.waiting;
    known = h.holds.known;
    room = h.holds.room;
  };
  once = h.once;
  waits = h.waits;
  room = h.room;
  mine = record { visible = own; staged = h.mine.staged };
}
  where
    no-queue : map place_of x.places ≡ []
    no-queue = ap (map place_of) nobody

    no-holders : map (holder_of x.shards) x.holders ≡ []
    no-holders = nil_none (map (holder_of x.shards) x.holders)
        (λ k m. let q = (h.holds.kept.holding k m).0 in subst (λ l. Has l q.0) no-queue q.1)

    no-log : acts_of x.pass.log ≡ []
    no-log = ap acts_of none

    none-ran : x.ran ≡ 0
    none-ran = h.holds.kept.ran_is ∙ ap (order.greatest (calls x.shards)) no-log

    none-staged : (n : ℕ) → staged_in x.waiting n ≡ []
    none-staged n = ap (λ ws. staged_in ws n) (nobody-waits x h nobody)

    world : world_of (record x { first = K; keys = K }) ≡ empty (calls x.shards) (loaded K)
    world = λ j. record {
      state = record { visible = K; staged = λ n. none-staged n j };
      holders = no-holders j;
      queue = no-queue j;
      ran = none-ran j;
      log = no-log j;
    }

-- one more key, which is the shard's own
pub loads-key : (x : View) (K : Keyspace) (key : Bytes) (v : Option Value) → Holds x → x.pass.log ≡ [] → x.places ≡ [] →
    shard_of key x.shards ≡ x.index → K ≡ with_held x.keys key v → Holds (record x { first = K; keys = K })
loads-key x K key v h none nobody here is =
    loads x K h none nobody (subst (λ (L : Keyspace). own_keys x.shards x.index L ≡ L) (sym is) (own_held x.shards x.index x.keys key v here h.mine.visible))

-- ---- a shard that has just begun

abbrev begun : ℕ → ℕ → ℕ → BookName → View
begun shards index kept z = record {
  index = index;
  shards = shards;
  ran = 0;
  holders = [];
  places = [];
  waiting = [];
  keys = no_keys;
  kept = kept;
  first = no_keys;
  pass = new_shard z index;
}

begins-at : (shards index kept : ℕ) (z : BookName) → index < shards → z.words ≡ shards + 2 → Holds (begun shards index kept z)
begins-at shards index kept z some words = record {
  some = some;
  index = refl;
  book = words;
  own = refl;
  holds = shards_begin shards index no_keys z;
  once = tt;
  waits = tt;
  room = omega arith;
  mine = record { visible = own_no_keys shards index; staged = λ n. tt };
}

pub begins : (x : View) → x.index < x.shards → x.pass ≡ new_shard x.pass.book x.index → x.pass.book.words ≡ x.shards + 2 →
    x.ran ≡ 0 → x.holders ≡ [] → x.places ≡ [] → x.waiting ≡ [] → x.keys ≡ no_keys → x.first ≡ no_keys → Holds x
begins x some pass words ran holders places waiting keys first = subst Holds (sym same) (begins-at x.shards x.index x.kept x.pass.book some words)
  where
    same : x ≡ begun x.shards x.index x.kept x.pass.book
    same = λ j. record {
      index = x.index;
      shards = x.shards;
      ran = ran j;
      holders = holders j;
      places = places j;
      waiting = waiting j;
      keys = keys j;
      kept = x.kept;
      first = first j;
      pass = pass j;
    }
