-- A shard that a call joins in waiting, one where a hop is armed or ran, and one that a call leaves.
use Rattle.std.specs.Prelude.{ℕ, ◌+◌, ◌==◌, max, cond, Some, None, List, [], ◌∷◌, ◌++◌}
use Rattle.df_model.specs.Keyspace.{Keyspace}
use Rattle.df_model.specs.declared.command.Call.{Call}
use Rattle.df_model.specs.declared.keys.Keys.{Keys}
use Rattle.df_log.specs.Acts.{Act, Changes}
use Rattle.df_log.specs.declared.entry.Entry.{Entry}
use Rattle.df_book.specs.Passes.{Shard}
use Rattle.df_intents.specs.Holders as intents
use Rattle.df_txqueue.specs.Places as queue
use Rattle.df_txqueue.specs.declared.place.Place.{Place}
use Rattle.df_shard.specs.Holds.{View, Wait, call_act}

-- ---- a call comes to wait

-- with nothing armed
abbrev pub plain_wait : ℕ → ℕ → Wait
plain_wait n conn = record { number = n; conn = conn; above = 0; armed = None; staged = [] }

abbrev pub quick_wait : ℕ → ℕ → ℕ → Call → Wait
quick_wait n conn hop call =
    record { number = n; conn = conn; above = 0; armed = Some record { hop = hop; act = call_act call hop; call = Some call }; staged = [] }

-- the call has its intents and its place
abbrev pub waited : View → Keys → Place → Wait → View
waited x keys place w = record x {
  holders = record { number = place.number; keys = keys } ∷ x.holders;
  places = queue.with_place place x.places;
  waiting = x.waiting ++ w ∷ [];
}

-- ---- one of them changes

-- the call with this number waits so from now on
abbrev pub with_wait : ℕ → Wait → List Wait → List Wait
with_wait n new [] = []
with_wait n new (w ∷ ws) = cond (w.number == n) (new ∷ ws) (w ∷ with_wait n new ws)

-- a hop of it is armed
abbrev pub armed_wait : Wait → ℕ → Act → Wait
armed_wait w hop act = record w { armed = Some record { hop = hop; act = act; call = None } }

abbrev pub with_armed : View → Wait → ℕ → Act → View
with_armed x w hop act = record x { waiting = with_wait w.number (armed_wait w hop act) x.waiting }

-- its hop ran, and this is staged for it then
abbrev pub done_wait : Wait → ℕ → Changes → Wait
done_wait w hop staged = record { number = w.number; conn = w.conn; above = hop + 1; armed = None; staged = staged }

-- its hop was entered, and left these keys and these changes
abbrev pub served : View → Wait → Entry → Keyspace → Changes → ℕ → Shard → View
served x w e K staged kept p = record x {
  pass = p;
  ran = max x.ran e.number;
  keys = K;
  kept = kept;
  waiting = with_wait w.number (done_wait w e.hop staged) x.waiting;
}

-- ---- a call leaves

abbrev pub waiting_without : ℕ → List Wait → List Wait
waiting_without n [] = []
waiting_without n (w ∷ ws) = cond (w.number == n) (waiting_without n ws) (w ∷ waiting_without n ws)

-- the call has neither intents nor place, and nothing is armed of it
abbrev pub left : View → ℕ → View
left x n = record x {
  holders = intents.without n x.holders;
  places = queue.without n x.places;
  waiting = waiting_without n x.waiting;
}
