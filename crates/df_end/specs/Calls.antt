-- What a call leaves with its caller's pass.
use Rattle.std.specs.Prelude.{◌≡◌, ℕ, ◌+◌, ◌<◌, ◌≤◌, is_some, true, Option, Some, None, List, [], ◌∷◌}
use Rattle.df_model.specs.History.{Item}
use Rattle.df_model.specs.declared.reply.Reply.{Reply}
use Rattle.df_log.specs.declared.entry.Entry.{Entry}
use Rattle.df_core.specs.Calls.{calls}
use Rattle.df_core.specs.Done.{marks_of}
use Rattle.df_core.specs.Steps.{steps_of}
use Rattle.df_core.specs.History.{NamesAShard}
use Rattle.df_book.specs.Weights.{count}
use Rattle.df_book.specs.Logs.{uses_in}
use Rattle.df_book.specs.Passes.{Caller}
use Rattle.df_book.specs.declared.draw.Draw.{Draw}
use Rattle.df_end.specs.Logs.{entries_in}

-- a number that a session drew, and the reply to its call, or None where the call never ran
pub record Row : Type 0 where
  pub draw : Draw
  pub reply : Option Reply

abbrev pub draws_in : List Row → List Draw
draws_in [] = []
draws_in (r ∷ rows) = r.draw ∷ draws_in rows

-- What came of a draw, as these logs tell. None: its call names a shard, and has no entry. Some: its entries are all hops
-- of the call, and give this reply; a call that names no shard gives one without any.
abbrev pub Came : ℕ → List (List Entry) → Draw → Option Reply → Type 0
Came shards seen d None = NamesAShard shards d.call × ((s : ℕ) → entries_in shards seen d.number s ≡ [])
Came shards seen d (Some reply) = (calls shards).Gives d.call (entries_in shards seen d.number) reply

-- What a call leaves with its caller, who has seen an entry or a note for each running ticket that was made of the number:
-- so these are all, and by them the call ran to its end or never ran.
pub record CallLeft (shards : ℕ) (v : Caller) (r : Row) : Type 0 where
  pub used : uses_in r.draw.number v.seen (shards + 1) ≡ count r.draw.number v.made
  pub came : Came shards v.seen r.draw r.reply

-- of two draws of one session the later is above the earlier, and had seen the earlier's call, if that ran and names a shard
pub record Follows (shards : ℕ) (r q : Row) : Type 0 where
  pub above : r.draw.number < q.draw.number
  pub seen : is_some r.reply ≡ true → NamesAShard shards r.draw.call → r.draw.number ≤ q.draw.floor

-- ---- items

abbrev pub item_of : ℕ → List (List Entry) → Draw → Reply → Item
item_of shards logs d reply = record {
  session = d.session;
  number = d.number;
  call = d.call;
  marks = marks_of shards d.call (λ s. steps_of (entries_in shards logs d.number s));
  floor = d.floor;
  reply = reply;
}

abbrev pub with_item : ℕ → List (List Entry) → Draw → Option Reply → List Item → List Item
with_item shards logs d None items = items
with_item shards logs d (Some reply) items = item_of shards logs d reply ∷ items

-- an item for each call that ran
abbrev pub items_of : ℕ → List (List Entry) → List Row → List Item
items_of shards logs [] = []
items_of shards logs (r ∷ rows) = with_item shards logs r.draw r.reply (items_of shards logs rows)
