-- A shard by its fields.
use Rattle.std.specs.Prelude.{map}
use Rattle.df_shard.specs.Holds.{View, Holds, wait_of}
use Rattle.df_shard.specs.declared.shard.Shard.TheInside.{Inside}

abbrev pub view_of : Inside → View
view_of x = record {
  index = x.index;
  shards = x.shards;
  ran = x.ran;
  holders = x.intents.holders;
  places = x.queue.places;
  waiting = map wait_of x.waiting.items;
  keys = x.table.keys;
  kept = x.table.kept;
  first = x.first.value.keys;
  pass = x.pass;
}

abbrev pub HoldsIn : Inside → Type 0
HoldsIn x = Holds (view_of x)
