use Rattle.std.proofs.Common.{◌≡◌, ◌<◌, length}
use Rattle.std.specs.List.{insert}
use Rattle.df_keys.proofs.few.insert_at.Given as goal

-- what is left to put goes here
abbrev pub invariant-places : goal.invariant-places
invariant-places l = record {
  all : insert l.list.items l.place l.item ≡ insert l.fn.list.items l.fn.at l.fn.item;
  count : length l.list.items ≡ length l.fn.list.items;
  room : 0 < l.list.spare;
}
