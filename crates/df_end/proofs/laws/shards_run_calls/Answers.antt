use Rattle.df_end.proofs.ShardLaws.{shards_run_in_turn, shards_run_at_once, shards_note, armed_has_room, hops_are_fresh, staged_stays_own}
use Rattle.df_end.proofs.laws.shards_run_calls.Goals as goal

pub returns-clause-in_turn : goal.returns-clause-in_turn
returns-clause-in_turn c = shards_run_in_turn

pub returns-clause-at_once : goal.returns-clause-at_once
returns-clause-at_once c = shards_run_at_once

pub returns-clause-notes : goal.returns-clause-notes
returns-clause-notes c = shards_note

pub returns-clause-room : goal.returns-clause-room
returns-clause-room c = armed_has_room

pub returns-clause-fresh : goal.returns-clause-fresh
returns-clause-fresh c = hops_are_fresh

pub returns-clause-staged : goal.returns-clause-staged
returns-clause-staged c = staged_stays_own
