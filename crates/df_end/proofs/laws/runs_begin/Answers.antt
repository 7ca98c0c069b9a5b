use Rattle.df_end.proofs.ShardLaws.{lobbies_begin, sessions_begin, shards_begin}
use Rattle.df_end.proofs.laws.runs_begin.Goals as goal

pub returns-clause-lobby : goal.returns-clause-lobby
returns-clause-lobby c = lobbies_begin

pub returns-clause-sessions : goal.returns-clause-sessions
returns-clause-sessions c = sessions_begin

pub returns-clause-shards : goal.returns-clause-shards
returns-clause-shards c = shards_begin
