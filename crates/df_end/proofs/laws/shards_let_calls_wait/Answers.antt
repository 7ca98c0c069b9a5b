use Rattle.df_end.proofs.ShardLaws.{shards_take_tickets, shards_let_wait, shards_let_go}
use Rattle.df_end.proofs.laws.shards_let_calls_wait.Goals as goal

pub returns-clause-tickets : goal.returns-clause-tickets
returns-clause-tickets c = shards_take_tickets

pub returns-clause-waits : goal.returns-clause-waits
returns-clause-waits c = shards_let_wait

pub returns-clause-leaves : goal.returns-clause-leaves
returns-clause-leaves c = shards_let_go
