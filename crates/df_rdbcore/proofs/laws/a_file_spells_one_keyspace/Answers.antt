use Rattle.df_rdbcore.proofs.FileLaws.{has_one_order, spells_one}
use Rattle.df_rdbcore.proofs.laws.a_file_spells_one_keyspace.Goals as goal

pub returns-clause-keyspace : goal.returns-clause-keyspace
returns-clause-keyspace c = spells_one

pub returns-clause-order : goal.returns-clause-order
returns-clause-order c = has_one_order
