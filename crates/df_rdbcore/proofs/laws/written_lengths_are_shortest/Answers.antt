use Rattle.df_rdbcore.proofs.WrittenLaws.{short_is_length, short_is_shortest}
use Rattle.df_rdbcore.proofs.laws.written_lengths_are_shortest.Goals as goal

pub returns-clause-is_length : goal.returns-clause-is_length
returns-clause-is_length c = short_is_length

pub returns-clause-shortest : goal.returns-clause-shortest
returns-clause-shortest c = short_is_shortest
