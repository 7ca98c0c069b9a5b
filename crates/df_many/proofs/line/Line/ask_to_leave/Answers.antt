use Rattle.df_many.proofs.line.Line.ask_to_leave.Goals as goal

pub returns-clause-way : goal.returns-clause-way
returns-clause-way c = c.ask_to_leave.ensures.way
