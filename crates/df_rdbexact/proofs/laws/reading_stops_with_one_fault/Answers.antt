use Rattle.df_rdbexact.proofs.FileLaws.{stops_once}
use Rattle.df_rdbexact.proofs.laws.reading_stops_with_one_fault.Goals as goal

pub returns : goal.returns
returns c = stops_once
