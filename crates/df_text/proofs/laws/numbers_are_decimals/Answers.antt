use Rattle.df_text.proofs.DecimalLaws.{signed_decimals, unsigned_decimals}
use Rattle.df_text.proofs.laws.numbers_are_decimals.Goals as goal

pub returns-clause-signed : goal.returns-clause-signed
returns-clause-signed c = signed_decimals

pub returns-clause-unsigned : goal.returns-clause-unsigned
returns-clause-unsigned c = unsigned_decimals
