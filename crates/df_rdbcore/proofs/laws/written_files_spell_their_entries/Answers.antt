use Rattle.df_rdbcore.proofs.WrittenLaws.{written_spells}
use Rattle.df_rdbcore.proofs.laws.written_files_spell_their_entries.Goals as goal

pub returns : goal.returns
returns c = written_spells
