use Rattle.df_log.specs.Acts.{Clear, Applied}
use Rattle.df_test_order.proofs.book.entry_of.Given as goal

abbrev pub ghost-new : goal.ghost-new
ghost-new a = (Clear, Applied)
