-- Which of the commands on sets only look.
use Rattle.df_model.specs.declared.command.OneOp.{OneOp}
use Rattle.df_model.specs.declared.command.OneOp.TheVariants as ones

abbrev pub IsLook : OneOp → Type 0
IsLook ones.Scard = Unit {0}
IsLook (ones.Sismember member) = Unit {0}
IsLook (ones.Smismember words) = Unit {0}
IsLook ones.Smembers = Unit {0}
IsLook op = ⊥
