-- Which of the commands on hashes only look.
use Rattle.df_model.specs.declared.command.OneOp.{OneOp}
use Rattle.df_model.specs.declared.command.OneOp.TheVariants as ones

abbrev pub IsLook : OneOp → Type 0
IsLook (ones.Hget field) = Unit {0}
IsLook (ones.Hmget words) = Unit {0}
IsLook ones.Hlen = Unit {0}
IsLook (ones.Hexists field) = Unit {0}
IsLook (ones.Hstrlen field) = Unit {0}
IsLook ones.Hkeys = Unit {0}
IsLook ones.Hvals = Unit {0}
IsLook ones.Hgetall = Unit {0}
IsLook op = ⊥
