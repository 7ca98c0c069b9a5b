use Rattle.std.proofs.Common.{◌≡◌, drop}
use Rattle.std.specs.Prelude.{Some}
use Rattle.df_model.specs.Reads.Shapes
use Rattle.df_model.specs.declared.command.Guard.TheVariants.{Always}
use Rattle.df_parse.proofs.options.guards.Given as goal

abbrev pub invariant-options : goal.invariant-options
invariant-options l = Shapes.guards (Some Always) l.options ≡ Shapes.guards (Some l.guard) (drop l.option-index l.options)
