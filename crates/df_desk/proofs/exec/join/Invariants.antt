use Rattle.std.proofs.Common.{◌≡◌, ◌++◌, drop, length, codes, decimal}
use Rattle.std.specs.List.{flat_map}
use Rattle.df_model.specs.Replies.{crlf}
use Rattle.df_desk.specs.Parts.{bytes_of}
use Rattle.df_desk.proofs.exec.join.Given as goal

abbrev pub invariant-parts : goal.invariant-parts
invariant-parts l = l.reply ++ flat_map bytes_of (drop l.part-index l.parts) ≡ codes "*" ++ decimal (length l.parts) ++ crlf ++ flat_map bytes_of l.parts
