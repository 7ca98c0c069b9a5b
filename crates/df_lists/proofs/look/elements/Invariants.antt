use Rattle.std.proofs.Common.{◌≡◌, ◌++◌, drop, take}
use Rattle.std.specs.List.{flat_map}
use Rattle.df_model.specs.Outcomes.{bulks}
use Rattle.df_model.specs.Replies.{encoding_of}
use Rattle.df_lists.specs.Ends.{from_end}
use Rattle.df_lists.proofs.RangeLaws.{bulk_bytes}
use Rattle.df_lists.proofs.look.elements.Given as goal

abbrev pub invariant-elements : goal.invariant-elements
invariant-elements l =
    let items = take l.stop (from_end l.side l.list.items) in
    l.reply ++ flat_map bulk_bytes (drop l.at items) ≡ encoding_of (bulks (drop l.start items))
