use Rattle.std.proofs.Common.{◌≡◌, ◌≤◌, ◌+◌, ◌-◌, length, drop}
use Rattle.df_model.specs.Meaning.Lists.{without_first}
use Rattle.df_lists.specs.Ends.{from_end}
use Rattle.df_lists.proofs.removal.equal_from.Given as goal

abbrev pub invariant-elements : goal.invariant-elements
invariant-elements l =
    let items = from_end l.side l.list.items in
    record {
      count : l.met + length (without_first l.most l.element items) ≡ l.at + length (without_first (l.most - l.met) l.element (drop l.at items));
      met : l.met ≤ l.at;
      most : l.met ≤ l.most;
    }
