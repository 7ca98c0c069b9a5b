use Rattle.std.proofs.Common.{◌≡◌, ◌++◌, map, sym, ap, ◌∙◌, append-nil}
use Rattle.std.specs.Map.{keys_of}
use Rattle.std.specs.FinMap as fin
use Rattle.df_values.specs.Seen.{seen}
use Rattle.df_table.proofs.NamesLaws.{all_sorted}
use Rattle.df_table.proofs.table.Table.lent_names.Goals as goal

pub returns : goal.returns
returns c =
    let es = c.self.inside.map.entries in
    let collected : map (λ name. name.now) c.keys.lent.items ≡ keys_of es =
    sym (append-nil _)
    ∙ ap (λ left. map (λ name. name.now) c.keys.lent.items ++ left) (sym c.in-None.ensures.steps.0)
    ∙ c.keys.invariant
    ∙ c.into_iter-key-iterator.ensures.into_iter_gives ∙ c.keys-key-items.ensures.rest in
    all_sorted seen (λ name. name.now) es c.keys.lent.items c.sort_unstable.new.self.items
    collected c.keys-key-items.ensures.unique c.sort_unstable.ensures.permutation c.sort_unstable.ensures.sorted
    ∙ ap (λ t. fin.keys t.keys) c.self.view_is
