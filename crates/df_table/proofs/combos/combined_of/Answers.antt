use Rattle.std.proofs.Common.{◌≡◌, ◌<◌, length, true, is_some, ap, sym, ◌∙◌}
use Rattle.df_model.specs.Meaning.Sets.{sets_of}
use Rattle.df_table.specs.HeldSets.{set_in, set_at}
use Rattle.df_table.proofs.CombosLaws.{from_first, some_left}
use Rattle.df_table.proofs.combos.combined_of.Goals as goal

pub returns : goal.returns
returns c =
    let K = c.args.table.now.keys in
    let ks = c.args.keys.now in
    let some : 0 < length ks = some_left (length ks) c.is_empty.result c.is_empty.ensures c.if-is_empty.false in
    let sets : is_some (sets_of K ks) ≡ true = sym c.only_sets.ensures ∙ c.if-not-only_sets.false in
    let copied : c.in_ok-so_far.so_far.members ≡ set_at K c.index-keys-0.result = c.in_ok-so_far.ensures ∙ c.set_or.ensures ∙ ap set_in c.get.ensures in
    from_first c.args.op K ks c.index-keys-0.result c.in_ok-so_far.so_far.members c.in_ok-made.made.members some sets c.index-keys-0.is copied c.in_ok-made.ensures
