use Rattle.std.proofs.Common.{[], ◌<◌, length, sym, subst, ◌∙◌}
use Rattle.std.specs.FinMap.{entries, len-entries}
use Rattle.std.proofs.lemmas.List.{length-map}
use Rattle.std.proofs.lemmas.Option.{none-some, slice_get-get_or}
use Rattle.df_model.specs.Members as members
use Rattle.df_turn.proofs.whole.name_at.Goals as goal

pub unreachable-requires : goal.unreachable-requires
unreachable-requires c =
    let names = c.args.names.now.members in
    let count = len-entries names ∙ sym (length-map (entries names) (λ e. e.0)) in
    let lt : c.args.i < length (members.items names) = subst (λ n. c.args.i < n) count c.requires in
    none-some _ (c.in-None.ensures ∙ slice_get-get_or (members.items names) c.args.i [] lt)
