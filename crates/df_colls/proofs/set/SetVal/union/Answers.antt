use Rattle.std.proofs.Common.{ap, ◌∙◌}
use Rattle.df_model.specs.Members.{union}
use Rattle.df_colls.proofs.MergeLaws.{united}
use Rattle.df_colls.proofs.set.SetVal.union.Goals as goal

pub from_items-requires : goal.from_items-requires
from_items-requires c = (united c.self.inside.entries.contents c.other.inside.entries.contents c.in_ok-items.items.items c.in_ok-items.ensures).sorted

pub returns : goal.returns
returns c =
    c.in_ok-entries.ensures ∙ (united c.self.inside.entries.contents c.other.inside.entries.contents c.in_ok-items.items.items c.in_ok-items.ensures).same
    ∙ ap (λ v. union v.members c.other.inside.entries.contents) c.self.view_is ∙ ap (λ v. union c.args.self.now.members v.members) c.other.view_is
