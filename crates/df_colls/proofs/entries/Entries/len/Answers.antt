use Rattle.std.proofs.Common.{length, sym, ap, ◌∙◌}
use Rattle.df_colls.specs.Cuts.{flat}
use Rattle.df_colls.specs.Bodies.{entries_of}
use Rattle.df_colls.proofs.BodyLaws.{len_is}
use Rattle.df_colls.proofs.entries.Entries.len.Goals as goal

pub returns-in-Small : goal.returns-in-Small
returns-in-Small g c =
    c.len.ensures ∙ c.in-Small.items.ok.0 ∙ sym (len_is c.self.inside.body c.args.self.now c.self.invariant.0 c.self.view_is ∙ ap (λ b. length (entries_of b)) c.in-Small.is)

pub returns-in-Large : goal.returns-in-Large
returns-in-Large g c =
    c.len-in-Large.ensures ∙ ap (λ v. length (flat v.parts)) c.deref.ensures ∙ sym (len_is c.self.inside.body c.args.self.now c.self.invariant.0 c.self.view_is ∙ ap (λ b. length (entries_of b)) c.in-Large.is)
