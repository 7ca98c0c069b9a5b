use Rattle.std.proofs.Common.{◌≡◌, subst, sym, ap, ◌∙◌, refl}
use Rattle.std.specs.Option.{option_map, option_copied}
use Rattle.std.proofs.lemmas.Result.{on_ok_weaker}
use Rattle.df_model.specs.Meaning.Lists.{elements}
use Rattle.df_model.specs.Replies.{encoding_of}
use Rattle.df_model.specs.declared.reply.ErrorText.TheVariants.{WrongKind}
use Rattle.df_model.specs.declared.reply.Reply.TheVariants.{Error}
use Rattle.df_values.specs.Seen.{seen}
use Rattle.df_table.specs.Moved.{IsSeen}
use Rattle.df_table.specs.Responses.{Gives}
use Rattle.df_table.proofs.ListLaws.{lmove_refused}
use Rattle.df_table.proofs.moves.move_from.Goals as goal

pub returns-in-Other-clause-ok : goal.returns-in-Other-clause-ok
returns-in-Other-clause-ok c =
    let K = c.args.table.now.keys in
    let bytes = c.put_error.new.self in
    let other = sym (ap elements c.get.ensures) ∙ subst (λ l. IsSeen l (option_map seen (option_copied c.get.result))) c.in-Other.is c.look.ensures in
    on_ok_weaker c.put_error.result
    (λ (said : bytes ≡ encoding_of (Error WrongKind)).
    subst (λ m. Gives m K bytes) (sym (lmove_refused c.args.source c.args.destination c.args.from c.args.to K c.requires (sym c.eq.ensures ∙ c.if-eq.false) other))
    (record { leaves = refl; says = said }))
    c.put_error.ensures
