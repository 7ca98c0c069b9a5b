use Rattle.std.proofs.Common.{rules, ◌≡◌, ◌++◌, List, [], ◌∷◌, refl, sym, ap, subst, ◌∙◌, arith, length, append_assoc, append-nil}
use Rattle.df_model.specs.declared.command.Command.{Command}
use Rattle.df_desk.specs.Parts.{GaveAll}
use Rattle.df_desk.proofs.exec.run_each.Goals as goal

none_left : (commands : List Command) → length commands ≡ 0 → commands ≡ []
none_left [] e = refl
none_left (command ∷ commands) e = absurd (omega arith)

pub commands-preserved : goal.commands-preserved
commands-preserved c =
    let part = c.run_one.result in
    let parts = c.commands.parts.items in
    let K = c.args.table.now.keys in
    let next : c.commands.command-iterator.rest.items ≡ c.in-Some.command ∷ c.next.new.self.rest.items = search rules in
    record {
      counts = omega (arith, ap length next, c.commands.invariant.counts, c.in-Some.ensures.steps.1);
      room = omega (arith, ap length next, c.commands.invariant.room, c.push.ensures.spare);
      so_far = λ more after g.
          subst (λ ps. GaveAll c.args.commands.items ps K after) (sym (append_assoc parts (part ∷ []) more) ∙ ap (λ x. x ++ more) (sym c.push.ensures.items))
          (c.commands.invariant.so_far (part ∷ more) after (subst (λ cs. GaveAll cs (part ∷ more) c.commands.table.keys after) (sym next) (c.run_one.new.table.keys, c.run_one.ensures, g)));
    }

pub returns : goal.returns
returns c =
    let left : c.commands.command-iterator.rest.items ≡ [] = none_left c.commands.command-iterator.rest.items (c.commands.invariant.counts ∙ c.in-None.ensures.steps.0) in
    let now = c.commands.table.keys in
    subst (λ ps. GaveAll c.args.commands.items ps c.args.table.now.keys now) (append-nil c.commands.parts.items)
    (c.commands.invariant.so_far [] now (subst (λ cs. GaveAll cs [] now now) (sym left) refl))
