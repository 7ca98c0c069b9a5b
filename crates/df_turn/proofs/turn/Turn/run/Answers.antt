use Rattle.std.proofs.Common.{ℕ, length, inl, inr, sym, ap, subst, ◌∙◌, arith}
use Rattle.std.proofs.lemmas.Bool.{cases_lt}
use Rattle.df_model.specs.Meaning.{meaning}
use Rattle.df_model.specs.Replies.{encoding_of}
use Rattle.df_core.specs.Courses.{changes_on}
use Rattle.df_rounds.specs.Standing.{values_told}
use Rattle.df_spread.specs.Spread.{changes_at, changes_seen}
use Rattle.df_turn.specs.Heard.{some_want, told_heard}
use Rattle.df_turn.specs.Steps.{RanTo}
use Rattle.df_turn.proofs.Places.{modes-past, values-past}
use Rattle.df_turn.proofs.SeveralGoes.{ran-same}
use Rattle.df_turn.proofs.turn.Turn.run.Goals as goal

pub run_over-requires-clause-values : goal.run_over-requires-clause-values
run_over-requires-clause-values c =
    let heard = c.args.outcomes.now in
    let count = c.in-Ok.ensures.count ∙ c.requires.count.0 ∙ sym c.requires.keys.count in
    let none = ap (λ n. some_want n heard) (sym c.requires.count.0) ∙ sym c.if-some_want.ensures in
    record {
      count = count;
      each = λ s. elim (cases_lt s c.args.shards) [
        | inl lt ↦ ap length (c.in-Ok.ensures.values s) ∙ c.requires.values none s lt
        | inr le ↦
            ap length (values-past c.in-Ok.values.items s (omega (arith, le, count, c.requires.keys.count)))
            ∙ sym (ap length (modes-past c.args.keys.items s (omega (arith, le, c.requires.keys.count))))
      ];
    }

pub stage-requires : goal.stage-requires
stage-requires c =
    let told = told_heard c.args.outcomes.now in
    (c.in-Ok-run_over.ensures told (λ s. sym (c.in-Ok.ensures.values s))).count ∙ sym c.requires.count.1

pub returns-in-Ok-run_over : goal.returns-in-Ok-run_over
returns-in-Ok-run_over c =
    let heard = c.args.outcomes.now in
    let shards = c.args.shards in
    let command = c.args.command.now in
    let K = values_told shards command (told_heard heard) in
    let made = λ (s : ℕ). changes_seen (changes_at c.in-Ok-run_over.changes.items s) in
    let over = c.in-Ok-run_over.ensures (told_heard heard) (λ s. sym (c.in-Ok.ensures.values s)) in
    let none = ap (λ n. some_want n heard) (sym c.requires.count.0) ∙ sym c.if-some_want.ensures in
    elim c.stage.ensures [
      | inl want ↦ inl want
      | inr ran ↦ inr (
        none,
        ran-same shards made (λ s. changes_on shards s command K) (encoding_of (meaning command K).0) c.stage.new.self c.stage.result over.changes
            (subst (λ said. RanTo c.stage.result shards made said c.stage.new.self) over.reply
            (subst (λ n. RanTo c.stage.result n made c.run_over.new.reply c.stage.new.self) c.requires.count.1 ran)),
      )
    ]
