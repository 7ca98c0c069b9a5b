use Rattle.std.proofs.Common.{◌≡◌, ◌∙◌, ap, sym, refl, subst, arith, ℕ, Bool}
use Rattle.std.specs.Prelude.{Option, Some, None, if◌then◌else◌}
use Rattle.df_model.specs.Values.{Bytes}
use Rattle.df_model.specs.Reads.{IsLinked}
use Rattle.df_model.specs.declared.command.Call.{Call}
use Rattle.df_caller.specs.declared.slip.Slip.{Slip}
use Rattle.std.specs.Option.{option_map}
use Rattle.df_model.specs.Keyspace.{Keyspace}
use Rattle.df_model.specs.Meaning.{meaning}
use Rattle.df_log.specs.Acts.{Told, Ran}
use Rattle.df_log.specs.declared.entry.Entry.{Entry}
use Rattle.df_table.specs.Tables.{Roomy}
use Rattle.df_hops.specs.Parts.{shards_in}
use Rattle.df_hops.specs.Shown.{bytes_in, act_in}
use Rattle.df_hops.specs.Came.{given, told_in}
use Rattle.df_shard.specs.Fields.{view_of}
use Rattle.df_shard.specs.Holds.{View, Holds, call_command}
use Rattle.df_shard.specs.Came.{Brought, RanTo}
use Rattle.df_shard.specs.Turns.{MayStart, IsFree}
use Rattle.df_shard.proofs.Commands.{brought-linked}
use Rattle.df_shard.specs.Facts.{Facts}
use Rattle.df_shard.proofs.Recorded.{came_to, pick, ran-enters, ran-holds, ran-shown}
use Rattle.df_shard.proofs.shard.Shard.run_now.Goals as goal

pub run_call-entry-requires : goal.run_call-entry-requires
run_call-entry-requires c =
    let a = c.args.asked in
    subst (λ (v : Slip). IsLinked (call_command v.call a.hop)) (sym c.deref_mut.ensures.value)
    (brought-linked c.args.self.now a.number a.hop a.slip.value.call c.requires.brought)

pub enter-receipt-requires-clause-fresh : goal.enter-receipt-requires-clause-fresh
enter-receipt-requires-clause-fresh c =
    let x : View = view_of c.self.inside in let a = c.args.asked in let n : ℕ = a.number in let hop : ℕ = a.hop in let call : Call = a.slip.value.call in
    let b : Brought x n hop call = subst (λ (v : View). Brought v n hop call) (sym c.self.view_is) c.requires.brought in
    let start : MayStart x n = subst (λ (v : View). MayStart v n) (sym c.self.view_is) c.requires.above in
    let ran : RanTo n hop call x.keys c.run_call-entry.new.table.keys c.run_call-entry.new.slip.reply c.run_call-entry.result.0 c.run_call-entry.result.1 =
    subst (λ (v : Slip). RanTo n hop v.call x.keys c.run_call-entry.new.table.keys c.run_call-entry.new.slip.reply c.run_call-entry.result.0 c.run_call-entry.result.1) c.deref_mut.ensures.value c.run_call-entry.ensures.ran in
    (ran-enters x n hop call _ _ _ _ c.self.invariant b start.0 ran).2

pub invariant_of-self : goal.invariant_of-self
invariant_of-self c =
    let x : View = view_of c.self.inside in let a = c.args.asked in let n : ℕ = a.number in let hop : ℕ = a.hop in let call : Call = a.slip.value.call in
    let b : Brought x n hop call = subst (λ (v : View). Brought v n hop call) (sym c.self.view_is) c.requires.brought in
    let start : MayStart x n = subst (λ (v : View). MayStart v n) (sym c.self.view_is) c.requires.above in
    let ran : RanTo n hop call x.keys c.run_call-entry.new.table.keys c.run_call-entry.new.slip.reply c.run_call-entry.result.0 c.run_call-entry.result.1 =
    subst (λ (v : Slip). RanTo n hop v.call x.keys c.run_call-entry.new.table.keys c.run_call-entry.new.slip.reply c.run_call-entry.result.0 c.run_call-entry.result.1) c.deref_mut.ensures.value c.run_call-entry.ensures.ran in
    let free : IsFree x call = subst (λ (v : View). IsFree v call) (sym c.self.view_is) c.requires.free in
    subst (λ (k : ℕ). Holds (record x { pass = c.enter-receipt.new.pass; ran = n; keys = c.run_call-entry.new.table.keys; kept = k })) (sym c.run_call-entry.ensures.kept)
    (ran-holds x n hop call _ _ _ _ c.enter-receipt.new.pass c.self.invariant b start free ran c.enter-receipt.ensures.grown)

pub invariant_of-result : goal.invariant_of-result
invariant_of-result c =
    let x : View = view_of c.self.inside in let a = c.args.asked in let n : ℕ = a.number in let hop : ℕ = a.hop in let call : Call = a.slip.value.call in
    let b : Brought x n hop call = subst (λ (v : View). Brought v n hop call) (sym c.self.view_is) c.requires.brought in
    let start : MayStart x n = subst (λ (v : View). MayStart v n) (sym c.self.view_is) c.requires.above in
    let ran : RanTo n hop call x.keys c.run_call-entry.new.table.keys c.run_call-entry.new.slip.reply c.run_call-entry.result.0 c.run_call-entry.result.1 =
    subst (λ (v : Slip). RanTo n hop v.call x.keys c.run_call-entry.new.table.keys c.run_call-entry.new.slip.reply c.run_call-entry.result.0 c.run_call-entry.result.1) c.deref_mut.ensures.value c.run_call-entry.ensures.ran in
    let t = came_to x n hop call _ _ _ _ ran in
    let s = ran-shown x n hop call t.told _ c.enter-receipt.new.pass c.enter-receipt.result c.self.invariant b start.0 t.entry c.enter-receipt.ensures.grown c.enter-receipt.ensures.receipt in
    let on : c.of-keys.result.value.keys ≡ x.keys = ap (λ (t : Roomy). t.keys) c.of-keys.ensures in
    let gives : (K L : Keyspace) → K ≡ L → ◌≡◌ {A = Told} (Ran (meaning (call_command call hop) K).0) (Ran (meaning (call_command call hop) L).0) = λ K L e. ap (λ K. Ran (meaning (call_command call hop) K).0) e in
    let gives-at : Option Entry → Option Told = λ o. option_map (given (shards_in c.enter-receipt.result.book) c.enter-receipt.result.shard c.of-keys.result.value.keys) (act_in o) in
    let said : (t : Bool) → Option (Option Bytes) = λ t. if t then Some (Some c.run_call-entry.new.slip.reply) else Some None in
    let f : Facts x.index n hop c.ran_body.result = subst (Facts x.index n hop) (sym c.ran_body.ensures) (pick (Facts x.index n hop) c.run_call-entry.result.1 _ _
    (λ e. record { shown = s.shard; drawn = s.drawn; limit = omega arith; call = refl; note = refl; told = ap said (sym e) ∙ t.said ∙ sym (ap bytes_in s.found); act = ap act_in s.found ∙ sym s.due; came = ap told_in s.found ∙ ap Some (t.given e ∙ gives _ _ (sym on)) ∙ sym (ap gives-at s.found); outcome = refl; wants = refl; part = tt })
    (λ e. record { shown = s.shard; drawn = s.drawn; limit = omega arith; call = refl; note = refl; told = ap said (sym e) ∙ t.said ∙ sym (ap bytes_in s.found); act = ap act_in s.found ∙ sym s.due; came = refl; outcome = refl; wants = refl; part = tt })) in
    record { shown = f.shown; drawn = f.drawn; limit = f.limit; call = f.call; note = f.note; told = f.told; act = f.act; came = f.came; outcome = f.outcome; wants = f.wants; part = ∣ f.part ∣₁ }
