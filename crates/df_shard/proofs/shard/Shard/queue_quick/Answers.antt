use Rattle.std.proofs.Common.{◌≡◌, ◌∙◌, ap, sym, subst, ℕ, List}
use Rattle.std.specs.Prelude.{map, Option, []}
use Rattle.df_model.specs.Spared.{Spared}
use Rattle.df_values.specs.declared.value.Value.{Value}
use Rattle.df_model.specs.declared.command.Call.{Call}
use Rattle.df_intents.specs.Holders as intents
use Rattle.df_txqueue.specs.Places.{is_queued}
use Rattle.df_txqueue.specs.declared.place.Place as at
use Rattle.df_shard.specs.Fields.{view_of}
use Rattle.df_shard.specs.Holds.{View, Holds, Wait, changes_seen, wait_of}
use Rattle.df_shard.specs.Came.{Brought}
use Rattle.df_shard.specs.Turns.{IsLast}
use Rattle.df_shard.proofs.Queues.{holds-none}
use Rattle.df_shard.specs.Changes.{quick_wait}
use Rattle.df_shard.proofs.Waitings.{fresh-wait, wait-append}
use Rattle.df_shard.proofs.Waits.{quick-waits}
use Rattle.df_shard.proofs.shard.Shard.queue_quick.Goals.{in-Ok, in-Err+in-Quick}
use Rattle.df_shard.proofs.shard.Shard.queue_quick.Goals as goal

pub queue_up-queued-requires-clause-none : goal.queue_up-queued-requires-clause-none
queue_up-queued-requires-clause-none c =
    let x : View = view_of c.self.inside in let n : ℕ = c.args.number in
    holds-none x.shards n x.holders x.places (λ k m. (c.self.invariant.holds.kept.holding k m).0)
    (ap (λ (v : View). is_queued n v.places) c.self.view_is ∙ c.requires.turn.start.1)

pub invariant_of-self : goal.invariant_of-self
invariant_of-self c =
    let i = c.self.inside in let x : View = view_of c.self.inside in let n : ℕ = c.args.number in let hop : ℕ = c.args.hop in let call : Call = c.args.slip.value.call in
    let b : Brought x n hop call = subst (λ (v : View). Brought v n hop call) (sym c.self.view_is) c.requires.brought in
    let l : IsLast x n call c.args.keys = subst (λ (v : View). IsLast v n call c.args.keys) (sym c.self.view_is) c.requires.turn in
    let fresh : changes_seen c.new.result.items ≡ [] = ap (λ (r : Spared (List ℕ × Option Value)). changes_seen r.items) c.new.ensures in
    elim c.match-queued.branch [
      | in-Ok w ↦ let q = w.in-Ok.ensures in
          subst (λ (v : List intents.Holder × List at.Place × List Wait). Holds (record x { holders = v.0; places = v.1; waiting = v.2 }))
          (λ j. (sym q.holders j, sym q.places j, (fresh-wait x.waiting (quick_wait n c.args.conn hop call) _ (sym fresh) ∙ sym (ap (map wait_of) q.waiting ∙ wait-append i.waiting.items _)) j))
          (quick-waits x n c.args.conn hop call c.args.keys c.self.invariant b l)
      | in-Err+in-Quick w ↦ let q = w.in-Err.ensures.same in
          subst (λ (v : List intents.Holder × List at.Place × List Wait). Holds (record x { holders = v.0; places = v.1; waiting = v.2 }))
          (λ j. (sym q.0 j, sym q.1 j, sym (ap (map wait_of) q.2) j)) c.self.invariant
    ]
