use Rattle.std.proofs.Common.{◌≡◌, ◌∙◌, ap, sym, subst, ℕ, List, true, inl, inr, ◌⊎◌, ◌≤◌, ◌<◌, arith}
use Rattle.std.specs.Prelude.{map, Option, Some, []}
use Rattle.df_model.specs.Spared.{Spared}
use Rattle.df_values.specs.declared.value.Value.{Value}
use Rattle.df_model.specs.declared.keys.Keys.{Keys}
use Rattle.df_footprints.specs.Footprints.{footprint_of}
use Rattle.df_book.specs.Draws.{call_at, draws_of}
use Rattle.df_intents.specs.Holders as intents
use Rattle.df_txqueue.specs.Places.{is_queued}
use Rattle.df_txqueue.specs.declared.place.Place as at
use Rattle.df_shard.specs.Fields.{view_of}
use Rattle.df_shard.specs.Holds.{View, Holds, Wait, changes_seen, wait_of, tail_of, place_for}
use Rattle.df_shard.specs.Bodies.{is_taken}
use Rattle.df_shard.proofs.Bare.{not-both}
use Rattle.df_shard.proofs.Queues.{holds-none, queued-new}
use Rattle.df_shard.specs.Changes.{plain_wait}
use Rattle.df_shard.proofs.Waitings.{fresh-wait, wait-append}
use Rattle.df_shard.proofs.Waits.{call-waits}
use Rattle.df_shard.proofs.shard.Shard.take_in.Goals.{in-Ok, in-Err}
use Rattle.df_shard.proofs.shard.Shard.take_in.Goals as goal

pub queue_up-queued-requires-clause-none : goal.queue_up-queued-requires-clause-none
queue_up-queued-requires-clause-none c =
    let x : View = view_of c.self.inside in
    holds-none x.shards c.args.number x.holders x.places (λ k m. (c.self.invariant.holds.kept.holding k m).0) (sym c.if-is_queued.ensures)

pub invariant_of-self : goal.invariant_of-self
invariant_of-self c =
    let i = c.self.inside in let x : View = view_of c.self.inside in let n : ℕ = c.args.number in let k : Keys = c.args.keys in
    let drawn : 0 < draws_of n x.pass.known = subst (λ (v : View). 0 < draws_of n v.pass.known) (sym c.self.view_is) c.requires.drawn in
    let asks : footprint_of x.shards (call_at x.pass.known n) x.index ≡ Some k =
    subst (λ (v : View). footprint_of v.shards (call_at v.pass.known n) v.index ≡ Some k) (sym c.self.view_is) c.requires.asks in
    let turn : (intents.is_free k x.holders ≡ true) ⊎ (tail_of x.places ≤ n) =
    elim c.in_default.ensures.none [ inl g ↦ inl (sym c.is_free-is_free.ensures ∙ g) | inr l ↦ inr l ] in
    let new = c.queue_up-queued.new in
    let kept : (new.intents.holders ≡ x.holders) × (new.queue.places ≡ x.places) × (new.waiting.items ≡ i.waiting.items) →
    Holds (record x { holders = new.intents.holders; places = new.queue.places; waiting = map wait_of new.waiting.items }) =
    λ q. subst (λ (v : List intents.Holder × List at.Place × List Wait). Holds (record x { holders = v.0; places = v.1; waiting = v.2 }))
    (λ j. (sym q.0 j, sym q.1 j, sym (ap (map wait_of) q.2) j)) c.self.invariant in
    let fresh : changes_seen c.new.result.items ≡ [] = ap (λ (r : Spared (List ℕ × Option Value)). changes_seen r.items) c.new.ensures in
    elim c.match-queued.branch [
      | in-Ok w ↦ let q = w.in-Ok.ensures in
          subst (λ (v : List intents.Holder × List at.Place × List Wait). Holds (record x { holders = v.0; places = v.1; waiting = v.2 }))
          (λ j. (sym q.holders j, sym q.places j, (fresh-wait x.waiting (plain_wait n c.args.conn) _ (sym fresh) ∙ sym (ap (map wait_of) q.waiting ∙ wait-append i.waiting.items _)) j))
          (call-waits x n c.args.conn k c.self.invariant drawn asks (omega (arith, c.if-number-self.false)) (sym c.if-is_queued.ensures) turn)
      | in-Err w ↦ kept w.in-Err.ensures.same
    ]

pub returns-clause-taken : goal.returns-clause-taken
returns-clause-taken c =
    let x : View = view_of c.self.inside in let n : ℕ = c.args.number in
    elim c.match-queued.branch [
      | in-Ok w ↦ λ t. subst (λ (ps : List at.Place). is_queued n ps ≡ true) (sym w.in-Ok.ensures.places) (queued-new (place_for n (intents.is_free c.args.keys x.holders)) x.places)
      | in-Err w ↦ λ t. absurd (not-both t (ap is_taken w.result-is))
    ]
