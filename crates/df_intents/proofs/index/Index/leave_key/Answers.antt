use Rattle.std.proofs.Common.{◌≡◌, ℕ, sym, ap, subst, ◌∙◌}
use Rattle.std.specs.Prelude.{None, nat_eq}
use Rattle.std.specs.Map.{lookup}
use Rattle.df_model.specs.Hash.{fnv64}
use Rattle.df_model.specs.declared.keys.Mode.{Mode}
use Rattle.df_intents.specs.Counting.{against, counted, has_hash}
use Rattle.df_intents.specs.Index.{count_in, tallied}
use Rattle.df_intents.proofs.IndexLaws.{count_cond, key_left, keys_left, keys_removed}
use Rattle.df_intents.proofs.index.Index.leave_key.Goals as goal
use Rattle.df_intents.proofs.index.Index.leave_key.Goals.{then-lower, else-lower}

pub returns-clause-counts : goal.returns-clause-counts
returns-clause-counts c = λ bs h.
    let old = c.args.self.now in
    let low = c.lower.new.self in
    let key = c.args.key.now in
    let hash = c.fnv64-hash.result in
    let lowered_keys = keys_left old low hash key c.args.mode bs (c.fnv64-hash.ensures ∙ ap fnv64 c.as_slice.ensures) c.lower.ensures.tallies h in
    elim c.if-lower.branch [
      | then-lower w ↦
          let gone = λ (q : ℕ). ap (λ i. tallied i q) w.self-is ∙ ap count_in (w.remove-none.ensures.updates.0 q) ∙ count_cond (nat_eq hash q) None (lookup (nat_eq q) low.tallies.entries) in
          key_left old c.if-lower.self c.without-self.result key c.args.mode bs
          (ap (λ i. i.alls) w.self-is ∙ c.lower.ensures.alls) (ap (λ i. i.asks) w.self-is ∙ c.lower.ensures.asks) c.without-self.ensures.shared c.without-self.ensures.any
          (keys_removed low c.if-lower.self hash bs gone (c.lower.ensures.none w.if-lower.true) lowered_keys) h
      | else-lower w ↦
          key_left old c.if-lower.self c.without-self.result key c.args.mode bs
          (ap (λ i. i.alls) w.self-is ∙ c.lower.ensures.alls) (ap (λ i. i.asks) w.self-is ∙ c.lower.ensures.asks) c.without-self.ensures.shared c.without-self.ensures.any
          (subst (λ i. (q : ℕ) (m : Mode) → against m (tallied i q) ≡ counted (has_hash q) m bs) (sym w.self-is) lowered_keys) h
    ]
