use Rattle.std.proofs.Common.{rules, ◌≡◌, ◌∷◌, [], arith, subst}
use Rattle.df_model.specs.Keyspace.{no_keys}
use Rattle.df_end.specs.Ended.{PartsLeft}
use Rattle.df_end.proofs.FlushLaws.{parts-left}
use Rattle.df_end.proofs.one_call.one_call.Goals as goal

pub returns : goal.returns
returns c = record {
  promise = λ w one.
      let l = c.visit.ensures.lobby w one in
      c.close_run.ensures.promise 1 no_keys (record { session = w; pass = l.pass; rows = l.rows } ∷ []) (omega arith) l.lobby
      (let e : c.visit.new.shard ∷ c.in-Some.saves ∷ [] ≡ c.push-2.new.self.items = search rules in
      subst (PartsLeft 1 no_keys) e (parts-left c.visit.new.shard c.in-Some.saves c.visit.ensures.shard.1 c.visit.ensures.idle));
}
