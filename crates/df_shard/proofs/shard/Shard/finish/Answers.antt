use Rattle.std.proofs.Common.{◌≡◌, [], ap, ◌∙◌, sym, subst}
use Rattle.std.specs.Prelude.{map}
use Rattle.df_log.specs.Parts.{own_keys}
use Rattle.df_end.specs.Shards.{ShardLeft}
use Rattle.df_end.proofs.ShardLaws.{shards_end}
use Rattle.df_shard.specs.Fields.{view_of}
use Rattle.df_shard.specs.Holds.{View, Holds, place_of, world_of, armed_in}
use Rattle.df_shard.proofs.shard.Shard.finish.Goals as goal

pub returns-clause-left : goal.returns-clause-left
returns-clause-left c K keys =
    let x : View = view_of c.self.inside in
    let h : Holds x = c.self.invariant in
    subst (λ (v : View). v.first ≡ own_keys v.shards v.index K → v.places ≡ [] → ShardLeft v.shards K x.pass) c.self.view_is
    (λ own none. shards_end x.shards K x.first (armed_in x.waiting) x.pass (world_of x) h.holds (ap (map place_of) none)
    (own ∙ ap (λ s. own_keys x.shards s K) (sym h.index))) keys c.requires
