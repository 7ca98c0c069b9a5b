-- What a part of a hop comes to on the shard's keys.
use Rattle.std.specs.Prelude.{◌≡◌, ℕ, ◌+◌, true}
use Rattle.df_model.specs.Keyspace.{Keyspace}
use Rattle.df_log.specs.Acts.{Act, Changes}
use Rattle.df_log.specs.Parts.{shown_after, staged_after}
use Rattle.df_hops.specs.Came.{given_as, may_want_as, said_as, said_of}
use Rattle.df_hops.specs.declared.answer.Outcome.{Outcome}
use Rattle.df_shard.specs.Holds.{puts_in}

-- From these keys, changes and places that are kept for them to those, with this outcome: the act was done and told, or it
-- found no memory where it may and did nothing.
pub record DidPart (shards s : ℕ) (act : Act) (K : Keyspace) (staged : Changes) (kept : ℕ) (K' : Keyspace) (staged' : Changes) (kept' : ℕ)
    (outcome : Outcome) : Type 0 where
  pub said : said_as outcome ≡ said_of (given_as outcome shards s K act)
  pub wants : may_want_as outcome act ≡ true
  pub keys : K' ≡ shown_after act (given_as outcome shards s K act) staged K
  pub changes : staged' ≡ staged_after act (given_as outcome shards s K act) staged
  pub room : kept' + puts_in staged ≡ kept + puts_in staged'
