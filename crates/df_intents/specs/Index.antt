-- What the index tells of the asks that are held.
use Rattle.std.specs.Prelude.{◌≡◌, ℕ, ◌-◌, Option, Some, None, List, nat_eq}
use Rattle.std.specs.Map.{lookup}
use Rattle.df_model.specs.declared.keys.Mode.{Mode}
use Rattle.df_model.specs.declared.keys.Mode.TheVariants.{Shared}
use Rattle.df_footprints.specs.Asks.{Ask}
use Rattle.df_intents.specs.Counting.{against, counted, has_hash, is_all, is_any, none, weight}
use Rattle.df_intents.specs.declared.count.Count.{Count}
use Rattle.df_intents.specs.declared.index.Tally.{Tally}
use Rattle.df_intents.specs.declared.index.Index.{Index}

-- where no tally stands, nobody asked
abbrev pub count_in : Option Tally → Count
count_in None = none
count_in (Some tally) = tally.count

-- the count of the asks for the keys with this hash
abbrev pub tallied : Index → ℕ → Count
tallied index hash = count_in (lookup (nat_eq hash) index.tallies.entries)

-- the count with an ask in this mode less
abbrev pub lowered : Mode → Count → Count
lowered mode count = record { any = count.any - 1; exclusive = count.exclusive - weight Shared mode }

-- the index counts these asks, for each hash, for all keys, and in all
pub record Counts (index : Index) (bs : List Ask) : Type 0 where
  pub keys : (hash : ℕ) (mode : Mode) → against mode (tallied index hash) ≡ counted (has_hash hash) mode bs
  pub alls : (mode : Mode) → against mode index.alls ≡ counted is_all mode bs
  pub asks : (mode : Mode) → against mode index.asks ≡ counted is_any mode bs
