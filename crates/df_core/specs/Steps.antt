-- The entries of one call without its number, and what they do on a shard.
use Rattle.std.specs.Prelude.{ℕ, List, [], ◌∷◌, map}
use Rattle.df_log.specs.Acts.{Act, Told}
use Rattle.df_log.specs.Parts.{Part, after_act, IsTold}
use Rattle.df_log.specs.declared.entry.Entry.{Entry}

pub record Step : Type 0 where
  pub hop : ℕ
  pub act : Act
  pub told : Told

abbrev pub step_of : Entry → Step
step_of e = record { hop = e.hop; act = e.act; told = e.told }

abbrev pub steps_of : List Entry → List Step
steps_of = map step_of

-- the part after the steps of the call with this number
abbrev pub after_steps : ℕ → List Step → Part → Part
after_steps number [] x = x
after_steps number (st ∷ steps) x = after_steps number steps (after_act number st.act st.told x)

-- each step was told what it gives where it stands
abbrev pub AllTold : ℕ → ℕ → ℕ → List Step → Part → Type 0
AllTold shards s number [] x = Unit {0}
AllTold shards s number (st ∷ steps) x =
    IsTold shards s x.visible st.act st.told × AllTold shards s number steps (after_act number st.act st.told x)
