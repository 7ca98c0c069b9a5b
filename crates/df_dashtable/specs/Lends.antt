-- What a table ends as, where a `&mut` to one of its values is returned.
use Rattle.std.specs.Prelude.{◌≡◌, Option, OnSome, slice_set}
use Rattle.std.specs.Borrow.{Lends, LendsSo, Fml, RattleType, MutBor}
use Rattle.df_model.specs.Values.{Bytes}
use Rattle.df_segment.specs.Buckets.{bucket_at, put_bucket}
use Rattle.df_segment.specs.Lends.{valued}
use Rattle.df_dashtable.specs.declared.table.Spot.{Spot}
use Rattle.df_dashtable.specs.Tables.{Table, segment_at, StandsAt}
use Rattle.df_dashtable.specs.contracts.table.DashTable.{the_row as table_row}

module _ (T : RattleType) where
  -- the table with this value at a spot
  abbrev pub valued_at : T.Denot → Spot → Table T.Denot → Table T.Denot
  valued_at w at t = record t {
    segments = slice_set t.segments at.segment (put_bucket (segment_at t.segments at.segment) at.place.bucket
        (valued T w at.place.slot (bucket_at (segment_at t.segments at.segment).buckets at.place.bucket)));
  }

  abbrev pub lends_at : MutBor (Table T.Denot) → Spot → MutBor T.Denot → Fml
  lends_at t at r = Lends (table_row T) T t r (λ w. valued_at w at t.now)

  -- the table with this value where the key stands
  abbrev pub WritesKey : Bytes → T.Denot → Table T.Denot → Table T.Denot → Type 0
  WritesKey key w old new = (at : Spot) × (StandsAt old key at × (new ≡ valued_at w at old))

  abbrev pub lends_key : MutBor (Table T.Denot) → Bytes → Option (MutBor T.Denot) → Fml
  lends_key t key r = LendsSo (table_row T) T t r (λ n w. OnSome r (WritesKey key w t.now n)) (λ n. n ≡ t.now)
