-- Statements of laws.
use Rattle.std.specs.Prelude.{◌≡◌, true, false}
use Rattle.df_model.specs.Values.{Bytes}
use Rattle.df_model.specs.declared.keys.Keys.{Keys}
use Rattle.df_footprints.specs.Asks.{asks, conflicts, touches, writes}

-- The one conflicts with the other where the other conflicts with the one.
abbrev pub ConflictsBothWays : Type 0
ConflictsBothWays = (keys others : Keys) → conflicts keys others ≡ conflicts others keys

-- Where two asks do not conflict, a key that the one may write is not the other's to look at.
abbrev pub LeftAlone : Type 0
LeftAlone =
    (keys others : Keys) (key : Bytes) → conflicts keys others ≡ false → writes (asks keys) key ≡ true → touches (asks others) key ≡ false
