-- What a reader gives.
use Rattle.std.specs.Prelude.{◌≡◌, ℕ, ◌+◌, Some, None, [], ◌∷◌}
use Rattle.df_model.specs.Framing.{Splits, IsPartial, IsBad, BeginsWhole}
use Rattle.df_model.specs.BadInput.{BadAt}
use Rattle.df_resp.specs.Stream.{Stream, place_of}
use Rattle.df_resp.specs.declared.reader.Next.{Next}
use Rattle.df_resp.specs.declared.reader.Next.TheVariants.{Words, NeedMore, Bad}

-- From a stream that isn't known to be bad, the reader may give this and keep that.
abbrev pub Gives : Next → Stream → Stream → Type 0
-- the next request that isn't skipped
Gives (Words words) old new = (new.failed ≡ None) × Splits old.rest (words.items ∷ []) new.rest
-- what is left is no whole request, and some continuation completes it
Gives NeedMore old new = (new.failed ≡ None) × Splits old.rest [] new.rest × IsPartial new.rest × ¬ (BeginsWhole new.rest)
-- all whole requests were given, and what is left begins no list of whole requests: its first bad byte is this one
Gives (Bad kind at) old new =
    (new.failed ≡ Some (kind, at)) × Splits old.rest [] new.rest × IsBad new.rest × ¬ (BeginsWhole new.rest)
    × ((off : ℕ) × BadAt new.rest off kind × (at ≡ place_of (new.before + off)))
