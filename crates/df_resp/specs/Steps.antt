-- One step of taking a request from the stream.
use Rattle.std.specs.Prelude.{◌≡◌, ◌<◌, [], ◌∷◌, length, drop}
use Rattle.df_model.specs.Values.{Bytes}
use Rattle.df_model.specs.Framing.{Splits}
use Rattle.df_resp.specs.Scan.{Scan}
use Rattle.df_resp.specs.Frames.{frame}
use Rattle.df_resp.specs.declared.input.Step.{Step}
use Rattle.df_resp.specs.declared.input.Step.TheVariants.{More, Bad, On, Whole}

-- from what is left of the stream to what is left then, which ends with the buffer
abbrev pub Steps : Step → Bytes → Bytes → Bytes → Type 0
Steps More old new buffer = (new ≡ old) × (frame new ≡ Scan.More)
Steps (Bad kind at) old new buffer = (new ≡ old) × (at < length buffer) × (frame new ≡ Scan.Bad (drop at buffer) kind)
Steps On old new buffer = Splits old [] new
Steps (Whole words) old new buffer = Splits old (words.items ∷ []) new

-- a step that isn't the last one makes the buffer shorter
abbrev pub GoesDown : Step → Bytes → Bytes → Type 0
GoesDown More old new = Unit {0}
GoesDown (Bad kind at) old new = Unit {0}
GoesDown On old new = length new < length old
GoesDown (Whole words) old new = Unit {0}
