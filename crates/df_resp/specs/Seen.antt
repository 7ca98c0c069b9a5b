-- What the code saw at the front of bytes, as the functions on lists have it.
use Rattle.std.specs.Prelude.{◌≡◌, ℕ, ◌+◌, ◌-◌, ◌<◌, ◌≤◌, Option, Some, None, length, take, drop}
use Rattle.df_model.specs.Values.{Bytes}
use Rattle.df_model.specs.declared.session.BadKind.{BadKind}
use Rattle.df_resp.specs.Scan.{Scan, fixed}
use Rattle.df_resp.specs.Frames.{head}
use Rattle.df_resp.specs.declared.front.Seen.{Seen}
use Rattle.df_resp.specs.declared.front.Seen.TheVariants.{More, Bad, Whole}

-- a number
abbrev pub SeesNumber : Seen → Bytes → Scan ℕ → Type 0
SeesNumber More bytes scan = scan ≡ Scan.More
SeesNumber (Bad kind at) bytes scan = (at < length bytes) × (scan ≡ Scan.Bad (drop at bytes) kind)
SeesNumber (Whole n used) bytes scan = (0 < used) × (used ≤ length bytes) × (scan ≡ Scan.Whole n (drop used bytes))

-- a fixed text that stands at `from` and stands for a number
abbrev pub SeesFixed : Seen → BadKind → Bytes → ℕ → ℕ → Bytes → Type 0
SeesFixed More expected text from value bytes = fixed expected text (drop from bytes) ≡ Scan.More
SeesFixed (Bad kind at) expected text from value bytes = (at < length bytes) × (fixed expected text (drop from bytes) ≡ Scan.Bad (drop at bytes) kind)
SeesFixed (Whole n used) expected text from value bytes = (n ≡ value) × (used ≡ from + length text) × (used ≤ length bytes) × (fixed expected text (drop from bytes) ≡ Scan.Whole tt (drop used bytes))

-- how many words a line promises
abbrev pub count_of : Option ℕ → ℕ
count_of None = 0
count_of (Some n) = n

-- a frame's line, by its count
abbrev pub SeesHead : Seen → Bytes → Type 0
SeesHead More bytes = head bytes ≡ Scan.More
SeesHead (Bad kind at) bytes = (at < length bytes) × (head bytes ≡ Scan.Bad (drop at bytes) kind)
SeesHead (Whole n used) bytes = (0 < used) × (used ≤ length bytes) × ((count : Option ℕ) × (n ≡ count_of count) × (head bytes ≡ Scan.Whole count (drop used bytes)))

-- a word, by its length: it stands before the two bytes of its end
abbrev pub SeesWord : Seen → Bytes → Scan Bytes → Type 0
SeesWord More bytes scan = scan ≡ Scan.More
SeesWord (Bad kind at) bytes scan = (at < length bytes) × (scan ≡ Scan.Bad (drop at bytes) kind)
SeesWord (Whole n used) bytes scan = (n + 2 < used) × (used ≤ length bytes) × (scan ≡ Scan.Whole (take n (drop (used - n - 2) bytes)) (drop used bytes))
