-- What the tests enter.
use Rattle.std.specs.Prelude.{ℕ}
use Rattle.df_log.specs.Acts.{Clear, Applied}
use Rattle.df_log.specs.declared.entry.Entry.{Entry}

-- the entry of a FLUSHALL with this number
abbrev pub cleared : ℕ → Entry
cleared n = record { number = n; hop = 0; act = Clear; told = Applied }
