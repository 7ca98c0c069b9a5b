-- What an answer's part was due by, and that it is the one that its caller asked for.
use Rattle.std.specs.Prelude.{◌≡◌, ℕ, ◌<◌, Some, List}
use Rattle.df_log.specs.Acts.{Act}
use Rattle.df_log.specs.declared.entry.Entry.{Entry}
use Rattle.df_core.specs.Steps.{steps_of}
use Rattle.df_book.specs.Logs.{Within, BothSeen}
use Rattle.df_book.specs.Draws.{draws_of, call_at, OwnAgreed}
use Rattle.df_book.specs.Passes.{Caller, Receipt}
use Rattle.df_end.specs.Logs.{entries_in}
use Rattle.df_core.specs.Due.{due}

-- An answer's part: it was due by what the message's ticket had seen of the call, which the receipt's shard had seen too.
pub record PartDue (shards : ℕ) (r : Receipt) (n hop : ℕ) (act : Act) : Type 0 where
  pub seen : List (List Entry)
  pub within : Within seen r.seen
  pub told : 0 < draws_of n r.known
  pub is_due : due shards (call_at r.known n) (λ t. steps_of (entries_in shards seen n t)) r.shard hop ≡ Some act

-- An answer's part is the one that its caller asked for: `asked` was due by what the caller had seen when it asked.
abbrev pub AnswersAreDue : Type 0
AnswersAreDue =
    (shards : ℕ) (v u : Caller) (r : Receipt) (n hop : ℕ) (asked act : Act) → PartDue shards r n hop act →
    BothSeen v.seen r.seen u.seen → 0 < draws_of n v.own → OwnAgreed v.own r.known →
    due shards (call_at v.own n) (λ t. steps_of (entries_in shards v.seen n t)) r.shard hop ≡ Some asked → act ≡ asked
