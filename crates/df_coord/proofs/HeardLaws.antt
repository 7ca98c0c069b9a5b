-- What the answer to a call of one hop leaves with its caller.
use Rattle.std.proofs.Common.{◌≡◌, ℕ, ◌+◌, ◌<◌, Bool, true, false, [], ◌∷◌, refl, sym, ap, ◌∙◌, subst, arith, ltb}
use Rattle.std.specs.Prelude.{Some, None, if◌then◌else◌}
use Rattle.std.specs.Option.{option_map}
use Rattle.df_model.specs.Values.{Bytes}
use Rattle.df_model.specs.Keyspace.{Keyspace, no_keys}
use Rattle.df_model.specs.Meaning.{meaning}
use Rattle.df_model.specs.Replies.{encoding_of}
use Rattle.df_model.specs.declared.command.Command.{Command}
use Rattle.df_model.specs.declared.command.Call.{Call}
use Rattle.df_model.specs.declared.command.Call.TheVariants.{Single}
use Rattle.df_model.specs.declared.reply.Reply.{Reply}
use Rattle.df_order.specs.Lists.{Has}
use Rattle.df_order.specs.Model.{own}
use Rattle.df_order.specs.Puts.{put}
use Rattle.df_log.specs.Acts as acts
use Rattle.df_log.specs.Acts.{Act, Told, Run}
use Rattle.df_log.specs.Parts as parts
use Rattle.df_log.specs.Entries.{acts_of}
use Rattle.df_log.specs.declared.entry.Entry.{Entry}
use Rattle.df_core.specs.Calls.{calls}
use Rattle.df_core.specs.Courses.{Alone, course_of}
use Rattle.df_core.specs.Done.{want_of_memory}
use Rattle.df_core.specs.Due.{due}
use Rattle.df_core.specs.Steps.{step_of, steps_of}
use Rattle.df_book.specs.Weights.{Each, count}
use Rattle.df_book.specs.Logs.{at_log, AllBelow, BothSeen, Within}
use Rattle.df_book.specs.Draws.{Bounded, OwnAgreed, call_at, draws_of}
use Rattle.df_book.specs.Passes.{Caller, Receipt, after_draw, after_receipt, running_of}
use Rattle.df_book.specs.declared.draw.Draw.{Draw}
use Rattle.df_end.specs.Logs.{entries_in}
use Rattle.df_end.specs.Asked.{PartDue}
use Rattle.df_end.specs.Rounds.{CallWent}
use Rattle.df_rounds.specs.Progress.{asks_next, hop_next, progress_of}
use Rattle.df_rounds.specs.Underway.{Underway}
use Rattle.df_rounds.specs.Between.{TicketAsks, row_of}
use Rattle.df_rounds.proofs.BetweenLaws.{answers_agree, calls_are_drawn, calls_ask, tickets_ask}
use Rattle.df_hops.specs.Parts.{shards_in}
use Rattle.df_hops.specs.Shown.{act_in, bytes_in, bytes_of, due_in, entry_at, was_passed}
use Rattle.df_hops.specs.Came.{given, told_in}
use Rattle.df_coord.specs.Asking.{Asked, RunsAlone}
use Rattle.df_coord.proofs.AloneLaws.{asks-run, hop-zero}
use Rattle.df_coord.proofs.RunLaws.{asked-so, back-from, drawn-so, passed-so, ran-so, sent-to}
use Rattle.df_coord.proofs.FoundLaws.{each-back, entry-there, entry-told, known-is, none-told, note-there}

-- the call that was drawn last
pub drawn-call : (shards s : ℕ) (v : Caller) (call : Call) (n : ℕ) → 0 < shards → RunsAlone shards s call →
    Each (λ (d : Draw). d.number < n) v.own → AllBelow n v.seen → count n v.made ≡ 0 → 0 < n → Bounded v.own v.made v.seen →
    call_at (after_draw v call n).own n ≡ call
drawn-call shards s v call n pos k above below fresh positive bounded =
    subst (λ x. call_at (after_draw v x n).own n ≡ x) (sym k.is)
    (tickets_ask shards v (Single k.command) n (progress_of (Single k.command)) (after_draw v (Single k.command) n)
    (after_draw v (Single k.command) n) s (Run k.command) pos
    (calls_are_drawn shards v (Single k.command) n above below fresh positive bounded) refl refl
    (asks-run shards s k.command k.alone k.there)).call_is

-- A receipt of shard s came for the call, which was drawn as n by a caller whose pass was v then, is u before the receipt is
-- taken and w behind it.
pub record Comes (shards s n : ℕ) (v u w : Caller) (command : Command) (r : Receipt) : Type 0 where
  pub some : 0 < shards
  pub words : r.book.words ≡ shards + 2
  pub alone : course_of shards command ≡ Alone s
  pub there : s < shards
  pub asked : Asked v u (Single command) n
  pub here : r.shard ≡ s
  pub drawn : 0 < draws_of n r.known
  pub after : w ≡ after_receipt u r w.seen
  pub both : BothSeen u.seen r.seen w.seen
  pub agreed : OwnAgreed w.own w.known
  pub takes : (e : Entry) → Has r.log e → e.number ≡ n → Underway shards n (after_draw v (Single command) n) u (sent-to s) (λ i. None) →
      Underway shards n (after_draw v (Single command) n) w (sent-to s) (put r.shard (Some e) (λ i. None))

-- behind an entry of its number
under-so : (shards s n : ℕ) (v u w : Caller) (command : Command) (r : Receipt) (e : Entry) → Comes shards s n v u w command r →
    Has r.log e → e.number ≡ n →
    Underway shards n (after_draw v (Single command) n) w (sent-to s) (back-from s e)
under-so shards s n v u w command r e c has number =
    subst (λ t. Underway shards n (after_draw v (Single command) n) w (sent-to s) (back-from t e)) c.here
    (c.takes e has number (asked-so shards s v u (Single command) n c.there c.asked))

-- the own draws, and what the receipt told of draws
own-is : (shards s n : ℕ) (v u w : Caller) (command : Command) (r : Receipt) → Comes shards s n v u w command r →
    w.own ≡ (after_draw v (Single command) n).own
own-is shards s n v u w command r c = ap (λ (p : Caller). p.own) c.after ∙ ap (λ (p : Caller). p.own) c.asked.now

agreed-so : (shards s n : ℕ) (v u w : Caller) (command : Command) (r : Receipt) → Comes shards s n v u w command r →
    OwnAgreed (after_draw v (Single command) n).own r.known
agreed-so shards s n v u w command r c =
    each-back _ u.known r.known
    (subst (λ known. OwnAgreed (after_draw v (Single command) n).own known) (ap (λ (p : Caller). p.known) c.after)
    (subst (λ own. OwnAgreed own w.known) (own-is shards s n v u w command r c) c.agreed))

nothing-seen : (shards n t : ℕ) → steps_of (entries_in shards [] n t) ≡ []
nothing-seen shards n t = go (ltb t shards)
  where
    go : (b : Bool) → steps_of (own (calls shards) n (if b then acts_of (at_log [] t) else [])) ≡ []
    go true = refl
    go false = refl

ticket-so : (shards s n : ℕ) (v u w : Caller) (command : Command) (r : Receipt) → Comes shards s n v u w command r →
    TicketAsks shards (Single command) n s (hop_next shards (progress_of (Single command))) (Run command)
    (running_of (after_draw v (Single command) n))
ticket-so shards s n v u w command r c =
    tickets_ask shards v (Single command) n (progress_of (Single command)) (after_draw v (Single command) n) (after_draw v (Single command) n)
    s (Run command) c.some (drawn-so shards v u (Single command) n c.asked) refl refl (asks-run shards s command c.alone c.there)

-- what an entry of hop 0 did is the run of the command
did-run : (shards s n : ℕ) (v u w : Caller) (command : Command) (r : Receipt) (act : Act) → Comes shards s n v u w command r →
    Some act ≡ due_in s n 0 r → act ≡ Run command
did-run shards s n v u w command r act c is =
    answers_agree shards v call n (progress_of call) d w r (Run command) act c.some (drawn-so shards v u call n c.asked)
    (subst (λ t. asks_next shards (progress_of call) t ≡ Some (Run command)) (sym c.here) (asks-run shards s command c.alone c.there))
    part within c.both.second (agreed-so shards s n v u w command r c)
  where
    call : Call
    call = Single command

    d : Caller
    d = after_draw v (Single command) n

    within : Within (after_draw v (Single command) n).seen w.seen
    within = subst (λ (p : Caller). Within p.seen w.seen) c.asked.now c.both.first

    is-due : due (shards_in r.book) (call_at r.known n) (λ i. []) s 0 ≡ Some act
    is-due = sym is

    part : PartDue shards r n (hop_next shards (progress_of (Single command))) act
    part = record {
      seen = [];
      within = λ t. tt;
      told = c.drawn;
      is_due = subst (λ h. due shards (call_at r.known n) (λ t. steps_of (entries_in shards [] n t)) r.shard h ≡ Some act) (sym (hop-zero shards s command c.alone))
          (subst (λ t. due shards (call_at r.known n) (λ i. steps_of (entries_in shards [] n i)) t 0 ≡ Some act) (sym c.here)
          (subst (λ steps. due shards (call_at r.known n) steps s 0 ≡ Some act) (λ j t. sym (nothing-seen shards n t) j)
          (subst (λ k. due k (call_at r.known n) (λ i. []) s 0 ≡ Some act) (let k : shards_in r.book ≡ shards = omega (arith, c.words) in k) is-due)));
    }

-- the entry of the number and hop 0, by what it did and was told
step-is : (shards s n : ℕ) (v u w : Caller) (command : Command) (r : Receipt) (e : Entry) (told : Told) → Comes shards s n v u w command r →
    e.hop ≡ 0 → Some e.act ≡ due_in s n 0 r → e.told ≡ told → step_of e ≡ record { hop = 0; act = Run command; told = told }
step-is shards s n v u w command r e told c hop act is =
    let acted = did-run shards s n v u w command r e.act c act in
    λ j. record { hop = hop j; act = acted j; told = is j }

pub heard-ran : (shards s n : ℕ) (v u w : Caller) (command : Command) (r : Receipt) (bytes : Bytes) (K : Keyspace) →
    Comes shards s n v u w command r → Some (Some bytes) ≡ bytes_in (entry_at n 0 r.log) →
    act_in (entry_at n 0 r.log) ≡ due_in s n 0 r →
    told_in (entry_at n 0 r.log) ≡ option_map (given (shards_in r.book) r.shard K) (act_in (entry_at n 0 r.log)) →
    (reply : Reply) × CallWent shards v w (Single command) (row_of v (Single command) n (Some reply) ∷ []) × (bytes ≡ encoding_of reply)
heard-ran shards s n v u w command r bytes K c said act came =
    let found = entry-told (entry_at n 0 r.log) (Some bytes) said in
    let e : Entry = found.0 in
    let at = entry-there n 0 r.log e found.1 in
    let acts-so : Some e.act ≡ due_in s n 0 r = sym (ap act_in found.1) ∙ act in
    let run = did-run shards s n v u w command r e.act c acts-so in
    let reply : Reply = (meaning command K).0 in
    let came-so : Some e.told ≡ Some (given (shards_in r.book) r.shard K e.act) =
    sym (ap told_in found.1) ∙ came ∙ ap (λ o. option_map (given (shards_in r.book) r.shard K) (act_in o)) found.1 in
    let told-so : e.told ≡ given (shards_in r.book) r.shard K e.act = cc in
    let told : e.told ≡ acts.Ran reply = told-so ∙ ap (given (shards_in r.book) r.shard K) run in
    let bytes-so : Some (Some bytes) ≡ Some (Some (encoding_of reply)) = sym found.2 ∙ ap bytes_of told in (
      reply,
      ran-so shards s command c.alone c.some c.there v u w n e (acts.Ran reply) K c.asked
          (under-so shards s n v u w command r e c at.0 at.1)
          (step-is shards s n v u w command r e (acts.Ran reply) c at.2 acts-so told) (parts.ran command),
      cc,
    )

pub heard-wanted : (shards s n : ℕ) (v u w : Caller) (command : Command) (r : Receipt) →
    Comes shards s n v u w command r → Some None ≡ bytes_in (entry_at n 0 r.log) → act_in (entry_at n 0 r.log) ≡ due_in s n 0 r →
    CallWent shards v w (Single command) (row_of v (Single command) n (Some want_of_memory) ∷ [])
heard-wanted shards s n v u w command r c said act =
    let found = entry-told (entry_at n 0 r.log) None said in
    let e : Entry = found.0 in
    let at = entry-there n 0 r.log e found.1 in
    let acts-so : Some e.act ≡ due_in s n 0 r = sym (ap act_in found.1) ∙ act in
    ran-so shards s command c.alone c.some c.there v u w n e acts.NoMemory no_keys c.asked
    (under-so shards s n v u w command r e c at.0 at.1)
    (step-is shards s n v u w command r e acts.NoMemory c at.2 acts-so (none-told e.told found.2)) (parts.wanted (Run command) refl)

pub heard-passed : (shards s n : ℕ) (v u w : Caller) (command : Command) (r : Receipt) (call : Call) →
    Comes shards s n v u w command r → was_passed n r.log ≡ true → Some call ≡ Some (call_at r.known n) →
    CallWent shards v w (Single command) (row_of v (Single command) n None ∷ []) × (call ≡ Single command)
heard-passed shards s n v u w command r call c note back =
    let found = note-there n r.log note in
    let d : Caller = after_draw v (Single command) n in
    let is : call ≡ call_at r.known n = cc in
    let drawn = calls_ask shards v (Single command) n (progress_of (Single command)) d (drawn-so shards v u (Single command) n c.asked) in (
      passed-so shards s command c.alone c.some c.there v u w n found.0 c.asked (under-so shards s n v u w command r found.0 c found.1 found.2) found.3,
      is ∙ known-is d.own r.known n (agreed-so shards s n v u w command r c) drawn.drawn c.drawn ∙ (ticket-so shards s n v u w command r c).call_is,
    )
