-- A Quick's entry or note: what entering it asks, what the shard keeps then, and what its receipt shows.
use Rattle.std.proofs.Common.{◌≡◌, ◌≢◌, ℕ, ◌+◌, ◌<◌, ◌≤◌, max, Bool, true, false, not, List, [], ◌∷◌, ◌++◌, inl, inr, refl, sym, ap, ◌∙◌, subst, arith, append-nil}
use Rattle.std.specs.Prelude.{Option, Some, None, map, if◌then◌else◌}
use Rattle.df_model.specs.Values.{Bytes}
use Rattle.df_model.specs.Keyspace.{Keyspace}
use Rattle.df_model.specs.Meaning.{meaning}
use Rattle.df_model.specs.declared.command.Call.{Call}
use Rattle.df_model.specs.declared.keys.Keys.{Keys}
use Rattle.df_footprints.specs.Footprints.{footprint_of}
use Rattle.df_order.specs.Lists.{Has}
use Rattle.df_order.specs.Shards as order
use Rattle.df_order.proofs.Lists.{has_last, has_only, only_has}
use Rattle.df_log.specs.Acts.{Act, Told, Passed, Ran, NoMemory}
use Rattle.df_log.specs.Parts as parts
use Rattle.df_log.specs.Parts.{IsTold, effect}
use Rattle.df_log.specs.Entries.{is_note, acts_of}
use Rattle.df_log.specs.declared.entry.Entry.{Entry}
use Rattle.df_core.specs.Calls.{calls}
use Rattle.df_core.specs.Belongs.{Tells}
use Rattle.df_core.specs.Due.{due}
use Rattle.df_core.proofs.DueLaws.{due_belongs, next_named}
use Rattle.df_book.specs.Weights.{count, Each}
use Rattle.df_book.proofs.Sums.{hit-same}
use Rattle.df_book.specs.Logs.{at_log, with_log, Within, HasRoom, IsFresh}
use Rattle.df_book.proofs.Logs.{at-with, within-grown}
use Rattle.df_book.specs.Draws.{draws_of, call_at}
use Rattle.df_book.specs.Passes.{Shard, Receipt, receipt_of, after_entry}
use Rattle.df_txqueue.specs.Places.{is_queued}
use Rattle.df_txqueue.specs.declared.place.Place.{Place}
use Rattle.df_end.specs.Shards.{ShardHolds}
use Rattle.df_end.proofs.ShardLaws.{grown-acts, hops_are_fresh, shards_run_at_once, shards_note}
use Rattle.df_hops.specs.Parts.{shards_in}
use Rattle.df_hops.specs.Shown.{entry_at, was_passed, bytes_of, due_in, limit_said}
use Rattle.df_hops.specs.Came.{given}
use Rattle.df_shard.specs.Facts.{Facts}
use Rattle.df_hops.specs.declared.answer.AnswerBody.{AnswerBody}
use Rattle.df_hops.specs.declared.answer.AnswerBody.TheVariants as answers
use Rattle.df_shard.specs.Holds.{View, Holds, Hopping, Wait, Waits, IsArmed, WasDue, armed_in, holder_of, part_in, place_of, call_act, call_command, staged_in, world_of}
use Rattle.df_shard.specs.Bodies.{is_plain}
use Rattle.df_shard.specs.Came.{Brought, RanTo, done, with_pass}
use Rattle.df_shard.specs.Turns.{MayStart, IsFree}
use Rattle.df_shard.specs.Owns.{OwnPart}
use Rattle.df_shard.proofs.Owns.{own_stays}
use Rattle.df_shard.proofs.Bare.{not-both, put-same, some-of}
use Rattle.df_shard.proofs.Queues.{same-free}
use Rattle.df_shard.proofs.Shows.{found-last, passed-last}
use Rattle.df_shard.proofs.Waits.{none-above}

abbrev pub note : ℕ → Told → Entry
note n told = record { number = n; hop = 0; act = Passed; told = told }

abbrev pub entered : View → Entry → ℕ → Keyspace → View
entered x e ran K = record x { pass = after_entry x.pass e; ran = ran; keys = K }

-- ---- what entering asks

abbrev pub Enters : Entry → Shard → Type 0
Enters e p = (0 < draws_of e.number p.known) × HasRoom p.log p.counted e × IsFresh p.log e

pub note-enters : (x : View) (n hop : ℕ) (call : Call) (told : Told) → Brought x n hop call → Enters (note n told) x.pass
note-enters x n hop call told b = (b.drawn, λ some. omega (arith, b.room n, hit-same n), λ plain. absurd (not-both refl plain))

pub run-enters : (x : View) (n hop : ℕ) (call : Call) (told : Told) → Holds x → Brought x n hop call → x.ran < n →
    Enters (done n hop call told) x.pass
run-enters x n hop call told h b above = (
  b.drawn,
  λ some. omega (arith, b.room n, hit-same n),
  hops_are_fresh x.pass.log (done n hop call told) refl (λ f m is. absurd (none-above x n h above f m is)),
)

-- ---- who waits

above-all : (log : List Entry) (e : Entry) (n above : ℕ) → (not (is_note e.act) ≡ true → e.number ≢ n) →
    ((f : Entry) → Has (acts_of log) f → f.number ≡ n → f.hop < above) → (f : Entry) → Has (acts_of (log ++ e ∷ [])) f →
    f.number ≡ n → f.hop < above
above-all log e n above d i f h is = go (has_only (λ (y : Entry). not (is_note y.act)) (log ++ e ∷ []) f h)
  where
    go : Has (log ++ e ∷ []) f × (not (is_note f.act) ≡ true) → f.hop < above
    go m = elim (has_last log e f m.0) [
      | inl k ↦ i f (only_has (λ (y : Entry). not (is_note y.act)) log f k m.1) is
      | inr k ↦ absurd (d (ap (λ (y : Entry). not (is_note y.act)) k ∙ m.1) (ap (λ (y : Entry). y.number) k ∙ is))
    ]

-- what was due stays so, whatever is entered
pub due-grown : (shards index : ℕ) (p : Shard) (e : Entry) (n hop : ℕ) (act : Act) (o : Option Call) → at_log p.seen p.shard ≡ p.log →
    WasDue shards index p n hop act o → WasDue shards index (after_entry p e) n hop act o
due-grown shards index p e n hop act None own w = (
  w.0,
  subst (λ l. Within w.0 (with_log p.seen p.shard (l ++ e ∷ []))) own (within-grown w.0 p.seen p.shard (e ∷ []) w.1),
  w.2,
)
due-grown shards index p e n hop act (Some c) own w = w

armed-grown : (shards index : ℕ) (p : Shard) (e : Entry) (n above : ℕ) (a : Option Hopping) → at_log p.seen p.shard ≡ p.log →
    IsArmed shards index p n above a → IsArmed shards index (after_entry p e) n above a
armed-grown shards index p e n above None own i = tt
armed-grown shards index p e n above (Some a) own i = (i.0, due-grown shards index p e n a.hop a.act a.call own i.1)

-- another's entry, or a note, leaves a call that waits as it is
pub waits-grown : (shards index : ℕ) (places : List Place) (p : Shard) (e : Entry) (v : Wait) → at_log p.seen p.shard ≡ p.log →
    (not (is_note e.act) ≡ true → e.number ≢ v.number) → Waits shards index places p v → Waits shards index places (after_entry p e) v
waits-grown shards index places p e v own other h = record {
  queued = h.queued;
  known = h.known;
  below = above-all p.log e v.number v.above other h.below;
  armed = armed-grown shards index p e v.number v.above v.armed own h.armed;
  bare = h.bare;
}

each-grown : (x : View) (e : Entry) → at_log x.pass.seen x.pass.shard ≡ x.pass.log →
    (not (is_note e.act) ≡ true → is_queued e.number x.places ≡ false) → (ws : List Wait) →
    Each (Waits x.shards x.index x.places x.pass) ws → Each (Waits x.shards x.index x.places (after_entry x.pass e)) ws
each-grown x e own new [] h = tt
each-grown x e own new (w ∷ ws) h = (
  waits-grown x.shards x.index x.places x.pass e w own (λ act same. not-both (ap (λ m. is_queued m x.places) same ∙ h.0.queued) (new act)) h.0,
  each-grown x e own new ws h.1,
)

-- its own log is known whole
pub own-grown : (p : Shard) (e : Entry) → at_log (after_entry p e).seen p.shard ≡ (after_entry p e).log
own-grown p e = at-with p.seen p.shard (p.log ++ e ∷ [])

-- ---- what the shard keeps

-- the Quick's hop counts as armed
abbrev with_hop : View → ℕ → ℕ → ℕ
with_hop x n m = armed_in x.waiting m + count m (n ∷ [])

hop-holds : (x : View) (n hop : ℕ) (call : Call) → Holds x → Brought x n hop call →
    ShardHolds x.shards x.first (with_hop x n) x.pass (world_of x)
hop-holds x n hop call h b =
    record { kept = h.holds.kept; log = h.holds.log; waiting = h.holds.waiting; known = h.holds.known; room = b.room }

world-noted : (x : View) (e : Entry) → is_note e.act ≡ true → world_of x ≡ world_of (entered x e x.ran x.keys)
world-noted x e note = λ j. record {
  state = part_in x;
  holders = map (holder_of x.shards) x.holders;
  queue = map place_of x.places;
  ran = x.ran;
  log = (sym (append-nil (acts_of x.pass.log)) ∙ sym (grown-acts x.pass.log e true note)) j;
}

pub note-holds : (x : View) (n hop : ℕ) (call : Call) (told : Told) (p : Shard) → Holds x → Brought x n hop call →
    p ≡ after_entry x.pass (note n told) → Holds (with_pass x p)
note-holds x n hop call told p h b grown = subst (λ (q : Shard). Holds (with_pass x q)) (sym grown) record {
  some = h.some;
  index = h.index;
  book = h.book;
  own = own-grown x.pass e;
  holds = subst (ShardHolds x.shards x.first (armed_in x.waiting) (after_entry x.pass e)) (world-noted x e refl)
      (shards_note x.shards x.first (with_hop x n) (armed_in x.waiting) x.pass (world_of x) e (hop-holds x n hop call h b) refl b.drawn (λ m. omega arith));
  once = h.once;
  waits = each-grown x e h.own (λ act. absurd (not-both act refl)) x.waiting h.waits;
  room = h.room;
  mine = h.mine;
}
  where
    e : Entry
    e = note n told

world-run : (x : View) (n hop : ℕ) (call : Call) (told : Told) (K : Keyspace) → x.ran < n →
    effect (done n hop call told) (part_in x) ≡ record { visible = K; staged = staged_in x.waiting } →
    order.enter (calls x.shards) (done n hop call told) (world_of x) ≡ world_of (entered x (done n hop call told) n K)
world-run x n hop call told K above state = λ j. record {
  state = state j;
  holders = map (holder_of x.shards) x.holders;
  queue = map place_of x.places;
  ran = top j;
  log = sym (grown-acts x.pass.log (done n hop call told) false refl) j;
}
  where
    top : max x.ran n ≡ n
    top = omega (arith, above)

-- it was told what it gives, and these keys are left
pub record Gave (x : View) (n hop : ℕ) (call : Call) (K : Keyspace) (told : Told) : Type 0 where
  pub is_told : IsTold x.shards x.pass.shard x.keys (call_act call hop) told
  pub state : effect (done n hop call told) (part_in x) ≡ record { visible = K; staged = staged_in x.waiting }

run-holds-at : (x : View) (n hop : ℕ) (call : Call) (K : Keyspace) (told : Told) → Holds x → Brought x n hop call →
    MayStart x n → IsFree x call → Gave x n hop call K told → Holds (entered x (done n hop call told) n K)
run-holds-at x n hop call K told h b start free g = record {
  some = h.some;
  index = h.index;
  book = h.book;
  own = own-grown x.pass e;
  holds = subst (ShardHolds x.shards x.first (armed_in x.waiting) (after_entry x.pass e)) (world-run x n hop call told K start.0 g.state)
      (shards_run_at_once x.shards x.first (with_hop x n) (armed_in x.waiting) x.pass (world_of x) e keys.0 (omega (arith, h.some))
      (hop-holds x n hop call h b) refl b.drawn (ap (λ c. footprint_of x.shards c x.pass.shard) b.is_call ∙ here)
      (same-free x.shards keys.0 x.holders ∙ free keys.0 keys.1) start.0 tells (λ m. omega arith));
  once = h.once;
  waits = each-grown x e h.own (λ act. start.1) x.waiting h.waits;
  room = h.room;
  mine = subst (OwnPart x.shards x.index) g.state
      (own_stays x.shards x.index (call_at x.pass.known n) e (part_in x) (omega (arith, h.some)) (subst (λ s. Tells x.shards s (call_at x.pass.known n) e (part_in x)) h.index tells) h.mine);
}
  where
    e : Entry
    e = done n hop call told

    keys : (k : Keys) × (footprint_of x.shards call x.index ≡ Some k)
    keys = some-of (footprint_of x.shards call x.index) (next_named x.shards call (λ i. []) x.index hop (call_act call hop) b.is_due)

    here : footprint_of x.shards call x.pass.shard ≡ Some keys.0
    here = ap (footprint_of x.shards call) h.index ∙ keys.1

    tells : Tells x.shards x.pass.shard (call_at x.pass.known n) e (part_in x)
    tells = subst (λ c. Tells x.shards x.pass.shard c e (part_in x)) (sym b.is_call) (
      due_belongs x.shards call (λ i. []) x.pass.shard hop (call_act call hop)
          (subst (λ s. due x.shards call (λ i. []) s hop ≡ Some (call_act call hop)) (sym h.index) b.is_due),
      g.is_told,
    )

-- ---- what the command came to

gave-ran : (x : View) (n hop : ℕ) (call : Call) (K : Keyspace) → K ≡ (meaning (call_command call hop) x.keys).1 →
    Gave x n hop call K (Ran (meaning (call_command call hop) x.keys).0)
gave-ran x n hop call K is =
    record { is_told = parts.ran (call_command call hop); state = λ j. record { visible = sym is j; staged = put-same n (staged_in x.waiting) j } }

gave-wanted : (x : View) (n hop : ℕ) (call : Call) (K : Keyspace) → K ≡ x.keys → Gave x n hop call K NoMemory
gave-wanted x n hop call K is =
    record { is_told = parts.wanted (call_act call hop) refl; state = λ j. record { visible = sym is j; staged = put-same n (staged_in x.waiting) j } }

-- what it was told, and the bytes of it
pub record CameTo (x : View) (n hop : ℕ) (call : Call) (K : Keyspace) (bytes : Bytes) (e : Entry) (is_said : Bool) : Type 0 where
  pub told : Told
  pub entry : e ≡ done n hop call told
  pub gave : Gave x n hop call K told
  pub said : (if is_said then Some (Some bytes) else Some None) ≡ bytes_of told
  pub given : is_said ≡ true → told ≡ given x.shards x.index x.keys (call_act call hop)

pub came_to : (x : View) (n hop : ℕ) (call : Call) (K : Keyspace) (bytes : Bytes) (e : Entry) (is_said : Bool) →
    RanTo n hop call x.keys K bytes e is_said → CameTo x n hop call K bytes e is_said
came_to x n hop call K bytes e true r = record {
  told = Ran (meaning (call_command call hop) x.keys).0;
  entry = r.0;
  gave = gave-ran x n hop call K r.1;
  said = ap (λ b. Some (Some b)) r.2;
  given = λ e. refl;
}
came_to x n hop call K bytes e false r =
    record { told = NoMemory; entry = r.0; gave = gave-wanted x n hop call K r.1; said = refl; given = λ e. absurd (not-both e refl) }

pub ran-enters : (x : View) (n hop : ℕ) (call : Call) (K : Keyspace) (bytes : Bytes) (e : Entry) (is_said : Bool) → Holds x →
    Brought x n hop call → x.ran < n → RanTo n hop call x.keys K bytes e is_said → Enters e x.pass
ran-enters x n hop call K bytes e is_said h b above r =
    let t = came_to x n hop call K bytes e is_said r in
    subst (λ (f : Entry). Enters f x.pass) (sym t.entry) (run-enters x n hop call t.told h b above)

pub ran-holds : (x : View) (n hop : ℕ) (call : Call) (K : Keyspace) (bytes : Bytes) (e : Entry) (is_said : Bool) (p : Shard) → Holds x →
    Brought x n hop call → MayStart x n → IsFree x call → RanTo n hop call x.keys K bytes e is_said → p ≡ after_entry x.pass e →
    Holds (record x { pass = p; ran = n; keys = K })
ran-holds x n hop call K bytes e is_said p h b start free r grown =
    let t = came_to x n hop call K bytes e is_said r in
    subst (λ (q : Shard). Holds (record x { pass = q; ran = n; keys = K })) (sym (grown ∙ ap (after_entry x.pass) t.entry))
    (run-holds-at x n hop call K t.told h b start free t.gave)

-- an answer with neither slip nor receipt
pub plain-facts : (s n : ℕ) (body : AnswerBody) → is_plain body ≡ true → n ≤ limit_said n body → Facts s n 0 body
plain-facts s n answers.Taken p l = record { shown = refl; drawn = omega arith; limit = l; call = refl; note = refl; told = refl; act = refl; came = refl; outcome = refl; wants = refl; part = tt }
plain-facts s n (answers.Refused limit) p l = record { shown = refl; drawn = omega arith; limit = l; call = refl; note = refl; told = refl; act = refl; came = refl; outcome = refl; wants = refl; part = tt }
plain-facts s n answers.NoMemory p l = record { shown = refl; drawn = omega arith; limit = l; call = refl; note = refl; told = refl; act = refl; came = refl; outcome = refl; wants = refl; part = tt }
plain-facts s n (answers.Passed why slip receipt) p l = absurd (not-both p refl)
plain-facts s n (answers.Ran slip receipt keys) p l = absurd (not-both p refl)
plain-facts s n (answers.Wanted slip receipt) p l = absurd (not-both p refl)
plain-facts s n (answers.Did outcome receipt keys) p l = absurd (not-both p refl)
plain-facts s n answers.Freed p l = record { shown = refl; drawn = omega arith; limit = l; call = refl; note = refl; told = refl; act = refl; came = refl; outcome = refl; wants = refl; part = tt }
plain-facts s n (answers.Pulled out done receipt) p l = absurd (not-both p refl)

-- ---- the receipt

shows : (x : View) (p : Shard) (e e' : Entry) (r : Receipt) → e ≡ e' → p ≡ after_entry x.pass e → r ≡ receipt_of p →
    r ≡ receipt_of (after_entry x.pass e')
shows x p e e' r is grown r_is = r_is ∙ ap receipt_of (grown ∙ ap (after_entry x.pass) is)

-- what the receipt of a note shows
pub record NoteShown (s n : ℕ) (call : Call) (r : Receipt) : Type 0 where
  pub shard : r.shard ≡ s
  pub drawn : 1 ≤ draws_of n r.known
  pub of_call : call_at r.known n ≡ call
  pub note : was_passed n r.log ≡ true

pub note-shown : (x : View) (n hop : ℕ) (call : Call) (told : Told) (e : Entry) (p : Shard) (r : Receipt) → Holds x →
    Brought x n hop call → e ≡ note n told → p ≡ after_entry x.pass e → r ≡ receipt_of p → NoteShown x.index n call r
note-shown x n hop call told e p r h b is grown r_is =
    subst (NoteShown x.index n call) (sym (shows x p e (note n told) r is grown r_is))
    record { shard = h.index; drawn = b.drawn; of_call = b.is_call; note = passed-last x.pass.log (note n told) refl }

-- what the receipt of an entry shows
pub record RanShown (s n hop : ℕ) (call : Call) (told : Told) (r : Receipt) : Type 0 where
  pub shard : r.shard ≡ s
  pub drawn : 1 ≤ draws_of n r.known
  pub found : entry_at n hop r.log ≡ Some (done n hop call told)
  pub due : due_in s n hop r ≡ Some (call_act call hop)

pub ran-shown : (x : View) (n hop : ℕ) (call : Call) (told : Told) (e : Entry) (p : Shard) (r : Receipt) → Holds x →
    Brought x n hop call → x.ran < n → e ≡ done n hop call told → p ≡ after_entry x.pass e → r ≡ receipt_of p →
    RanShown x.index n hop call told r
ran-shown x n hop call told e p r h b above is grown r_is =
    subst (RanShown x.index n hop call told) (sym (shows x p e (done n hop call told) r is grown r_is)) record {
      shard = h.index;
      drawn = b.drawn;
      found = found-last x.pass.log (done n hop call told) refl (λ f m is. absurd (none-above x n h above f m is));
      due = (λ j. due (words j) (b.is_call j) (λ i. []) x.index hop) ∙ b.is_due;
    }
  where
    words : shards_in x.pass.book ≡ x.shards
    words = omega (arith, h.book)

-- of two answers, the one that a test picks
pub pick : {X : Type 0} (P : X → Type 0) (b : Bool) (y z : X) → (b ≡ true → P y) → (b ≡ false → P z) → P (if b then y else z)
pick P true y z f g = f refl
pick P false y z f g = g refl
