-- An armed hop runs in its turn: what entering it asks, and what the shard keeps then.
use Rattle.std.proofs.Common.{◌≡◌, ◌≢◌, ℕ, ◌+◌, ◌<◌, ◌≤◌, max, Bool, true, false, not, cond, List, [], ◌∷◌, ◌++◌, inl, inr, refl, sym, ap, ◌∙◌, subst, arith, eqb, eq-eqb, ne_eqb, eqb-true}
use Rattle.std.specs.Prelude.{Option, Some, None, map, ◌||◌, ◌&&◌, if◌then◌else◌}
use mathlib.Core.Logic.{dite}
use native.Mathlib.Decide.{ℕ_discrete}
use Rattle.std.proofs.lemmas.Bool.{false≢true}
use Rattle.df_model.specs.Keyspace.{Keyspace}
use Rattle.df_model.specs.declared.command.Call.{Call}
use Rattle.df_order.specs.Lists.{Has, Chain}
use Rattle.df_order.specs.Model.{own}
use Rattle.df_order.specs.Puts.{put}
use Rattle.df_order.specs.Shards as order
use Rattle.df_order.proofs.Lists.{has_last, has_only, only_has}
use Rattle.df_log.specs.Acts.{Act, Told, Changes, Run, Read, Stage, Apply, Unstage, Begin, Walk, Count, Clear, Passed, Pull, Saved}
use Rattle.df_log.specs.Parts.{IsTold, effect, shown_after, staged_after}
use Rattle.df_log.specs.Entries.{is_note, acts_of}
use Rattle.df_log.specs.declared.entry.Entry.{Entry}
use Rattle.df_core.specs.Calls.{calls}
use Rattle.df_core.specs.Belongs.{Belongs, MayDo, Tells, runs, reads, stages, applies, unstages, walks, counts, begins, stages_none, clears, unstages_none}
use Rattle.df_core.specs.Steps.{steps_of}
use Rattle.df_core.proofs.DueLaws.{due_belongs}
use Rattle.df_book.specs.Logs.{use_of, uses}
use Rattle.df_book.specs.Draws.{draws_of, call_at}
use Rattle.df_book.specs.Passes.{Shard, Receipt, after_entry, receipt_of}
use Rattle.df_core.specs.Due.{due}
use Rattle.df_end.specs.Asked.{PartDue}
use Rattle.df_hops.specs.Parts.{shards_in}
use Rattle.df_hops.specs.Shown.{entry_at}
use Rattle.df_shard.proofs.Shows.{found-last}
use Rattle.df_shard.proofs.Commands.{linked-act}
use Rattle.df_txqueue.specs.Places.{place_of}
use Rattle.df_txqueue.specs.declared.place.Place as at
use Rattle.df_end.specs.Shards.{ShardHolds}
use Rattle.df_end.specs.Logs.{entries_in}
use Rattle.df_end.proofs.ShardLaws.{grown-acts, hops_are_fresh, shards_run_in_turn}
use Rattle.df_shard.specs.Owns.{OwnPart}
use Rattle.df_shard.specs.Holds as holds
use Rattle.df_shard.specs.Holds.{View, Holds, Hopping, Wait, Waits, BareFor, IsArmed, IsBare, WasDue, armed_at, armed_in, armed_of, holder_of, is_armed, part_in, puts_in, staged_at, staged_in, staged_of, wait_at, world_of}
use Rattle.df_shard.specs.Changes.{done_wait, served, with_wait}
use Rattle.df_shard.specs.Served.{IsLinkedAct, entry_of}
use Rattle.df_shard.specs.MayRun.{has_armed, is_granted, is_head, is_ready, may_run}
use Rattle.df_shard.proofs.Bare.{not-both}
use Rattle.df_shard.proofs.Owns.{own_stays}
use Rattle.df_shard.proofs.Recorded.{Enters, due-grown, own-grown, waits-grown}
use Rattle.df_shard.proofs.Waitings.{at-each, at-with, at-with-else, each-with, once-with, puts-with}

-- ---- whose turn it is

has-place : (n : ℕ) (ps : List at.Place) → is_granted (place_of n ps) ≡ true →
    (p : order.Place) × Has (map holds.place_of ps) p × (p.number ≡ n) × (p.granted ≡ true)
has-place n [] g = absurd (false≢true g)
has-place n (p ∷ ps) g = dite (ℕ_discrete p.number n)
    (λ (is : p.number ≡ n). (holds.place_of p, inl refl, is, sym (ap (λ b. is_granted (cond b (Some p) (place_of n ps))) (eq-eqb p.number n is)) ∙ g))
    (λ (no : p.number ≢ n).
    let r = has-place n ps (sym (ap (λ b. is_granted (cond b (Some p) (place_of n ps))) (ne_eqb p.number n no)) ∙ g) in
    (r.0, inr r.1, r.2, r.3))

head-least : (n : ℕ) (q : order.Place) (ps : List order.Place) → q.number ≡ n → Chain (λ (p q : order.Place). p.number < q.number) (q ∷ ps) →
    (r : order.Place) → Has (q ∷ ps) r → n ≤ r.number
head-least n q ps is c r (inl e) = omega (arith, is, ap (λ (p : order.Place). p.number) e)
head-least n q ps is c r (inr k) = omega (arith, is, c.0 r k)

pub turn-is : (n : ℕ) (ps : List at.Place) → Chain (λ (p q : order.Place). p.number < q.number) (map holds.place_of ps) →
    may_run n ps ≡ true → order.MayRun (map holds.place_of ps) n
turn-is n ps c may = go (is_granted (place_of n ps)) refl may
  where
    heads : (ps : List at.Place) → Chain (λ (p q : order.Place). p.number < q.number) (map holds.place_of ps) → is_head n ps ≡ true →
        order.MayRun (map holds.place_of ps) n
    heads [] c h = absurd (false≢true h)
    heads (p ∷ ps) c h =
        (holds.place_of p, inl refl, eqb-true p.number n h, inr (head-least n (holds.place_of p) (map holds.place_of ps) (eqb-true p.number n h) c))

    go : (b : Bool) → is_granted (place_of n ps) ≡ b → (b || is_head n ps) ≡ true → order.MayRun (map holds.place_of ps) n
    go true g m = let r = has-place n ps g in (r.0, r.1, r.2, inl r.3)
    go false g m = heads ps c m

-- ---- what was due belongs to the call, and is no note

pub due-belongs : (shards index : ℕ) (p : Shard) (n hop : ℕ) (act : Act) (o : Option Call) → WasDue shards index p n hop act o →
    Belongs shards index (call_at p.known n) act
due-belongs shards index p n hop act None d =
    due_belongs shards (call_at p.known n) (λ i. steps_of (entries_in shards d.0 n i)) index hop act d.2
due-belongs shards index p n hop act (Some c) d =
    subst (λ c. Belongs shards index c act) d.0 (due_belongs shards c (λ i. []) index hop act d.1)

pub no-note : (shards s : ℕ) (call : Call) (act : Act) → Belongs shards s call act → is_note act ≡ false
no-note shards s call act b = go act b.may
  where
    go : (act : Act) → MayDo shards s b.command act → is_note act ≡ false
    go act (runs e) = refl
    go act (reads e) = refl
    go act (stages K e) = refl
    go act (applies e) = refl
    go act (unstages e) = refl
    go act (walks e) = refl
    go act (counts e) = refl
    go act (begins e) = refl
    go act (stages_none e) = refl
    go act (clears e) = refl
    go act (unstages_none e) = refl

uses-one : (act : Act) → uses act ≤ 1
uses-one (Run command) = omega arith
uses-one (Read keys) = omega arith
uses-one (Stage changes) = omega arith
uses-one Apply = omega arith
uses-one Unstage = omega arith
uses-one Begin = omega arith
uses-one Walk = omega arith
uses-one Count = omega arith
uses-one Clear = omega arith
uses-one Passed = omega arith
uses-one Pull = omega arith
uses-one Saved = omega arith

-- ---- a hop in its turn

-- The armed hop of a call did this, and was told so.
pub record DidHop (x : View) (w : Wait) (a : Hopping) (told : Told) (K : Keyspace) (staged : Changes) (kept : ℕ) : Type 0 where
  pub is_told : IsTold x.shards x.index x.keys a.act told
  pub keys : K ≡ shown_after a.act told w.staged x.keys
  pub changes : staged ≡ staged_after a.act told w.staged
  pub room : kept + puts_in w.staged ≡ x.kept + puts_in staged

-- the call waits with this hop armed, and it is its turn
pub record InTurn (x : View) (w : Wait) (a : Hopping) : Type 0 where
  pub here : wait_at w.number x.waiting ≡ Some w
  pub armed : w.armed ≡ Some a
  pub turn : may_run w.number x.places ≡ true

pub waits-here : (x : View) (w : Wait) (a : Hopping) → Holds x → InTurn x w a → Waits x.shards x.index x.places x.pass w
waits-here x w a h t = at-each (Waits x.shards x.index x.places x.pass) w.number x.waiting w t.here h.waits

pub armed-here : (x : View) (w : Wait) (a : Hopping) → Holds x → InTurn x w a → IsArmed x.shards x.index x.pass w.number w.above (Some a)
armed-here x w a h t = subst (IsArmed x.shards x.index x.pass w.number w.above) t.armed (waits-here x w a h t).armed

belongs-here : (x : View) (w : Wait) (a : Hopping) → Holds x → InTurn x w a → Belongs x.shards x.index (call_at x.pass.known w.number) a.act
belongs-here x w a h t = due-belongs x.shards x.index x.pass w.number a.hop a.act a.call (armed-here x w a h t).1

pub acts-here : (x : View) (w : Wait) (a : Hopping) → Holds x → InTurn x w a → is_note a.act ≡ false
acts-here x w a h t = no-note x.shards x.index (call_at x.pass.known w.number) a.act (belongs-here x w a h t)

-- one hop of it is armed
armed-one : (x : View) (w : Wait) (a : Hopping) → InTurn x w a → ◌≡◌ {A = ℕ} (armed_in x.waiting w.number) 1
armed-one x w a t = ap (λ o. is_armed (armed_of o)) t.here ∙ ap is_armed t.armed

pub new-here : (x : View) (w : Wait) (a : Hopping) → Holds x → InTurn x w a → (f : Entry) → Has (acts_of x.pass.log) f →
    f.number ≡ w.number → f.hop < a.hop
new-here x w a h t f k is = omega (arith, (waits-here x w a h t).below f k is, (armed-here x w a h t).0)

pub hop-enters : (x : View) (w : Wait) (a : Hopping) (told : Told) → Holds x → InTurn x w a → Enters (entry_of w a told) x.pass
hop-enters x w a told h t = (
  (waits-here x w a h t).known,
  λ some. omega (arith, h.holds.room w.number, armed-one x w a t, uses-one a.act),
  hops_are_fresh x.pass.log (entry_of w a told) (acts-here x w a h t) (new-here x w a h t),
)

-- ---- what is armed and staged then

armed-less : (x : View) (w : Wait) (a : Hopping) (told : Told) (new : Changes) → InTurn x w a → (m : ℕ) →
    armed_in (with_wait w.number (done_wait w a.hop new) x.waiting) m + use_of m (entry_of w a told) ≤ armed_in x.waiting m
armed-less x w a told new t m = dite (ℕ_discrete m w.number)
    (λ (is : m ≡ w.number). subst (λ i. armed_in (with_wait w.number (done_wait w a.hop new) x.waiting) i + use_of i (entry_of w a told) ≤ armed_in x.waiting i) (sym is)
    (omega (
      arith,
      ap (λ o. is_armed (armed_of o)) (at-with w.number (done_wait w a.hop new) x.waiting w refl t.here),
      armed-one x w a t,
      uses-one a.act,
      ap (λ b. cond b (uses a.act) 0) (eq-eqb w.number w.number refl),
    )))
    (λ (no : m ≢ w.number).
    omega (
      arith,
      ap (λ o. is_armed (armed_of o)) (at-with-else w.number (done_wait w a.hop new) x.waiting m refl no),
      ap (λ b. cond b (uses a.act) 0) (ne_eqb w.number m (λ e. no (sym e))),
    ))

staged-with : (w new : Wait) (ws : List Wait) → new.number ≡ w.number → wait_at w.number ws ≡ Some w → (m : ℕ) →
    staged_at m (with_wait w.number new ws) ≡ put w.number new.staged (staged_in ws) m
staged-with w new ws is here m = go (eqb m w.number) refl
  where
    go : (b : Bool) → eqb m w.number ≡ b → staged_at m (with_wait w.number new ws) ≡ (if b then new.staged else staged_in ws m)
    go true e = subst (λ i. staged_at i (with_wait w.number new ws) ≡ new.staged) (sym (eqb-true m w.number e))
        (ap staged_of (at-with w.number new ws w is here))
    go false e = ap staged_of (at-with-else w.number new ws m is (λ same. not-both (eq-eqb m w.number same) e))

state-is : (x : View) (w : Wait) (a : Hopping) (told : Told) (K : Keyspace) (new : Changes) (kept : ℕ) (p : Shard) → InTurn x w a →
    DidHop x w a told K new kept → effect (entry_of w a told) (part_in x) ≡ part_in (served x w (entry_of w a told) K new kept p)
state-is x w a told K new kept p t d = λ j. record { visible = seen j; staged = λ m. staged m j }
  where
    here : staged_at w.number x.waiting ≡ w.staged
    here = ap staged_of t.here

    seen : shown_after a.act told (staged_at w.number x.waiting) x.keys ≡ K
    seen = ap (λ c. shown_after a.act told c x.keys) here ∙ sym d.keys

    staged : (m : ℕ) → put w.number (staged_after a.act told (staged_at w.number x.waiting)) (staged_in x.waiting) m
        ≡ staged_at m (with_wait w.number (done_wait w a.hop new) x.waiting)
    staged m = ap (λ c. put w.number c (staged_in x.waiting) m) (ap (staged_after a.act told) here ∙ sym d.changes)
        ∙ sym (staged-with w (done_wait w a.hop new) x.waiting refl t.here m)

world-served : (x : View) (w : Wait) (a : Hopping) (told : Told) (K : Keyspace) (new : Changes) (kept : ℕ) → Holds x → InTurn x w a →
    DidHop x w a told K new kept →
    order.enter (calls x.shards) (entry_of w a told) (world_of x)
    ≡ world_of (served x w (entry_of w a told) K new kept (after_entry x.pass (entry_of w a told)))
world-served x w a told K new kept h t d = λ j. record {
  state = state-is x w a told K new kept (after_entry x.pass (entry_of w a told)) t d j;
  holders = map (holder_of x.shards) x.holders;
  queue = map holds.place_of x.places;
  ran = max x.ran w.number;
  log = sym (grown-acts x.pass.log (entry_of w a told) false (acts-here x w a h t)) j;
}

-- ---- what the shard keeps

hop-tells : (x : View) (w : Wait) (a : Hopping) (told : Told) (K : Keyspace) (new : Changes) (kept : ℕ) → Holds x → InTurn x w a →
    DidHop x w a told K new kept → Tells x.shards x.index (call_at x.pass.known w.number) (entry_of w a told) (part_in x)
hop-tells x w a told K new kept h t d = (belongs-here x w a h t, d.is_told)

done-waits : (x : View) (w : Wait) (a : Hopping) (told : Told) (new : Changes) → Holds x → InTurn x w a →
    Waits x.shards x.index x.places (after_entry x.pass (entry_of w a told)) (done_wait w a.hop new)
done-waits x w a told new h t = record {
  queued = (waits-here x w a h t).queued;
  known = (waits-here x w a h t).known;
  below = below;
  armed = tt;
  bare = tt;
}
  where
    e : Entry
    e = entry_of w a told

    below : (f : Entry) → Has (acts_of (x.pass.log ++ e ∷ [])) f → f.number ≡ w.number → f.hop < a.hop + 1
    below f k is = go (has_only (λ (y : Entry). not (is_note y.act)) (x.pass.log ++ e ∷ []) f k)
      where
        go : Has (x.pass.log ++ e ∷ []) f × (not (is_note f.act) ≡ true) → f.hop < a.hop + 1
        go m = elim (has_last x.pass.log e f m.0) [
          | inl b ↦ omega (arith, new-here x w a h t f (only_has (λ (y : Entry). not (is_note y.act)) x.pass.log f b m.1) is)
          | inr b ↦ omega (arith, ap (λ (y : Entry). y.hop) b)
        ]

serves-at : (x : View) (w : Wait) (a : Hopping) (told : Told) (K : Keyspace) (new : Changes) (kept : ℕ) → Holds x → InTurn x w a →
    DidHop x w a told K new kept → Holds (served x w (entry_of w a told) K new kept (after_entry x.pass (entry_of w a told)))
serves-at x w a told K new kept h t d = record {
  some = h.some;
  index = h.index;
  book = h.book;
  own = own-grown x.pass e;
  holds = subst (ShardHolds x.shards x.first (armed_in ws) (after_entry x.pass e)) (world-served x w a told K new kept h t d)
      (shards_run_in_turn x.shards x.first (armed_in x.waiting) (armed_in ws) x.pass (world_of x) e (omega (arith, h.some)) h.holds
      (acts-here x w a h t) (turn-is w.number x.places h.holds.kept.sorted t.turn)
      (subst (λ s. Tells x.shards s (call_at x.pass.known w.number) e (part_in x)) (sym h.index) tells) rises (armed-less x w a told new t));
  once = once-with w.number (done_wait w a.hop new) x.waiting refl h.once;
  waits = each-with (Waits x.shards x.index x.places x.pass) (Waits x.shards x.index x.places (after_entry x.pass e)) w.number (done_wait w a.hop new) x.waiting
      (λ v other k. waits-grown x.shards x.index x.places x.pass e v h.own (λ act same. other (sym same)) k) (done-waits x w a told new h t) h.once h.waits;
  room = omega (arith, h.room, puts-with w.number (done_wait w a.hop new) x.waiting w t.here, d.room);
  mine = subst (OwnPart x.shards x.index) (state-is x w a told K new kept (after_entry x.pass e) t d)
      (own_stays x.shards x.index (call_at x.pass.known w.number) e (part_in x) (omega (arith, h.some)) tells h.mine);
}
  where
    e : Entry
    e = entry_of w a told

    ws : List Wait
    ws = with_wait w.number (done_wait w a.hop new) x.waiting

    tells : Tells x.shards x.index (call_at x.pass.known w.number) e (part_in x)
    tells = hop-tells x w a told K new kept h t d

    rises : (f : Entry) → Has (own (calls x.shards) w.number (acts_of x.pass.log)) f → f.hop < a.hop
    rises f k =
        let m = has_only (λ (y : Entry). eqb y.number w.number) (acts_of x.pass.log) f k in
        new-here x w a h t f m.0 (eqb-true f.number w.number m.1)

pub serves : (x : View) (w : Wait) (a : Hopping) (told : Told) (K : Keyspace) (new : Changes) (kept : ℕ) (p : Shard) → Holds x → InTurn x w a →
    DidHop x w a told K new kept → p ≡ after_entry x.pass (entry_of w a told) → Holds (served x w (entry_of w a told) K new kept p)
serves x w a told K new kept p h t d grown =
    subst (λ (q : Shard). Holds (served x w (entry_of w a told) K new kept q)) (sym grown) (serves-at x w a told K new kept h t d)

-- ---- its turn, by what the shard looked at

both-true : (a b : Bool) → (a && b) ≡ true → (a ≡ true) × (b ≡ true)
both-true true b e = (refl, e)
both-true false b e = absurd (false≢true e)

pub ready-turn : (x : View) (w : Wait) (a : Hopping) → wait_at w.number x.waiting ≡ Some w → is_ready x.places w ≡ true → w.armed ≡ Some a → InTurn x w a
ready-turn x w a here ready armed = record { here = here; armed = armed; turn = (both-true (has_armed w) (may_run w.number x.places) ready).1 }

-- it is none that a shard doesn't run
pub linked-here : (x : View) (w : Wait) (a : Hopping) → Holds x → InTurn x w a → IsLinkedAct a.act
linked-here x w a h t = linked-act x.shards x.index (call_at x.pass.known w.number) a.act (belongs-here x w a h t)

-- a Quick has staged nothing
pub bare-here : (x : View) (w : Wait) (a : Hopping) → Holds x → InTurn x w a → (a.call ≡ None → ⊥) → w.staged ≡ []
bare-here x w a h t quick = go a.call refl (subst (λ o. IsBare o w.staged) t.armed (waits-here x w a h t).bare)
  where
    go : (o : Option Call) → a.call ≡ o → BareFor o w.staged → w.staged ≡ []
    go None is b = absurd (quick is)
    go (Some c) is b = b

-- ---- what its receipt shows

-- what is shown of it was due: of a Quick before anything else of its call, of a Hop by what its caller had seen
abbrev pub DueShown : ℕ → ℕ → Act → Option Call → Receipt → Type 0
DueShown n hop act None r = PartDue (shards_in r.book) r n hop act
DueShown n hop act (Some c) r = due (shards_in r.book) (call_at r.known n) (λ i. []) r.shard hop ≡ Some act

pub record HopShown (s n hop : ℕ) (act : Act) (call : Option Call) (e : Entry) (shards : ℕ) (r : Receipt) : Type 0 where
  pub shard : r.shard ≡ s
  pub shards_are : shards_in r.book ≡ shards
  pub drawn : 1 ≤ draws_of n r.known
  pub found : entry_at n hop r.log ≡ Some e
  pub due : DueShown n hop act call r

hop-shown-at : (x : View) (w : Wait) (a : Hopping) (told : Told) → Holds x → InTurn x w a →
    HopShown x.index w.number a.hop a.act a.call (entry_of w a told) x.shards (receipt_of (after_entry x.pass (entry_of w a told)))
hop-shown-at x w a told h t = record {
  shard = h.index;
  shards_are = words;
  drawn = (waits-here x w a h t).known;
  found = found-last x.pass.log e (acts-here x w a h t)
      (λ f k is same. absurd (omega (arith, new-here x w a h t f k is, same)));
  due = go a.call (armed-here x w a h t).1;
}
  where
    e : Entry
    e = entry_of w a told

    words : shards_in x.pass.book ≡ x.shards
    words = omega (arith, h.book)

    go : (o : Option Call) → WasDue x.shards x.index x.pass w.number a.hop a.act o → DueShown w.number a.hop a.act o (receipt_of (after_entry x.pass e))
    go None d = let g = due-grown x.shards x.index x.pass e w.number a.hop a.act None h.own d in record {
      seen = g.0;
      within = g.1;
      told = (waits-here x w a h t).known;
      is_due = (λ j. due (words j) (call_at x.pass.known w.number) (λ i. steps_of (entries_in (words j) g.0 w.number i)) (h.index j) a.hop) ∙ g.2;
    }
    go (Some c) d = (λ j. due (words j) (sym d.0 j) (λ i. []) (h.index j) a.hop) ∙ d.1

pub hop-shown : (x : View) (w : Wait) (a : Hopping) (told : Told) (e : Entry) (p : Shard) (r : Receipt) → Holds x → InTurn x w a →
    e ≡ entry_of w a told → p ≡ after_entry x.pass e → r ≡ receipt_of p →
    HopShown x.index w.number a.hop a.act a.call (entry_of w a told) x.shards r
hop-shown x w a told e p r h t is grown r_is =
    subst (HopShown x.index w.number a.hop a.act a.call (entry_of w a told) x.shards) (sym (r_is ∙ ap receipt_of (grown ∙ ap (after_entry x.pass) is)))
    (hop-shown-at x w a told h t)

pub due-quick : (n hop : ℕ) (act : Act) (o : Option Call) (r : Receipt) → (o ≡ None → ⊥) → DueShown n hop act o r →
    due (shards_in r.book) (call_at r.known n) (λ i. []) r.shard hop ≡ Some act
due-quick n hop act None r quick d = absurd (quick refl)
due-quick n hop act (Some c) r quick d = d

pub due-part : (n hop : ℕ) (act : Act) (o : Option Call) (r : Receipt) → o ≡ None → DueShown n hop act o r →
    PartDue (shards_in r.book) r n hop act
due-part n hop act o r part d = subst (λ o. DueShown n hop act o r) part d
