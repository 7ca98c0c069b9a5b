-- When a Quick has its turn, and what that says of its answer.
use Rattle.std.proofs.Common.{◌≡◌, ◌≢◌, ◌⊎◌, ℕ, ◌<◌, ◌≤◌, Bool, true, false, cond, [], inl, inr, refl, sym, ap, ◌∙◌, subst, arith}
use Rattle.std.specs.Prelude.{Option, Some, None, ◌==◌, if◌then◌else◌}
use Rattle.std.proofs.lemmas.Bool.{false≢true}
use Rattle.df_model.specs.Values.{Bytes}
use Rattle.df_model.specs.Hash.{shard_of, fnv64}
use Rattle.df_model.specs.declared.command.Call.{Call}
use Rattle.df_model.specs.declared.keys.Keys.{Keys}
use Rattle.df_model.specs.declared.keys.Mode.{Mode}
use Rattle.df_footprints.specs.Footprints.{footprint_of, only_key, AsksAlone}
use Rattle.df_core.proofs.DueLaws.{next_named}
use Rattle.df_book.specs.Passes.{Shard}
use Rattle.df_intents.specs.Holders.{is_free, just}
use Rattle.df_intents.specs.declared.grant.Grant.{Grant}
use Rattle.df_intents.specs.declared.grant.Grant.TheVariants.{Free, Waits}
use Rattle.df_hops.specs.Shown.{limit_of}
use Rattle.df_hops.specs.Parts.{hash_for, hash_of}
use Rattle.df_hops.specs.declared.answer.Why.{Why}
use Rattle.df_hops.specs.declared.answer.Why.TheVariants.{Refused, NoMemory}
use Rattle.df_shard.specs.Holds.{View, tail_of, call_act}
use Rattle.df_shard.specs.Came.{Brought, with_pass}
use Rattle.df_shard.specs.Bodies.{limit_in_why, is_for_memory}
use Rattle.df_shard.specs.Turns.{MayStart, IsFree, IsHeld, IsBehind, IsLast, IsPassed}
use Rattle.df_shard.proofs.Bare.{not-both, some-same, none-some}

-- ---- grants

abbrev is_grant : Grant → Bool
is_grant Free = true
is_grant Waits = false

pub grant-free : (b : Bool) → Free ≡ (if b then Free else Waits) → b ≡ true
grant-free true e = refl
grant-free false e = absurd (false≢true (sym (ap is_grant e)))

pub grant-waits : (b : Bool) → Waits ≡ (if b then Free else Waits) → b ≡ false
grant-waits true e = absurd (false≢true (ap is_grant e))
grant-waits false e = refl

-- ---- what a call asks for

pub asks-some : (x : View) (n hop : ℕ) (call : Call) → Brought x n hop call → footprint_of x.shards call x.index ≢ None
asks-some x n hop call b = next_named x.shards call (λ i. []) x.index hop (call_act call hop) b.is_due

-- of one key
pub key-free : (x : View) (call : Call) (key : Bytes) (mode : Mode) → x.index < x.shards → AsksAlone call key mode →
    is_free (just key mode) x.holders ≡ true → IsFree x call
key-free x call key mode some alone free k e = go (shard_of key x.shards == x.index) (sym (alone x.shards x.index some) ∙ e)
  where
    go : (b : Bool) → cond b (Some (just key mode)) None ≡ Some k → is_free k x.holders ≡ true
    go true e = subst (λ k. is_free k x.holders ≡ true) (some-same (just key mode) k e) free
    go false e = absurd (none-some k e)

pub key-held : (x : View) (n hop : ℕ) (call : Call) (key : Bytes) (mode : Mode) → x.index < x.shards → Brought x n hop call →
    AsksAlone call key mode → is_free (just key mode) x.holders ≡ false → IsHeld x call
key-held x n hop call key mode some b alone held =
    go (shard_of key x.shards == x.index) (alone x.shards x.index some)
  where
    go : (t : Bool) → footprint_of x.shards call x.index ≡ cond t (Some (just key mode)) None → IsHeld x call
    go true e = (just key mode, e, held)
    go false e = absurd (asks-some x n hop call b e)

pub keys-free : (x : View) (call : Call) (keys : Keys) → footprint_of x.shards call x.index ≡ Some keys →
    is_free keys x.holders ≡ true → IsFree x call
keys-free x call keys asks free k e = subst (λ k. is_free k x.holders ≡ true) (some-same keys k (sym asks ∙ e)) free

-- somebody holds some of it, however it is named
pub keys-held : (x : View) (call : Call) (keys : Keys) → footprint_of x.shards call x.index ≡ Some keys → IsHeld x call →
    is_free keys x.holders ≡ false
keys-held x call keys asks h = subst (λ k. is_free k x.holders ≡ false) (some-same h.0 keys (sym h.1 ∙ asks)) h.2

-- it is refused
pub comes-behind : (x : View) (n : ℕ) (call : Call) (limit : ℕ) → MayStart x n → IsHeld x call → n < limit → limit ≡ tail_of x.places →
    IsBehind x n call
comes-behind x n call limit start h below is = (h.0, h.1, (start, h.2, subst (λ l. n < l) is below))

-- who isn't below the tail isn't behind
pub not-behind : (x : View) (n : ℕ) (call : Call) → tail_of x.places ≤ n → IsBehind x n call → ⊥
not-behind x n call low b = absurd (omega (arith, low, b.2.2))

-- the hash of the one key
pub hash-is : (any : ℕ) (call : Call) (key : Bytes) → any ≡ hash_for any call → only_key call ≡ Some key → any ≡ fnv64 key
hash-is any call key e k = e ∙ ap (hash_of any) k

-- ---- what is passed

pub passed-limit : (x : View) (n : ℕ) (call : Call) (why : Why) → IsPassed x n call why → n ≤ limit_of n why
passed-limit x n call (Refused limit) p = elim p [
  | inl r ↦ omega (arith, r.0, r.1)
  | inr r ↦ omega (arith, r.0.2.2, r.1)
]
passed-limit x n call NoMemory p = omega arith

-- by what ran
pub passed-ran : (x : View) (n : ℕ) (call : Call) (why : Why) → IsPassed x n call why → n ≤ x.ran → limit_in_why (Some why) ≡ Some x.ran
passed-ran x n call (Refused limit) p le = elim p [
  | inl r ↦ ap Some r.1
  | inr r ↦ absurd (omega (arith, le, r.0.2.0.0))
]
passed-ran x n call NoMemory p le = absurd (omega (arith, le, p.0))

-- by the tail
pub passed-tail : (x : View) (n : ℕ) (call : Call) (why : Why) → IsPassed x n call why → x.ran < n → (l : ℕ) →
    limit_in_why (Some why) ≡ Some l → (l ≡ tail_of x.places) × IsBehind x n call
passed-tail x n call (Refused limit) p lt l e = elim p [
  | inl r ↦ absurd (omega (arith, lt, r.0))
  | inr r ↦ (sym (some-same limit l e) ∙ r.1, r.0)
]
passed-tail x n call NoMemory p lt l e = absurd (none-some l e)

-- who comes too late
pub passed-late : (x : View) (n : ℕ) (call : Call) (why : Why) → IsPassed x n call why → IsBehind x n call →
    (limit_in_why (Some why) ≡ Some (tail_of x.places)) ⊎ ((only_key call ≡ None) × (is_for_memory (Some why) ≡ true))
passed-late x n call (Refused limit) p b = elim p [
  | inl r ↦ absurd (omega (arith, r.0, b.2.0.0))
  | inr r ↦ inl (ap Some r.1)
]
passed-late x n call NoMemory p b = inr (p.1 b, refl)

-- who is free doesn't come too late
pub free-not-behind : (x : View) (n : ℕ) (call : Call) → IsFree x call → IsBehind x n call → ⊥
free-not-behind x n call free b = absurd (not-both (free b.0 b.1) b.2.1)

-- ---- what a Quick is answered, if it is passed for `why`

pub record Verdict (x : View) (n : ℕ) (call : Call) (why : Option Why) : Type 0 where
  pub ran : n ≤ x.ran → limit_in_why why ≡ Some x.ran
  pub tail : x.ran < n → (l : ℕ) → limit_in_why why ≡ Some l → (l ≡ tail_of x.places) × IsBehind x n call
  pub late :
      IsBehind x n call → (limit_in_why why ≡ Some (tail_of x.places)) ⊎ ((only_key call ≡ None) × (is_for_memory why ≡ true))

pub verdict-passed : (x : View) (n : ℕ) (call : Call) (why : Why) → IsPassed x n call why → Verdict x n call (Some why)
verdict-passed x n call why p = record {
  ran = passed-ran x n call why p;
  tail = passed-tail x n call why p;
  late = passed-late x n call why p;
}

pub verdict-now : (x : View) (n : ℕ) (call : Call) → MayStart x n → IsFree x call → Verdict x n call None
verdict-now x n call start free = record {
  ran = λ le. absurd (omega (arith, le, start.0));
  tail = λ lt l e. absurd (none-some l e);
  late = λ b. absurd (free-not-behind x n call free b);
}

pub verdict-waits : (x : View) (n : ℕ) (call : Call) (keys : Keys) → IsLast x n call keys → Verdict x n call None
verdict-waits x n call keys w = record {
  ran = λ le. absurd (omega (arith, le, w.start.0));
  tail = λ lt l e. absurd (none-some l e);
  late = λ b. absurd (not-behind x n call w.last b);
}

pub verdict-memory : (x : View) (n : ℕ) (call : Call) (keys : Keys) → IsLast x n call keys → Verdict x n call (Some NoMemory)
verdict-memory x n call keys w = record {
  ran = λ le. absurd (omega (arith, le, w.start.0));
  tail = λ lt l e. absurd (none-some l e);
  late = λ b. absurd (not-behind x n call w.last b);
}

-- before the ticket
pub verdict-back : (x y : View) (p : Shard) (n m : ℕ) (call : Call) (why : Option Why) → y ≡ with_pass x p → m ≡ n →
    Verdict y m call why → Verdict x n call why
verdict-back x y p n m call why rest same v =
    let u = subst (λ (z : View × ℕ). Verdict z.0 z.1 call why) (λ j. (rest j, same j)) v in
    record { ran = u.ran; tail = u.tail; late = u.late }

-- of the call that a message says
pub verdict-tail : (x : View) (n : ℕ) (call : Call) (why : Option Why) (o : Option Call) → Verdict x n call why → o ≡ Some call →
    x.ran < n → (l : ℕ) → limit_in_why why ≡ Some l → (l ≡ tail_of x.places) × ((d : Call) → o ≡ Some d → IsBehind x n d)
verdict-tail x n call why o v said lt l e =
    let t = v.tail lt l e in (t.0, λ d is. subst (IsBehind x n) (some-same call d (sym said ∙ is)) t.1)

pub verdict-late : (x : View) (n : ℕ) (call : Call) (why : Option Why) (o : Option Call) → Verdict x n call why → o ≡ Some call →
    (d : Call) → o ≡ Some d → IsBehind x n d →
    (limit_in_why why ≡ Some (tail_of x.places)) ⊎ ((only_key d ≡ None) × (is_for_memory why ≡ true))
verdict-late x n call why o v said d is b =
    let same : call ≡ d = some-same call d (sym said ∙ is) in
    subst (λ d. (limit_in_why why ≡ Some (tail_of x.places)) ⊎ ((only_key d ≡ None) × (is_for_memory why ≡ true))) same
    (v.late (subst (IsBehind x n) (sym same) b))
