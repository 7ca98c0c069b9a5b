-- What was seen of a number is all there is, where it has no more uses.
use Rattle.std.proofs.Common.{◌≡◌, ℕ, zero, suc, ◌+◌, ◌<◌, ◌≤◌, Bool, true, false, not, cond, eqb, ltb, List, [], ◌∷◌, ◌++◌, inl, inr, refl, sym, ap, ◌∙◌, subst, arith, append-nil}
use Rattle.std.specs.Prelude.{if◌then◌else◌, Option, Some, None}
use Rattle.df_model.specs.declared.reply.Reply.{Reply}
use Rattle.std.proofs.lemmas.Bool.{false≢true, ltb-true, cases_lt}
use Rattle.df_order.specs.Lists.{Has, cons_if, only}
use Rattle.df_order.specs.Model.{own}
use Rattle.df_order.proofs.Lists.{only_append}
use Rattle.df_log.specs.Acts.{Act, Run, Read, Stage, Apply, Unstage, Begin, Walk, Count, Clear, Passed, Pull, Saved}
use Rattle.df_log.specs.Entries.{is_note, acts_of}
use Rattle.df_log.specs.declared.entry.Entry.{Entry}
use Rattle.df_core.specs.Calls.{calls}
use Rattle.df_book.specs.Weights.{total, below, Each}
use Rattle.df_book.specs.Logs.{at_log, IsPrefix, Within, uses, use_of, uses_of, uses_in}
use Rattle.df_book.specs.declared.draw.Draw.{Draw}
use Rattle.df_book.proofs.Sums.{total-append, below-mono}
use Rattle.df_book.proofs.Logs.{prefix-total}
use Rattle.df_end.specs.Logs.{entries_in}
use Rattle.df_end.specs.Calls.{Came}
use Rattle.df_end.specs.Laws.{CallsStay}

pub each-has : {X : Type 0} (P : X → Type 0) (l : List X) (x : X) → Each P l → Has l x → P x
each-has P [] x e h = absurd h
each-has P (y ∷ l) x e (inl i) = subst P i e.0
each-has P (y ∷ l) x e (inr h) = each-has P l x e.1 h

-- a prefix and what stands behind it
pub rest-of : (a b : List Entry) → IsPrefix a b → (r : List Entry) × (b ≡ a ++ r)
rest-of [] b p = (b, refl)
rest-of (x ∷ a) [] p = absurd p
rest-of (x ∷ a) (y ∷ b) p = let r = rest-of a b p.1 in (r.0, λ j. sym p.0 j ∷ r.1 j)

-- whatever is no note uses a ticket up
act-uses : (a : Act) → not (is_note a) ≡ true → uses a ≡ 1
act-uses (Run command) h = refl
act-uses (Read keys) h = refl
act-uses (Stage changes) h = refl
act-uses Apply h = refl
act-uses Unstage h = refl
act-uses Begin h = refl
act-uses Walk h = refl
act-uses Count h = refl
act-uses Clear h = refl
act-uses Passed h = refl
act-uses Pull h = absurd (false≢true h)
act-uses Saved h = absurd (false≢true h)

-- a log without uses of a number has no entry of it
pub own-none : (shards n : ℕ) (r : List Entry) → total (use_of n) r ≡ 0 → own (calls shards) n (acts_of r) ≡ []
own-none shards n [] h = refl
own-none shards n (e ∷ r) h = go (eqb e.number n) (not (is_note e.act)) refl refl (own-none shards n r (omega (arith, h)))
  where
    go : (b c : Bool) → eqb e.number n ≡ b → not (is_note e.act) ≡ c → only (λ (f : Entry). eqb f.number n) (acts_of r) ≡ [] →
        only (λ (f : Entry). eqb f.number n) (cons_if c e (acts_of r)) ≡ []
    go b false i j k = k
    go false true i j k = ap (λ b. cons_if b e (only (λ (f : Entry). eqb f.number n) (acts_of r))) i ∙ k
    go true true i j k = absurd (omega (arith, h, act-uses e.act j, ap (λ b. cond b (uses e.act) 0) i))

own-same : (shards n : ℕ) (a b : List Entry) → IsPrefix a b → total (use_of n) b ≤ total (use_of n) a →
    own (calls shards) n (acts_of a) ≡ own (calls shards) n (acts_of b)
own-same shards n a b p le =
    let r = rest-of a b p in
    let none : total (use_of n) r.0 ≡ 0 = omega (arith, le, ap (total (use_of n)) r.1, total-append (use_of n) a r.0) in
    sym (ap (λ l. own (calls shards) n (acts_of l)) r.1
    ∙ ap (own (calls shards) n) (only_append (λ (e : Entry). not (is_note e.act)) a r.0)
    ∙ only_append (λ (e : Entry). eqb e.number n) (acts_of a) (acts_of r.0)
    ∙ ap (λ l. own (calls shards) n (acts_of a) ++ l) (own-none shards n r.0 none)
    ∙ append-nil (own (calls shards) n (acts_of a)))

-- sums that are equal, term by term
pub terms-same : (f g : ℕ → ℕ) (c : ℕ) → ((t : ℕ) → f t ≤ g t) → below g c ≤ below f c → (t : ℕ) → t < c → g t ≤ f t
terms-same f g zero h le t lt = absurd (omega (arith, lt))
terms-same f g (suc c) h le t lt = elim (cases_lt t c) [
  | inl low ↦ terms-same f g c h (omega (arith, le, h c)) t low
  | inr ge ↦ (let is : t ≡ c = omega (arith, ge, lt) in omega (arith, ap f is, ap g is, le, below-mono f g h c))
]

-- of two knowledges, where the longer has no more uses of a number, it has no more entries of it
pub entries-same : (shards n : ℕ) (a b : List (List Entry)) → Within a b → uses_in n b (shards + 1) ≤ uses_in n a (shards + 1) →
    entries_in shards a n ≡ entries_in shards b n
entries-same shards n a b within le = λ j s. go s (ltb s shards) refl j
  where
    more : (t : ℕ) → uses_of n (at_log a t) ≤ uses_of n (at_log b t)
    more t = prefix-total (use_of n) (at_log a t) (at_log b t) (within t)

    go : (s : ℕ) (c : Bool) → ltb s shards ≡ c →
        own (calls shards) n (if c then acts_of (at_log a s) else []) ≡ own (calls shards) n (if c then acts_of (at_log b s) else [])
    go s false i = refl
    go s true i = own-same shards n (at_log a s) (at_log b s) (within s)
        (terms-same (λ t. uses_of n (at_log a t)) (λ t. uses_of n (at_log b t)) (shards + 1) more le s (omega (arith, ltb-true s shards i)))

pub came-same : (shards : ℕ) (a b : List (List Entry)) (d : Draw) (reply : Option Reply) →
    entries_in shards a d.number ≡ entries_in shards b d.number → Came shards a d reply → Came shards b d reply
came-same shards a b d None e c = (c.0, λ s. ap (λ es. es s) (sym e) ∙ c.1 s)
came-same shards a b d (Some reply) e c = subst (λ es. (calls shards).Gives d.call es reply) e c

pub calls_stay : CallsStay
calls_stay shards v u r left within bounded drawn made =
    let n = r.draw.number in
    let more = below-mono (λ t. uses_of n (at_log v.seen t)) (λ t. uses_of n (at_log u.seen t))
    (λ t. prefix-total (use_of n) (at_log v.seen t) (at_log u.seen t) (within t)) (shards + 1) in
    let most : uses_in n u.seen (shards + 1) ≤ uses_in n v.seen (shards + 1) = omega (arith, bounded n (shards + 1) drawn, made, left.used) in
    record {
      used = omega (arith, more, most, made, left.used);
      came = came-same shards v.seen u.seen r.draw r.reply (entries-same shards n v.seen u.seen within most) left.came;
    }
