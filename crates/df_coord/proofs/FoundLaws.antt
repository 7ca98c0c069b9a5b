-- What an answer's receipt shows, found in its log.
use Rattle.std.proofs.Common.{◌≡◌, ◌≢◌, ℕ, ◌<◌, Bool, true, false, cond, is_some, not, ◌&&◌, List, [], ◌∷◌, ◌++◌, inl, inr, refl, sym, ap, ◌∙◌, subst, arith, eq-eqb, ne_eqb}
use Rattle.std.specs.Prelude.{Option, Some, None, ◌==◌, ◌||◌}
use Rattle.std.proofs.lemmas.Bool.{false≢true, and_parts, eqb-true}
use mathlib.Core.Logic.{dite}
use native.Mathlib.Decide.{ℕ_discrete}
use Rattle.df_model.specs.Values.{Bytes}
use Rattle.df_order.specs.Lists.{Has}
use Rattle.df_log.specs.Acts as acts
use Rattle.df_log.specs.Acts.{Act, Told}
use Rattle.df_log.specs.Entries.{is_note}
use Rattle.df_log.specs.declared.entry.Entry.{Entry}
use Rattle.df_book.specs.Logs.{is_passed}
use Rattle.df_book.specs.Draws.{OwnAgreed, call_at, draws_of}
use Rattle.df_book.specs.Weights.{Each}
use Rattle.df_book.specs.declared.draw.Draw.{Draw}
use Rattle.df_book.proofs.Sums.{hit-else}
use Rattle.df_hops.specs.declared.answer.Answer.{Answer}
use Rattle.df_post.specs.Fits.{fits, is_of}
use Rattle.df_post.specs.declared.awaited.Kind.TheVariants as kinds
use Rattle.df_coord.specs.Asking.{awaited_for}
use Rattle.df_hops.specs.Shown.{bytes_in, bytes_of, entry_at, was_passed}

-- an entry that was found stands in the log, with the number and the hop
pub entry-there : (n hop : ℕ) (log : List Entry) (e : Entry) → entry_at n hop log ≡ Some e → Has log e × (e.number ≡ n) × (e.hop ≡ hop)
entry-there n hop [] e is = absurd (false≢true (ap is_some is))
entry-there n hop (f ∷ log) e is = go (entry-there n hop log e) ((f.number == n) && ((f.hop == hop) && not (is_note f.act))) refl is
  where
    go : (entry_at n hop log ≡ Some e → Has log e × (e.number ≡ n) × (e.hop ≡ hop)) → (b : Bool) → ((f.number == n) && ((f.hop == hop) && not (is_note f.act))) ≡ b → cond b (Some f) (entry_at n hop log) ≡ Some e →
        Has (f ∷ log) e × (e.number ≡ n) × (e.hop ≡ hop)
    go behind true test is =
        let same : f ≡ e = cc in
        let both = and_parts (f.number == n) ((f.hop == hop) && not (is_note f.act)) test in
        let more = and_parts (f.hop == hop) (not (is_note f.act)) both.1 in
        (inl same, ap (λ (x : Entry). x.number) (sym same) ∙ eqb-true f.number n both.0, ap (λ (x : Entry). x.hop) (sym same) ∙ eqb-true f.hop hop more.0)
    go behind false test is = let h = behind is in (inr h.0, h.1, h.2)

-- an entry that was told some bytes is there
pub entry-told : (o : Option Entry) (bytes : Option Bytes) → Some bytes ≡ bytes_in o → (e : Entry) × (o ≡ Some e) × (bytes_of e.told ≡ Some bytes)
entry-told None bytes is = absurd (false≢true (sym (ap is_some is)))
entry-told (Some e) bytes is = (e, refl, sym is)

some-told : (told : Told) (a b : Option Bytes) → Some a ≡ Some b → a ≡ b
some-told told a b is = cc

-- who was told no bytes found no memory
pub none-told : (told : Told) → bytes_of told ≡ Some None → told ≡ acts.NoMemory
none-told (acts.Ran reply) is = absurd (false≢true (sym (ap is_some (some-told acts.NoMemory (Some _) None is))))
none-told (acts.Values values) is = absurd (false≢true (ap is_some is))
none-told acts.Staged is = absurd (false≢true (ap is_some is))
none-told acts.Applied is = absurd (false≢true (ap is_some is))
none-told (acts.Names names) is = absurd (false≢true (ap is_some is))
none-told (acts.Number n) is = absurd (false≢true (ap is_some is))
none-told (acts.Cut pairs) is = absurd (false≢true (ap is_some is))
none-told acts.NoMemory is = refl
none-told (acts.Refused limit) is = absurd (false≢true (ap is_some is))
none-told (acts.Handed bytes) is = absurd (false≢true (ap is_some is))
none-told (acts.Replied reply) is = absurd (false≢true (ap is_some is))

is-passed : (act : Act) → is_passed act ≡ true → act ≡ acts.Passed
is-passed (acts.Run command) is = absurd (false≢true is)
is-passed (acts.Read keys) is = absurd (false≢true is)
is-passed (acts.Stage changes) is = absurd (false≢true is)
is-passed acts.Apply is = absurd (false≢true is)
is-passed acts.Unstage is = absurd (false≢true is)
is-passed acts.Begin is = absurd (false≢true is)
is-passed acts.Walk is = absurd (false≢true is)
is-passed acts.Count is = absurd (false≢true is)
is-passed acts.Clear is = absurd (false≢true is)
is-passed acts.Passed is = refl
is-passed acts.Pull is = absurd (false≢true is)
is-passed acts.Saved is = absurd (false≢true is)

-- a note that the number was passed stands there
pub note-there : (n : ℕ) (log : List Entry) → was_passed n log ≡ true → (e : Entry) × Has log e × (e.number ≡ n) × (e.act ≡ acts.Passed)
note-there n [] is = absurd (false≢true is)
note-there n (f ∷ log) is = go (note-there n log) ((f.number == n) && is_passed f.act) refl is
  where
    go : (was_passed n log ≡ true → (e : Entry) × Has log e × (e.number ≡ n) × (e.act ≡ acts.Passed)) → (b : Bool) → ((f.number == n) && is_passed f.act) ≡ b → (b || was_passed n log) ≡ true →
        (e : Entry) × Has (f ∷ log) e × (e.number ≡ n) × (e.act ≡ acts.Passed)
    go behind true test is =
        let both = and_parts (f.number == n) (is_passed f.act) test in (f, inl refl, eqb-true f.number n both.0, is-passed f.act both.1)
    go behind false test is = let h = behind is in (h.0, inr h.1, h.2, h.3)

-- what others told of an own number is its own draw
pub known-is : (own known : List Draw) (n : ℕ) → OwnAgreed own known → 0 < draws_of n own → 0 < draws_of n known → call_at known n ≡ call_at own n
known-is own [] n agreed mine h = absurd (omega (arith, h))
known-is own (d ∷ known) n agreed mine h = dite (ℕ_discrete d.number n)
    (λ (is : d.number ≡ n).
    ap (λ b. cond b d.call (call_at known n)) (eq-eqb d.number n is) ∙ sym (agreed.0 (subst (λ m. 0 < draws_of m own) (sym is) mine)) ∙ ap (call_at own) is)
    (λ (ne : d.number ≢ n).
    ap (λ b. cond b d.call (call_at known n)) (ne_eqb d.number n ne) ∙ known-is own known n agreed.1 mine (omega (arith, h, hit-else n d.number ne)))

pub each-back : {A : Type 0} (P : A → Type 0) (l m : List A) → Each P (l ++ m) → Each P m
each-back P [] m e = e
each-back P (x ∷ l) m e = each-back P l m e.1

-- an answer that fits a Quick is of its number and of hop 0
pub fits-hop : (n s : ℕ) (answer : Answer) → fits (awaited_for n) s answer ≡ true → (answer.number ≡ n) × (answer.hop ≡ 0)
fits-hop n s answer fit =
    let a = and_parts (answer.shard == s) ((answer.number == n) && ((answer.hop == 0) && is_of kinds.Quick answer.body)) fit in
    let b = and_parts (answer.number == n) ((answer.hop == 0) && is_of kinds.Quick answer.body) a.1 in
    let d = and_parts (answer.hop == 0) (is_of kinds.Quick answer.body) b.1 in
    (eqb-true answer.number n b.0, eqb-true answer.hop 0 d.0)
