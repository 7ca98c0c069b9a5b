-- A round from its first message to its last answer.
use Rattle.std.proofs.Common.{◌≡◌, ℕ, zero, suc, ◌+◌, ◌<◌, ◌≤◌, Bool, true, false, cond, not, is_some, List, [], ◌∷◌, ◌++◌, inl, inr, refl, sym, ap, ◌∙◌, subst, arith, append-nil, append_assoc}
use Rattle.std.specs.Prelude.{Option, Some, None, if◌then◌else◌}
use Rattle.std.proofs.lemmas.Bool.{lt-ltb}
use Rattle.std.proofs.lemmas.Bool.Decides.{eqb_tells}
use Rattle.df_model.specs.declared.command.Command.{Command}
use Rattle.df_order.specs.Lists.{Has}
use Rattle.df_order.specs.Puts.{put}
use Rattle.df_order.proofs.Lists.{only_has}
use Rattle.df_order.proofs.Puts.{put_case, put_same, put_other}
use Rattle.df_order.proofs.Commute.{own_has}
use Rattle.df_log.specs.Acts.{Act, Told}
use Rattle.df_log.specs.Entries.{is_note, acts_of}
use Rattle.df_log.specs.declared.entry.Entry.{Entry}
use Rattle.df_core.specs.Courses.{course_of}
use Rattle.df_core.specs.Steps.{steps_of}
use Rattle.df_core.specs.Due.{due}
use Rattle.df_core.specs.Calls.{calls}
use Rattle.df_core.proofs.DueLaws.{due_within, next_rises}
use Rattle.df_book.specs.Weights.{below, count, hit}
use Rattle.df_book.specs.Logs.{at_log, Within, BothSeen, uses}
use Rattle.df_book.specs.Draws.{Bounded, last_number}
use Rattle.df_book.specs.Passes.{Caller, Receipt, after_receipt}
use Rattle.df_book.proofs.Logs.{within-refl, within-trans}
use Rattle.df_book.proofs.Sums.{hit-same, total-append, Each-append}
use Rattle.df_end.specs.Logs.{logs_in, entries_in}
use Rattle.df_end.specs.Rounds.{RoundOf, Round, asked}
use Rattle.df_end.proofs.RoundLaws.{tickets_keep_the_bound}
use Rattle.df_end.proofs.FlushLaws.{has-prefix}
use Rattle.df_rounds.specs.Standing.{Standing, Fresh, Once, Twice, Thrice, first_asked, second_asked, third_asked, MayBeTold}
use Rattle.df_rounds.specs.Progress.{Answers, asks_in, asks_next, hop_next}
use Rattle.df_rounds.specs.Underway.{IsBack, sent_at, Underway, RoundsBegin, RoundsSend, RoundsTake, RoundsSee, AnswersAreNew, RoundsEnd}
use Rattle.df_rounds.proofs.ToldLaws.{on-out}
use Rattle.df_rounds.proofs.ProgressLaws.{acts-use, next_is_due, seen_goes_on}

-- ---- sums

below-zero : (c : ℕ) → below (λ t. 0) c ≡ 0
below-zero zero = refl
below-zero (suc c) = omega (arith, below-zero c)

pub below-like : (f g : ℕ → ℕ) (c : ℕ) → ((t : ℕ) → f t ≡ g t) → below f c ≡ below g c
below-like f g zero h = refl
below-like f g (suc c) h = λ j. below-like f g c h j + h c j

module _ (sent : ℕ → Bool) (s : ℕ) (not-yet : sent s ≡ false) where
  put-low : (c : ℕ) → c ≤ s → below (sent_at (put s true sent)) c ≡ below (sent_at sent) c
  put-low zero le = refl
  put-low (suc c) le = λ j. put-low c (omega (arith, le)) j + cond (put_other s c true sent (λ e. omega (arith, e, le)) j) 1 0

  put-more : (c : ℕ) → s < c → below (sent_at (put s true sent)) c ≡ suc (below (sent_at sent) c)
  put-more zero lt = absurd (omega (arith, lt))
  put-more (suc c) lt = elim (eqb_tells c s) [
    | inl e ↦ omega (
      arith,
      put-low c (omega (arith, e.1)),
      ap {B = ℕ} (λ b. cond b 1 0) (put_same s c true sent e.1),
      ap {B = ℕ} (λ b. cond b 1 0) (ap sent e.1 ∙ not-yet),
    )
    | inr n ↦ omega (arith, put-more c (omega (arith, lt, n.1)), ap {B = ℕ} (λ b. cond b 1 0) (put_other s c true sent n.1))
  ]

back-stays : (n s : ℕ) (seen more : List (List Entry)) (o : Option Entry) → Within seen more → IsBack n s seen o → IsBack n s more o
back-stays n s seen more None within is = tt
back-stays n s seen more (Some e) within is = (is.0, has-prefix (at_log seen s) (at_log more s) e (within s) is.1)

-- ---- a round under way

pub rounds_begin : RoundsBegin
rounds_begin shards n v drawn last bounded = record {
  sessions = refl;
  own = refl;
  drawn = drawn;
  last = last;
  within = within-refl v.seen;
  bounded = bounded;
  made = [];
  made_is = sym (append-nil v.made);
  made_own = tt;
  count_is = omega (arith, below-zero shards);
  came = λ s. tt;
}

pub rounds_send : RoundsSend
rounds_send shards n v u sent back s lt not-yet r = record {
  sessions = r.sessions;
  own = r.own;
  drawn = r.drawn;
  last = r.last;
  within = r.within;
  bounded = tickets_keep_the_bound u r.bounded;
  made = r.made ++ last_number u.own ∷ [];
  made_is = ap (λ l. l ++ last_number u.own ∷ []) r.made_is ∙ append_assoc v.made r.made (last_number u.own ∷ []);
  made_own = Each-append (λ (m : ℕ). m ≡ n) r.made (last_number u.own ∷ []) r.made_own (r.last, tt);
  count_is = omega (
    arith,
    total-append (hit n) u.made (last_number u.own ∷ []),
    ap (hit n) r.last ∙ hit-same n,
    r.count_is,
    put-more sent s not-yet shards lt,
  );
  came = r.came;
}

-- a receipt comes, behind which these entries are back
received : (shards n : ℕ) (v u : Caller) (sent : ℕ → Bool) (back now : ℕ → Option Entry) (r : Receipt) (seen : List (List Entry)) →
    BothSeen u.seen r.seen seen → Bounded u.own u.made seen → Underway shards n v u sent back → ((s : ℕ) → IsBack n s seen (now s)) →
    Underway shards n v (after_receipt u r seen) sent now
received shards n v u sent back now r seen both bounded under came = record {
  sessions = under.sessions;
  own = under.own;
  drawn = under.drawn;
  last = under.last;
  within = within-trans v.seen u.seen seen under.within both.first;
  bounded = bounded;
  made = under.made;
  made_is = under.made_is;
  made_own = under.made_own;
  count_is = under.count_is;
  came = came;
}

pub rounds_take : RoundsTake
rounds_take shards n v u sent back r seen e both shown has is bounded under =
    received shards n v u sent back (put r.shard (Some e) back) r seen both bounded under (λ s. put_case (IsBack n s seen) r.shard s (Some e) back
    (λ (here : s ≡ r.shard). (
      is,
      subst (λ t. Has (at_log seen t) e) (sym here)
          (has-prefix (at_log r.seen r.shard) (at_log seen r.shard) e (both.second r.shard) (subst (λ l. Has l e) (sym shown) has)),
    ))
    (λ _. back-stays n s u.seen seen (back s) both.first (under.came s)))

pub rounds_see : RoundsSee
rounds_see shards n v u sent back r seen both bounded under =
    received shards n v u sent back back r seen both bounded under (λ s. back-stays n s u.seen seen (back s) both.first (under.came s))

-- ---- the end of a round

pub answers_are_new : AnswersAreNew
answers_are_new shards n v es call progress s act told e pos hopped st asked may number step has =
    (let low = next_rises shards call es s e e is-next (subst (λ l. Has l e) (hopped.entries s) there) in omega (arith, low))
  where
    is-due : due shards call (λ t. steps_of (es t)) s (hop_next shards progress) ≡ Some act
    is-due = next_is_due shards call progress (λ t. steps_of (es t)) s act pos st asked

    is-next : due shards call (λ t. steps_of (es t)) s e.hop ≡ Some e.act
    is-next = ap (due shards call (λ t. steps_of (es t)) s) (ap (λ x. x.hop) step) ∙ is-due ∙ ap Some (sym (ap (λ x. x.act) step))

    among : Has (acts_of (at_log v.seen s)) e
    among =
        only_has (λ (x : Entry). not (is_note x.act)) (at_log v.seen s) e has
        (ap not (ap is_note (ap (λ x. x.act) step) ∙ (acts-use shards s may.0 act told may.1).0))

    there : Has (entries_in shards v.seen n s) e
    there =
        own_has (calls shards) n (logs_in shards v.seen s) e
        (subst (λ b. Has (if b then acts_of (at_log v.seen s) else []) e)
        (sym (lt-ltb s shards (due_within shards call (λ t. steps_of (es t)) s (hop_next shards progress) act is-due))) among)
        number

-- nothing is asked of a shard that there isn't
pub asks-beyond : (shards : ℕ) (left : List Command) (standing : Standing) (s : ℕ) → shards ≤ s → asks_in shards left standing s ≡ None
asks-beyond shards [] standing s le = refl
asks-beyond shards (command ∷ commands) Fresh s le = on-out shards (first_asked shards command (course_of shards command)) s le
asks-beyond shards (command ∷ commands) (Once a) s le = on-out shards (second_asked shards command (course_of shards command) a) s le
asks-beyond shards (command ∷ commands) (Twice a b) s le = on-out shards (third_asked shards command (course_of shards command) a b) s le
asks-beyond shards (command ∷ commands) (Thrice a b c) s le = refl

answered : (hop : ℕ) (asked : Option Act) (told : Told) (entry : Option Entry) → Answers hop asked told entry → is_some asked ≡ is_some entry
answered hop None told entry a = sym (ap is_some a)
answered hop (Some act) told entry a = sym (ap is_some a.1)

pub rounds_end : RoundsEnd
rounds_end shards n v u sent back es call progress told pos hopped st under went may all-sent answers =
    seen_goes_on shards n v u es back call progress told hopped round st went may answers
  where
    one : (s : ℕ) (o : Option Act) → asks_next shards progress s ≡ o → MayBeTold shards s o (told s) →
        Answers (hop_next shards progress) o (told s) (back s) → RoundOf n s v.seen u.seen (back s)
    one s None is m a = subst (RoundOf n s v.seen u.seen) (sym a) tt
    one s (Some act) is m a =
        let b = subst (IsBack n s u.seen) a.1 (under.came s) in
        subst (RoundOf n s v.seen u.seen) (sym a.1) record {
          number = b.0;
          uses_one = ap uses (ap (λ x. x.act) a.2) ∙ (acts-use shards s m.0 act (told s) m.1).1;
          seen = b.1;
          is_new = answers_are_new shards n v es call progress s act (told s) a.0 pos hopped st is m b.0 a.2;
        }

    round : Round shards n v u back
    round = record {
      within = under.within;
      bounded = under.bounded;
      drawn = under.drawn;
      made = (
          under.count_is
          ∙ ap (λ k. count n v.made + k) (below-like (sent_at sent) (asked back) shards
          (λ s. ap (λ b. cond b 1 0) (all-sent s ∙ answered (hop_next shards progress) (asks_next shards progress s) (told s) (back s) (answers s)))));
      beyond = λ s le. (
          let none = asks-beyond shards progress.left progress.standing s le in
          subst (λ o. Answers (hop_next shards progress) o (told s) (back s)) none (answers s));
      answers = λ s. one s (asks_next shards progress s) refl (may s) (answers s);
    }
