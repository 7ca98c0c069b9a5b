-- A call from its draw to what it leaves.
use Rattle.std.proofs.Common.{◌≡◌, ◌≢◌, ℕ, suc, ◌+◌, ◌<◌, ◌≤◌, cond, not, is_some, List, [], ◌∷◌, ◌++◌, inl, inr, refl, sym, ap, ◌∙◌, subst, arith, append-nil, append_assoc}
use Rattle.std.specs.Prelude.{Option, Some, None}
use Rattle.std.proofs.lemmas.Bool.{false≢true, eq-eqb, ne_eqb}
use Rattle.df_order.specs.Lists.{Has}
use Rattle.df_log.specs.Entries.{is_note}
use Rattle.df_log.specs.declared.entry.Entry.{Entry}
use Rattle.df_core.specs.Steps.{steps_of}
use Rattle.df_core.specs.Due.{due}
use Rattle.df_book.specs.Weights.{Each, count, hit, head_or}
use Rattle.df_book.specs.Logs.{at_log, IsPrefix, Within, floor_of, greatest, uses, uses_in, uses_of, use_of}
use Rattle.df_book.specs.Draws.{draws_of, call_at, last_number}
use Rattle.df_book.proofs.Running.{last-snoc}
use Rattle.df_book.specs.Views.{longer_each}
use Rattle.df_book.specs.Passes.{Caller, draw_by, after_draw, running_of}
use Rattle.df_book.specs.declared.draw.Draw.{Draw}
use Rattle.df_book.proofs.Logs.{prefix-total, at-longer, within-left, within-right, within-refl, within-trans}
use Rattle.df_book.proofs.Sums.{below-mono, hit-same, total-append, Each-append, Each-map}
use Rattle.df_end.specs.Logs.{entries_in}
use Rattle.df_end.specs.Calls.{Row, draws_in, CallLeft, Follows}
use Rattle.df_end.specs.Rounds.{Hopped, RoundOf, Round, asked, acts_in}
use Rattle.df_end.proofs.EntryLaws.{each-has, entries-same, calls_stay}
use Rattle.df_end.proofs.RowLaws.{has-draws, draws-append, row-of}
use Rattle.df_end.proofs.RoundLaws.{calls_begin, draws_keep_the_bound, calls_end, rounds_are_seen, floor-covers, chain-append, each-where, none-hit}
use Rattle.df_end.proofs.AskedLaws.{answers_are_due}
use Rattle.df_rounds.specs.Progress.{hop_next}
use Rattle.df_rounds.specs.Underway.{IsBack, sent_at}
use Rattle.df_rounds.specs.Between.{TicketAsks, TicketsAsk, AnswersAgree, CallsAreDrawn, CallsAsk, CallsGoRound, CallsSee, CallsMove, CallsLeave, CallsPass, CallsDrawAgain}
use Rattle.df_rounds.proofs.ProgressLaws.{calls_start, next_is_due, ends_leave}
use Rattle.df_rounds.proofs.UnderwayLaws.{below-like, rounds_begin, rounds_end}

pub calls_are_drawn : CallsAreDrawn
calls_are_drawn shards before call n above low none pos bounded =
    let b = calls_begin shards before call n low none pos in record {
      es = λ s. [];
      hopped = b.0;
      stands = calls_start shards call (λ s. []) (λ s. refl);
      sessions = refl;
      own = refl;
      made = [];
      made_is = sym (append-nil before.made);
      made_own = tt;
      within = within-refl before.seen;
      bounded = draws_keep_the_bound before call n bounded low;
      floor = b.1;
      above = above;
    }

pub calls_ask : CallsAsk
calls_ask shards before call n progress u b =
    rounds_begin shards n u
    (omega (
      arith,
      ap (draws_of n) b.own,
      total-append (λ (d : Draw). hit n d.number) before.own (draw_by before call n ∷ []),
      hit-same n,
    ))
    (ap last_number b.own ∙ last-snoc before.own (draw_by before call n))
    b.bounded

-- the last draw's call
call-last : (draws : List Draw) (d : Draw) → Each (λ (x : Draw). x.number < d.number) draws → call_at (draws ++ d ∷ []) d.number ≡ d.call
call-last [] d low = ap (λ b. cond b d.call (call_at [] d.number)) (eq-eqb d.number d.number refl)
call-last (x ∷ draws) d low =
    ap (λ b. cond b x.call (call_at (draws ++ d ∷ []) d.number)) (ne_eqb x.number d.number (λ i. omega (arith, i, low.0)))
    ∙ call-last draws d low.1

pub tickets_ask : TicketsAsk
tickets_ask shards before call n progress v u s act pos b own seen asked = record {
  last = ap last_number is-own ∙ last-snoc before.own (draw_by before call n);
  drawn = omega (arith, ap (draws_of n) own, (calls_ask shards before call n progress v b).drawn);
  runs = ap (λ m. m ∷ []) (ap last_number is-own ∙ last-snoc before.own (draw_by before call n));
  call_is = ap (λ draws. call_at draws n) is-own ∙ call-last before.own (draw_by before call n) b.above;
  is_due = subst (λ steps. due shards call steps s (hop_next shards progress) ≡ Some act) (λ q i. steps_of (sym (entries-are i) q))
      (next_is_due shards call progress (λ i. steps_of (b.es i)) s act pos b.stands asked);
}
  where
    is-own : u.own ≡ before.own ++ draw_by before call n ∷ []
    is-own = own ∙ b.own

    entries-are : (i : ℕ) → entries_in shards u.seen n i ≡ b.es i
    entries-are i = ap (λ logs. entries_in shards logs n i) seen ∙ b.hopped.entries i

-- The shard had not seen more than the caller has by now, and whatever both saw leaves one act that is due.
pub answers_agree : AnswersAgree
answers_agree shards before call n progress v u r asked act pos b asks part within shown agreed =
    answers_are_due shards v (record v { seen = longer_each v.seen r.seen }) r n (hop_next shards progress) asked act part
    (record {
      first = within-left v.seen r.seen;
      second = within-right v.seen r.seen u.seen within shown;
      longer = λ s. at-longer v.seen r.seen s;
    })
    t.drawn agreed
    (ap (λ c. due shards c (λ i. steps_of (entries_in shards v.seen n i)) r.shard (hop_next shards progress)) t.call_is ∙ t.is_due)
  where
    t : TicketAsks shards call n r.shard (hop_next shards progress) asked (running_of v)
    t = tickets_ask shards before call n progress v v r.shard asked pos b refl refl asks

pub calls_go_round : CallsGoRound
calls_go_round shards before call n progress v u sent back told pos b under went may all-sent answers =
    let r = rounds_end shards n v u sent back b.es call progress told pos b.hopped b.stands under went may all-sent answers in record {
      es = r.0;
      hopped = r.1;
      stands = r.2;
      sessions = under.sessions ∙ b.sessions;
      own = under.own ∙ b.own;
      made = b.made ++ under.made;
      made_is = under.made_is ∙ ap (λ l. l ++ under.made) b.made_is ∙ append_assoc before.made b.made under.made;
      made_own = Each-append (λ (m : ℕ). m ≡ n) b.made under.made b.made_own under.made_own;
      within = within-trans before.seen v.seen u.seen b.within under.within;
      bounded = under.bounded;
      floor = b.floor;
      above = b.above;
    }

pub calls_see : CallsSee
calls_see shards before call n progress u r seen b both bounded = record {
  es = b.es;
  hopped = record {
    used = omega (arith, b.hopped.used, most, least);
    entries = λ s. sym (ap (λ f. f s) (entries-same shards n u.seen seen both.first (omega (arith, most, b.hopped.used)))) ∙ b.hopped.entries s;
  };
  stands = b.stands;
  sessions = b.sessions;
  own = b.own;
  made = b.made;
  made_is = b.made_is;
  made_own = b.made_own;
  within = within-trans before.seen u.seen seen b.within both.first;
  bounded = bounded;
  floor = b.floor;
  above = b.above;
}
  where
    most : uses_in n seen (shards + 1) ≤ count n u.made
    most = bounded n (shards + 1) (calls_ask shards before call n progress u b).drawn

    least : uses_in n u.seen (shards + 1) ≤ uses_in n seen (shards + 1)
    least =
        below-mono (λ s. uses_of n (at_log u.seen s)) (λ s. uses_of n (at_log seen s))
        (λ s. prefix-total (use_of n) (at_log u.seen s) (at_log seen s) (both.first s)) (shards + 1)

pub calls_move : CallsMove
calls_move shards before call n progress now u b moves = record {
  es = b.es;
  hopped = b.hopped;
  stands = moves _ b.stands;
  sessions = b.sessions;
  own = b.own;
  made = b.made;
  made_is = b.made_is;
  made_own = b.made_own;
  within = b.within;
  bounded = b.bounded;
  floor = b.floor;
  above = b.above;
}

pub calls_leave : CallsLeave
calls_leave shards before call n progress u b none = record {
  place = b.sessions;
  own = b.own;
  made = b.made;
  made_is = b.made_is;
  made_own = Each-map (λ (m : ℕ). m ≡ n) (λ (m : ℕ). 0 < draws_of m (draw_by before call n ∷ []))
      (λ m e. omega (arith, hit-same n, ap (λ k. hit k n) e)) b.made b.made_own;
  within = b.within;
  bounded = b.bounded;
  calls = (refl, tt);
  session = (refl, tt);
  floor = ((omega arith, b.floor), tt);
  above = (b.above, tt);
  follow = ((λ q h. absurd h), tt);
  left = (ends_leave shards u (draw_by before call n) b.es progress b.hopped b.stands none, tt);
}

-- ---- a call that never ran

pub calls_pass : CallsPass
calls_pass shards before call n u sent back above low none pos under all-sent beyond passed names = record {
  place = under.sessions;
  own = under.own;
  made = under.made;
  made_is = under.made_is;
  made_own = Each-map (λ (m : ℕ). m ≡ n) (λ (m : ℕ). 0 < draws_of m (draw_by before call n ∷ []))
      (λ m e. omega (arith, hit-same n, ap (λ k. hit k n) e)) under.made under.made_own;
  within = under.within;
  bounded = under.bounded;
  calls = (refl, tt);
  session = (refl, tt);
  floor = ((omega arith, begun.1), tt);
  above = (above, tt);
  follow = ((λ q h. absurd h), tt);
  left = ((calls_end shards u (draw_by before call n) (λ s. acts_in (back s)) hopped).1 names (λ s. no-entry s (back s) refl), tt);
}
  where
    v : Caller
    v = after_draw before call n

    begun : Hopped shards (after_draw before call n) n (λ s. []) × ((draw_by before call n).floor < n)
    begun = calls_begin shards before call n low none pos

    one : (s : ℕ) (o : Option Entry) → back s ≡ o → IsBack n s u.seen o → RoundOf n s before.seen u.seen o
    one s None is b = tt
    one s (Some e) is b = record {
      number = b.0;
      uses_one = ap uses (passed s e is);
      seen = b.1;
      is_new = λ h. (let lt = each-has (λ (x : Entry). x.number < n) (at_log before.seen s) e (low s) h in omega (arith, lt, b.0));
    }

    round : Round shards n (after_draw before call n) u back
    round = record {
      within = under.within;
      bounded = under.bounded;
      drawn = under.drawn;
      made = under.count_is
          ∙ ap (λ k. count n before.made + k) (below-like (sent_at sent) (asked back) shards (λ s. ap (λ b. cond b 1 0) (all-sent s)));
      beyond = beyond;
      answers = λ s. one s (back s) refl (under.came s);
    }

    hopped : Hopped shards u n (λ s. acts_in (back s))
    hopped = rounds_are_seen shards n (after_draw before call n) u (λ s. []) back begun.0 round

    no-entry : (s : ℕ) (o : Option Entry) → back s ≡ o → acts_in o ≡ []
    no-entry s None is = refl
    no-entry s (Some e) is = ap (λ b. cond (not b) (e ∷ []) []) (ap is_note (passed s e is))

-- ---- and is drawn again

greatest-more : (xs ys : List Entry) → IsPrefix xs ys → greatest xs ≤ greatest ys
greatest-more [] ys p = omega arith
greatest-more (x ∷ xs) [] p = absurd p
greatest-more (x ∷ xs) (y ∷ ys) p =
    omega (arith, greatest-more xs ys p.1, ap (λ (e : Entry). cond (is_note e.act) 0 e.number) p.0)

floor-least : (seen : List (List Entry)) (m : ℕ) → ((s : ℕ) → greatest (at_log seen s) ≤ m) → floor_of seen ≤ m
floor-least [] m h = omega arith
floor-least (x ∷ seen) m h = omega (arith, h 0, floor-least seen m (λ s. h (suc s)))

floor-more : (a b : List (List Entry)) → Within a b → floor_of a ≤ floor_of b
floor-more a b within =
    floor-least a (floor_of b) (λ s. omega (arith, greatest-more (at_log a s) (at_log b s) (within s), floor-covers b s))

each-front : {X : Type 0} (P : X → Type 0) (a b : List X) → Each P (a ++ b) → Each P a
each-front P [] b e = tt
each-front P (x ∷ a) b e = (e.0, each-front P a b e.1)

each-back : {X : Type 0} (P : X → Type 0) (a b : List X) → Each P (a ++ b) → Each P b
each-back P [] b e = e
each-back P (x ∷ a) b e = each-back P a b e.1

draw-low : (m : ℕ) (rows : List Row) → Each (λ (d : Draw). d.number < m) (draws_in rows) → (r : Row) → Has rows r → r.draw.number < m
draw-low m [] e r h = absurd h
draw-low m (x ∷ rows) e r (inl i) = subst (λ (y : Row). y.draw.number < m) i e.0
draw-low m (x ∷ rows) e r (inr h) = draw-low m rows e.1 r h

pub calls_draw_again : CallsDrawAgain
calls_draw_again shards v u w call more again a none b = record {
  place = b.place ∙ a.place;
  own = b.own ∙ ap (λ l. l ++ draws_in again) a.own ∙ append_assoc v.own (draws_in more) (draws_in again)
      ∙ ap (λ l. v.own ++ l) (sym (draws-append more again));
  made = a.made ++ b.made;
  made_is = b.made_is ∙ ap (λ l. l ++ b.made) a.made_is ∙ append_assoc v.made a.made b.made;
  made_own = Each-append (λ (n : ℕ). 0 < draws_of n (draws_in (more ++ again))) a.made b.made
      (Each-map (λ (n : ℕ). 0 < draws_of n (draws_in more)) (λ (n : ℕ). 0 < draws_of n (draws_in (more ++ again)))
      (λ n h. omega (arith, h, sums n)) a.made a.made_own)
      (Each-map (λ (n : ℕ). 0 < draws_of n (draws_in again)) (λ (n : ℕ). 0 < draws_of n (draws_in (more ++ again)))
      (λ n h. omega (arith, h, sums n)) b.made b.made_own);
  within = within-trans v.seen u.seen w.seen a.within b.within;
  bounded = b.bounded;
  calls = Each-append (λ (r : Row). r.draw.call ≡ call) more again a.calls b.calls;
  session = Each-append (λ (r : Row). r.draw.session ≡ head_or 0 v.sessions) more again a.session
      (Each-map (λ (r : Row). r.draw.session ≡ head_or 0 u.sessions) (λ (r : Row). r.draw.session ≡ head_or 0 v.sessions)
      (λ r h. h ∙ ap (head_or 0) a.place) again b.session);
  floor = Each-append (λ (r : Row). (floor_of v.seen ≤ r.draw.floor) × (r.draw.floor < r.draw.number)) more again a.floor
      (Each-map (λ (r : Row). (floor_of u.seen ≤ r.draw.floor) × (r.draw.floor < r.draw.number))
      (λ (r : Row). (floor_of v.seen ≤ r.draw.floor) × (r.draw.floor < r.draw.number))
      (λ r h. (omega (arith, h.0, floor-more v.seen u.seen a.within), h.1)) again b.floor);
  above = Each-append (λ (r : Row). Each (λ (d : Draw). d.number < r.draw.number) v.own) more again a.above
      (Each-map (λ (r : Row). Each (λ (d : Draw). d.number < r.draw.number) u.own) (λ (r : Row). Each (λ (d : Draw). d.number < r.draw.number) v.own)
      (λ r h. each-front (λ (d : Draw). d.number < r.draw.number) v.own (draws_in more) (both r h)) again b.above);
  follow = chain-append (Follows shards) more again a.follow b.follow
      (λ x y hx hy. record {
        above = lower x y hx hy;
        seen = λ h. absurd (false≢true (sym (ap is_some (each-has (λ (r : Row). r.reply ≡ None) more x none hx)) ∙ h));
      });
  left = Each-append (CallLeft shards w) more again
      (each-where (CallLeft shards u) (CallLeft shards w) more (λ r h l.
      calls_stay shards u w r l b.within b.bounded
      (omega (
        arith,
        has-draws more r h,
        ap (draws_of r.draw.number) b.own,
        total-append (λ (d : Draw). hit r.draw.number d.number) u.own (draws_in again),
        ap (draws_of r.draw.number) a.own,
        total-append (λ (d : Draw). hit r.draw.number d.number) v.own (draws_in more),
      ))
      (omega (
        arith,
        ap (count r.draw.number) b.made_is,
        total-append (hit r.draw.number) u.made b.made,
        none-hit r.draw.number b.made
            (each-where (λ (m : ℕ). 0 < draws_of m (draws_in again)) (λ (m : ℕ). m ≢ r.draw.number) b.made
            (λ m _ d i. let q = row-of again m d in omega (arith, i, q.2, lower r q.0 h q.1)) b.made_own),
      ))) a.left)
      b.left;
}
  where
    sums : (n : ℕ) → draws_of n (draws_in (more ++ again)) ≡ draws_of n (draws_in more) + draws_of n (draws_in again)
    sums n = ap (draws_of n) (draws-append more again) ∙ total-append (λ (d : Draw). hit n d.number) (draws_in more) (draws_in again)

    both : (r : Row) → Each (λ (d : Draw). d.number < r.draw.number) u.own → Each (λ (d : Draw). d.number < r.draw.number) (v.own ++ draws_in more)
    both r h = subst (Each (λ (d : Draw). d.number < r.draw.number)) a.own h

    lower : (x y : Row) → Has more x → Has again y → x.draw.number < y.draw.number
    lower x y hx hy =
        draw-low y.draw.number more
        (each-back (λ (d : Draw). d.number < y.draw.number) v.own (draws_in more)
        (both y (each-has (λ (r : Row). Each (λ (d : Draw). d.number < r.draw.number) u.own) again y b.above hy))) x hx
