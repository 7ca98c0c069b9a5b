-- What a caller has seen of a call after each round.
use Rattle.std.proofs.Common.{◌≡◌, ◌≢◌, ℕ, zero, suc, ◌+◌, ◌<◌, ◌≤◌, Bool, true, false, not, cond, eqb, ltb, max, List, [], ◌∷◌, ◌++◌, inl, inr, refl, sym, ap, ◌∙◌, subst, arith, append-nil, eq-eqb}
use Rattle.std.specs.Prelude.{if◌then◌else◌, Option, Some, None, is_some}
use Rattle.std.proofs.lemmas.Bool.{false≢true, ltb-true, lt-ltb, cases_lt}
use mathlib.Core.Logic.{dite}
use native.Mathlib.Decide.{ℕ_discrete}
use Rattle.df_model.specs.declared.reply.Reply.{Reply}
use Rattle.df_order.specs.Lists.{Has, Chain, cons_if}
use Rattle.df_order.specs.Model.{own}
use Rattle.df_order.specs.Histories as order
use Rattle.df_order.proofs.Lists.{only_append, has_cases}
use Rattle.df_order.proofs.Commute.{has_own}
use Rattle.df_order.proofs.LogsAlone.{none_all, names_none_at, has_some}
use Rattle.df_log.specs.Entries.{is_note, acts_of}
use Rattle.df_log.specs.declared.entry.Entry.{Entry}
use Rattle.df_core.specs.Calls.{calls}
use Rattle.df_core.specs.History.{NamesAShard}
use Rattle.df_core.proofs.CallsLaws.{calls_laws}
use Rattle.df_book.specs.Weights.{total, below, hit, count, Each, head_or}
use Rattle.df_book.specs.Logs.{at_log, AllBelow, uses, use_of, uses_of, uses_in, greatest, floor_of}
use Rattle.df_book.specs.Passes.{Caller, draw_by}
use Rattle.df_book.specs.Draws.{draws_of, last_number}
use Rattle.df_book.specs.declared.draw.Draw.{Draw}
use Rattle.df_book.proofs.Sums.{Each-map, Each-append, Each-two, total-append, below-mono, hit-else}
use Rattle.df_book.proofs.Logs.{prefix-total}
use Rattle.df_book.proofs.Running.{below-unused}
use Rattle.df_end.specs.Logs.{logs_in, entries_in}
use Rattle.df_end.specs.Calls.{Row, draws_in, Came, CallLeft, Follows, item_of, with_item, items_of}
use Rattle.df_end.specs.Rounds.{Hopped, Answered, RoundOf, acts_in, asked, Round, CallsBegin, DrawsKeepTheBound, TicketsKeepTheBound, RoundsAreSeen, CallsEnd, SessionsGoOn, ItemsGoOn}
use Rattle.df_end.proofs.EntryLaws.{each-has, rest-of, own-none, terms-same, entries-same, calls_stay}
use Rattle.df_end.proofs.RowLaws.{has-draws, draws-append}

-- ---- one use in what stands behind

has-use : (n : ℕ) (r : List Entry) (e : Entry) → Has r e → e.number ≡ n → uses e.act ≡ 1 → 1 ≤ total (use_of n) r
has-use n [] e h i u = absurd h
has-use n (x ∷ r) e (inl j) i u =
    omega (arith, ap (use_of n) j, ap (λ b. cond b (uses e.act) 0) (eq-eqb e.number n i), u)
has-use n (x ∷ r) e (inr h) i u = omega (arith, has-use n r e h i u)

pub own-append : (shards n : ℕ) (a b : List Entry) → own (calls shards) n (acts_of (a ++ b)) ≡ own (calls shards) n (acts_of a) ++ own (calls shards) n (acts_of b)
own-append shards n a b =
    ap (own (calls shards) n) (only_append (λ (e : Entry). not (is_note e.act)) a b)
    ∙ only_append (λ (e : Entry). eqb e.number n) (acts_of a) (acts_of b)

own-single : (shards n : ℕ) (e : Entry) → e.number ≡ n → own (calls shards) n (acts_of (e ∷ [])) ≡ acts_of (e ∷ [])
own-single shards n e i = go (not (is_note e.act))
  where
    go : (b : Bool) → own (calls shards) n (cons_if b e []) ≡ cons_if b e []
    go true = ap (λ b. cons_if b e []) (eq-eqb e.number n i)
    go false = refl

one-use : (shards n : ℕ) (r : List Entry) (e : Entry) → Has r e → e.number ≡ n → uses e.act ≡ 1 → total (use_of n) r ≤ 1 →
    own (calls shards) n (acts_of r) ≡ acts_of (e ∷ [])
one-use shards n [] e h i u le = absurd h
one-use shards n (x ∷ r) e (inl j) i u le =
    own-append shards n (x ∷ []) r
    ∙ ap (λ l. own (calls shards) n (acts_of (x ∷ [])) ++ l) (own-none shards n r (omega (
      arith,
      le,
      ap (use_of n) j,
      ap (λ b. cond b (uses e.act) 0) (eq-eqb e.number n i),
      u,
    )))
    ∙ append-nil (own (calls shards) n (acts_of (x ∷ [])))
    ∙ ap (λ y. own (calls shards) n (acts_of (y ∷ []))) j
    ∙ own-single shards n e i
one-use shards n (x ∷ r) e (inr h) i u le =
    own-append shards n (x ∷ []) r
    ∙ ap (λ l. l ++ own (calls shards) n (acts_of r)) (own-none shards n (x ∷ []) (omega (arith, le, has-use n r e h i u)))
    ∙ one-use shards n r e h i u (omega (arith, le))

below-plus : (f g : ℕ → ℕ) (c : ℕ) → below (λ t. f t + g t) c ≡ below f c + below g c
below-plus f g zero = refl
below-plus f g (suc c) = omega (arith, below-plus f g c)

module _ (shards n : ℕ) (v u : Caller) (es : ℕ → List Entry) (round : ℕ → Option Entry) (was : Hopped shards v n es)
    (r : Round shards n v u round) where
  abbrev f : ℕ → ℕ
  f t = uses_of n (at_log v.seen t)

  abbrev g : ℕ → ℕ
  g t = uses_of n (at_log u.seen t)

  -- the answer stands behind what was seen before
  behind-has : (s : ℕ) (e : Entry) → Answered n s v.seen u.seen e → (rest : List Entry) → at_log u.seen s ≡ at_log v.seen s ++ rest → Has rest e
  behind-has s e a rest is = elim (has_cases (at_log v.seen s) rest e (subst (λ l. Has l e) is a.seen)) [
    | inl h ↦ absurd (a.is_new h)
    | inr h ↦ h
  ]

  more-by : (s : ℕ) (o : Option Entry) → RoundOf n s v.seen u.seen o → f s + cond (is_some o) 1 0 ≤ g s
  more-by s None a = omega (arith, prefix-total (use_of n) (at_log v.seen s) (at_log u.seen s) (r.within s))
  more-by s (Some e) a =
      let rest = rest-of (at_log v.seen s) (at_log u.seen s) (r.within s) in
      omega (
        arith,
        ap (total (use_of n)) rest.1,
        total-append (use_of n) (at_log v.seen s) rest.0,
        has-use n rest.0 e (behind-has s e a rest.0 rest.1) a.number a.uses_one,
      )

  at-least : (c : ℕ) → below (λ t. f t + asked round t) c ≤ below g c
  at-least c = below-mono (λ t. f t + asked round t) g (λ t. more-by t (round t) (r.answers t)) c

  sums : below (λ t. f t + asked round t) (shards + 1) ≡ below f (shards + 1) + below (asked round) (shards + 1)
  sums = below-plus f (asked round) (shards + 1)

  none-beyond : below (asked round) (shards + 1) ≡ below (asked round) shards
  none-beyond =
      let is : shards + 1 ≡ suc shards = omega arith in
      omega (arith, ap (below (asked round)) is, ap {B = ℕ} (λ o. cond (is_some o) 1 0) (r.beyond shards (omega arith)))

  at-most : below g (shards + 1) ≤ below (λ t. f t + asked round t) (shards + 1)
  at-most = omega (arith, r.bounded n (shards + 1) r.drawn, sums, was.used, r.made, none-beyond)

  used-now : uses_in n u.seen (shards + 1) ≡ count n u.made
  used-now = omega (arith, r.bounded n (shards + 1) r.drawn, at-least (shards + 1), sums, was.used, r.made, none-beyond)

  -- a shard's log has no more than was answered
  g-is : (s : ℕ) → s < shards → g s ≤ f s + asked round s
  g-is s lt = terms-same (λ t. f t + asked round t) g (shards + 1) (λ t. more-by t (round t) (r.answers t)) at-most s (omega (arith, lt))

  own-now : (s : ℕ) (o : Option Entry) → RoundOf n s v.seen u.seen o → g s ≤ f s + cond (is_some o) 1 0 →
      own (calls shards) n (acts_of (at_log u.seen s)) ≡ own (calls shards) n (acts_of (at_log v.seen s)) ++ acts_in o
  own-now s None a le =
      let rest = rest-of (at_log v.seen s) (at_log u.seen s) (r.within s) in
      ap (λ l. own (calls shards) n (acts_of l)) rest.1
      ∙ own-append shards n (at_log v.seen s) rest.0
      ∙ ap (λ l. own (calls shards) n (acts_of (at_log v.seen s)) ++ l)
      (own-none shards n rest.0 (omega (arith, le, ap (total (use_of n)) rest.1, total-append (use_of n) (at_log v.seen s) rest.0)))
  own-now s (Some e) a le =
      let rest = rest-of (at_log v.seen s) (at_log u.seen s) (r.within s) in
      ap (λ l. own (calls shards) n (acts_of l)) rest.1
      ∙ own-append shards n (at_log v.seen s) rest.0
      ∙ ap (λ l. own (calls shards) n (acts_of (at_log v.seen s)) ++ l)
      (one-use shards n rest.0 e (behind-has s e a rest.0 rest.1) a.number a.uses_one
      (omega (arith, le, ap (total (use_of n)) rest.1, total-append (use_of n) (at_log v.seen s) rest.0)))

  entries-now : (s : ℕ) (b : Bool) → ltb s shards ≡ b →
      own (calls shards) n (if b then acts_of (at_log v.seen s) else []) ≡ es s →
      own (calls shards) n (if b then acts_of (at_log u.seen s) else []) ≡ es s ++ acts_in (round s)
  entries-now s true i old = own-now s (round s) (r.answers s) (g-is s (ltb-true s shards i)) ∙ ap (λ l. l ++ acts_in (round s)) old
  entries-now s false i old =
      old ∙ sym (append-nil (es s)) ∙ ap (λ o. es s ++ acts_in o) (sym (r.beyond s (not-below s i)))
    where
      not-below : (s : ℕ) → ltb s shards ≡ false → shards ≤ s
      not-below s i = elim (cases_lt s shards) [ inl lt ↦ absurd (false≢true (sym i ∙ lt-ltb s shards lt)) | inr ge ↦ ge ]

pub rounds_are_seen : RoundsAreSeen
rounds_are_seen shards n v u es round was r = record {
  used = used-now shards n v u es round was r;
  entries = λ s. entries-now shards n v u es round was r s (ltb s shards) refl (was.entries s);
}

-- ---- the beginning and the end of a call

floor-below : (n : ℕ) (log : List Entry) → 0 < n → Each (λ (e : Entry). e.number < n) log → greatest log < n
floor-below n [] pos e = pos
floor-below n (x ∷ log) pos e = go (is_note x.act) (floor-below n log pos e.1)
  where
    go : (b : Bool) → greatest log < n → max (cond b 0 x.number) (greatest log) < n
    go true lt = omega (arith, lt)
    go false lt = omega (arith, lt, e.0)

floors-below : (n : ℕ) (seen : List (List Entry)) → 0 < n → AllBelow n seen → floor_of seen < n
floors-below n [] pos e = pos
floors-below n (x ∷ seen) pos e = omega (arith, floor-below n x pos (e 0), floors-below n seen pos (λ s. e (suc s)))

own-unused : (shards n : ℕ) (log : List Entry) → Each (λ (e : Entry). e.number < n) log → own (calls shards) n (acts_of log) ≡ []
own-unused shards n log e = own-none shards n log (below-unused n log e)

pub calls_begin : CallsBegin
calls_begin shards v call n below_n none pos = (
  record { used = omega (arith, unused (shards + 1), none); entries = λ s. go s (ltb s shards) },
  floors-below n v.seen pos below_n,
)
  where
    unused : (c : ℕ) → uses_in n v.seen c ≡ 0
    unused zero = refl
    unused (suc c) = omega (arith, unused c, below-unused n (at_log v.seen c) (below_n c))

    go : (s : ℕ) (b : Bool) → own (calls shards) n (if b then acts_of (at_log v.seen s) else []) ≡ []
    go s false = refl
    go s true = own-unused shards n (at_log v.seen s) (below_n s)

pub calls_end : CallsEnd
calls_end shards u d es h = (
  λ reply gives. record { used = h.used; came = subst (λ l. (calls shards).Gives d.call l reply) (λ j s. sym (h.entries s) j) gives },
  λ names none. record { used = h.used; came = (names, λ s. h.entries s ∙ none s) },
)

-- ---- a session goes on

greatest-covers : (log : List Entry) (e : Entry) → Has (acts_of log) e → e.number ≤ greatest log
greatest-covers [] e h = absurd h
greatest-covers (x ∷ log) e h = go (is_note x.act) (greatest-covers log e) h
  where
    go : (b : Bool) → (Has (acts_of log) e → e.number ≤ greatest log) → Has (cons_if (not b) x (acts_of log)) e → e.number ≤ max (cond b 0 x.number) (greatest log)
    go true f h = omega (arith, f h)
    go false f (inl i) = omega (arith, ap (λ (y : Entry). y.number) i)
    go false f (inr h) = omega (arith, f h)

pub floor-covers : (seen : List (List Entry)) (s : ℕ) → greatest (at_log seen s) ≤ floor_of seen
floor-covers [] s = omega arith
floor-covers (x ∷ seen) zero = omega arith
floor-covers (x ∷ seen) (suc s) = omega (arith, floor-covers seen s)

-- a call that ran and names a shard has an entry that its caller has seen
ran-seen : (shards : ℕ) → 0 < shards → (seen : List (List Entry)) (d : Draw) (reply : Option Reply) → Came shards seen d reply → is_some reply ≡ true →
    NamesAShard shards d.call → d.number ≤ floor_of seen
ran-seen shards some seen d None came h names = absurd (false≢true h)
ran-seen shards some seen d (Some reply) came h names = go (order.some_entry (calls shards) (logs_in shards seen) d.number shards) refl
  where
    nil-past : (s : ℕ) → shards ≤ s → logs_in shards seen s ≡ []
    nil-past s le = at (ltb s shards) refl
      where
        at : (b : Bool) → ltb s shards ≡ b → (if b then acts_of (at_log seen s) else []) ≡ []
        at false i = refl
        at true i = absurd (omega (arith, le, ltb-true s shards i))

    in-log : (s : ℕ) (e : Entry) (b : Bool) → Has (if b then acts_of (at_log seen s) else []) e → Has (acts_of (at_log seen s)) e
    in-log s e true k = k
    in-log s e false k = absurd k

    go : (b : Bool) → order.some_entry (calls shards) (logs_in shards seen) d.number shards ≡ b → d.number ≤ floor_of seen
    go true i =
        let w = has_some (calls shards) (logs_in shards seen) d.number shards i in
        let o = has_own (calls shards) d.number (logs_in shards seen w.0) w.1 w.2 in
        omega (arith, floor-covers seen w.0, greatest-covers (at_log seen w.0) w.1 (in-log w.0 w.1 (ltb w.0 shards) o.0), o.1)
    go false i =
        let none = (calls_laws shards some).whole_some d.call (order.entries (calls shards) (logs_in shards seen) d.number)
        (reply, came) (none_all (calls shards) (logs_in shards seen) nil-past d.number i) in
        absurd (names.1 (elim (cases_lt names.0 shards) [
          | inl lt ↦ names_none_at (calls shards) d.call shards none names.0 lt
          | inr ge ↦ (calls_laws shards some).within d.call names.0 ge
        ]))

pub chain-append : {X : Type 0} (R : X → X → Type 0) (a b : List X) → Chain R a → Chain R b → ((x y : X) → Has a x → Has b y → R x y) → Chain R (a ++ b)
chain-append R [] b c d f = d
chain-append R (x ∷ a) b c d f = (
  λ y h. elim (has_cases a b y h) [ inl k ↦ c.0 y k | inr k ↦ f x y (inl refl) k ],
  chain-append R a b c.1 d (λ p q hp hq. f p q (inr hp) hq),
)

pub each-where : {X : Type 0} (P Q : X → Type 0) (l : List X) → ((x : X) → Has l x → P x → Q x) → Each P l → Each Q l
each-where P Q [] f e = tt
each-where P Q (x ∷ l) f e = (f x (inl refl) e.0, each-where P Q l (λ y h p. f y (inr h) p) e.1)

-- a list with an element k times
pub none-hit : (n : ℕ) (l : List ℕ) → Each (λ (m : ℕ). m ≢ n) l → count n l ≡ 0
none-hit n [] e = refl
none-hit n (m ∷ l) e = omega (arith, hit-else n m e.0, none-hit n l e.1)

draws-here : (n : ℕ) (rows : List Row) → ((r : Row) → Has rows r → r.draw.number ≢ n) → draws_of n (draws_in rows) ≡ 0
draws-here n [] f = refl
draws-here n (r ∷ rows) f = omega (arith, hit-else n r.draw.number (f r (inl refl)), draws-here n rows (λ q h. f q (inr h)))

draws-low : (n : ℕ) (ds : List Draw) (most : ℕ) → Each (λ (d : Draw). d.number < most) ds → 0 < draws_of n ds → n < most
draws-low n [] most e h = absurd (omega (arith, h))
draws-low n (d ∷ ds) most e h = dite (ℕ_discrete d.number n)
    (λ (is : d.number ≡ n). omega (arith, is, e.0))
    (λ (ne : d.number ≢ n). draws-low n ds most e.1 (omega (arith, h, hit-else n d.number ne)))

pub sessions_go_on : SessionsGoOn
sessions_go_on shards id v u rows more call some h w = record {
  place = w.place ∙ h.place;
  own = w.own ∙ ap (λ l. l ++ draws_in more) h.own ∙ sym (draws-append rows more);
  mine = Each-append (λ (r : Row). (r.draw.session ≡ id) × (r.draw.floor < r.draw.number)) rows more h.mine
      (Each-two (λ (r : Row). r.draw.session ≡ head_or 0 v.sessions) (λ (r : Row). (floor_of v.seen ≤ r.draw.floor) × (r.draw.floor < r.draw.number))
      (λ (r : Row). (r.draw.session ≡ id) × (r.draw.floor < r.draw.number)) (λ r s f. (s ∙ ap (head_or 0) h.place, f.1)) more w.session w.floor);
  made = subst (Each (λ (n : ℕ). 0 < draws_of n u.own)) (sym w.made_is)
      (Each-append (λ (n : ℕ). 0 < draws_of n u.own) v.made w.made
      (Each-map (λ (n : ℕ). 0 < draws_of n v.own) (λ (n : ℕ). 0 < draws_of n u.own) (λ n k. omega (arith, k, two n)) v.made h.made)
      (Each-map (λ (n : ℕ). 0 < draws_of n (draws_in more)) (λ (n : ℕ). 0 < draws_of n u.own) (λ n k. omega (arith, k, two n)) w.made w.made_own));
  left = Each-append (CallLeft shards u) rows more
      (each-where (CallLeft shards v) (CallLeft shards u) rows (λ r k l. stays r k l) h.left) w.left;
  follow = chain-append (Follows shards) rows more h.follow w.follow (λ r q hr hq. record {
    above = old-low r q hr hq;
    seen = λ ran names. omega (
      arith,
      ran-seen shards some v.seen r.draw r.reply (each-has (CallLeft shards v) rows r h.left hr).came ran names,
      (each-has (λ (r : Row). (floor_of v.seen ≤ r.draw.floor) × (r.draw.floor < r.draw.number)) more q w.floor hq).0,
    );
  });
}
  where
    two : (n : ℕ) → draws_of n u.own ≡ draws_of n v.own + draws_of n (draws_in more)
    two n = ap (draws_of n) w.own ∙ total-append (λ (d : Draw). hit n d.number) v.own (draws_in more)

    drawn-old : (r : Row) → Has rows r → 0 < draws_of r.draw.number v.own
    drawn-old r k = subst (λ l. 0 < draws_of r.draw.number l) (sym h.own) (has-draws rows r k)

    old-low : (r q : Row) → Has rows r → Has more q → r.draw.number < q.draw.number
    old-low r q hr hq = draws-low r.draw.number v.own q.draw.number
        (each-has (λ (r : Row). Each (λ (d : Draw). d.number < r.draw.number) v.own) more q w.above hq) (drawn-old r hr)

    none-new : (r : Row) → Has rows r → count r.draw.number w.made ≡ 0
    none-new r k = none-hit r.draw.number w.made
        (Each-map (λ (n : ℕ). 0 < draws_of n (draws_in more)) (λ (m : ℕ). m ≢ r.draw.number)
        (λ m some is. absurd (omega (
          arith,
          subst (λ x. 0 < draws_of x (draws_in more)) is some,
          draws-here r.draw.number more (λ q hq e. absurd (omega (arith, e, old-low r q k hq))),
        ))) w.made w.made_own)

    stays : (r : Row) → Has rows r → CallLeft shards v r → CallLeft shards u r
    stays r k l = calls_stay shards v u r l w.within w.bounded (omega (arith, two r.draw.number, drawn-old r k))
        (ap (count r.draw.number) w.made_is ∙ total-append (hit r.draw.number) v.made w.made ∙ (omega (arith, none-new r k)))

-- ---- the bound

unused-in : (n c : ℕ) (seen : List (List Entry)) → AllBelow n seen → uses_in n seen c ≡ 0
unused-in n zero seen e = refl
unused-in n (suc c) seen e = omega (arith, unused-in n c seen e, below-unused n (at_log seen c) (e c))

pub draws_keep_the_bound : DrawsKeepTheBound
draws_keep_the_bound v call n old low m c mine = dite (ℕ_discrete n m)
    (λ (is : n ≡ m). omega (arith, unused-in m c v.seen (subst (λ k. AllBelow k v.seen) is low)))
    (λ (ne : n ≢ m). old m c (omega (
      arith,
      mine,
      total-append (λ (d : Draw). hit m d.number) v.own (draw_by v call n ∷ []),
      hit-else m n ne,
    )))

pub tickets_keep_the_bound : TicketsKeepTheBound
tickets_keep_the_bound v old m c mine =
    omega (arith, old m c mine, total-append (hit m) v.made (last_number v.own ∷ []))

-- ---- items

items-append : (shards : ℕ) (logs : List (List Entry)) (a b : List Row) → items_of shards logs (a ++ b) ≡ items_of shards logs a ++ items_of shards logs b
items-append shards logs [] b = refl
items-append shards logs (r ∷ a) b = go r.reply (items-append shards logs a b)
  where
    go : (o : Option Reply) → items_of shards logs (a ++ b) ≡ items_of shards logs a ++ items_of shards logs b →
        with_item shards logs r.draw o (items_of shards logs (a ++ b)) ≡ with_item shards logs r.draw o (items_of shards logs a) ++ items_of shards logs b
    go None e = e
    go (Some reply) e = ap (λ l. item_of shards logs r.draw reply ∷ l) e

pub items_go_on : ItemsGoOn
items_go_on shards id v u rows more call h w =
    items-append shards u.seen rows more ∙ ap (λ l. l ++ items_of shards u.seen more) (sym (same rows (λ r k. k)))
  where
    entries : (r : Row) → Has rows r → entries_in shards v.seen r.draw.number ≡ entries_in shards u.seen r.draw.number
    entries r k =
        let old = each-has (CallLeft shards v) rows r h.left k in
        let some-own : 0 < draws_of r.draw.number v.own = subst (λ l. 0 < draws_of r.draw.number l) (sym h.own) (has-draws rows r k) in
        entries-same shards r.draw.number v.seen u.seen w.within (omega (
          arith,
          w.bounded r.draw.number (shards + 1) (omega (arith, some-own, ap (draws_of r.draw.number) w.own, total-append (λ (d : Draw). hit r.draw.number d.number) v.own (draws_in more))),
          old.used,
          ap (count r.draw.number) w.made_is,
          total-append (hit r.draw.number) v.made w.made,
          none-hit r.draw.number w.made (Each-map (λ (n : ℕ). 0 < draws_of n (draws_in more)) (λ (m : ℕ). m ≢ r.draw.number)
              (λ m some is. absurd (omega (
                arith,
                subst (λ x. 0 < draws_of x (draws_in more)) is some,
                draws-here r.draw.number more (λ q hq e. absurd (omega (
                  arith,
                  e,
                  draws-low r.draw.number v.own q.draw.number (each-has (λ (r : Row). Each (λ (d : Draw). d.number < r.draw.number) v.own) more q w.above hq) some-own,
                ))),
              ))) w.made w.made_own),
        ))

    same : (rs : List Row) → ((r : Row) → Has rs r → Has rows r) → items_of shards v.seen rs ≡ items_of shards u.seen rs
    same [] k = refl
    same (r ∷ rs) k = one r.draw r.reply (entries r (k r (inl refl))) (same rs (λ q m. k q (inr m)))
      where
        one : (d : Draw) (o : Option Reply) → entries_in shards v.seen d.number ≡ entries_in shards u.seen d.number →
            items_of shards v.seen rs ≡ items_of shards u.seen rs →
            with_item shards v.seen d o (items_of shards v.seen rs) ≡ with_item shards u.seen d o (items_of shards u.seen rs)
        one d None i m = m
        one d (Some reply) i m = λ j. record {
          session = d.session;
          number = d.number;
          call = d.call;
          marks = (calls shards).marks d.call (i j);
          floor = d.floor;
          reply = reply;
        } ∷ m j
