-- Rows by their numbers, and the sessions that have them.
use Rattle.std.proofs.Common.{◌≡◌, ◌≢◌, ℕ, ◌<◌, ◌≤◌, true, false, cond, eqb, List, [], ◌∷◌, ◌++◌, length, inl, inr, refl, sym, ap, ◌∙◌, subst, arith, append-nil, append_assoc, eq-eqb, ne_eqb}
use Rattle.std.specs.Prelude.{◌==◌, Option, Some, None}
use mathlib.Core.Logic.{dite}
use native.Mathlib.Decide.{ℕ_discrete, dec_le}
use Rattle.df_model.specs.Spared.{all_of}
use Rattle.df_model.specs.declared.reply.Reply.{Reply}
use Rattle.df_model.specs.declared.reply.Reply.TheVariants.{Array}
use Rattle.df_order.specs.Lists.{Has, Chain}
use Rattle.df_order.proofs.Lists.{has_left, has_right, has_cases}
use Rattle.df_book.specs.Weights.{hit, count, Each}
use Rattle.df_book.specs.Draws.{draws_of, call_at, Numbered}
use Rattle.df_book.specs.declared.draw.Draw.{Draw}
use Rattle.df_book.proofs.Sums.{Each-map, Each-append, total-append, hit-same, hit-else}
use Rattle.df_book.proofs.Logs.{within-trans}
use Rattle.df_book.specs.Logs.{Within}
use Rattle.df_end.specs.Laws.{LobbyTakesIn}
use Rattle.df_book.proofs.Numbers.{made-none}
use Rattle.df_end.specs.Calls.{Row, draws_in, Follows}
use Rattle.df_end.specs.Sessions.{Gone, SessionLeft, all_own, all_made, all_places}
use Rattle.df_end.specs.Promise.{session_at, floor_at}

-- ---- replies

abbrev pub reply_or : Option Reply → Reply
reply_or None = Array (all_of [])
reply_or (Some reply) = reply

-- the reply to the call of a number; that of an idle call where the number wasn't drawn
abbrev pub reply_at : List Row → ℕ → Reply
reply_at [] n = Array (all_of [])
reply_at (r ∷ rows) n = cond (r.draw.number == n) (reply_or r.reply) (reply_at rows n)

-- ---- rows

pub has-draws : (rows : List Row) (r : Row) → Has rows r → 0 < draws_of r.draw.number (draws_in rows)
has-draws [] r h = absurd h
has-draws (x ∷ rows) r (inl e) =
    let i : x.draw.number ≡ r.draw.number = ap (λ y. y.draw.number) e in
    omega (arith, hit-same r.draw.number, ap (hit r.draw.number) i)
has-draws (x ∷ rows) r (inr h) = omega (arith, has-draws rows r h)

pub row-of : (rows : List Row) (n : ℕ) → 0 < draws_of n (draws_in rows) → (r : Row) × Has rows r × (r.draw.number ≡ n)
row-of [] n h = absurd (omega (arith, h))
row-of (x ∷ rows) n h = dite (ℕ_discrete x.draw.number n)
    (λ (is : x.draw.number ≡ n). (x, inl refl, is))
    (λ (ne : x.draw.number ≢ n). let v = row-of rows n (omega (arith, h, hit-else n x.draw.number ne)) in (v.0, inr v.1, v.2))

-- what stands at a row's number is the row's, where no number stands twice
pub record Found (rows : List Row) (r : Row) : Type 0 where
  pub call : call_at (draws_in rows) r.draw.number ≡ r.draw.call
  pub session : session_at (draws_in rows) r.draw.number ≡ r.draw.session
  pub floor : floor_at (draws_in rows) r.draw.number ≡ r.draw.floor
  pub reply : reply_at rows r.draw.number ≡ reply_or r.reply

pub found : (rows : List Row) → ((n : ℕ) → draws_of n (draws_in rows) ≤ 1) → (r : Row) → Has rows r → Found rows r
found [] once r h = absurd h
found (x ∷ rows) once r (inl e) =
    let t : eqb x.draw.number r.draw.number ≡ true = eq-eqb x.draw.number r.draw.number (ap (λ y. y.draw.number) e) in
    record {
      call = ap (λ b. cond b x.draw.call (call_at (draws_in rows) r.draw.number)) t ∙ ap (λ y. y.draw.call) e;
      session = ap (λ b. cond b x.draw.session (session_at (draws_in rows) r.draw.number)) t ∙ ap (λ y. y.draw.session) e;
      floor = ap (λ b. cond b x.draw.floor (floor_at (draws_in rows) r.draw.number)) t ∙ ap (λ y. y.draw.floor) e;
      reply = ap (λ b. cond b (reply_or x.reply) (reply_at rows r.draw.number)) t ∙ ap (λ y. reply_or y.reply) e;
    }
found (x ∷ rows) once r (inr h) =
    let ne : x.draw.number ≢ r.draw.number = λ i. absurd (omega (
      arith,
      once r.draw.number,
      has-draws rows r h,
      hit-same r.draw.number,
      ap (hit r.draw.number) i,
    )) in
    let t : eqb x.draw.number r.draw.number ≡ false = ne_eqb x.draw.number r.draw.number ne in
    let f = found rows (λ n. omega (arith, once n)) r h in
    record {
      call = ap (λ b. cond b x.draw.call (call_at (draws_in rows) r.draw.number)) t ∙ f.call;
      session = ap (λ b. cond b x.draw.session (session_at (draws_in rows) r.draw.number)) t ∙ f.session;
      floor = ap (λ b. cond b x.draw.floor (floor_at (draws_in rows) r.draw.number)) t ∙ f.floor;
      reply = ap (λ b. cond b (reply_or x.reply) (reply_at rows r.draw.number)) t ∙ f.reply;
    }

-- what is looked up of a number that wasn't drawn
pub call-none : (draws : List Draw) (n : ℕ) → draws_of n draws ≡ 0 → call_at draws n ≡ call_at [] n
call-none [] n h = refl
call-none (d ∷ draws) n h = dite (ℕ_discrete d.number n)
    (λ (is : d.number ≡ n). absurd (omega (arith, h, hit-same n, ap (hit n) is)))
    (λ (ne : d.number ≢ n).
    ap (λ b. cond b d.call (call_at draws n)) (ne_eqb d.number n ne) ∙ call-none draws n (omega (arith, h, hit-else n d.number ne)))

pub reply-none : (rows : List Row) (n : ℕ) → draws_of n (draws_in rows) ≡ 0 → reply_at rows n ≡ Array (all_of [])
reply-none [] n h = refl
reply-none (r ∷ rows) n h = dite (ℕ_discrete r.draw.number n)
    (λ (is : r.draw.number ≡ n). absurd (omega (arith, h, hit-same n, ap (hit n) is)))
    (λ (ne : r.draw.number ≢ n).
    ap (λ b. cond b (reply_or r.reply) (reply_at rows n)) (ne_eqb r.draw.number n ne) ∙ reply-none rows n (omega (arith, h, hit-else n r.draw.number ne)))

-- draws that agree with others give the same call at a number
pub at-agreed : (draws known : List Draw) (n : ℕ) → Each (λ (d : Draw). call_at draws d.number ≡ d.call) known → 0 < draws_of n known →
    call_at known n ≡ call_at draws n
at-agreed draws [] n e h = absurd (omega (arith, h))
at-agreed draws (d ∷ known) n e h = dite (ℕ_discrete d.number n)
    (λ (is : d.number ≡ n). ap (λ b. cond b d.call (call_at known n)) (eq-eqb d.number n is) ∙ sym e.0 ∙ ap (call_at draws) is)
    (λ (ne : d.number ≢ n).
    ap (λ b. cond b d.call (call_at known n)) (ne_eqb d.number n ne) ∙ at-agreed draws known n e.1 (omega (arith, h, hit-else n d.number ne)))

none-outside : (n : ℕ) (draws : List Draw) (most : ℕ) → Each (λ (d : Draw). (0 < d.number) × (d.number ≤ most)) draws →
    ((0 < n) × (n ≤ most) → ⊥) → draws_of n draws ≡ 0
none-outside n [] most e h = refl
none-outside n (d ∷ draws) most e h =
    omega (arith, none-outside n draws most e.1 h, hit-else n d.number (λ is. h (subst (λ m. (0 < m) × (m ≤ most)) is e.0)))

-- no number was drawn twice
pub most-once : (draws : List Draw) → Numbered draws → (n : ℕ) → draws_of n draws ≤ 1
most-once draws all n = dite (dec_le n (length draws))
    (λ a. dite (dec_le 1 n) (λ b. omega (arith, all.once n b a)) (λ b. omega (arith, none-outside n draws (length draws) all.range (λ q. b q.0))))
    (λ a. omega (arith, none-outside n draws (length draws) all.range (λ q. a q.1)))

-- ---- the rows of all sessions

abbrev pub all_rows : List Gone → List Row
all_rows [] = []
all_rows (g ∷ gone) = g.rows ++ all_rows gone

pub draws-append : (a b : List Row) → draws_in (a ++ b) ≡ draws_in a ++ draws_in b
draws-append [] b = refl
draws-append (r ∷ a) b = ap (λ l. r.draw ∷ l) (draws-append a b)

module _ (shards : ℕ) where
  pub all-draws : (gone : List Gone) → Each (SessionLeft shards) gone → all_own gone ≡ draws_in (all_rows gone)
  all-draws [] e = refl
  all-draws (g ∷ gone) e =
      (λ j. e.0.holds.own j ++ all-draws gone e.1 j) ∙ sym (draws-append g.rows (all_rows gone))

  pub has-row : (gone : List Gone) (g : Gone) (r : Row) → Has gone g → Has g.rows r → Has (all_rows gone) r
  has-row [] g r h k = absurd h
  has-row (x ∷ gone) g r (inl e) k = has_left x.rows (all_rows gone) r (subst (λ y. Has y.rows r) (sym e) k)
  has-row (x ∷ gone) g r (inr h) k = has_right x.rows (all_rows gone) r (has-row gone g r h k)

  pub whose-row : (gone : List Gone) (r : Row) → Has (all_rows gone) r → (g : Gone) × Has gone g × Has g.rows r
  whose-row [] r h = absurd h
  whose-row (x ∷ gone) r h = elim (has_cases x.rows (all_rows gone) r h) [
    | inl a ↦ (x, inl refl, a)
    | inr b ↦ (let v = whose-row gone r b in (v.0, inr v.1, v.2))
  ]

  own-part : (n : ℕ) (gone : List Gone) (g : Gone) → Has gone g → draws_of n g.pass.own ≤ draws_of n (all_own gone)
  own-part n [] g h = absurd h
  own-part n (x ∷ gone) g (inl e) =
      omega (arith, total-append (λ (d : Draw). hit n d.number) x.pass.own (all_own gone), ap (λ y. draws_of n y.pass.own) e)
  own-part n (x ∷ gone) g (inr h) =
      omega (arith, total-append (λ (d : Draw). hit n d.number) x.pass.own (all_own gone), own-part n gone g h)

  none-made : (n : ℕ) (gone : List Gone) → Each (SessionLeft shards) gone → draws_of n (all_own gone) ≡ 0 → count n (all_made gone) ≡ 0
  none-made n [] e z = refl
  none-made n (x ∷ gone) e z =
      let two = total-append (λ (d : Draw). hit n d.number) x.pass.own (all_own gone) in
      omega (
        arith,
        total-append (hit n) x.pass.made (all_made gone),
        made-none n x.pass.own x.pass.made e.0.holds.made (omega (arith, z, two)),
        none-made n gone e.1 (omega (arith, z, two)),
      )

  -- the running tickets of a session's number are those that the session made
  pub made-of : (n : ℕ) (gone : List Gone) → Each (SessionLeft shards) gone → draws_of n (all_own gone) ≤ 1 → (g : Gone) →
      Has gone g → 0 < draws_of n g.pass.own → count n (all_made gone) ≡ count n g.pass.made
  made-of n [] e once g h some = absurd h
  made-of n (x ∷ gone) e once g (inl i) some =
      let two = total-append (λ (d : Draw). hit n d.number) x.pass.own (all_own gone) in
      omega (
        arith,
        total-append (hit n) x.pass.made (all_made gone),
        none-made n gone e.1 (omega (arith, once, two, some, ap (λ y. draws_of n y.pass.own) i)),
        ap (λ y. count n y.pass.made) i,
      )
  made-of n (x ∷ gone) e once g (inr h) some =
      let two = total-append (λ (d : Draw). hit n d.number) x.pass.own (all_own gone) in
      omega (
        arith,
        total-append (hit n) x.pass.made (all_made gone),
        made-none n x.pass.own x.pass.made e.0.holds.made (omega (arith, once, two, some, own-part n gone g h)),
        made-of n gone e.1 (omega (arith, once, two)) g h some,
      )

  id-part : (n : ℕ) (gone : List Gone) → Each (SessionLeft shards) gone → (g : Gone) → Has gone g → g.session.id ≡ n →
      0 < count n (all_places gone)
  id-part n [] e g h i = absurd h
  id-part n (x ∷ gone) e g (inl j) i =
      omega (
        arith,
        total-append (hit n) x.pass.sessions (all_places gone),
        ap (count n) e.0.holds.place,
        ap (hit n) (ap (λ y. y.session.id) j ∙ i),
        hit-same n,
      )
  id-part n (x ∷ gone) e g (inr h) i =
      omega (arith, total-append (hit n) x.pass.sessions (all_places gone), id-part n gone e.1 g h i)

  -- no two sessions have one place
  pub same-session : (gone : List Gone) → Each (SessionLeft shards) gone → ((n : ℕ) → count n (all_places gone) ≤ 1) →
      (g k : Gone) → Has gone g → Has gone k → g.session.id ≡ k.session.id → g ≡ k
  same-session [] e once g k a b i = absurd a
  same-session (x ∷ gone) e once g k (inl p) (inl q) i = sym p ∙ q
  same-session (x ∷ gone) e once g k (inl p) (inr q) i = absurd (omega (
    arith,
    once x.session.id,
    total-append (hit x.session.id) x.pass.sessions (all_places gone),
    ap (count x.session.id) e.0.holds.place,
    hit-same x.session.id,
    id-part x.session.id gone e.1 k q (sym i ∙ sym (ap (λ y. y.session.id) p)),
  ))
  same-session (x ∷ gone) e once g k (inr p) (inl q) i = absurd (omega (
    arith,
    once x.session.id,
    total-append (hit x.session.id) x.pass.sessions (all_places gone),
    ap (count x.session.id) e.0.holds.place,
    hit-same x.session.id,
    id-part x.session.id gone e.1 g p (i ∙ sym (ap (λ y. y.session.id) q)),
  ))
  same-session (x ∷ gone) e once g k (inr p) (inr q) i =
      same-session gone e.1 (λ n. omega (arith, once n, total-append (hit n) x.pass.sessions (all_places gone))) g k p q i

  -- of two rows of one session the lower stands before the higher
  pub follows : (rows : List Row) → Chain (Follows shards) rows → (r q : Row) → Has rows r → Has rows q →
      r.draw.number < q.draw.number → Follows shards r q
  follows [] c r q a b lt = absurd a
  follows (x ∷ rows) c r q (inl i) (inl j) lt =
      absurd (omega (arith, lt, ap (λ y. y.draw.number) i, ap (λ y. y.draw.number) j))
  follows (x ∷ rows) c r q (inl i) (inr b) lt = subst (λ y. Follows shards y q) i (c.0 q b)
  follows (x ∷ rows) c r q (inr a) (inl j) lt =
      absurd (omega (arith, lt, (c.0 r a).above, ap (λ y. y.draw.number) j))
  follows (x ∷ rows) c r q (inr a) (inr b) lt = follows rows c.1 r q a b lt

-- ---- one more session

own-more : (gone : List Gone) (g : Gone) → all_own (gone ++ g ∷ []) ≡ all_own gone ++ g.pass.own
own-more [] g = append-nil g.pass.own
own-more (x ∷ gone) g = ap (λ l. x.pass.own ++ l) (own-more gone g) ∙ sym (append_assoc x.pass.own (all_own gone) g.pass.own)

made-more : (gone : List Gone) (g : Gone) → all_made (gone ++ g ∷ []) ≡ all_made gone ++ g.pass.made
made-more [] g = append-nil g.pass.made
made-more (x ∷ gone) g = ap (λ l. x.pass.made ++ l) (made-more gone g) ∙ sym (append_assoc x.pass.made (all_made gone) g.pass.made)

places-more : (gone : List Gone) (g : Gone) → all_places (gone ++ g ∷ []) ≡ all_places gone ++ g.pass.sessions
places-more [] g = append-nil g.pass.sessions
places-more (x ∷ gone) g = ap (λ l. x.pass.sessions ++ l) (places-more gone g) ∙ sym (append_assoc x.pass.sessions (all_places gone) g.pass.sessions)

pub lobby_takes_in : LobbyTakesIn
lobby_takes_in shards first gone g seen lobby left both = record {
  own = ap (λ l. l ++ g.pass.own) lobby.own ∙ sym (own-more gone g);
  made = ap (λ l. l ++ g.pass.made) lobby.made ∙ sym (made-more gone g);
  places = ap (λ l. l ++ g.pass.sessions) lobby.places ∙ sym (places-more gone g);
  seen = Each-append (λ (x : Gone). Within x.pass.seen seen) gone (g ∷ [])
      (Each-map (λ (x : Gone). Within x.pass.seen first.seen) (λ (x : Gone). Within x.pass.seen seen)
      (λ x w. within-trans x.pass.seen first.seen seen w both.first) gone lobby.seen) (both.second, tt);
  left = Each-append (SessionLeft shards) gone (g ∷ []) lobby.left (left, tt);
}
