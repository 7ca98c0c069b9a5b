-- The answers of a round of hops, shard by shard, and what they bring the call to.
use Rattle.std.proofs.Common.{◌≡◌, ◌≢◌, ℕ, ◌+◌, ◌<◌, ◌≤◌, Bool, true, false, cond, is_some, List, length, refl, sym, ap, ◌∙◌, subst, arith, ltb, length-set, get_or-set_same, get_or-set_other}
use Rattle.std.specs.Prelude.{Option, Some, None, nat_lt, get_or, set}
use Rattle.std.specs.Option.{option_map}
use Rattle.std.proofs.lemmas.Bool.{lt-ltb, le-ltb, ltb-true, ltb-false}
use Rattle.std.proofs.Math.Logic.{∥∥₁_elim}
use Rattle.df_model.specs.Keyspace.{Keyspace}
use Rattle.df_model.specs.declared.command.Call.{Call}
use Rattle.df_order.specs.Lists.{Has}
use Rattle.df_order.specs.Puts.{put}
use Rattle.df_order.proofs.Puts.{put_case, put_other}
use Rattle.df_log.specs.Acts.{Act, Told}
use Rattle.df_log.specs.Entries.{is_note}
use Rattle.df_log.specs.Parts.{IsTold}
use Rattle.df_log.specs.declared.entry.Entry.{Entry}
use Rattle.df_book.specs.Logs.{BothSeen, Within}
use Rattle.df_book.specs.Draws.{OwnAgreed}
use Rattle.df_book.specs.Passes.{Caller, Receipt, after_receipt}
use Rattle.df_end.specs.Asked.{PartDue}
use Rattle.df_rounds.specs.Standing.{MayBeTold}
use Rattle.df_rounds.specs.Progress.{Answers, Progress, asks_next, hop_next}
use Rattle.df_rounds.specs.Underway.{Underway}
use Rattle.df_rounds.specs.Between.{Between}
use Rattle.df_rounds.proofs.UnderwayLaws.{asks-beyond}
use Rattle.df_rounds.proofs.BetweenLaws.{answers_agree, calls_go_round}
use Rattle.df_hops.specs.Parts.{shards_in}
use Rattle.df_hops.specs.Shown.{act_in, entry_at}
use Rattle.df_hops.specs.Came.{DueAs, given_as, may_want_as, may_want_in, said_as, said_in, told_in}
use Rattle.df_hops.specs.declared.answer.Outcome.{Outcome}
use Rattle.df_hops.specs.declared.answer.AnswerBody.{AnswerBody}
use Rattle.df_post.specs.Fits.{is_hop, is_of, is_part}
use Rattle.df_post.specs.Rounds.{Idle, Answered, RoundView, place_at}
use Rattle.df_post.specs.declared.awaited.Awaited.{Awaited}
use Rattle.df_post.specs.declared.awaited.Kind.{Kind}
use Rattle.df_post.specs.declared.awaited.Kind.TheVariants as kinds
use Rattle.df_post.specs.declared.awaited.PartKind.{PartKind}
use Rattle.df_exchange.specs.Asks.{Heard, awaited_hop, heard_of, kind_of_act}
use Rattle.df_exchange.specs.Exchanges.{AnswersAreOfHops, ExchangesGoRound, Hearing, HopAnswered, IsHopKind, IsHopPlace, answered_by, places_from}
use Rattle.df_exchange.proofs.ActLaws.{act-set, given-as-told}
use Rattle.df_exchange.proofs.FoundLaws.{each-back, entry-said, entry-there}
use Rattle.df_exchange.proofs.AskLaws.{nat-more}

-- ---- places

module _ (t shards n : ℕ) (progress : Progress) where
  from-here : places_from t shards n progress t ≡ answered_by (option_map (awaited_hop n (hop_next shards progress)) (asks_next shards progress t))
  from-here =
      ap (λ b. cond b Idle (answered_by (option_map (awaited_hop n (hop_next shards progress)) (asks_next shards progress t)))) (le-ltb t t (omega arith))

  from-then : places_from (t + 1) shards n progress t ≡ Idle
  from-then =
      ap (λ b. cond b Idle (answered_by (option_map (awaited_hop n (hop_next shards progress)) (asks_next shards progress t)))) (lt-ltb t (t + 1) (omega arith))

  from-other : (s : ℕ) → s ≢ t → places_from (t + 1) shards n progress s ≡ places_from t shards n progress s
  from-other s ne =
      ap (λ b. cond b Idle (answered_by (option_map (awaited_hop n (hop_next shards progress)) (asks_next shards progress s)))) (nat-more s t ne)

hop-answered : (n hop : ℕ) (o : Option Act) → IsHopPlace (answered_by (option_map (awaited_hop n hop) o))
hop-answered n hop None = tt
hop-answered n hop (Some act) = tt

pub answers_are_of_hops : AnswersAreOfHops
answers_are_of_hops shards t n before call progress u round outcomes s x =
    subst IsHopPlace (sym (x.answered s)) (go (nat_lt s t))
  where
    go : (b : Bool) → IsHopPlace (cond b Idle (answered_by (option_map (awaited_hop n (hop_next shards progress)) (asks_next shards progress s))))
    go true = tt
    go false = hop-answered n (hop_next shards progress) (asks_next shards progress s)

-- ---- one more shard was heard

-- it was told this, this entry came back if one did, and this is what was heard
pub one_is_heard : (shards t n : ℕ) (before : Caller) (call : Call) (progress : Progress) (u w : Caller) (round now : RoundView)
    (outcomes : List (Option Outcome)) (told : Told) (entry : Option Entry) (outcome : Option Outcome)
    (x : Hearing shards t n before call progress u round outcomes) → t < shards →
    Underway shards n x.v w (λ s. is_some (asks_next shards progress s)) (put t entry x.back) → length now.places ≡ length round.places →
    ((s : ℕ) → place_at s now ≡ put t Idle (λ i. place_at i round) s) → Answers (hop_next shards progress) (asks_next shards progress t) told entry →
    MayBeTold shards t (asks_next shards progress t) told → Heard (asks_next shards progress t) told outcome →
    Hearing shards (t + 1) n before call progress w now (set outcomes t outcome)
one_is_heard shards t n before call progress u w round now outcomes told entry outcome x lt under places at answers may heard = record {
  v = x.v;
  between = x.between;
  told = put t told x.told;
  back = put t entry x.back;
  underway = under;
  places = places ∙ x.places;
  answered = λ s. at s ∙ put_case (λ p. p ≡ places_from (t + 1) shards n progress s) t s Idle (λ i. place_at i round)
      (λ e. sym (ap (places_from (t + 1) shards n progress) e ∙ from-then t shards n progress))
      (λ ne. x.answered s ∙ sym (from-other t shards n progress s ne));
  count = length-set outcomes t outcome ∙ x.count;
  answers = λ s below. put_case (λ q. Answers hop (asks_next shards progress s) q (put t entry x.back s)) t s told x.told
      (λ here. put_case (λ o. Answers hop (asks_next shards progress s) told o) t s entry x.back
      (λ e. subst (λ i. Answers hop (asks_next shards progress i) told entry) (sym e) answers) (λ ne. absurd (ne here)))
      (λ ne. put_case (λ o. Answers hop (asks_next shards progress s) (x.told s) o) t s entry x.back (λ e. absurd (ne e)) (λ _. x.answers s (omega (arith, below, ne))));
  may = λ s below. put_case (λ q. MayBeTold shards s (asks_next shards progress s) q) t s told x.told
      (λ e. subst (λ i. MayBeTold shards i (asks_next shards progress i) told) (sym e) may) (λ ne. x.may s (omega (arith, below, ne)));
  heard = λ s below. put_case (λ q. Heard (asks_next shards progress s) q (heard_of s (set outcomes t outcome))) t s told x.told
      (λ e. subst (λ i. Heard (asks_next shards progress i) told (heard_of i (set outcomes t outcome))) (sym e)
      (subst (Heard (asks_next shards progress t) told) (sym (get_or-set_same outcomes t outcome None (omega (arith, lt, x.count)))) heard))
      (λ ne. subst (Heard (asks_next shards progress s) (x.told s)) (sym (get_or-set_other outcomes t s outcome None ne)) (x.heard s (omega (arith, below, ne))));
  unheard = λ s le. (
      let rest = x.unheard s (omega (arith, le)) in
      let other : s ≢ t = λ e. omega (arith, e, le) in
      (put_other t s entry x.back other ∙ rest.0, get_or-set_other outcomes t s outcome None other ∙ rest.1));
}
  where
    hop : ℕ
    hop = hop_next shards progress

-- it wasn't asked
pub none_is_heard : (shards t n : ℕ) (before : Caller) (call : Call) (progress : Progress) (u : Caller) (round : RoundView)
    (outcomes : List (Option Outcome)) → Hearing shards t n before call progress u round outcomes → t < shards →
    asks_next shards progress t ≡ None → Hearing shards (t + 1) n before call progress u round (set outcomes t None)
none_is_heard shards t n before call progress u round outcomes x lt none =
    one_is_heard shards t n before call progress u u round round outcomes (x.told t) None None x lt
    (subst (λ back. Underway shards n x.v u (λ s. is_some (asks_next shards progress s)) back) (λ j s. stays s j) x.underway) refl idle
    (subst (λ o. Answers (hop_next shards progress) o (x.told t) None) (sym none) refl)
    (subst (λ o. MayBeTold shards t o (x.told t)) (sym none) tt)
    (subst (λ o. Heard o (x.told t) None) (sym none) refl)
  where
    stays : (s : ℕ) → x.back s ≡ put t None x.back s
    stays s = put_case (λ o. x.back s ≡ o) t s None x.back
        (λ e. ap x.back e ∙ (x.unheard t (omega arith)).0) (λ ne. refl)

    idle : (s : ℕ) → place_at s round ≡ put t Idle (λ i. place_at i round) s
    idle s = put_case (λ p. place_at s round ≡ p) t s Idle (λ i. place_at i round)
        (λ e. ap (λ i. place_at i round) e ∙ x.answered t ∙ from-here t shards n progress
        ∙ ap (λ o. answered_by (option_map (awaited_hop n (hop_next shards progress)) o)) none)
        (λ ne. refl)

-- no answer was there, so it wasn't asked
pub silence_is_heard : (shards t n : ℕ) (before : Caller) (call : Call) (progress : Progress) (u : Caller) (round : RoundView)
    (outcomes : List (Option Outcome)) → Hearing shards t n before call progress u round outcomes → t < shards →
    ((a : Awaited) → place_at t round ≡ Answered a → ⊥) → Hearing shards (t + 1) n before call progress u round (set outcomes t None)
silence_is_heard shards t n before call progress u round outcomes x lt silent =
    none_is_heard shards t n before call progress u round outcomes x lt (go (asks_next shards progress t) refl)
  where
    go : (o : Option Act) → asks_next shards progress t ≡ o → o ≡ None
    go None e = refl
    go (Some act) e = absurd (silent (awaited_hop n (hop_next shards progress) act)
        (x.answered t ∙ from-here t shards n progress ∙ ap (λ q. answered_by (option_map (awaited_hop n (hop_next shards progress)) q)) e))

-- what awaited an answer that is there
answered-asked : (n hop : ℕ) (o : Option Act) (a : Awaited) → Answered a ≡ answered_by (option_map (awaited_hop n hop) o) →
    (act : Act) × (o ≡ Some act) × (a ≡ awaited_hop n hop act)
answered-asked n hop None a e = absurd (let e : Answered a ≡ Idle = e in cc)
answered-asked n hop (Some act) a e = (act, refl, (let e : Answered a ≡ Answered (awaited_hop n hop act) = e in cc))

-- its answer was there, and was taken
pub an_answer_is_heard : (shards t n : ℕ) (before : Caller) (call : Call) (progress : Progress) (u w : Caller) (round now : RoundView)
    (outcomes : List (Option Outcome)) (outcome : Outcome) (a : Awaited) (x : Hearing shards t n before call progress u round outcomes) → t < shards →
    place_at t round ≡ Answered a → now ≡ record round { places = set round.places t Idle } →
    ((act : Act) → asks_next shards progress t ≡ Some act → a ≡ awaited_hop n (hop_next shards progress) act →
    HopAnswered shards t n progress act x.v w x.back outcome) → Hearing shards (t + 1) n before call progress w now (set outcomes t (Some outcome))
an_answer_is_heard shards t n before call progress u w round now outcomes outcome a x lt place taken answers =
    let asked = answered-asked n (hop_next shards progress) (asks_next shards progress t) a (sym place ∙ x.answered t ∙ from-here t shards n progress) in
    let h = answers asked.0 asked.1 asked.2 in
    one_is_heard shards t n before call progress u w round now outcomes h.told (Some h.entry) (Some outcome) x lt h.underway
    (ap (λ (r : RoundView). length r.places) taken ∙ length-set round.places t Idle) left
    (subst (λ o. Answers (hop_next shards progress) o h.told (Some h.entry)) (sym asked.1) h.answers)
    (subst (λ o. MayBeTold shards t o h.told) (sym asked.1) h.may)
    (subst (λ o. Heard o h.told (Some outcome)) (sym asked.1) (outcome, refl, h.tells))
  where
    left : (s : ℕ) → place_at s now ≡ put t Idle (λ i. place_at i round) s
    left s = ap (place_at s) taken ∙ put_case (λ p. get_or (set round.places t Idle) s Idle ≡ p) t s Idle (λ i. place_at i round)
        (λ e. ap (λ i. get_or (set round.places t Idle) i Idle) e ∙ get_or-set_same round.places t Idle Idle (omega (arith, lt, x.places)))
        (λ ne. get_or-set_other round.places t s Idle Idle ne)

-- a Hop is answered by the outcome of a part
pub hop-kind : (kind : Kind) (body : AnswerBody) → IsHopKind kind → is_of kind body ≡ true → (part : PartKind) × (is_hop part body ≡ true)
hop-kind kinds.Place body hop fit = absurd hop
hop-kind kinds.Quick body hop fit = absurd hop
hop-kind (kinds.Hop part) body hop fit = (part, fit)
hop-kind kinds.Free body hop fit = absurd hop
hop-kind kinds.Pull body hop fit = absurd hop

-- ---- what an answer shows

-- A receipt came with the answer to a hop: u is the caller's pass before it was taken, and w behind it.
pub record Comes (shards s n hop : ℕ) (u w : Caller) (r : Receipt) (outcome : Outcome) (K : Keyspace) : Type 0 where
  pub some : 0 < shards
  pub words : r.book.words ≡ shards + 2
  pub here : r.shard ≡ s
  pub said : Some (said_as outcome) ≡ said_in (entry_at n hop r.log)
  pub came : told_in (entry_at n hop r.log) ≡ option_map (given_as outcome (shards_in r.book) r.shard K) (act_in (entry_at n hop r.log))
  pub wants : may_want_in outcome (act_in (entry_at n hop r.log)) ≡ true
  pub part : ∥ DueAs n hop r (entry_at n hop r.log) ∥₁
  pub after : w ≡ after_receipt u r w.seen
  pub both : BothSeen u.seen r.seen w.seen
  pub agreed : OwnAgreed w.own w.known

-- the own draws agree with what the receipt told of draws
agreed-so : (shards s n hop : ℕ) (u w : Caller) (r : Receipt) (outcome : Outcome) (K : Keyspace) → Comes shards s n hop u w r outcome K →
    OwnAgreed w.own r.known
agreed-so shards s n hop u w r outcome K c =
    each-back _ u.known r.known (subst (λ known. OwnAgreed w.own known) (ap (λ (p : Caller). p.known) c.after) c.agreed)

-- what was asked is what the entry did
did-asked : (shards s n : ℕ) (before v : Caller) (call : Call) (progress : Progress) (u w : Caller) (r : Receipt) (outcome : Outcome)
    (K : Keyspace) (act : Act) (e : Entry) → Comes shards s n (hop_next shards progress) u w r outcome K → Between shards before call n progress v →
    asks_next shards progress s ≡ Some act → Within v.seen w.seen → w.own ≡ v.own → entry_at n (hop_next shards progress) r.log ≡ Some e →
    e.act ≡ act
did-asked shards s n before v call progress u w r outcome K act e c b asks within own found =
    ∥∥₁_elim (subst (λ o. ∥ DueAs n (hop_next shards progress) r o ∥₁) found c.part) (act-set e.act act)
    (λ (p : PartDue (shards_in r.book) r n (hop_next shards progress) e.act).
    answers_agree shards before call n progress v w r act e.act c.some b
    (subst (λ i. asks_next shards progress i ≡ Some act) (sym c.here) asks)
    (subst (λ k. PartDue k r n (hop_next shards progress) e.act) is-shards p) within c.both.second
    (subst (λ l. OwnAgreed l r.known) own (agreed-so shards s n (hop_next shards progress) u w r outcome K c)))
  where
    is-shards : shards_in r.book ≡ shards
    is-shards = omega (arith, c.words)

-- and it was told what that may be told
told-may : (shards s n hop : ℕ) (u w : Caller) (r : Receipt) (outcome : Outcome) (K : Keyspace) (act : Act) (e : Entry) →
    Comes shards s n hop u w r outcome K → entry_at n hop r.log ≡ Some e → is_note e.act ≡ false → e.act ≡ act →
    IsTold shards s K act e.told
told-may shards s n hop u w r outcome K act e c found plain did =
    subst (λ a. IsTold shards s K a e.told) did
    (subst (IsTold shards s K e.act) (sym told-is) (given-as-told shards s K outcome e.act plain wants))
  where
    is-shards : shards_in r.book ≡ shards
    is-shards = omega (arith, c.words)

    wants : may_want_as outcome e.act ≡ true
    wants = sym (ap (λ o. may_want_in outcome (act_in o)) found) ∙ c.wants

    came : Some e.told ≡ Some (given_as outcome (shards_in r.book) r.shard K e.act)
    came = sym (ap told_in found) ∙ c.came ∙ ap (λ o. option_map (given_as outcome (shards_in r.book) r.shard K) (act_in o)) found

    told-is : e.told ≡ given_as outcome shards s K e.act
    told-is =
        let same : e.told ≡ given_as outcome (shards_in r.book) r.shard K e.act = cc in
        same ∙ ap (λ k. given_as outcome k r.shard K e.act) is-shards ∙ ap (λ i. given_as outcome shards i K e.act) c.here

-- A receipt that may be taken brings its entry back.
abbrev pub TakesBack : ℕ → ℕ → Caller → Caller → Caller → Receipt → (ℕ → Bool) → (ℕ → Option Entry) → Type 0
TakesBack shards n v u w r sent back =
    (e : Entry) → Has r.log e → e.number ≡ n → Underway shards n v u sent back → Underway shards n v w sent (put r.shard (Some e) back)

pub hop_is_answered : (shards s n : ℕ) (before v : Caller) (call : Call) (progress : Progress) (u w : Caller) (r : Receipt) (outcome : Outcome)
    (K : Keyspace) (act : Act) (back : ℕ → Option Entry) → Comes shards s n (hop_next shards progress) u w r outcome K →
    TakesBack shards n v u w r (λ i. is_some (asks_next shards progress i)) back → Between shards before call n progress v →
    Underway shards n v u (λ i. is_some (asks_next shards progress i)) back → asks_next shards progress s ≡ Some act →
    is_part (kind_of_act act) outcome ≡ true → HopAnswered shards s n progress act v w back outcome
hop_is_answered shards s n before v call progress u w r outcome K act back c takes b under asks fit =
    let found = entry-said (entry_at n (hop_next shards progress) r.log) (said_as outcome) c.said in
    let e : Entry = found.0 in
    let at = entry-there n (hop_next shards progress) r.log e found.1 in
    let now = subst (λ i. Underway shards n v w (λ j. is_some (asks_next shards progress j)) (put i (Some e) back)) c.here (takes e at.0 at.1 under) in
    let did : e.act ≡ act = did-asked shards s n before v call progress u w r outcome K act e c b asks now.within now.own found.1 in record {
      told = e.told;
      entry = e;
      answers = (e, refl, λ j. record { hop = at.2 j; act = did j; told = e.told });
      may = (K, told-may shards s n (hop_next shards progress) u w r outcome K act e c found.1 at.3 did);
      tells = (found.2, fit);
      underway = now;
    }

-- ---- and once all were heard

pub exchanges_go_round : ExchangesGoRound
exchanges_go_round shards n before call progress u round outcomes pos goes x = record {
  told = x.told;
  between = calls_go_round shards before call n progress x.v u (λ s. is_some (asks_next shards progress s)) x.back x.told pos x.between x.underway goes
      (λ s. either s (MayBeTold shards s (asks_next shards progress s) (x.told s)) (x.may s)
      (λ le. subst (λ o. MayBeTold shards s o (x.told s)) (sym (beyond s le)) tt))
      (λ s. refl)
      (λ s. either s (Answers (hop_next shards progress) (asks_next shards progress s) (x.told s) (x.back s)) (x.answers s)
      (λ le. subst (λ o. Answers (hop_next shards progress) o (x.told s) (x.back s)) (sym (beyond s le)) (x.unheard s le).0));
  heard = λ s. either s (Heard (asks_next shards progress s) (x.told s) (heard_of s outcomes)) (x.heard s)
      (λ le. subst (λ o. Heard o (x.told s) (heard_of s outcomes)) (sym (beyond s le)) (x.unheard s le).1);
  idle = λ s. x.answered s ∙ either s (places_from shards shards n progress s ≡ Idle)
      (λ lt. ap (λ b. cond b Idle (answered_by (option_map (awaited_hop n (hop_next shards progress)) (asks_next shards progress s)))) (lt-ltb s shards lt))
      (λ le. ap (λ b. cond b Idle (answered_by (option_map (awaited_hop n (hop_next shards progress)) (asks_next shards progress s)))) (le-ltb s shards le)
      ∙ ap (λ o. answered_by (option_map (awaited_hop n (hop_next shards progress)) o)) (beyond s le));
}
  where
    beyond : (s : ℕ) → shards ≤ s → asks_next shards progress s ≡ None
    beyond s le = asks-beyond shards progress.left progress.standing s le

    either : (s : ℕ) (P : Type 0) → (s < shards → P) → (shards ≤ s → P) → P
    either s P low high = go (ltb s shards) refl
      where
        go : (b : Bool) → ltb s shards ≡ b → P
        go true e = low (ltb-true s shards e)
        go false e = high (ltb-false s shards e)
