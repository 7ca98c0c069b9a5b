-- A round of hops from its first message to the time when all have answered.
use Rattle.std.proofs.Common.{◌≡◌, ◌≢◌, ℕ, zero, suc, ◌+◌, ◌<◌, Bool, true, false, cond, is_some, List, [], ◌∷◌, length, refl, sym, ap, ◌∙◌, subst, arith, ltb, length-append, length-set, get_or-set_same, get_or-set_other}
use Rattle.std.specs.Prelude.{Option, Some, None, nat_lt, get_or, set}
use Rattle.std.specs.Option.{option_map}
use Rattle.std.proofs.lemmas.Bool.{false≢true, lt-ltb, le-ltb, ltb-true, ltb-false}
use mathlib.Core.Logic.{dite}
use native.Mathlib.Decide.{ℕ_discrete}
use Rattle.df_model.specs.declared.command.Call.{Call}
use Rattle.df_order.specs.Puts.{put}
use Rattle.df_order.proofs.Puts.{put_case}
use Rattle.df_log.specs.Acts as acts
use Rattle.df_log.specs.Acts.{Act}
use Rattle.df_core.specs.Due.{due}
use Rattle.df_core.specs.Steps.{steps_of}
use Rattle.df_book.specs.Passes.{Caller, after_running, draw_by}
use Rattle.df_end.specs.Logs.{entries_in}
use Rattle.df_rounds.specs.Progress.{Progress, asks_next, hop_next}
use Rattle.df_rounds.specs.Underway.{Underway}
use Rattle.df_rounds.proofs.UnderwayLaws.{asks-beyond, rounds_send}
use Rattle.df_rounds.proofs.BetweenLaws.{calls_ask, tickets_ask}
use Rattle.df_hops.specs.Parts.{act_of}
use Rattle.df_hops.specs.declared.message.Body.TheVariants as bodies
use Rattle.df_hops.specs.declared.message.Message.{Message}
use Rattle.df_hops.specs.declared.message.Part.{Part}
use Rattle.df_post.specs.Fits.{awaited_by, hop_of, kind_of}
use Rattle.df_post.specs.Rounds.{Place, Idle, Unsent, Sent, Answered, RoundView, awaited_in, place_at, is_done, Goes}
use Rattle.df_post.specs.declared.awaited.Awaited.{Awaited}
use Rattle.df_post.specs.declared.awaited.Kind.TheVariants as kinds
use Rattle.df_exchange.specs.Asks.{awaited_hop}
use Rattle.df_exchange.specs.Exchanges.{asked_in, asks_below, answered_by, Exchanging, ExchangesBegin, NextPartsAreDue, NextPlacesAreIdle, ExchangesGo, HearingsBegin}
use Rattle.df_exchange.proofs.ActLaws.{kind-part}

-- ---- what is asked of the shards below a number

-- at a number that isn't the next one, one further is no change
pub nat-more : (s t : ℕ) → s ≢ t → nat_lt s (t + 1) ≡ nat_lt s t
nat-more s t ne = go (ltb s t) refl
  where
    go : (b : Bool) → ltb s t ≡ b → ltb s (t + 1) ≡ ltb s t
    go true e = let lt = ltb-true s t e in lt-ltb s (t + 1) (omega arith) ∙ sym e
    go false e = let le = ltb-false s t e in le-ltb s (t + 1) (omega (arith, le, ne)) ∙ sym e

module _ (shards t : ℕ) (progress : Progress) where
  asks-here : asks_below t shards progress t ≡ None
  asks-here = ap (λ b. cond b (asks_next shards progress t) None) (le-ltb t t (omega arith))

  asks-then : asks_below (t + 1) shards progress t ≡ asks_next shards progress t
  asks-then = ap (λ b. cond b (asks_next shards progress t) None) (lt-ltb t (t + 1) (omega arith))

  asks-other : (s : ℕ) → s ≢ t → asks_below (t + 1) shards progress s ≡ asks_below t shards progress s
  asks-other s ne = ap (λ b. cond b (asks_next shards progress s) None) (nat-more s t ne)

  asks-same : asks_next shards progress t ≡ None → (s : ℕ) → asks_below (t + 1) shards progress s ≡ asks_below t shards progress s
  asks-same none s = dite (ℕ_discrete s t)
      (λ (e : s ≡ t). ap (asks_below (t + 1) shards progress) e ∙ asks-then ∙ none ∙ sym (ap (asks_below t shards progress) e ∙ asks-here))
      (λ (ne : s ≢ t). asks-other s ne)

asks-nothing : (shards : ℕ) (progress : Progress) (s : ℕ) → asks_below 0 shards progress s ≡ None
asks-nothing shards progress s = ap (λ b. cond b (asks_next shards progress s) None) (le-ltb s 0 (omega arith))

asks-all : (shards : ℕ) (progress : Progress) (s : ℕ) → asks_below shards shards progress s ≡ asks_next shards progress s
asks-all shards progress s = go (ltb s shards) refl
  where
    go : (b : Bool) → ltb s shards ≡ b → cond b (asks_next shards progress s) None ≡ asks_next shards progress s
    go true e = refl
    go false e = sym (asks-beyond shards progress.left progress.standing s (ltb-false s shards e))

-- ---- the messages are made

pub exchanges_begin : ExchangesBegin
exchanges_begin shards n before call progress u round b places idle = record {
  v = u;
  between = b;
  seen = refl;
  underway = subst (λ sent. Underway shards n u u sent (λ s. None)) (λ j s. is_some (sym (asks-nothing shards progress s) j))
      (calls_ask shards before call n progress u b);
  places = places;
  asked = λ s. ap asked_in (idle s) ∙ sym (ap (option_map (awaited_hop n (hop_next shards progress))) (asks-nothing shards progress s));
}

pub next_parts_are_due : NextPartsAreDue
next_parts_are_due shards n before call progress u round t act pos x asks =
    let k = tickets_ask shards before call n progress x.v u t act pos x.between x.underway.own x.seen asks in record {
      own = omega (arith, ap length x.underway.own, ap length x.between.own, length-append before.own (draw_by before call n ∷ []));
      drawn = k.drawn;
      last = k.last;
      is_due = sym k.is_due
          ∙ ap (λ c. due shards c (λ i. steps_of (entries_in shards u.seen n i)) t (hop_next shards progress)) (sym k.call_is);
    }

none-asked : (p : Place) → asked_in p ≡ None → p ≡ Idle
none-asked Idle e = refl
none-asked (Unsent a) e = absurd (false≢true (sym (ap is_some e)))
none-asked (Sent a) e = absurd (false≢true (sym (ap is_some e)))
none-asked (Answered a) e = absurd (false≢true (sym (ap is_some e)))

pub next_places_are_idle : NextPlacesAreIdle
next_places_are_idle shards t n before call progress u round x =
    none-asked (place_at t round)
    (x.asked t ∙ ap (option_map (awaited_hop n (hop_next shards progress))) (asks-here shards t progress))

-- nothing is asked of the next shard
pub nothing_is_asked : (shards t n : ℕ) (before : Caller) (call : Call) (progress : Progress) (u : Caller) (round : RoundView) →
    asks_next shards progress t ≡ None → Exchanging shards t n before call progress u round →
    Exchanging shards (t + 1) n before call progress u round
nothing_is_asked shards t n before call progress u round none x = record {
  v = x.v;
  between = x.between;
  seen = x.seen;
  underway = subst (λ sent. Underway shards n x.v u sent (λ s. None)) (λ j s. is_some (sym (asks-same shards t progress none s) j)) x.underway;
  places = x.places;
  asked = λ s. x.asked s ∙ sym (ap (option_map (awaited_hop n (hop_next shards progress))) (asks-same shards t progress none s));
}

-- a message is made for it
pub a_part_is_asked : (shards t n : ℕ) (before : Caller) (call : Call) (progress : Progress) (act : Act) (u : Caller) (round now : RoundView) →
    t < shards → asks_next shards progress t ≡ Some act →
    now.places ≡ set round.places t (Unsent (awaited_hop n (hop_next shards progress) act)) →
    Exchanging shards t n before call progress u round → Exchanging shards (t + 1) n before call progress (after_running u) now
a_part_is_asked shards t n before call progress act u round now lt asks is x = record {
  v = x.v;
  between = x.between;
  seen = x.seen;
  underway = subst (λ sent. Underway shards n x.v (after_running u) sent (λ s. None)) (λ j s. sent-is s j)
      (rounds_send shards n x.v u (λ s. is_some (asks_below t shards progress s)) (λ s. None) t lt (ap is_some (asks-here shards t progress)) x.underway);
  places = ap length is ∙ length-set round.places t (Unsent (awaited_hop n (hop_next shards progress) act)) ∙ x.places;
  asked = asked-is;
}
  where
    awaits : Option Act → Option Awaited
    awaits = option_map (awaited_hop n (hop_next shards progress))

    asks-is : (s : ℕ) → s ≡ t → asks_below (t + 1) shards progress s ≡ Some act
    asks-is s e = ap (asks_below (t + 1) shards progress) e ∙ asks-then shards t progress ∙ asks

    sent-is : (s : ℕ) → put t true (λ i. is_some (asks_below t shards progress i)) s ≡ is_some (asks_below (t + 1) shards progress s)
    sent-is s = put_case (λ b. b ≡ is_some (asks_below (t + 1) shards progress s)) t s true (λ i. is_some (asks_below t shards progress i))
        (λ e. sym (ap is_some (asks-is s e))) (λ ne. sym (ap is_some (asks-other shards t progress s ne)))

    asked-is : (s : ℕ) → asked_in (place_at s now) ≡ option_map (awaited_hop n (hop_next shards progress)) (asks_below (t + 1) shards progress s)
    asked-is s = dite (ℕ_discrete s t)
        (λ (e : s ≡ t). ap (λ i. asked_in (place_at i now)) e ∙ ap (λ l. asked_in (get_or l t Idle)) is
        ∙ ap asked_in (get_or-set_same round.places t (Unsent (awaited_hop n (hop_next shards progress) act)) Idle (omega (arith, lt, x.places)))
        ∙ sym (ap awaits (asks-is s e)))
        (λ (ne : s ≢ t). ap (λ l. asked_in (get_or l s Idle)) is
        ∙ ap asked_in (get_or-set_other round.places t s (Unsent (awaited_hop n (hop_next shards progress) act)) Idle ne) ∙ x.asked s
        ∙ sym (ap awaits (asks-other shards t progress s ne)))

-- what awaits the answer to a Hop's message
message-awaits : (m : Message) (n hop : ℕ) (part : Part) → m.number ≡ n → m.body ≡ bodies.Hop hop part →
    awaited_by m ≡ awaited_hop n hop (act_of part)
message-awaits m n hop part number body = λ j. record {
  number = number j;
  hop = ap hop_of body j;
  kind = (ap kind_of body ∙ ap kinds.Hop (sym (kind-part part))) j;
}

-- and it was put into the round
pub a_message_is_asked : (shards t n hop : ℕ) (before : Caller) (call : Call) (progress : Progress) (part : Part) (m : Message) (u w : Caller)
    (round now : RoundView) → t < length round.places → Some (act_of part) ≡ asks_next shards progress t → hop ≡ hop_next shards progress →
    m.shard ≡ t → m.number ≡ n → m.body ≡ bodies.Hop hop part → w ≡ after_running u →
    now ≡ record round { places = set round.places m.shard (Unsent (awaited_by m)) } →
    Exchanging shards t n before call progress u round → Exchanging shards (t + 1) n before call progress w now
a_message_is_asked shards t n hop before call progress part m u w round now lt asks next shard number body pass added x =
    subst (λ p. Exchanging shards (t + 1) n before call progress p now) (sym pass)
    (a_part_is_asked shards t n before call progress (act_of part) u round now (omega (arith, lt, x.places)) (sym asks) places x)
  where
    awaits : awaited_by m ≡ awaited_hop n (hop_next shards progress) (act_of part)
    awaits = message-awaits m n hop part number body ∙ ap (λ h. awaited_hop n h (act_of part)) next

    places : now.places ≡ set round.places t (Unsent (awaited_hop n (hop_next shards progress) (act_of part)))
    places = ap (λ (r : RoundView). r.places) added ∙ ap (λ s. set round.places s (Unsent (awaited_by m))) shard
        ∙ ap (λ a. set round.places t (Unsent a)) awaits

-- ---- they go, and answers come

goes-asked : (p q : Place) → Goes p q → asked_in p ≡ asked_in q
goes-asked p _ (Goes.stays _) = refl
goes-asked _ _ (Goes.sent a) = refl
goes-asked _ _ (Goes.came a) = refl

pub exchanges_go : ExchangesGo
exchanges_go shards t n before call progress u round now x places goes = record {
  v = x.v;
  between = x.between;
  seen = x.seen;
  underway = x.underway;
  places = places ∙ x.places;
  asked = λ s. sym (goes-asked (place_at s round) (place_at s now) (goes s)) ∙ x.asked s;
}

-- what is done lies idle, or has its answer
done-place : (p : Place) → is_done p ≡ true → p ≡ answered_by (asked_in p)
done-place Idle done = refl
done-place (Unsent a) done = absurd (false≢true done)
done-place (Sent a) done = absurd (false≢true done)
done-place (Answered a) done = refl

pub hearings_begin : HearingsBegin
hearings_begin shards n before call progress u round outcomes x done count none = record {
  v = x.v;
  between = x.between;
  told = λ s. acts.NoMemory;
  back = λ s. None;
  underway = subst (λ sent. Underway shards n x.v u sent (λ s. None)) (λ j s. is_some (asks-all shards progress s j)) x.underway;
  places = x.places;
  answered = λ s. done-place (place_at s round) (done s)
      ∙ ap answered_by (x.asked s ∙ ap (option_map (awaited_hop n (hop_next shards progress))) (asks-all shards progress s))
      ∙ sym (ap (λ b. cond b Idle (answered_by (option_map (awaited_hop n (hop_next shards progress)) (asks_next shards progress s)))) (le-ltb s 0 (omega arith)));
  count = count;
  answers = λ s lt. absurd (omega (arith, lt));
  may = λ s lt. absurd (omega (arith, lt));
  heard = λ s lt. absurd (omega (arith, lt));
  unheard = λ s le. (refl, none s);
}

-- ---- the way to the shards

-- a message that isn't sent awaits nothing yet
pub unsent-way : (ps : List Place) (k : ℕ) (a : Awaited) → get_or ps k Idle ≡ Idle → (s : ℕ) →
    awaited_in (get_or (set ps k (Unsent a)) s Idle) ≡ awaited_in (get_or ps s Idle)
unsent-way [] k a idle s = refl
unsent-way (p ∷ ps) zero a idle zero = sym (ap awaited_in idle)
unsent-way (p ∷ ps) zero a idle (suc s) = refl
unsent-way (p ∷ ps) (suc k) a idle zero = refl
unsent-way (p ∷ ps) (suc k) a idle (suc s) = unsent-way ps k a idle s
